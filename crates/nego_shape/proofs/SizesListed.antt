-- The faults of sizes, of which the first is the one that the sizes have.
use Rattle.std.proofs.Common.{◌≡◌, ℕ, zero, suc, ◌+◌, ◌<◌, ◌≤◌, ◌==◌, ◌&&◌, nat_lt, nat_le, Bool, true, false, List, [], ◌∷◌, length, map, take, get_or, Option, Some, None, slice_get, refl, lit<, sym, subst, ap, ◌∙◌, arith}
use Rattle.std.proofs.lemmas.Bool.{false≢true, and_from, eqb-false, ltb-false, lt-ltb, le-ltb, le-leb, ne_eqb}
use Rattle.std.proofs.lemmas.List.{length-map, get_or-map, take_all}
use Rattle.std.proofs.lemmas.List.Elements.{All-map}
use Rattle.std.proofs.lemmas.List.Quantifiers.{position-Some}
use Rattle.std.proofs.lemmas.Option.{slice_get-get_or, slice_get_within, get_or_from_slice_get}
use Rattle.std.specs.List.{All, position}
use Rattle.std.specs.Option.{option_or, option_map}
use Rattle.nego_base.specs.Firsts.{first_among}
use Rattle.nego_base.proofs.Firsts.{found_in_range, none_found}
use Rattle.nego_base.proofs.ListLaws.{All-unmap}
use Rattle.nego_data.specs.declared.joint_data.SizeFault.{SizeFault}
use Rattle.nego_data.specs.declared.joint_data.SizeFault.TheVariants as sizes
use Rattle.nego_data.specs.Data.{data_count}
use Rattle.nego_data.specs.Sizes.{AreSizes, HasFault}
use Rattle.nego_data.proofs.SizeFaults.{place_past, none_past}
use Rattle.nego_reader.specs.declared.parsed.Parsed.{Parsed}
use Rattle.nego_reader.specs.declared.parsed.PAgent.{PAgent}
use Rattle.nego_reader.specs.Content.{AgentContent, content_of, agent_content}
use Rattle.nego_shape.specs.declared.fault.ShapeFault.{ShapeFault}
use Rattle.nego_shape.specs.declared.fault.ShapeKind.{ShapeKind}
use Rattle.nego_shape.specs.declared.fault.ShapeKind.TheVariants as kinds
use Rattle.nego_shape.specs.Faults.{Spot, spot, first_fault, faults, numbered, passes_joint}
use Rattle.nego_shape.specs.Conditions.{NoZeroSize, NoLargeSize, NoLargeJoint}
use Rattle.nego_shape.specs.Naming.{sizes_in}
use Rattle.nego_shape.proofs.CountsListed.{agents_lines}
use Rattle.nego_shape.proofs.Numbered.{head, clear-numbered, empty-numbered, clear-at, empty-at}
use Rattle.nego_shape.proofs.PartsMade.{sizes_read}
use Rattle.nego_shape.proofs.Search.{IsListed}
use Rattle.nego_shape.proofs.SpotLists.{no_spot, fails, passing, rises-passing, first-passing}

abbrev line : PAgent → ℕ
line agent = agent.name.line

abbrev zero_size : ℕ → ShapeKind
zero_size a = kinds.ZeroSize (record { 0 = a })

abbrev size_too_large : ℕ → ShapeKind
size_too_large a = kinds.SizeTooLarge (record { 0 = a })

abbrev joint_too_large : ℕ → ShapeKind
joint_too_large a = kinds.JointTooLarge (record { 0 = a })

-- the kind of the fault of shape, and its agent
abbrev pub kind_of : SizeFault → ShapeKind
kind_of (sizes.ZeroSize a) = kinds.ZeroSize a
kind_of (sizes.SizeTooLarge a) = kinds.SizeTooLarge a
kind_of (sizes.JointTooLarge a) = kinds.JointTooLarge a

abbrev pub agent_of : SizeFault → ℕ
agent_of (sizes.ZeroSize a) = a.0
agent_of (sizes.SizeTooLarge a) = a.0
agent_of (sizes.JointTooLarge a) = a.0

abbrev then : Option Spot → Option ShapeFault → Option ShapeFault
then found rest = option_or (option_map (λ (s : Spot). s.fault) found) rest

some_at : {A : Type 0} (xs : List A) (n : ℕ) → n < length xs → A
some_at [] n l = absurd (omega (arith, l))
some_at (x ∷ xs) n l = x

module _ (p : Parsed) where
  abbrev sizes_of : List ℕ
  sizes_of = sizes_in (content_of p)

  sizes_long : length sizes_of ≡ length p.agents
  sizes_long = length-map (map agent_content p.agents) (λ (agent : AgentContent). agent.size) ∙ length-map p.agents agent_content

  -- what sizes have agents have, and the other way round
  to_sizes : (P : ℕ → Type 0) → All (λ (agent : PAgent). P agent.size) p.agents → All P sizes_of
  to_sizes P h = All-map P (λ (agent : AgentContent). agent.size) (map agent_content p.agents) (All-map (λ (agent : AgentContent). P agent.size) agent_content p.agents h)

  to_agents : (P : ℕ → Type 0) → All P sizes_of → All (λ (agent : PAgent). P agent.size) p.agents
  to_agents P h = All-unmap (λ (agent : AgentContent). P agent.size) agent_content p.agents (All-unmap P (λ (agent : AgentContent). agent.size) (map agent_content p.agents) h)

  none_zero : All (λ size. 0 < size) sizes_of → faults NoZeroSize p ≡ []
  none_zero h =
      empty-numbered (passing (λ a (agent : PAgent). agent.size == 0) line zero_size) (λ (agent : PAgent). 0 < agent.size)
      (λ a agent some. no_spot (agent.size == 0) agent.name.line (zero_size a) (ne_eqb agent.size 0 (λ e. omega (arith, some, e)))) 0 p.agents (to_agents (λ size. 0 < size) h)

  none_large : All (λ size. size ≤ 64) sizes_of → faults NoLargeSize p ≡ []
  none_large h =
      empty-numbered (passing (λ a (agent : PAgent). nat_lt 64 agent.size) line size_too_large) (λ (agent : PAgent). agent.size ≤ 64)
      (λ a agent few. no_spot (nat_lt 64 agent.size) agent.name.line (size_too_large a) (le-ltb 64 agent.size few)) 0 p.agents (to_agents (λ size. size ≤ 64) h)

  off_behind : (b c : Bool) → c ≡ false → (b && c) ≡ false
  off_behind true c h = h
  off_behind false c h = refl

  none_joint : All (λ size. 0 < size) sizes_of → data_count sizes_of ≤ 1024 → faults NoLargeJoint p ≡ []
  none_joint some small =
      empty-at (passing (λ a (agent : PAgent). passes_joint sizes_of a) line joint_too_large) 0 p.agents
      (λ i d l. no_spot (passes_joint sizes_of (0 + i)) (get_or p.agents i d).name.line (joint_too_large (0 + i))
      (off_behind (nat_le (data_count (take (0 + i) sizes_of)) 1024) (nat_lt 1024 (data_count (take (0 + i + 1) sizes_of)))
      (none_found (λ k. nat_lt 1024 (data_count (take (k + 1) sizes_of))) 0 (length sizes_of) (none_past sizes_of some small) (0 + i) (omega arith) (omega (arith, l, sizes_long)))))

  -- the products of the first sizes are small, where none passes
  small_front : faults NoLargeJoint p ≡ [] → (k : ℕ) → k ≤ length p.agents → data_count (take k sizes_of) ≤ 1024
  small_front h zero l = omega arith
  small_front h (suc k) l = go (nat_lt 1024 (data_count (take (k + 1) sizes_of))) refl (small_front h k (omega (arith, l)))
    where
      off : (agent : PAgent) → passes_joint sizes_of (0 + k) ≡ false
      off agent = fails (passes_joint sizes_of (0 + k)) (get_or p.agents k agent).name.line (joint_too_large (0 + k)) (clear-at (passing (λ a (x : PAgent). passes_joint sizes_of a) line joint_too_large) 0 p.agents h k agent (omega (arith, l)))

      go : (b : Bool) → nat_lt 1024 (data_count (take (k + 1) sizes_of)) ≡ b → data_count (take k sizes_of) ≤ 1024 → data_count (take (suc k) sizes_of) ≤ 1024
      go true e here =
          let zero_k : k ≡ 0 + k = omega arith in
          let passes : passes_joint sizes_of k ≡ true = and_from (nat_le (data_count (take k sizes_of)) 1024) (nat_lt 1024 (data_count (take (k + 1) sizes_of))) (le-leb (data_count (take k sizes_of)) 1024 here) e in
          absurd (false≢true (sym (off (some_at p.agents k (omega (arith, l)))) ∙ subst (λ m. passes_joint sizes_of m ≡ true) zero_k passes))
      go false e here = let one_more : k + 1 ≡ suc k = omega arith in subst (λ n. data_count (take n sizes_of) ≤ 1024) one_more (ltb-false 1024 (data_count (take (k + 1) sizes_of)) e)

  pub no_zero_size : IsListed p NoZeroSize
  no_zero_size = record {
    clear = λ met h. to_sizes (λ size. 0 < size) (clear-numbered (passing (λ a (agent : PAgent). agent.size == 0) line zero_size) (λ (agent : PAgent). 0 < agent.size)
        (λ a agent e. let some = eqb-false agent.size 0 (fails (agent.size == 0) agent.name.line (zero_size a) e) in omega (arith, some)) 0 p.agents h);
    empty = λ met h. none_zero h;
    rises = λ rises. rises-passing (λ a (agent : PAgent). agent.size == 0) line zero_size p.agents (agents_lines p rises);
  }

  pub no_large_size : IsListed p NoLargeSize
  no_large_size = record {
    clear = λ met h. to_sizes (λ size. size ≤ 64) (clear-numbered (passing (λ a (agent : PAgent). nat_lt 64 agent.size) line size_too_large) (λ (agent : PAgent). agent.size ≤ 64)
        (λ a agent e. ltb-false 64 agent.size (fails (nat_lt 64 agent.size) agent.name.line (size_too_large a) e)) 0 p.agents h);
    empty = λ met h. none_large h;
    rises = λ rises. rises-passing (λ a (agent : PAgent). nat_lt 64 agent.size) line size_too_large p.agents (agents_lines p rises);
  }

  pub no_large_joint : IsListed p NoLargeJoint
  no_large_joint = record {
    clear = λ met h. subst (λ xs. data_count xs ≤ 1024) (take_all (length p.agents) sizes_of (omega (arith, sizes_long))) (small_front h (length p.agents) (omega arith));
    empty = λ met h. none_joint (met NoZeroSize (lit< tt)) h;
    rises = λ rises. rises-passing (λ a (agent : PAgent). passes_joint sizes_of a) line joint_too_large p.agents (agents_lines p rises);
  }

  -- ---- the first

  pub no_fault : AreSizes sizes_of → first_fault (NoZeroSize ∷ NoLargeSize ∷ NoLargeJoint ∷ []) p ≡ None
  unfolding first_among
  no_fault h =
      rw (none_zero (λ k d l. (h.each k d l).0), none_large (λ k d l. (h.each k d l).1), none_joint (λ k d l. (h.each k d l).0) h.together) refl

  -- the agent at the first size that passes
  first_place : (test : ℕ → Bool) (kind : ℕ → ShapeKind) (a : ℕ) (agent : PAgent) → position test (map (λ (x : PAgent). x.size) p.agents) ≡ Some a → slice_get p.agents a ≡ Some agent →
      head (numbered (passing (λ i (x : PAgent). test x.size) line kind) 0 p.agents) ≡ Some (spot agent.name.line 0 (kind a))
  first_place test kind a agent h at =
      let r = position-Some test (map (λ (x : PAgent). x.size) p.agents) a 0 h in
      let inside = slice_get_within p.agents a agent at in
      first-passing (λ i (x : PAgent). test x.size) line kind p.agents a agent at
      (λ k l. subst (λ s. test s ≡ false) (get_or-map (λ (x : PAgent). x.size) p.agents k agent 0 (omega (arith, l, inside))) (r.2 k l))
      (subst (λ s. test s ≡ true) (get_or-map (λ (x : PAgent). x.size) p.agents a agent 0 inside ∙ ap (λ (x : PAgent). x.size) (get_or_from_slice_get p.agents a agent agent at)) r.1)

  first_joint : (a : ℕ) (agent : PAgent) → All (λ size. (0 < size) × (size ≤ 64)) sizes_of → a < length sizes_of → data_count (take a sizes_of) ≤ 1024 → 1024 < data_count (take (a + 1) sizes_of) → slice_get p.agents a ≡ Some agent →
      head (faults NoLargeJoint p) ≡ Some (spot agent.name.line 0 (joint_too_large a))
  first_joint a agent bounds inside small large at =
      let found = found_in_range (λ k. nat_lt 1024 (data_count (take (k + 1) sizes_of))) 0 (length sizes_of) a (place_past sizes_of a (λ k d l. (bounds k d l).0) inside small large) in
      first-passing (λ i (x : PAgent). passes_joint sizes_of i) line joint_too_large p.agents a agent at
      (λ k l. off_behind (nat_le (data_count (take k sizes_of)) 1024) (nat_lt 1024 (data_count (take (k + 1) sizes_of))) (found.3 k (omega arith) l))
      (and_from (nat_le (data_count (take a sizes_of)) 1024) (nat_lt 1024 (data_count (take (a + 1) sizes_of))) (le-leb (data_count (take a sizes_of)) 1024 small) (lt-ltb 1024 (data_count (take (a + 1) sizes_of)) large))

  abbrev joint_next : Option ShapeFault
  joint_next = then (head (faults NoLargeJoint p)) None

  abbrev large_next : Option ShapeFault
  large_next = then (head (faults NoLargeSize p)) joint_next

  found : (fault : SizeFault) (agent : PAgent) → HasFault (map (λ (x : PAgent). x.size) p.agents) fault → slice_get p.agents (agent_of fault) ≡ Some agent →
      first_fault (NoZeroSize ∷ NoLargeSize ∷ NoLargeJoint ∷ []) p ≡ Some (record { line = agent.name.line; kind = kind_of fault })
  unfolding first_among
  found (sizes.ZeroSize a) agent h at = ap (λ o. then o large_next) (first_place (λ size. size == 0) zero_size a.0 agent h at)
  found (sizes.SizeTooLarge a) agent h at =
      ap (λ spots. then (head spots) large_next) (none_zero (subst (All (λ size. 0 < size)) (sizes_read p.agents) h.0))
      ∙ ap (λ o. then o joint_next) (first_place (λ size. nat_lt 64 size) size_too_large a.0 agent h.1 at)
  found (sizes.JointTooLarge a) agent h at =
      let k = subst (λ xs. HasFault xs (sizes.JointTooLarge a)) (sizes_read p.agents) h in
      ap (λ spots. then (head spots) large_next) (none_zero (λ i d l. (k.0 i d l).0))
      ∙ (ap (λ spots. then (head spots) joint_next) (none_large (λ i d l. (k.0 i d l).1))
      ∙ ap (λ o. then o None) (first_joint a.0 agent k.0 k.1 k.2 k.3 at))

  inside : (fault : SizeFault) → HasFault (map (λ (x : PAgent). x.size) p.agents) fault → agent_of fault < length p.agents
  inside (sizes.ZeroSize a) h = subst (λ n. a.0 < n) (length-map p.agents (λ (x : PAgent). x.size)) (position-Some (λ size. size == 0) (map (λ (x : PAgent). x.size) p.agents) a.0 0 h).0
  inside (sizes.SizeTooLarge a) h = subst (λ n. a.0 < n) (length-map p.agents (λ (x : PAgent). x.size)) (position-Some (λ size. nat_lt 64 size) (map (λ (x : PAgent). x.size) p.agents) a.0 0 h.1).0
  inside (sizes.JointTooLarge a) h = subst (λ n. a.0 < n) (length-map p.agents (λ (x : PAgent). x.size)) h.1

  -- what is told on the agent's line is the first fault
  pub found_fault : (fault : SizeFault) (told : ShapeFault) → HasFault (map (λ (x : PAgent). x.size) p.agents) fault → ((agent : PAgent) → slice_get p.agents (agent_of fault) ≡ Some agent → told ≡ record { line = agent.name.line; kind = kind_of fault }) →
      first_fault (NoZeroSize ∷ NoLargeSize ∷ NoLargeJoint ∷ []) p ≡ Some told
  found_fault fault told h is =
      let l = inside fault h in
      let d = some_at p.agents (agent_of fault) l in
      let at = slice_get-get_or p.agents (agent_of fault) d l in
      found fault (get_or p.agents (agent_of fault) d) h at ∙ ap (λ (x : ShapeFault). Some x) (sym (is (get_or p.agents (agent_of fault) d) at))
