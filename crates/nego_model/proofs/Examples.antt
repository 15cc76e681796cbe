-- Small cases of the definitions, computed.
use Rattle.std.proofs.Common.{◌≡◌, ⊎_elim, ℕ, zero, suc, ◌+◌, ◌*◌, ◌<◌, ◌==◌, if◌then◌else◌, true, List, [], ◌∷◌, ◌++◌, Some, None, IsTrue, refl, sym, subst, arith}
use Rattle.std.proofs.lemmas.Bool.{true≢false}
use Rattle.std.proofs.lemmas.Option.{same_Some}
use Rattle.nego_base.specs.Members.{is_in}
use Rattle.nego_base.specs.declared.op.Op.TheVariants.{Lt}
use Rattle.nego_data.specs.declared.cases.Operand.TheVariants as operands
use Rattle.nego_data.specs.declared.cases.Term.{Term}
use Rattle.nego_data.specs.declared.cases.Term.TheVariants as terms
use Rattle.nego_data.specs.declared.cases.Case.{Case}
use Rattle.nego_model.specs.Negotiation.{IsOutcome}
use Rattle.nego_model.specs.Occurring.{PlainMarking, Occurrence, ready, after, leaves, opening_marking, final_marking, IsComplete, CanOccur, IsSound}
use Rattle.nego_data.specs.Data.{split, joint}
use Rattle.nego_data.specs.Cases.{relates, rows_of}
use Rattle.nego_model.specs.Diagram.{PlainDiagram, negotiation_of}
use Rattle.nego_model.specs.Projection.{projection, own_entries, ready_behind}
use Rattle.nego_model.specs.Acyclic.{rank_in}
use Rattle.nego_model.specs.Expression.{Base, Then, ByNodes, Relates}
use Rattle.nego_base.proofs.Members.{is_in_single, is_in-cases}
use Rattle.nego_model.proofs.occurrence.Markings.{ready-replicate, enables-atom, enables-party}
use Rattle.nego_model.proofs.occurrence.Steps.{after-some, leaves-first}
use Rattle.nego_model.proofs.occurrence.Proper.{ready_leaves}
use Rattle.nego_model.proofs.diagrams.OneAtom.{one_atom, one_base_tells}

-- sizes 4, 4, 2 and 2: the first agent is the most significant
split_numbers : split (4 ∷ 4 ∷ 2 ∷ 2 ∷ []) 37 ≡ 2 ∷ 1 ∷ 0 ∷ 1 ∷ []
split_numbers = refl

joint_numbers : joint (4 ∷ 4 ∷ 2 ∷ 2 ∷ []) (3 ∷ 3 ∷ 1 ∷ 1 ∷ []) ≡ 63
joint_numbers = refl

-- one assignment to agent 0
assigns : Term → Case
assigns term = record { tests = []; sets = record { agent = record { 0 = 0 }; term = term } ∷ [] }

-- any value
any_value : rows_of (3 ∷ []) (assigns terms.Any ∷ []) ≡ (0 ∷ 1 ∷ 2 ∷ []) ∷ (0 ∷ 1 ∷ 2 ∷ []) ∷ (0 ∷ 1 ∷ 2 ∷ []) ∷ []
unfolding assigns rows_of
any_value = refl

-- a sum is clipped to the greatest value
clipped_sum : rows_of (4 ∷ []) (assigns (terms.Plus (record { 0 = 0 }) 2) ∷ []) ≡ (2 ∷ []) ∷ (3 ∷ []) ∷ (3 ∷ []) ∷ (3 ∷ []) ∷ []
unfolding assigns rows_of
clipped_sum = refl

-- a difference is clipped to 0
clipped_difference : rows_of (4 ∷ []) (assigns (terms.Minus (record { 0 = 0 }) 2) ∷ []) ≡ (0 ∷ []) ∷ (0 ∷ []) ∷ (0 ∷ []) ∷ (1 ∷ []) ∷ []
unfolding assigns rows_of
clipped_difference = refl

-- a case that covers data where agent 0 is below agent 1, and keeps them
below_other : Case
below_other = record { tests = record { agent = record { 0 = 0 }; op = Lt; right = operands.Value (record { 0 = 1 }) } ∷ []; sets = [] }

-- of sizes 2 and 2 only data 1, whose values are 0 and 1, are covered
comparison : rows_of (2 ∷ 2 ∷ []) (below_other ∷ []) ≡ [] ∷ (1 ∷ []) ∷ [] ∷ [] ∷ []
unfolding below_other rows_of
comparison = refl

-- an assignment to agent 0 alone keeps the value of agent 1
others_keep : relates (2 ∷ 2 ∷ []) (assigns (terms.Number 1) ∷ []) 1 3 ≡ true
unfolding assigns
others_keep = refl

-- the diagram of one atom is sound
one_atom_is_sound : IsSound (negotiation_of (one_atom [] 2 [] [] ((0 ∷ []) ∷ (1 ∷ []) ∷ [])))
one_atom_is_sound = (one_base_tells [] 2 [] [] ((0 ∷ []) ∷ (1 ∷ []) ∷ [])).sound

-- one agent; atom 0 is first and last, and nothing leads to atom 1
abbrev with_dead_atom : PlainDiagram
with_dead_atom = record {
  agents = [] ∷ [];
  sizes = 1 ∷ [];
  atoms = record { name = []; parties = 0 ∷ [] } ∷ record { name = []; parties = 0 ∷ [] } ∷ [];
  outcomes = record { name = []; atom = 0; nexts = [] ∷ []; table = (0 ∷ []) ∷ [] } ∷ record { name = []; atom = 1; nexts = (0 ∷ []) ∷ []; table = (0 ∷ []) ∷ [] } ∷ [];
  first = 0;
  last = 0;
}

-- no agent becomes ready for atom 1, so the diagram is unsound
dead_atom_is_unsound : IsSound (negotiation_of with_dead_atom) → ⊥
dead_atom_is_unsound sound = never 0 (omega arith) (enables-party (negotiation_of with_dead_atom) atom_one.marking 1 0 atom_one.enabled refl)
  where
    atom_one : CanOccur (negotiation_of with_dead_atom) 1
    atom_one = sound.alive 1 refl

    leads_elsewhere : (n o a : ℕ) → IsOutcome (negotiation_of with_dead_atom) n o → ¬ IsTrue (is_in 1 ((negotiation_of with_dead_atom).next o a))
    leads_elsewhere n zero zero h k = true≢false (sym k)
    leads_elsewhere n zero (suc a) h k = true≢false (sym k)
    leads_elsewhere n (suc zero) zero h k = true≢false (sym k)
    leads_elsewhere n (suc zero) (suc a) h k = true≢false (sym k)
    leads_elsewhere n (suc (suc o)) a h k = true≢false (sym k)

    never : (a : ℕ) → a < 1 → ¬ IsTrue (is_in 1 (ready atom_one.marking a))
    never = ready_leaves (negotiation_of with_dead_atom) (λ a xs. ¬ IsTrue (is_in 1 xs)) atom_one.run (opening_marking (negotiation_of with_dead_atom)) atom_one.marking refl
        (λ a h k. true≢false (sym (subst (λ xs. IsTrue (is_in 1 xs)) (ready-replicate 1 a (0 ∷ []) h) k)))
        (λ n o a h outcome party. leads_elsewhere n o a outcome) atom_one.leads

-- Two agents. After outcome 0 of the first atom both go to atom 1; after outcome 1 agent 0 alone does, and agent 1 to
-- the last atom, so that neither can go on.
abbrev that_gets_stuck : PlainDiagram
that_gets_stuck = record {
  agents = [] ∷ [] ∷ [];
  sizes = 1 ∷ 1 ∷ [];
  atoms = record { name = []; parties = 0 ∷ 1 ∷ [] } ∷ record { name = []; parties = 0 ∷ 1 ∷ [] } ∷ record { name = []; parties = 0 ∷ 1 ∷ [] } ∷ [];
  outcomes = record { name = []; atom = 0; nexts = (1 ∷ []) ∷ (1 ∷ []) ∷ []; table = (0 ∷ []) ∷ [] } ∷ record { name = []; atom = 0; nexts = (1 ∷ []) ∷ (2 ∷ []) ∷ []; table = (0 ∷ []) ∷ [] }
      ∷ record { name = []; atom = 1; nexts = (2 ∷ []) ∷ (2 ∷ []) ∷ []; table = (0 ∷ []) ∷ [] } ∷ record { name = []; atom = 2; nexts = [] ∷ [] ∷ []; table = (0 ∷ []) ∷ [] } ∷ [];
  first = 0;
  last = 2;
}

-- its complete run
completes : IsComplete (negotiation_of that_gets_stuck) ((0, 0) ∷ (1, 2) ∷ (2, 3) ∷ [])
completes = refl

-- where agent 0 waits at atom 1 and agent 1 at the last, nothing occurs
nothing_occurs : (step : Occurrence) (left : PlainMarking) → after (negotiation_of that_gets_stuck) ((1 ∷ []) ∷ (2 ∷ []) ∷ []) step ≡ Some left → ⊥
nothing_occurs step left e =
    let nego = negotiation_of that_gets_stuck in
    let k = after-some nego ((1 ∷ []) ∷ (2 ∷ []) ∷ []) step left e in
    let all : (a : ℕ) → a < 2 → IsTrue (is_in a (nego.parties step.0)) = everyone step.0 (enables-atom nego ((1 ∷ []) ∷ (2 ∷ []) ∷ []) step.0 k.0) in
    let one = is_in_single step.0 1 (enables-party nego ((1 ∷ []) ∷ (2 ∷ []) ∷ []) step.0 0 k.0 (all 0 (omega arith))) in
    let two = is_in_single step.0 2 (enables-party nego ((1 ∷ []) ∷ (2 ∷ []) ∷ []) step.0 1 k.0 (all 1 (omega arith))) in
    omega (arith, one, two)
  where
    party : (a : ℕ) → a < 2 → IsTrue (is_in a (0 ∷ 1 ∷ []))
    party zero h = refl
    party (suc zero) h = refl
    party (suc (suc a)) h = absurd (let no_more : ⊥ = omega (arith, h) in no_more)

    everyone : (n : ℕ) → IsTrue (is_in n (0 ∷ 1 ∷ 2 ∷ [])) → (a : ℕ) → a < 2 → IsTrue (is_in a ((negotiation_of that_gets_stuck).parties n))
    everyone n h a k =
        let P : ℕ → Type 0 = λ m. IsTrue (is_in a ((negotiation_of that_gets_stuck).parties m)) in
        ⊎_elim (λ e. subst P (sym e) (party a k))
        (λ more. ⊎_elim (λ e. subst P (sym e) (party a k)) (λ last. subst P (sym (is_in_single n 2 last)) (party a k)) (is_in-cases n 1 (2 ∷ []) more))
        (is_in-cases n 0 (1 ∷ 2 ∷ []) h)

-- the run that gets stuck begins no complete run, so the diagram is unsound
stuck_is_unsound : IsSound (negotiation_of that_gets_stuck) → ⊥
stuck_is_unsound sound = go rest.0 rest.1
  where
    rest : (rest : List Occurrence) × IsComplete (negotiation_of that_gets_stuck) ((0, 1) ∷ [] ++ rest)
    rest = sound.completes ((0, 1) ∷ []) refl

    go : (steps : List Occurrence) → leaves (negotiation_of that_gets_stuck) ((1 ∷ []) ∷ (2 ∷ []) ∷ []) steps ≡ Some (final_marking (negotiation_of that_gets_stuck)) → ⊥
    go [] e = let k : ◌≡◌ {A = PlainMarking} ((1 ∷ []) ∷ (2 ∷ []) ∷ []) ([] ∷ [] ∷ []) = same_Some ((1 ∷ []) ∷ (2 ∷ []) ∷ []) ([] ∷ [] ∷ []) e in cc
    go (step ∷ steps) e =
        let k = leaves-first (negotiation_of that_gets_stuck) ((1 ∷ []) ∷ (2 ∷ []) ∷ []) step steps (final_marking (negotiation_of that_gets_stuck)) e in
        nothing_occurs step k.0 k.1

-- Two agents. After the first atom agent 0 goes to atom 1 and agent 1 to atom 2, each alone, and both meet at the last.
abbrev that_parts : PlainDiagram
that_parts = record {
  agents = [] ∷ [] ∷ [];
  sizes = 1 ∷ 1 ∷ [];
  atoms = record { name = []; parties = 0 ∷ 1 ∷ [] } ∷ record { name = []; parties = 0 ∷ [] } ∷ record { name = []; parties = 1 ∷ [] } ∷ record { name = []; parties = 0 ∷ 1 ∷ [] } ∷ [];
  outcomes = record { name = []; atom = 0; nexts = (1 ∷ []) ∷ (2 ∷ []) ∷ []; table = (0 ∷ []) ∷ [] } ∷ record { name = []; atom = 1; nexts = (3 ∷ []) ∷ [] ∷ []; table = (0 ∷ []) ∷ [] }
      ∷ record { name = []; atom = 2; nexts = [] ∷ (3 ∷ []) ∷ []; table = (0 ∷ []) ∷ [] } ∷ record { name = []; atom = 3; nexts = [] ∷ [] ∷ []; table = (0 ∷ []) ∷ [] } ∷ [];
  first = 0;
  last = 3;
}

-- the atoms of one agent each occur in either order
one_first : leaves (negotiation_of that_parts) (opening_marking (negotiation_of that_parts)) ((0, 0) ∷ (1, 1) ∷ (2, 2) ∷ []) ≡ Some ((3 ∷ []) ∷ (3 ∷ []) ∷ [])
one_first = refl

two_first : leaves (negotiation_of that_parts) (opening_marking (negotiation_of that_parts)) ((0, 0) ∷ (2, 2) ∷ (1, 1) ∷ []) ≡ Some ((3 ∷ []) ∷ (3 ∷ []) ∷ [])
two_first = refl

-- what agent 1 sees in both orders, and what it is then ready for
seen_in_one : projection (negotiation_of that_parts) 1 ((0, 0) ∷ (1, 1) ∷ (2, 2) ∷ []) ≡ (0, 0) ∷ (2, 2) ∷ []
seen_in_one = refl

seen_in_two : projection (negotiation_of that_parts) 1 ((0, 0) ∷ (2, 2) ∷ (1, 1) ∷ []) ≡ (0, 0) ∷ (2, 2) ∷ []
seen_in_two = refl

ready_then : ready_behind (negotiation_of that_parts) 1 (0 ∷ []) ((0, 0) ∷ (2, 2) ∷ []) ≡ 3 ∷ []
ready_then = refl

-- of a history of the first, the entries of agent 1
own_in_one : own_entries (negotiation_of that_parts) 1 (record { step = (0, 0); joint = 5 } ∷ record { step = (1, 1); joint = 6 } ∷ record { step = (2, 2); joint = 7 } ∷ [])
    ≡ record { step = (0, 0); joint = 5 } ∷ record { step = (2, 2); joint = 7 } ∷ []
own_in_one = refl

-- ranks in an order, one of whose atoms was dropped
ranks_with_dropped : (rank_in (4 ∷ 2 ∷ 7 ∷ []) 4 ≡ 0) × (rank_in (4 ∷ 2 ∷ 7 ∷ []) 7 ≡ 2)
ranks_with_dropped = (refl, refl)

-- an outcome whose node is outcome 0 and then outcome 1, where the one adds 1 and the other doubles; and one that is gone
then_means : Relates (ByNodes (λ o d e. if o == 0 then e == d + 1 else e == 2 * d) (Base 0 ∷ Base 1 ∷ Then 0 1 ∷ []) (λ o. if o == 5 then Some 2 else None)) 5 3 8
then_means = (4, refl, refl)

gone_means_nothing : Relates (ByNodes (λ o d e. true) (Base 0 ∷ []) (λ o. None)) 5 3 8 → ⊥
gone_means_nothing h = h
