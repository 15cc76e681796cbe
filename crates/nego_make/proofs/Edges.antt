-- Every edge of what is made goes forward, and no agent has two next atoms.
use Rattle.std.proofs.Common.{◌≡◌, ◌∙◌, ℕ, zero, suc, ◌+◌, ◌<◌, ◌≤◌, true, List, [], ◌∷◌, map, slice_get, slice_index_or, Some, IsTrue, ap, sym, subst, refl, arith}
use Rattle.std.proofs.lemmas.Bool.{false≢true}
use Rattle.std.proofs.lemmas.Option.{same_Some, none-some}
use Rattle.std.proofs.lemmas.List.Elements.{All-nil, All-head, All-tail}
use Rattle.std.specs.List.{All, AllPairs, range_with_len}
use Rattle.nego_base.specs.Members.{is_in, RisesFrom}
use Rattle.nego_base.proofs.Members.{All-members, member_from, rises-range}
use Rattle.nego_base.proofs.PairLaws.{AllPairs-nil, AllPairs-cons}
use Rattle.nego_model.specs.Negotiation.{Negotiation, IsOutcome, IsDeterministic}
use Rattle.nego_model.specs.Acyclic.{IsEdge, IsAcyclic}
use Rattle.nego_model.specs.Diagram.{PlainOutcome, PlainDiagram, negotiation_of}
use Rattle.nego_model.proofs.diagrams.Negotiations.{outcome_at, nexts_of-at}
use Rattle.nego_reader.specs.Content.{NextContent, Content}
use Rattle.nego_shape.specs.Naming.{PlacedOut, place_of, places_of, agent_names, atom_names, all_outs, next_atoms, outcome_in, diagram_in}
use Rattle.nego_shape.proofs.Places.{next_atoms-line}
use Rattle.nego_make.specs.Generated.{is_next, movers, next_line, generated}
use Rattle.nego_make.proofs.Names.{places, atom_place}
use Rattle.nego_make.proofs.Moves.{mover_party, movers_below, one_next}
use Rattle.nego_make.proofs.OutcomeKinds.{each_placed, nexts_have}
use Rattle.nego_make.proofs.Conditions.{lines_have}

-- what a mapped list has at a place comes from an item that has what all items have
item_at : {X Y : Type 0} (P : X → Type 0) (f : X → Y) (xs : List X) (k : ℕ) (y : Y) → All P xs → slice_get (map f xs) k ≡ Some y → (x : X) × P x × (f x ≡ y)
item_at P f [] k y all at = absurd (none-some y at)
item_at P f (x ∷ xs) zero y all at = (x, All-head P x xs all, same_Some (f x) y at)
item_at P f (x ∷ xs) (suc k) y all at = item_at P f xs k y (All-tail P x xs all) at

-- a list for each of four agents
at_agent : (f : ℕ → List ℕ) (a k : ℕ) → is_in k (slice_index_or (map f (range_with_len 0 4)) a []) ≡ true → is_in k (f a) ≡ true
at_agent f zero k h = h
at_agent f (suc zero) k h = h
at_agent f (suc (suc zero)) k h = h
at_agent f (suc (suc (suc zero))) k h = h
at_agent f (suc (suc (suc (suc a)))) k h = absurd (false≢true h)

rising_pairs : (low : ℕ) (xs : List ℕ) → RisesFrom low xs → AllPairs (λ x y. x < y) xs
rising_pairs low [] r = AllPairs-nil (λ x y. x < y)
rising_pairs low (x ∷ xs) r =
    AllPairs-cons (λ x y. x < y) x xs (All-members (λ y. x < y) xs (λ y m. let up : x + 1 ≤ y = member_from (x + 1) y xs r.1 m in omega (arith, up))) (rising_pairs (x + 1) xs r.1)

-- The next line of an outcome of atom i of n is the one for an atom behind.
record IsLine (n i : ℕ) (next : NextContent) : Type 0 where
  to : ℕ
  up : i < to
  below : to < n
  line : next_line n i to ≡ next

module _ (n : ℕ) (some : 2 ≤ n) (few : n ≤ 64) where
  abbrev made : Content
  made = generated n

  abbrev diagram : PlainDiagram
  diagram = diagram_in (generated n)

  abbrev nego : Negotiation
  nego = negotiation_of (diagram_in (generated n))

  each_line : All (λ placed. All (IsLine n placed.atom) placed.out.nexts) (all_outs made)
  each_line = each_placed (λ placed. All (IsLine n placed.atom) placed.out.nexts) n
      (λ i l. nexts_have (λ nexts. All (IsLine n i) nexts) n i some (λ _. All-nil (IsLine n i)) (λ _. lines_have n some few (IsLine n i) i l (λ j up b. record { to = j; up = up; below = b; line = refl })))

  -- an agent's next atom is the one to which it goes
  pub leads : (m o a k : ℕ) → IsOutcome nego m o → IsTrue (is_in k (nego.next o a)) → (m < k) × (is_next n m k a ≡ true)
  leads m o a k own h =
      let here = outcome_at diagram m o own in
      let item = item_at (λ (placed : PlacedOut). All (IsLine n placed.atom) placed.out.nexts) (outcome_in made) (all_outs made) o here.outcome each_line here.at in
      let placed = item.0 in
      let atom : placed.atom ≡ m = ap (λ (x : PlainOutcome). x.atom) item.2 ∙ here.of_atom in
      let lists : nego.next o a ≡ slice_index_or (map (next_atoms made placed.out) (range_with_len 0 4)) a [] =
      nexts_of-at diagram o a here.outcome here.at ∙ ap (λ (x : PlainOutcome). slice_index_or x.nexts a []) (sym item.2) in
      let there = next_atoms-line made (IsLine n placed.atom) placed.out a k item.1 (at_agent (next_atoms made placed.out) a k (ap (is_in k) (sym lists) ∙ h)) in
      goes m a k placed.atom atom there.1.0 there.1.1 there.1.2 there.1.3
    where
      goes : (m a k i : ℕ) → i ≡ m → (next : NextContent) → IsLine n i next → place_of next.atom (atom_names made) ≡ k → is_in a (places_of next.agents (agent_names made)) ≡ true → (m < k) × (is_next n m k a ≡ true)
      goes m a k i atom next line place stands =
          let at : line.to ≡ k = sym (atom_place n few line.to line.below) ∙ (ap (λ (x : NextContent). place_of x.atom (atom_names made)) line.line ∙ place) in
          let mover : is_in a (movers n i line.to) ≡ true =
          ap (is_in a) (sym (places n (movers n i line.to) (movers_below n i line.to))) ∙ (ap (λ (x : NextContent). is_in a (places_of x.agents (agent_names made))) line.line ∙ stands) in
          let next_is : is_next n i line.to a ≡ true = (mover_party n i line.to a mover).0 in
          let up = line.up in
          (omega (arith, atom, at, up), subst (λ x. is_next n x k a ≡ true) atom (subst (λ x. is_next n i x a ≡ true) at next_is))

  pub deterministic : IsDeterministic nego
  deterministic m o a j k own hj hk =
      let p = leads m o a j own hj in
      let q = leads m o a k own hk in
      one_next n m j k a p.0 q.0 p.1 q.1

  forward : (m k : ℕ) → IsEdge nego m k → m < k
  forward m k edge = (leads m edge.outcome edge.agent k edge.own edge.leads).0

  pub acyclic : IsAcyclic nego
  acyclic = (
    nego.atoms,
    record {
      atoms = λ k. refl;
      once = λ i j d before within e. let l = rising_pairs 0 nego.atoms (rises-range 0 _) i j d before within in omega (arith, l, e);
      no_loop = All-members (λ m. IsEdge nego m m → ⊥) nego.atoms (λ m _ edge. let l = forward m m edge in omega (arith, l));
      forward = λ i j d before within edge. let l = rising_pairs 0 nego.atoms (rises-range 0 _) i j d before within in let back = forward _ _ edge in omega (arith, l, back);
    },
  )
