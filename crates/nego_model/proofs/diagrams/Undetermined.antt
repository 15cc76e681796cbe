-- A diagram is deterministic exactly where no agent has two next atoms.
use Rattle.std.proofs.Common.{◌≡◌, ℕ, ◌+◌, ◌<◌, ◌≤◌, List, [], ◌∷◌, length, slice_index_or, slice_get, Some, IsTrue, ap, ⊎_elim, arith}
use Rattle.std.specs.Option.{option_map_or}
use Rattle.std.proofs.lemmas.Bool.{cases_lt}
use Rattle.std.proofs.lemmas.Option.{slice_get_past, slice_get_cases}
use Rattle.nego_base.specs.Members.{is_in, IsRising}
use Rattle.nego_base.proofs.Members.{is_in_none, is_in-head, is_in-tail, one_member}
use Rattle.nego_model.specs.Negotiation.{IsOutcome, IsDeterministic}
use Rattle.nego_model.specs.Diagram.{PlainOutcome, PlainDiagram, IsDiagram, negotiation_of, nexts_of}
use Rattle.nego_model.proofs.diagrams.Readers.{own_outcome}

-- a rising list of two items or more has two members
two_members : (xs : List ℕ) → IsRising xs → 1 < length xs → ((m p : ℕ) → IsTrue (is_in m xs) → IsTrue (is_in p xs) → m ≡ p) → ⊥
two_members [] rising many same = omega (arith, many)
two_members (x ∷ []) rising many same = omega (arith, many)
two_members (x ∷ y ∷ ys) rising many same =
    let e : x ≡ y = same x y (is_in-head x (y ∷ ys)) (is_in-tail y x (y ∷ ys) (is_in-head y ys)) in
    let l : x + 1 ≤ y = rising.1.0 in
    omega (arith, e, l)

module _ (diagram : PlainDiagram) (formed : IsDiagram diagram) where
  -- the outcome and the agent of a next atom are there
  pub outcome_below : (o a m : ℕ) → IsTrue (is_in m (nexts_of diagram o a)) → o < length diagram.outcomes
  outcome_below o a m h =
      ⊎_elim (λ l. l) (λ l. absurd (is_in_none m (nexts_of diagram o a) (ap (λ found. option_map_or (λ x. slice_index_or x.nexts a []) found []) (slice_get_past diagram.outcomes o l)) h)) (cases_lt o (length diagram.outcomes))

  pub agent_below : (n o a m : ℕ) → IsOutcome (negotiation_of diagram) n o → IsTrue (is_in m (nexts_of diagram o a)) → a < length diagram.agents
  agent_below n o a m outcome h =
      ⊎_elim (λ there. formed.form.party_below n a outcome.0 there) (λ nowhere. absurd (is_in_none m (nexts_of diagram o a) nowhere h)) (formed.form.strangers_stay n o a outcome)

  pub determined : ((o a : ℕ) → o < length diagram.outcomes → a < length diagram.agents → length (nexts_of diagram o a) ≤ 1) → IsDeterministic (negotiation_of diagram)
  determined one n o a m p outcome hm hp =
      one_member (nexts_of diagram o a) m p (one o a (outcome_below o a m hm) (agent_below n o a m outcome hm)) hm hp

  -- where there are two next atoms, the diagram isn't deterministic
  pub undetermined : (o a : ℕ) → o < length diagram.outcomes → 1 < length (nexts_of diagram o a) → IsDeterministic (negotiation_of diagram) → ⊥
  undetermined o a below many one =
      ⊎_elim
      (λ there. of_outcome there.0 there.2)
      (λ past. let gone : ⊥ = omega (arith, past.0, below) in gone)
      (slice_get_cases diagram.outcomes o).1
    where
      of_outcome : (outcome : PlainOutcome) → slice_get diagram.outcomes o ≡ Some outcome → ⊥
      of_outcome outcome at =
          let own = own_outcome diagram formed o outcome at in
          two_members (nexts_of diagram o a) (formed.form.next_rise outcome.atom o a own) many (λ m p hm hp. one outcome.atom o a m p own hm hp)
