-- The summaries to which certificates lead can be printed.
use Rattle.std.proofs.Common.{◌≡◌, ◌≢◌, ℕ, suc, ◌+◌, ◌<◌, ◌≤◌, Bool, true, false, ◌==◌, cond, List, [], ◌∷◌, length, map, filter, get_or, slice_get, All, IsTrue, refl, sym, ap, ap₂, subst, ◌∙◌, arith, eqb-true}
use Rattle.std.specs.Prelude.{⊤}
use Rattle.std.specs.List.{AllPairs, range_with_len}
use Rattle.std.specs.Option.{option_map_or}
use Rattle.std.proofs.lemmas.List.{length-map}
use Rattle.std.proofs.lemmas.List.Elements.{All-weaker, All-filter, All-map, filter_passes}
use Rattle.std.proofs.lemmas.List.FromFn.{length-range_with_len}
use Rattle.std.proofs.lemmas.List.Kept.{AllPairs-filter}
use Rattle.nego_base.specs.Name.{is_name}
use Rattle.nego_base.proofs.ListLaws.{All-unmap}
use Rattle.nego_base.proofs.PairLaws.{AllPairs-nil, AllPairs-cons, AllPairs-head, AllPairs-tail, AllPairs-map}
use Rattle.nego_model.specs.Diagram.{PlainOutcome, PlainDiagram, outcome_name, outcomes_from}
use Rattle.nego_model.specs.Expression.{PlainNode, Base, Join, Then, Star, NodeBases}
use Rattle.nego_model.specs.Limits.{HasNames}
use Rattle.nego_model.specs.Summary.{PlainFinal, Tells, final_outcomes}
use Rattle.nego_expr.specs.Fresh.{fresh_work}
use Rattle.nego_expr.specs.Lead.{Step, Lead, Allowed}
use Rattle.nego_expr.specs.Use.{PlainUse, after_use, most_nodes}
use Rattle.nego_expr.specs.Work.{PlainWork}
use Rattle.nego_cert.specs.SummaryLaws.{AcceptedArePrintable}
use Rattle.nego_cert.proofs.PrintedLines.{Short}
use Rattle.nego_cert.proofs.Verdicts.{accepted_tell}

-- ---- the nodes

few_fresh : (diagram : PlainDiagram) → length (fresh_work diagram).nodes ≡ length diagram.outcomes
unfolding fresh_work
few_fresh diagram = length-map (range_with_len 0 (length diagram.outcomes)) Base ∙ length-range_with_len 0 (length diagram.outcomes)

few_left : (step : Step) (work end : PlainWork) (uses : List PlainUse) → length work.nodes ≤ most_nodes → Lead step work uses end → length end.nodes ≤ most_nodes
few_left step work end [] few h = subst (λ w. length w.nodes ≤ most_nodes) h few
few_left step work end (next ∷ uses) few h = few_left step (after_use work next) end uses h.1 h.2

base_short : (most : ℕ) → most ≤ 1000000 → (node : PlainNode) → NodeBases (λ o. o < most) (λ i. ⊤) node → NodeBases Short (λ i. ⊤) node
base_short most few (Base o) h = omega arith
base_short most few (Join x y) h = h
base_short most few (Then x y) h = h
base_short most few (Star x) h = h

-- ---- the names of the last atom's outcomes

-- the outcomes of an atom
abbrev of_atom : ℕ → List PlainOutcome → List PlainOutcome
of_atom n outcomes = filter (λ outcome. outcome.atom == n) outcomes

module _ (diagram : PlainDiagram) where
  -- their names, where the outcomes are those of the diagram from a number on
  names_of : (n k : ℕ) (outcomes : List PlainOutcome) → ((j : ℕ) → slice_get diagram.outcomes (k + j) ≡ slice_get outcomes j) →
      map (outcome_name diagram) (outcomes_from k outcomes n) ≡ map (λ outcome. outcome.name) (of_atom n outcomes)
  names_of n k [] at = refl
  names_of n k (x ∷ xs) at =
      by_test (x.atom == n) (ap (λ o. option_map_or (λ outcome. outcome.name) o []) (ap (slice_get diagram.outcomes) (let e : k ≡ k + 0 = omega arith in e) ∙ at 0))
      (names_of n (k + 1) xs (λ j. ap (slice_get diagram.outcomes) (let e : k + 1 + j ≡ k + suc j = omega arith in e) ∙ at (suc j)))
    where
      by_test : (b : Bool) → outcome_name diagram k ≡ x.name → map (outcome_name diagram) (outcomes_from (k + 1) xs n) ≡ map (λ outcome. outcome.name) (of_atom n xs) →
          map (outcome_name diagram) (cond b (k ∷ outcomes_from (k + 1) xs n) (outcomes_from (k + 1) xs n)) ≡ map (λ outcome. outcome.name) (cond b (x ∷ of_atom n xs) (of_atom n xs))
      by_test true one others = ap₂ ◌∷◌ one others
      by_test false one others = others

  final_names : map (outcome_name diagram) (final_outcomes diagram) ≡ map (λ outcome. outcome.name) (of_atom diagram.last diagram.outcomes)
  final_names = names_of diagram.last 0 diagram.outcomes (λ j. ap (slice_get diagram.outcomes) (let e : 0 + j ≡ j = omega arith in e))

  -- they differ
  final_differ : HasNames diagram → AllPairs (λ x y. x ≢ y) (map (λ outcome. outcome.name) (of_atom diagram.last diagram.outcomes))
  final_differ names =
      AllPairs-map (λ x y. x ≢ y) (λ (outcome : PlainOutcome). outcome.name) (of_atom diagram.last diagram.outcomes)
      (λ i j d before within. AllPairs-filter (λ o p. o.atom ≡ p.atom → o.name ≢ p.name) (λ outcome. outcome.atom == diagram.last) diagram.outcomes names.outcomes_differ i j d before within
      (at_last i d (omega arith) ∙ sym (at_last j d within)))
    where
      at_last : (i : ℕ) (d : PlainOutcome) → i < length (of_atom diagram.last diagram.outcomes) → (get_or (of_atom diagram.last diagram.outcomes) i d).atom ≡ diagram.last
      at_last i d within = eqb-true (get_or (of_atom diagram.last diagram.outcomes) i d).atom diagram.last (filter_passes (λ outcome. outcome.atom == diagram.last) diagram.outcomes i d within)

  final_named : HasNames diagram → All (λ name. IsTrue (is_name name)) (map (λ outcome. outcome.name) (of_atom diagram.last diagram.outcomes))
  final_named names =
      All-map (λ name. IsTrue (is_name name)) (λ (outcome : PlainOutcome). outcome.name) (of_atom diagram.last diagram.outcomes)
      (All-filter (λ outcome. outcome.atom == diagram.last) (λ outcome. IsTrue (is_name outcome.name)) diagram.outcomes names.outcomes)

-- what holds of pairs of what items are mapped to holds of pairs of them
AllPairs-unmap : {X Y : Type 0} (R : Y → Y → Type 0) (f : X → Y) (xs : List X) → AllPairs R (map f xs) → AllPairs (λ x y. R (f x) (f y)) xs
AllPairs-unmap R f [] h = AllPairs-nil (λ x y. R (f x) (f y))
AllPairs-unmap R f (x ∷ xs) h =
    AllPairs-cons (λ a b. R (f a) (f b)) x xs (All-unmap (R (f x)) f xs (AllPairs-head R (f x) (map f xs) h)) (AllPairs-unmap R f xs (AllPairs-tail R (f x) (map f xs) h))

some_left : (xs : List ℕ) → xs ≢ [] → 0 < length xs
some_left [] h = absurd (h refl)
some_left (x ∷ xs) h = omega arith

pub accepted_printable : AcceptedArePrintable
accepted_printable diagram uses summary read limits names determined h =
    let tells : Tells summary diagram = accepted_tell diagram uses summary read determined h in
    let few = limits.few_outcomes in
    let named : map (λ outcome. outcome.name) summary.finals ≡ map (λ outcome. outcome.name) (of_atom diagram.last diagram.outcomes) = tells.named ∙ final_names diagram in
    let some = some_left (final_outcomes diagram) (read.form.some_outcome diagram.last read.form.last_there) in
    let as_many : length summary.finals ≡ length (final_outcomes diagram) =
    sym (length-map summary.finals (λ outcome. outcome.name)) ∙ (ap length tells.named ∙ length-map (final_outcomes diagram) (outcome_name diagram)) in
    record {
      few = subst (λ s. length s.nodes ≤ most_nodes) (sym h.is) (few_left Allowed (fresh_work diagram) h.end uses (let e = few_fresh diagram in omega arith) h.lead);
      below = tells.formed.below;
      bases = All-weaker (NodeBases (λ o. o < length diagram.outcomes) (λ i. ⊤)) (NodeBases Short (λ i. ⊤)) (base_short (length diagram.outcomes) (omega arith)) summary.nodes tells.formed.bases;
      some = omega arith;
      names = All-unmap (λ name. IsTrue (is_name name)) (λ (outcome : PlainFinal). outcome.name) summary.finals (subst (All (λ name. IsTrue (is_name name))) (sym named) (final_named diagram names));
      differ = AllPairs-unmap (λ x y. x ≢ y) (λ (outcome : PlainFinal). outcome.name) summary.finals (subst (AllPairs (λ x y. x ≢ y)) (sym named) (final_differ diagram names));
      there = tells.formed.there;
    }
