-- The summary of a work of one atom tells the diagram for which the work stands.
use Rattle.std.proofs.Common.{◌≡◌, ◌↔◌, ℕ, ◌<◌, ◌==◌, List, [], ◌∷◌, length, map, slice_index, slice_index_or, Some, IsTrue, refl, sym, subst, ap, ◌∙◌, arith}
use Rattle.std.proofs.lemmas.List.{length-map, get_or-map}
use Rattle.std.proofs.lemmas.List.Elements.{All-nil, All-cons, All-head, All-tail, All-filter}
use Rattle.std.specs.List.{All}
use Rattle.nego_base.specs.Members.{is_in}
use Rattle.nego_data.specs.Data.{data_count}
use Rattle.nego_model.specs.Joining.{By, Runs}
use Rattle.nego_model.specs.Expression.{Means, AllBases}
use Rattle.nego_model.specs.Diagram.{PlainDiagram, negotiation_of, relation_of, parties_of, IsDiagram}
use Rattle.nego_model.specs.Summary.{final_outcomes}
use Rattle.nego_base.proofs.Members.{All-members}
use Rattle.nego_expr.specs.Work.{WorkOutcome, PlainWork, IsWork, outcomes_at, negotiation_of_work, work_outcomes, outcome_at, ByWork}
use Rattle.nego_expr.specs.StandsFor.{StandsFor}
use Rattle.nego_expr.specs.Finish.{finals_of, summary_of_work, FinishedWorksTell}
use Rattle.nego_expr.proofs.Alive.{each_found, ByWork-found}
use Rattle.nego_expr.proofs.OneAtomLeft.{one_atom_works}

-- as many names as outcomes are the names of the final outcomes
pub names-finals_of : (names : List (List ℕ)) (outcomes : List WorkOutcome) → length names ≡ length outcomes → map (λ final. final.name) (finals_of names outcomes) ≡ names
names-finals_of [] outcomes h = refl
names-finals_of (name ∷ names) [] h = absurd (let no_more : ⊥ = omega (arith, h) in no_more)
names-finals_of (name ∷ names) (x ∷ xs) h = ap (◌∷◌ name) (names-finals_of names xs (omega (arith, h)))

-- with as many names as outcomes the final outcomes have the outcomes' nodes
pub nodes-finals_of : (names : List (List ℕ)) (outcomes : List WorkOutcome) → length names ≡ length outcomes → map (λ final. final.node) (finals_of names outcomes) ≡ map (λ outcome. outcome.node) outcomes
nodes-finals_of [] [] h = refl
nodes-finals_of [] (x ∷ xs) h = absurd (let no_more : ⊥ = omega (arith, h) in no_more)
nodes-finals_of (name ∷ names) [] h = absurd (let no_more : ⊥ = omega (arith, h) in no_more)
nodes-finals_of (name ∷ names) (x ∷ xs) h = ap (◌∷◌ x.node) (nodes-finals_of names xs (omega (arith, h)))

-- what holds of the outcomes' nodes holds of the final outcomes' nodes
pub All-finals_of : (P : ℕ → Type 0) (names : List (List ℕ)) (outcomes : List WorkOutcome) → All (λ outcome. P outcome.node) outcomes → All (λ final. P final.node) (finals_of names outcomes)
All-finals_of P [] outcomes h = All-nil (λ final. P final.node)
All-finals_of P (name ∷ names) [] h = All-nil (λ final. P final.node)
All-finals_of P (name ∷ names) (x ∷ xs) h =
    All-cons (λ final. P final.node) (record { name = name; node = x.node }) (finals_of names xs) (All-head (λ outcome. P outcome.node) x xs h)
    (All-finals_of P names xs (All-tail (λ outcome. P outcome.node) x xs h))

-- what is read past the end of a list of outcomes
nobody : WorkOutcome
nobody = record { number = 0; atom = 0; targets = []; node = 0; passed = [] }

-- a work has as many names as outcomes of the last atom
pub names_as_many : (work : PlainWork) → IsWork work → length work.names ≡ length (outcomes_at work work.last)
names_as_many work ok = ok.named ∙ length-map (outcomes_at work work.last) (λ outcome. outcome.number)

module _ (diagram : PlainDiagram) (work : PlainWork) (read : IsDiagram diagram) (one : length work.atoms ≡ 1) (stands : StandsFor work diagram) where
  ok : IsWork work
  ok = stands.is_work

  -- the outcome at a place is found, and its node is that of the final outcome there
  each_final : (k d e : ℕ) → k < length (outcomes_at work work.last) →
      Means (By (relation_of diagram)) work.nodes (slice_index (map (λ final. final.node) (summary_of_work work).finals) k) d e
      ↔ ByWork (relation_of diagram) work (slice_index (work_outcomes work work.last) k) d e
  each_final k d e h =
      subst (λ f. Means (By (relation_of diagram)) work.nodes (slice_index (map (λ final. final.node) (summary_of_work work).finals) k) d e ↔ ByWork (relation_of diagram) work f d e)
      (sym (get_or-map (λ outcome. outcome.number) (outcomes_at work work.last) k nobody 0 h))
      (subst (λ i. Means (By (relation_of diagram)) work.nodes i d e ↔ ByWork (relation_of diagram) work x.number d e)
      (sym (ap (λ nodes. slice_index nodes k) (nodes-finals_of work.names (outcomes_at work work.last) (names_as_many work ok)) ∙ get_or-map (λ outcome. outcome.node) (outcomes_at work work.last) k nobody 0 h))
      (let m = ByWork-found (relation_of diagram) work x.number x d e found in (m.1, m.0)))
    where
      x : WorkOutcome
      x = slice_index_or (outcomes_at work work.last) k nobody

      found : outcome_at work x.number ≡ Some x
      found = All-filter (λ outcome. outcome.atom == work.last) (λ outcome. outcome_at work outcome.number ≡ Some outcome) work.outcomes (each_found work.outcomes ok.numbers_rise) k nobody h

  -- an outcome that stands at a place of the diagram's final outcomes
  final_in : (k : ℕ) → k < length (final_outcomes diagram) → IsTrue (is_in (slice_index (final_outcomes diagram) k) (final_outcomes diagram))
  final_in k h = All-members (λ f. IsTrue (is_in f (final_outcomes diagram))) (final_outcomes diagram) (λ f m. m) k 0 h

  each : (k d e : ℕ) → d < data_count diagram.sizes → k < length (final_outcomes diagram) →
      Means (By (relation_of diagram)) work.nodes (slice_index (map (λ final. final.node) (summary_of_work work).finals) k) d e
      ↔ Runs (negotiation_of diagram) (By (relation_of diagram)) (slice_index (final_outcomes diagram) k) d e
  each k d e below h = (λ m. s.1 (r.1 (subst (λ g. ByWork (relation_of diagram) work g d e) (sym same) (t.0 m))), λ m. t.1 (subst (λ g. ByWork (relation_of diagram) work g d e) same (r.0 (s.0 m))))
    where
      f : ℕ
      f = slice_index (final_outcomes diagram) k

      same : f ≡ slice_index (work_outcomes work work.last) k
      same = ap (λ fs. slice_index fs k) stands.finals

      t : Means (By (relation_of diagram)) work.nodes (slice_index (map (λ final. final.node) (summary_of_work work).finals) k) d e
          ↔ ByWork (relation_of diagram) work (slice_index (work_outcomes work work.last) k) d e
      t = each_final k d e (subst (λ n. k < n) (ap length stands.finals ∙ length-map (outcomes_at work work.last) (λ outcome. outcome.number)) h)

      s : Runs (negotiation_of diagram) (By (relation_of diagram)) f d e ↔ Runs (negotiation_of_work work) (ByWork (relation_of diagram) work) f d e
      s = stands.runs diagram.sizes (relation_of diagram) f d e read.local below (final_in k h)

      r : Runs (negotiation_of_work work) (ByWork (relation_of diagram) work) f d e ↔ ByWork (relation_of diagram) work f d e
      r = (one_atom_works work ok one).1 (relation_of diagram) f d e (subst (λ fs. IsTrue (is_in f fs)) stands.finals (final_in k h))

-- the summary of a work of one atom that stands for a diagram tells the diagram
pub finished_works : FinishedWorksTell
finished_works diagram work read one stands = record {
  formed = record {
    below = ok.nodes;
    bases = subst (λ bases. AllBases (λ o. o < bases) work.nodes) (ap length stands.bases ∙ length-map diagram.outcomes (λ outcome. parties_of diagram outcome.atom)) ok.bases_read;
    there = All-finals_of (λ i. i < length work.nodes) work.names (outcomes_at work work.last)
        (All-filter (λ outcome. outcome.atom == work.last) (λ outcome. outcome.node < length work.nodes) work.outcomes ok.nodes_there);
  };
  sound = stands.sound.1 (one_atom_works work ok one).0;
  named = names-finals_of work.names (outcomes_at work work.last) (names_as_many work ok) ∙ stands.names;
  each = λ k d e h below _. each diagram work read one stands k d e below h;
}
  where
    ok : IsWork work
    ok = stands.is_work
