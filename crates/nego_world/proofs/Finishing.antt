-- Where every agent of a consistent world is finished, its history is completed.
use Rattle.std.proofs.Common.{◌≡◌, ⊎_elim, ℕ, ◌<◌, List, [], ◌∷◌, length, take, slice_get, Some, None, refl, sym, ap, subst, ◌∙◌, arith}
use Rattle.std.proofs.lemmas.Option.{same_Some, none-some}
use Rattle.std.proofs.Math.Seq.{take-append_seam}
use Rattle.nego_data.specs.Data.{data_count}
use Rattle.nego_model.specs.Negotiation.{IsDeterministic}
use Rattle.nego_model.specs.Occurring.{ready, opening_marking, final_marking, IsComplete}
use Rattle.nego_model.specs.Joining.{By, Runs, steps_of, joint_after}
use Rattle.nego_model.specs.Diagram.{PlainDiagram, IsDiagram, negotiation_of, relation_of}
use Rattle.nego_model.proofs.occurrence.Steps.{length-run}
use Rattle.nego_model.proofs.occurrence.Markings.{same_for_all}
use Rattle.nego_model.proofs.occurrence.CompleteRuns.{ends_with_the_last_atom}
use Rattle.nego_model.proofs.occurrence.Histories.{history_leaves, Runs-history, joint_after-below}
use Rattle.agent_msg.specs.Records.{Moved}
use Rattle.agent_core.specs.Agents.{beginning, left_by, IsStep}
use Rattle.agent_core.specs.Worlds.{PlainWorld, start_of, agent_of}
use Rattle.agent_core.specs.Agreement.{journal_of}
use Rattle.agent_core.specs.Consistency.{IsConsistent}
use Rattle.agent_core.specs.Finished.{AllFinished, IsCompleted, FinishesComplete}
use Rattle.nego_world.proofs.Left.{left-history}
use Rattle.nego_world.proofs.Steps.{at_seam, journal-steps}
use Rattle.nego_world.proofs.Agents.{agrees-each}

-- a list without a first item is empty
nothing_first : (xs : List ℕ) → slice_get xs 0 ≡ None → xs ≡ []
nothing_first [] h = refl
nothing_first (x ∷ xs) h = absurd (none-some x (sym h))

module _ (diagram : PlainDiagram) (ok : IsDiagram diagram) (single : IsDeterministic (negotiation_of diagram)) (world : PlainWorld) (was : IsConsistent diagram world) (all : AllFinished world) where
  finished-each : (a : ℕ) → a < length diagram.agents → (left_by diagram a (start_of diagram world a) (agent_of diagram world a).records).at ≡ None
  finished-each a known =
      let there : a < length world.agents = omega (arith, known, was.count) in
      sym (ap (λ g. g.at) (was.agents a known).left) ∙ all a (beginning diagram a (start_of diagram world a)) there

  -- an agent that is finished lacks no record
  finished-whole : (a : ℕ) → a < length diagram.agents → (agent_of diagram world a).records ≡ journal_of diagram world.history a
  finished-whole a known =
      ⊎_elim (λ same. same)
      (λ more.
      let records = (agent_of diagram world a).records in
      let move = Moved more.0 more.1 more.2 in
      let journal = journal_of diagram world.history a in
      let there : slice_get journal (length records) ≡ Some move = ap (λ rs. slice_get rs (length records)) (sym more.3) ∙ at_seam records [] move in
      let front : take (length records) journal ≡ records = ap (take (length records)) (sym more.3) ∙ take-append_seam records (move ∷ []) in
      let step : IsStep diagram (left_by diagram a (start_of diagram world a) records) move =
      subst (λ rs. IsStep diagram (left_by diagram a (start_of diagram world a) rs) move) front (journal-steps diagram ok single world.start was.start a known world.history was.journals.run (length records) move there) in
      absurd (none-some more.0 (sym (finished-each a known) ∙ step.at)))
      (agrees-each diagram ok single world was a known)

  finishes : IsCompleted diagram world
  finishes =
      let nego = negotiation_of diagram in
      let relation = By (relation_of diagram) in
      let left = history_leaves nego relation world.start world.history was.journals.run in
      let final : left.0 ≡ final_marking nego = same_for_all (length diagram.agents) [] left.0 (length-run nego (steps_of world.history) left.0 left.1)
      (λ a known.
      let there = left-history diagram ok world.start was.start a known world.history was.journals.run in
      let same : there.0 ≡ left.0 = same_Some there.0 left.0 (sym there.1 ∙ left.1) in
      nothing_first (ready left.0 a) (ap (λ m. slice_get (ready m a) 0) (sym same) ∙ (sym there.2.at ∙ (ap (λ rs. (left_by diagram a (start_of diagram world a) rs).at) (sym (finished-whole a known)) ∙ finished-each a known)))) in
      let complete : IsComplete nego (steps_of world.history) = left.1 ∙ ap (λ m. Some m) final in
      let ends = ends_with_the_last_atom nego (steps_of world.history) ok.form complete in
      let runs : Runs nego relation ends.0 world.start (joint_after world.start world.history) = Runs-history nego relation world.start world.history diagram.last ends.0 was.journals.run complete ends.1 in
      let last : joint_after world.start world.history < data_count diagram.sizes =
      joint_after-below nego diagram.sizes relation ok.local world.history world.start (opening_marking nego) left.0 was.start left.1 was.journals.run.related in
      record {
        complete = complete;
        outcome = ends.0;
        ends = ends.1;
        runs = runs;
        told = λ summary k tells lt same.
            (tells.each k world.start (joint_after world.start world.history) lt was.start last).1 (subst (λ f. Runs nego relation f world.start (joint_after world.start world.history)) (sym same) runs);
      }

-- where every agent is finished, the history is completed
pub finishes-complete : (diagram : PlainDiagram) → IsDiagram diagram → IsDeterministic (negotiation_of diagram) → (world : PlainWorld) → IsConsistent diagram world → FinishesComplete diagram world
finishes-complete diagram ok single world was = λ all. finishes diagram ok single world was all
