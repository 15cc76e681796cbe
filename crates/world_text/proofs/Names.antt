-- What stands in a consistent world has names in its diagram.
use Rattle.std.proofs.Common.{◌≡◌, ℕ, ◌<◌, true, List, [], ◌∷◌, length, map, take, get_or, Option, Some, None, IsSome, IsTrue, refl, sym, ap, subst, ◌∙◌, arith}
use Rattle.std.proofs.lemmas.List.{get_or-map, length-map}
use Rattle.std.proofs.lemmas.List.Elements.{All-nil, All-cons}
use Rattle.std.proofs.lemmas.Option.{slice_get-get_or}
use Rattle.std.specs.List.{All}
use Rattle.nego_base.specs.Members.{is_in}
use Rattle.nego_base.proofs.Members.{member-Contains}
use Rattle.nego_data.specs.Data.{data_count}
use Rattle.nego_model.specs.Joining.{AreRelated, By, steps_of}
use Rattle.nego_model.specs.Joining as model
use Rattle.nego_model.specs.Negotiation.{IsOutcome}
use Rattle.nego_model.specs.Occurring.{PlainMarking, leaves, opening_marking}
use Rattle.nego_model.specs.Diagram.{PlainDiagram, IsDiagram, negotiation_of, relation_of, parties_of}
use Rattle.nego_model.proofs.diagrams.Negotiations.{atom-below}
use Rattle.nego_model.proofs.occurrence.Steps.{after-outcome, leaves-first}
use Rattle.agent_msg.specs.Records.{Share, PlainRecord, Moved, Decided}
use Rattle.agent_core.specs.Agents.{PlainAgent, IsValid, IsStep, left_by}
use Rattle.agent_core.specs.Consistency.{IsConsistent}
use Rattle.agent_core.specs.Worlds.{PlainWorld}
use Rattle.agent_core.proofs.Numbers.{outcome-below}
use Rattle.world_text.specs.Named.{IsNamedStep, IsNamedEntry, IsNamedRecord}

module _ (diagram : PlainDiagram) (ok : IsDiagram diagram) where
  step_named : (n o : ℕ) → IsOutcome (negotiation_of diagram) n o → IsNamedStep diagram n o
  step_named n o h = record { atom = atom-below diagram n h.0; outcome = outcome-below diagram n o h.1 }

  entries_named : (entries : List model.Entry) (from to : PlainMarking) (d : ℕ) → d < data_count diagram.sizes → leaves (negotiation_of diagram) from (steps_of entries) ≡ Some to → AreRelated (By (relation_of diagram)) d entries →
      All (IsNamedEntry diagram) entries
  entries_named [] from to d below leads related = All-nil (IsNamedEntry diagram)
  entries_named (entry ∷ entries) from to d below leads related =
      let k = leaves-first (negotiation_of diagram) from entry.step (steps_of entries) to leads in
      let outcome = after-outcome (negotiation_of diagram) from entry.step k.0 k.1 in
      let next : entry.joint < data_count diagram.sizes = (ok.local entry.step.0 entry.step.1 outcome).stays d entry.joint below related.0 in
      All-cons (IsNamedEntry diagram) entry entries (record { step = step_named entry.step.0 entry.step.1 outcome; joint = next }) (entries_named entries k.0 to entry.joint next k.2 related.1)

  pub history_named : (world : PlainWorld) → IsConsistent diagram world → All (IsNamedEntry diagram) world.history
  history_named world was = by_run (leaves (negotiation_of diagram) (opening_marking (negotiation_of diagram)) (steps_of world.history)) refl was.journals.run.run
    where
      by_run : (o : Option PlainMarking) → leaves (negotiation_of diagram) (opening_marking (negotiation_of diagram)) (steps_of world.history) ≡ o → IsSome o → All (IsNamedEntry diagram) world.history
      by_run None e some = absurd cc
      by_run (Some to) e some = entries_named world.history (opening_marking (negotiation_of diagram)) to world.start was.start e was.journals.run.related

  -- ---- the records of an agent

  shares_named : (n : ℕ) (shares : List Share) → IsTrue (is_in n (negotiation_of diagram).atoms) → map (λ s. s.agent) shares ≡ parties_of diagram n → All (λ share. share.agent < length diagram.agents) shares
  shares_named n shares atom parties k e within =
      let share = get_or shares k e in
      let there : get_or (map (λ (s : Share). s.agent) shares) k share.agent ≡ share.agent = get_or-map (λ (s : Share). s.agent) shares k e share.agent within in
      let inside : k < length (map (λ (s : Share). s.agent) shares) = omega (arith, within, length-map shares (λ (s : Share). s.agent)) in
      ok.form.party_below n share.agent atom (subst (λ ps. is_in share.agent ps ≡ true) parties (member-Contains share.agent (map (λ (s : Share). s.agent) shares) (k, inside, there)))

  record_named : (agent : PlainAgent) (r : PlainRecord) → IsStep diagram agent r → IsNamedRecord diagram r
  record_named agent (Moved n o after) s = step_named n o s.outcome
  record_named agent (Decided n o shares) s = (step_named n o s.outcome, shares_named n shares s.outcome.0 s.parties)

  pub records_named : (agent : PlainAgent) → IsValid diagram agent → All (IsNamedRecord diagram) agent.records
  records_named agent valid k e within =
      record_named (left_by diagram agent.id agent.start (take k agent.records)) (get_or agent.records k e) (valid.steps k (get_or agent.records k e) (slice_get-get_or agent.records k e within))
