use Rattle.std.proofs.Common.{◌≡◌, ◌<◌, length, sym, subst, ap, ◌∙◌, arith}
use Rattle.std.proofs.lemmas.Option.{slice_get_within}
use Rattle.std.proofs.lemmas.Grind.{common_steps}
use Rattle.std.specs.List.{All}
use Rattle.nego_base.proofs.ListLaws.{All-at}
use Rattle.agent_msg.specs.Records.{PlainRecord, Moved, Decided, entry}
use Rattle.nego_model.specs.Diagram.{PlainDiagram, nexts_of}
use Rattle.nego_model.proofs.diagrams.Negotiations.{outcome_at}
use Rattle.agent_core.specs.Agents.{PlainAgent, record_outcome, IsStep, IsValid}
use Rattle.agent_core.proofs.Valid.{valid-recorded}
use Rattle.agent_core.proofs.agent.Agent.record.Goals as goal

-- the outcome of a step is one of the diagram's
outcome-below : (diagram : PlainDiagram) (agent : PlainAgent) (r : PlainRecord) → IsStep diagram agent r → record_outcome r < length diagram.outcomes
outcome-below diagram agent (Moved n o after) s = let at = outcome_at diagram n o s.outcome in slice_get_within diagram.outcomes o at.outcome at.at
outcome-below diagram agent (Decided n o shares) s = let at = outcome_at diagram n o s.outcome in slice_get_within diagram.outcomes o at.outcome at.at

pub nexts-requires-clause-outcome : goal.nexts-requires-clause-outcome
nexts-requires-clause-outcome c =
    subst (λ o. o < length c.args.d.now.outcomes) (sym c.outcome_of.ensures) (outcome-below c.args.d.now c.args.self.now.plain (entry c.args.r.now) c.requires.step)

pub returns-clause-agent : goal.returns-clause-agent
returns-clause-agent c = grind (arith, common_steps)

pub returns-clause-valid : goal.returns-clause-valid
returns-clause-valid c =
    let d = c.args.d.now in
    let nexts : c.nexts.result ≡ nexts_of d (record_outcome (entry c.args.r.now)) c.args.self.now.plain.id =
    c.nexts.ensures.value ∙ (ap (λ o. nexts_of d o c.self.inside.id.0) c.outcome_of.ensures ∙ ap (λ s. nexts_of d (record_outcome (entry c.args.r.now)) s.plain.id) c.self.view_is) in
    let below : All (λ n. n < length d.atoms) (nexts_of d (record_outcome (entry c.args.r.now)) c.args.self.now.plain.id) = subst (λ xs. All (λ n. n < length d.atoms) xs) nexts c.nexts.ensures.in_range in
    subst (λ g. IsValid d g) (sym (returns-clause-agent c))
    (valid-recorded d c.args.self.now.plain (entry c.args.r.now) c.requires.valid c.requires.step (λ n at. All-at (λ m. m < length d.atoms) (nexts_of d (record_outcome (entry c.args.r.now)) c.args.self.now.plain.id) 0 n below at))
