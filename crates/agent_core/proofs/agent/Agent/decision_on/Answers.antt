use Rattle.std.proofs.Common.{◌∙◌, ◌==◌, find, sym, ap}
use Rattle.std.specs.Option.{option_map}
use Rattle.agent_msg.specs.Records.{entry}
use Rattle.agent_core.specs.Acts.{has_visit}
use Rattle.agent_core.proofs.Shares.{find-map}
use Rattle.agent_core.proofs.agent.Agent.decision_on.Goals as goal

pub returns : goal.returns
returns c =
    let test = has_visit c.args.ready.now.from.0 (λ v. v == c.args.ready.now.visit) in
    ap (option_map entry) c.first_met.ensures ∙ (sym (find-map entry test c.records.result.now) ∙ ap (find test) c.records.ensures)
