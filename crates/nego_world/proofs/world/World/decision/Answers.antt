use Rattle.std.proofs.Common.{refl, sym, ap, subst, ◌∙◌}
use Rattle.agent_msg.specs.Records.{entry}
use Rattle.agent_core.specs.Agents.{IsStep, IsValid}
use Rattle.agent_core.specs.Deciding.{Finished, NotLeader, Waits, decided}
use Rattle.nego_world.proofs.Acting.{agent-there, refused-decision}
use Rattle.nego_world.proofs.Agents.{valid-each}
use Rattle.nego_world.proofs.world.World.decision.Goals as goal

pub would_decide-requires-clause-valid : goal.would_decide-requires-clause-valid
would_decide-requires-clause-valid c =
    let d = c.args.d.now in
    let now = c.args.self.now in
    let a = c.args.a.0 in
    subst (λ g. IsValid d g) (agent-there d now a c.agent.result.now.plain c.agent.ensures) (valid-each d c.requires.diagram c.requires.deterministic now c.requires.consistent a c.requires.known)

pub returns-in-Done-clause-ok : goal.returns-in-Done-clause-ok
returns-in-Done-clause-ok c = ap (λ g. decided c.args.d.now g c.args.c) (agent-there c.args.d.now c.args.self.now c.args.a.0 c.agent.result.now.plain c.agent.ensures) ∙ sym c.in-Done.ensures.answer

pub returns-in-Done-clause-step : goal.returns-in-Done-clause-step
returns-in-Done-clause-step c =
    subst (λ g. IsStep c.args.d.now g (entry c.in-Done.r)) (sym (agent-there c.args.d.now c.args.self.now c.args.a.0 c.agent.result.now.plain c.agent.ensures)) (c.in-Done.ensures.step (entry c.in-Done.r) refl)

pub returns-in-Finished-clause-err : goal.returns-in-Finished-clause-err
returns-in-Finished-clause-err c = λ ending.
    refused-decision c.args.d.now c.args.self.now c.args.a.0 c.args.c ending Finished
    (ap (λ g. decided c.args.d.now g c.args.c) (agent-there c.args.d.now c.args.self.now c.args.a.0 c.agent.result.now.plain c.agent.ensures) ∙ sym c.in-Finished.ensures.answer)

pub returns-in-NotLeader-clause-err : goal.returns-in-NotLeader-clause-err
returns-in-NotLeader-clause-err c = λ ending.
    refused-decision c.args.d.now c.args.self.now c.args.a.0 c.args.c ending NotLeader
    (ap (λ g. decided c.args.d.now g c.args.c) (agent-there c.args.d.now c.args.self.now c.args.a.0 c.agent.result.now.plain c.agent.ensures) ∙ sym c.in-NotLeader.ensures.answer)

pub returns-in-Waits-clause-err : goal.returns-in-Waits-clause-err
returns-in-Waits-clause-err c = λ ending.
    refused-decision c.args.d.now c.args.self.now c.args.a.0 c.args.c ending (Waits c.in-Waits.p.0)
    (ap (λ g. decided c.args.d.now g c.args.c) (agent-there c.args.d.now c.args.self.now c.args.a.0 c.agent.result.now.plain c.agent.ensures) ∙ sym c.in-Waits.ensures.answer)
