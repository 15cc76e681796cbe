use Rattle.std.proofs.Common.{sym, subst}
use Rattle.agent_core.specs.Agents.{IsValid}
use Rattle.agent_core.proofs.Valid.{valid-dropped}
use Rattle.agent_core.proofs.agent.Agent.decide.Goals as goal

pub returns-clause-valid : goal.returns-clause-valid
returns-clause-valid c =
    subst (λ g. IsValid c.args.d.now g) (sym c.drop_from.ensures.agent) (valid-dropped c.args.d.now c.record.new.self.plain c.parties.result c.record.ensures.valid)
