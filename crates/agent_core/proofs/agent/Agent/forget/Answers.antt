use Rattle.std.proofs.Common.{sym, subst}
use Rattle.agent_core.specs.Agents.{IsValid}
use Rattle.agent_core.specs.Views.{roomy_agent}
use Rattle.agent_core.proofs.Valid.{valid-forgot}
use Rattle.agent_core.proofs.agent.Agent.forget.Goals as goal

pub returns-clause-valid : goal.returns-clause-valid
returns-clause-valid c = λ d ok. valid-forgot d (roomy_agent c.self.inside).plain (subst (λ g. IsValid d g.plain) (sym c.self.view_is) ok)
