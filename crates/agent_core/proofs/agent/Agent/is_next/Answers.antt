use Rattle.std.proofs.Common.{◌≡◌, ◌∙◌, sym, Some, rules}
use Rattle.nego_model.proofs.diagrams.Negotiations.{atom_from_below}
use Rattle.agent_core.proofs.agent.Agent.is_next.Goals as goal

pub returns-then-eq : goal.returns-then-eq
returns-then-eq c =
    let at : c.args.self.now.plain.at ≡ Some c.args.n.0 = search rules in (
      λ h. (at, (atom_from_below c.args.d.now c.args.n.0 (c.is_outcome.ensures.atom h), sym c.is_outcome.ensures.value ∙ h)),
      λ h. c.is_outcome.ensures.value ∙ h.1.1,
    )
