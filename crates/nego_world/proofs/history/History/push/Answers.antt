use Rattle.std.proofs.Common.{◌++◌, ◌∷◌, [], ap, ◌∙◌}
use Rattle.nego_base.specs.declared.ids.AtomId.{AtomId}
use Rattle.nego_base.specs.declared.ids.OutcomeId.{OutcomeId}
use Rattle.nego_world.specs.WorldView.{entries_of}
use Rattle.nego_world.proofs.Entries.{entries-push}
use Rattle.nego_world.proofs.history.History.push.Goals as goal

pub returns-in-Ok-clause-ok : goal.returns-in-Ok-clause-ok
returns-in-Ok-clause-ok c =
    let step : AtomId × OutcomeId = (c.args.n, c.args.o) in
    ap (λ steps. entries_of steps c.push-2.new.self) c.in_ok-push.ensures.ok
    ∙ (ap (λ joints. entries_of (c.self.inside.steps ++ step ∷ []) joints) c.in-Ok.ensures.ok
    ∙ (entries-push c.self.inside.steps c.self.inside.joints step c.args.joint c.self.invariant ∙ ap (λ h. h.entries ++ record { step = (c.args.n.0, c.args.o.0); joint = c.args.joint } ∷ []) c.self.view_is))
