use Rattle.std.proofs.Common.{sym, ap, ◌∙◌}
use Rattle.nego_model.specs.Joining.{joint_after}
use Rattle.nego_world.proofs.Entries.{last-entry, no-entry}
use Rattle.nego_world.proofs.history.History.joint.Goals as goal

pub returns-in-Some : goal.returns-in-Some
returns-in-Some c = sym (last-entry c.self.inside.start c.self.inside.steps c.self.inside.joints c.in-Some.joint.now c.self.invariant (sym c.in-Some.ensures)) ∙ ap (λ h. joint_after h.start h.entries) c.self.view_is

pub returns-in-None : goal.returns-in-None
returns-in-None c = sym (no-entry c.self.inside.start c.self.inside.steps c.self.inside.joints c.self.invariant (sym c.in-None.ensures)) ∙ ap (λ h. joint_after h.start h.entries) c.self.view_is
