use Rattle.std.proofs.Common.{sym, ap, ◌∙◌}
use Rattle.nego_model.specs.Joining.{steps_of}
use Rattle.nego_world.proofs.Entries.{steps-entries}
use Rattle.nego_world.proofs.history.History.steps.Goals as goal

pub returns : goal.returns
returns c = sym (steps-entries c.self.inside.steps c.self.inside.joints c.self.invariant) ∙ ap (λ h. steps_of h.entries) c.self.view_is
