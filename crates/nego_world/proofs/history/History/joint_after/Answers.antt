use Rattle.std.proofs.Common.{length, sym, ap, ◌∙◌, arith}
use Rattle.std.specs.Option.{option_map}
use Rattle.std.specs.Prelude.{slice_get}
use Rattle.nego_world.proofs.Entries.{length-entries, joint-entries}
use Rattle.nego_world.proofs.history.History.joint_after.Goals as goal

pub index-requires : goal.index-requires
index-requires c =
    omega (arith, c.requires, ap (λ h. length h.entries) c.self.view_is, length-entries c.self.inside.steps c.self.inside.joints c.self.invariant)

pub returns : goal.returns
returns c =
    ap (λ h. option_map (λ e. e.joint) (slice_get h.entries c.args.i)) (sym c.self.view_is)
    ∙ joint-entries c.self.inside.steps c.self.inside.joints c.args.i c.index.result.now c.self.invariant c.index.ensures
