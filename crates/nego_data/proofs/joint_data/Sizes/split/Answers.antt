use Rattle.std.proofs.Common.{◌<◌, sym, subst, ap, ◌∙◌}
use Rattle.nego_data.specs.Data.{data_count}
use Rattle.nego_data.specs.Sizes.{AreBelow, tuple_of}
use Rattle.nego_data.proofs.Tuples.{tuple_of-below}
use Rattle.nego_data.proofs.KeptSizes.{kept_split_none, kept_split_more, kept_split_all}
use Rattle.nego_data.proofs.joint_data.Sizes.split.Goals as goal

pub loop-a-init : goal.loop-a-init
loop-a-init c =
    kept_split_none c.self.inside c.args.d c.self.invariant (subst (λ sizes. c.args.d < data_count sizes) (sym c.self.view_is) c.requires)

pub loop-a-preserved : goal.loop-a-preserved
loop-a-preserved c =
    kept_split_more c.self.inside c.args.d c.self.invariant c.loop-a.tuple c.loop-a.a c.loop-a.rest c.loop-a-test.true c.loop-a.auto.a c.loop-a.invariant

pub returns-clause-value : goal.returns-clause-value
returns-clause-value c =
    kept_split_all c.self.inside c.args.d c.self.invariant c.loop-a.tuple c.loop-a.a c.loop-a.rest c.loop-a-test.false c.loop-a.invariant
    ∙ ap (λ sizes. tuple_of sizes c.args.d) c.self.view_is

pub returns-clause-in_range : goal.returns-clause-in_range
returns-clause-in_range c =
    let e = kept_split_all c.self.inside c.args.d c.self.invariant c.loop-a.tuple c.loop-a.a c.loop-a.rest c.loop-a-test.false c.loop-a.invariant
    ∙ ap (λ sizes. tuple_of sizes c.args.d) c.self.view_is in
    subst (AreBelow c.args.self.now) (sym e) (tuple_of-below c.args.self.now c.args.d c.requires)
