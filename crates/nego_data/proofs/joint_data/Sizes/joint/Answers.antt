use Rattle.std.proofs.Common.{◌<◌, sym, subst, ap, ◌∙◌, arith}
use Rattle.nego_data.specs.Data.{data_count, joint}
use Rattle.nego_data.specs.Sizes.{AreBelow}
use Rattle.nego_data.specs.Kept.{sizes_kept}
use Rattle.nego_data.proofs.KeptSizes.{kept_number_fits, kept_number_more, kept_number_all, kept_number_below}
use Rattle.nego_data.proofs.joint_data.Sizes.joint.Goals as goal

pub overflow_mul-d : goal.overflow_mul-d
overflow_mul-d c =
    let below = subst (λ sizes. AreBelow sizes c.args.tuple.now) (sym c.self.view_is) c.requires in
    let small = kept_number_fits c.self.inside c.args.tuple.now c.self.invariant c.told-tuple c.loop-a.a c.loop-a.d below c.loop-a-test.true c.loop-a.invariant in
    omega (arith, small)

pub overflow_add-d : goal.overflow_add-d
overflow_add-d c =
    let below = subst (λ sizes. AreBelow sizes c.args.tuple.now) (sym c.self.view_is) c.requires in
    let small = kept_number_fits c.self.inside c.args.tuple.now c.self.invariant c.told-tuple c.loop-a.a c.loop-a.d below c.loop-a-test.true c.loop-a.invariant in
    omega (arith, small)

pub loop-a-preserved : goal.loop-a-preserved
loop-a-preserved c = kept_number_more c.self.inside c.args.tuple.now c.self.invariant c.told-tuple c.loop-a.a c.loop-a.d c.loop-a-test.true c.loop-a.invariant

pub returns-clause-value : goal.returns-clause-value
returns-clause-value c =
    kept_number_all c.self.inside c.args.tuple.now c.self.invariant c.told-tuple c.loop-a.a c.loop-a.d c.loop-a-test.false c.loop-a.invariant
    ∙ ap (λ sizes. joint sizes c.args.tuple.now) c.self.view_is

pub returns-clause-in_range : goal.returns-clause-in_range
returns-clause-in_range c =
    let below = subst (λ sizes. AreBelow sizes c.args.tuple.now) (sym c.self.view_is) c.requires in
    let whole = kept_number_all c.self.inside c.args.tuple.now c.self.invariant c.told-tuple c.loop-a.a c.loop-a.d c.loop-a-test.false c.loop-a.invariant in
    subst (λ sizes. c.loop-a.d < data_count sizes) c.self.view_is
    (subst (λ n. n < data_count (sizes_kept c.self.inside)) (sym whole) (kept_number_below c.self.inside c.args.tuple.now c.self.invariant c.told-tuple below))
