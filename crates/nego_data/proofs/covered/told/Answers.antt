use Rattle.std.proofs.Common.{◌∙◌, ℕ, Bool, ◌||◌, ◌&&◌, ◌==◌, ap, arith}
use Rattle.nego_data.specs.Sizes.{tuple_of}
use Rattle.nego_data.specs.Cases.{test_holds}
use Rattle.nego_data.proofs.Additions.{value-at, length-values}
use Rattle.nego_data.proofs.BitRows.{one_more}
use Rattle.nego_data.proofs.covered.told.Goals as goal

pub loop-d-preserved : goal.loop-d-preserved
loop-d-preserved c e =
    let d = c.loop-d.d in
    let test : ℕ → Bool = λ n. test_holds c.args.test.now (tuple_of c.args.sizes.now n) in
    c.insert_where.ensures e
    ∙ ap (λ b. b || (e == d && c.test_holds.result)) (c.loop-d.invariant e)
    ∙ one_more test d e c.test_holds.result
    (c.test_holds.ensures ∙ ap (test_holds c.args.test.now) (value-at c.args.sizes.now c.args.values.now d c.requires.values (omega (arith, c.loop-d-test.true, c.all-d-end.ensures.value))))

pub bounds-values-d : goal.bounds-values-d
bounds-values-d c = omega (arith, c.loop-d-test.true, c.all-d-end.ensures.value, length-values c.args.sizes.now c.args.values.now c.requires.values)
