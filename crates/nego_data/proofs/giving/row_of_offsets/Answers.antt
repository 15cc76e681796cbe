use Rattle.std.proofs.Common.{◌∙◌, ◌||◌, ◌&&◌, ◌==◌, ap, arith}
use Rattle.nego_data.specs.Sizes.{tuple_of}
use Rattle.nego_data.specs.Given.{is_offset}
use Rattle.nego_data.proofs.Additions.{value-at, length-values}
use Rattle.nego_data.proofs.BitRows.{one_more}
use Rattle.nego_data.proofs.giving.row_of_offsets.Goals as goal

pub loop-o-preserved : goal.loop-o-preserved
loop-o-preserved c e =
    let o = c.loop-o.o in
    c.insert_where.ensures e
    ∙ ap (λ b. b || (e == o && c.is_offset.result)) (c.loop-o.invariant e)
    ∙ one_more (λ n. is_offset c.args.free (tuple_of c.args.sizes.now n)) o e c.is_offset.result
    (c.is_offset.ensures ∙ ap (is_offset c.args.free) (value-at c.args.sizes.now c.args.values.now o c.requires (omega (arith, c.loop-o-test.true, c.all-o-end.ensures.value))))

pub bounds-values-o : goal.bounds-values-o
bounds-values-o c = omega (arith, c.loop-o-test.true, c.all-o-end.ensures.value, length-values c.args.sizes.now c.args.values.now c.requires)
