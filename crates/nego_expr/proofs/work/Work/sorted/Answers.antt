use Rattle.std.proofs.Common.{map, sym, subst}
use Rattle.nego_expr.specs.Sorted.{AreSlotsOf}
use Rattle.nego_expr.specs.WorkView.{plain_outcome}
use Rattle.nego_expr.proofs.work.Work.sorted.Goals as goal

pub returns : goal.returns
returns c = rw (← c.self.view_is) (record {
  same = subst (AreSlotsOf (map plain_outcome c.self.inside.outcomes.items)) (sym c.as_slice.ensures.items) c.self.invariant.sorted;
  rise = c.as_slice.ensures.rise;
})
