use Rattle.std.proofs.Common.{◌==◌, sym, ap}
use Rattle.nego_expr.proofs.Counting.{zeros}
use Rattle.nego_expr.proofs.counts.Counts.none.Goals as goal

pub invariant_of-result : goal.invariant_of-result
invariant_of-result c = rw c.none.ensures.value (λ m. sym (ap (λ k. k == 1) (zeros 64 m)))

pub returns : goal.returns
returns c = λ m. zeros 64 m
