use Rattle.std.proofs.Common.{◌≡◌, take, drop, slice_get}
use Rattle.nego_base.specs.Firsts.{first_numbered}
use Rattle.nego_shape.specs.Faults.{twice_in_out}
use Rattle.nego_shape.proofs.checks.twice.twice_in_outs.Given as goal

abbrev pub invariant-loop-i : goal.invariant-loop-i
invariant-loop-i l =
    first_numbered (λ i out. slice_get (twice_in_out (take i l.outs) out) 0) l.i (drop l.i l.outs) ≡ first_numbered (λ i out. slice_get (twice_in_out (take i l.outs) out) 0) 0 l.outs
