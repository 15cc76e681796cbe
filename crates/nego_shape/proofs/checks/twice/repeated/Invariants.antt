use Rattle.std.proofs.Common.{◌≡◌, take, drop, slice_get}
use Rattle.nego_shape.specs.Faults.{numbered, again, repeated}
use Rattle.nego_shape.proofs.checks.twice.repeated.Given as goal

abbrev pub invariant-loop-i : goal.invariant-loop-i
invariant-loop-i g l = slice_get (numbered (λ i item. again g.T.Named.name_of (take i l.items) item) l.i (drop l.i l.items)) 0 ≡ slice_get (repeated g.T.Named.name_of l.items) 0
