use Rattle.std.proofs.Common.{◌+◌, ◌-◌, length}
use Rattle.nego_io.proofs.ReadLaws.{HasTaken}
use Rattle.nego_io.proofs.part.read_part.Given as goal

abbrev pub invariant-loop-front : goal.invariant-loop-front
invariant-loop-front g l =
    HasTaken (g.S.Source.left l.initial.source) (g.S.Source.left l.source) l.front.bytes l.front.line_start l.front.lines l.limit (g.S.Source.faults l.initial.source) (g.S.Source.faults l.source)

abbrev pub decreases-loop-front : goal.decreases-loop-front
decreases-loop-front g l = l.limit + 1 - length l.front.bytes
