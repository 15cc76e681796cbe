use Rattle.std.proofs.Common.{take}
use Rattle.nego_expr.specs.Work.{IsWork}
use Rattle.nego_expr.specs.Lead.{Lead, Allowed}
use Rattle.nego_cert.specs.Replay.{uses_on}
use Rattle.nego_cert.proofs.replaying.make_all.Given as goal

-- the uses so far lead to the work
abbrev pub invariant-loop-line : goal.invariant-loop-line
invariant-loop-line l = Lead Allowed l.initial.work.plain (uses_on (take l.line-index l.lines)) l.work.plain × IsWork l.work.plain
