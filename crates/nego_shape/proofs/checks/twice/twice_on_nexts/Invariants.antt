use Rattle.std.proofs.Common.{◌≡◌, drop, take, slice_get}
use Rattle.nego_base.specs.Firsts.{first_numbered}
use Rattle.nego_reader.specs.declared.parsed.PNext.{PNext}
use Rattle.nego_shape.specs.Faults.{sent_again}
use Rattle.nego_shape.proofs.checks.twice.twice_on_nexts.Given as goal

abbrev pub invariant-loop-i : goal.invariant-loop-i
invariant-loop-i l =
    let find : _ → PNext → _ = λ k next. slice_get (sent_again (take k l.nexts) next) 0 in
    first_numbered find l.i (drop l.i l.nexts) ≡ first_numbered find 0 l.nexts
