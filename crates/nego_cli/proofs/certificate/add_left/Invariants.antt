use Rattle.std.specs.List.{range_with_len}
use Rattle.nego_base.specs.Appending.{Appends}
use Rattle.nego_cli.specs.Certificate.{left_among}
use Rattle.nego_cli.proofs.certificate.add_left.Given as goal

-- the lines of the atoms so far
abbrev pub invariant-loop-n : goal.invariant-loop-n
invariant-loop-n l = Appends l.initial.text l.text (left_among l.d l.left (range_with_len 0 l.n))
