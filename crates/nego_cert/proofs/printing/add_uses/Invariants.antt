use Rattle.std.proofs.Common.{map, take}
use Rattle.nego_base.specs.Appending.{Appends}
use Rattle.nego_cert.specs.CertificateText.{use_lines}
use Rattle.nego_expr.specs.UseView.{plain_use}
use Rattle.nego_cert.proofs.printing.add_uses.Given as goal

-- the lines of the uses so far
abbrev pub invariant-loop-u : goal.invariant-loop-u
invariant-loop-u l = Appends l.initial.text l.text (use_lines (map plain_use (take l.u-index l.uses)))
