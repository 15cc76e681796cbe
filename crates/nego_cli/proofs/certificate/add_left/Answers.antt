use Rattle.std.proofs.Common.{◌∙◌, ◌+◌, ℕ, List, subst, sym}
use Rattle.std.specs.List.{range_with_len}
use Rattle.nego_base.specs.Appending.{Appends}
use Rattle.nego_cli.specs.Certificate.{left_among}
use Rattle.nego_cli.proofs.CertificateLines.{left_added, left_skipped}
use Rattle.nego_cli.proofs.certificate.add_left.Goals as goal
use Rattle.nego_cli.proofs.certificate.add_left.Goals.{then-has+in_ok-add_atom, else-has}

pub loop-n-preserved : goal.loop-n-preserved
loop-n-preserved c =
    let P : List ℕ → Type 0 = λ t. Appends c.args.text.now t (left_among c.args.d.now c.args.left (range_with_len 0 (c.loop-n.n + 1))) in
    elim c.if-has.branch [
      | then-has+in_ok-add_atom w ↦
          subst P (sym w.text-is)
          (left_added c.args.d.now c.args.left c.args.text.now c.loop-n.text w.add_atom.new.text c.loop-n.n c.loop-n.invariant (sym c.has.ensures.value ∙ w.if-has.true) w.in_ok-add_atom.ensures)
      | else-has w ↦ subst P (sym w.text-is) (left_skipped c.args.d.now c.args.left c.args.text.now c.loop-n.text c.loop-n.n c.loop-n.invariant (sym c.has.ensures.value ∙ w.if-has.false))
    ]
