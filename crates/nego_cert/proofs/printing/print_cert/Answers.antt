use Rattle.std.proofs.Common.{◌∙◌, ◌++◌, map, ap, subst}
use Rattle.std.specs.Prelude.{codes}
use Rattle.nego_base.specs.Appending.{Appends}
use Rattle.nego_expr.specs.UseView.{plain_use}
use Rattle.nego_cert.specs.CertificateText.{use_lines}
use Rattle.nego_cert.proofs.printing.print_cert.Goals as goal

pub returns : goal.returns
returns c =
    let uses = map plain_use c.args.uses.now in
    let lines : Appends c.in_ok-text.text c.add_uses.new.text (use_lines uses) = subst (λ us. Appends c.in_ok-text.text c.add_uses.new.text (use_lines (map plain_use us))) c.as_slice.ensures c.in_ok-add_uses.ensures in
    c.in_ok-extend_from_slice.ensures.ok ∙ (lines (codes "end\n") ∙ ap (λ t. t ++ use_lines uses (codes "end\n")) c.in_ok-text.ensures)
