use Rattle.std.proofs.Common.{◌≡◌, ◌∙◌, [], ◌++◌, length, map, ⊎_elim, ap, sym, subst, append-nil}
use Rattle.nego_expr.specs.UseView.{plain_use}
use Rattle.nego_reduce.specs.declared.reduced.Reduced.{Reduced}
use Rattle.nego_cli.specs.Verdict.{verdict_line}
use Rattle.nego_cert.specs.CertificateText.{certificate_text}
use Rattle.nego_cli.specs.Certificate.{left_lines, reduced_text}
use Rattle.nego_cli.proofs.CertificateLines.{printed}
use Rattle.nego_cli.proofs.certificate.print_reduction.Goals as goal

pub returns-in_ok-add_left-in-Stuck : goal.returns-in_ok-add_left-in-Stuck
returns-in_ok-add_left-in-Stuck c =
    let d = c.args.d.now in
    let text = c.in_ok-text-in-Stuck.text in
    let whole = c.add_left.new.text in
    let said = left_lines d (map (λ atom. atom.number) c.in-Stuck.left.plain.atoms) [] in
    let lines : whole ≡ text ++ said = sym (append-nil whole) ∙ (c.in_ok-add_left-in-Stuck.ensures [] ∙ ap (λ atoms. text ++ left_lines d atoms []) c.left.ensures) in
    let told : whole ≡ certificate_text (map plain_use c.in-Stuck.uses) ++ verdict_line c.args.verdict (length (map plain_use c.in-Stuck.uses)) said = printed c.in-Stuck.uses c.args.verdict text whole said c.in_ok-text-in-Stuck.ensures lines in
    let P : Reduced → Type 0 = λ r. whole ≡ reduced_text d r c.args.verdict in
    ⊎_elim (λ is. subst P (sym is) told) (λ is. subst P (sym is) told) c.in-Stuck.is
