use Rattle.std.proofs.Common.{◌∙◌, ◌++◌, length, ap, subst}
use Rattle.nego_base.specs.Appending.{Appends}
use Rattle.nego_cli.specs.Verdict.{verdict_line}
use Rattle.nego_cli.proofs.certificate.print_verdict.Goals as goal

pub returns : goal.returns
returns c rest =
    let line : Appends c.in_ok-text.text c.add_line.new.text (verdict_line c.args.verdict (length c.args.uses.now)) =
    subst (λ n. Appends c.in_ok-text.text c.add_line.new.text (verdict_line c.args.verdict n)) c.len.ensures c.in_ok-add_line.ensures in
    line rest ∙ ap (λ t. t ++ verdict_line c.args.verdict (length c.args.uses.now) rest) c.in_ok-text.ensures
