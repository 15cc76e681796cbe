use Rattle.std.proofs.Common.{sym, subst}
use Rattle.nego_cli.specs.Certificate.{reduced_text}
use Rattle.nego_cli.specs.Verdict.{verdict_status}
use Rattle.nego_cli.specs.Reduce.{IsReductionText}
use Rattle.nego_cli.proofs.Verdicts.{reduction_told}
use Rattle.nego_cli.proofs.reduce.reduce.Goals as goal

pub returns-clause-ok : goal.returns-clause-ok
returns-clause-ok g c =
    let diagram = c.in_ok-diagram.diagram in
    let r = c.in_ok-reduced.reduced in
    let verdict = c.in_ok-reduced.verdict in
    let text = c.in_ok-text.text in
    let told : IsReductionText diagram (verdict_status verdict) (reduced_text diagram r verdict) = reduction_told diagram r verdict c.in_ok-reduced.ensures in
    subst (λ d. IsReductionText d c.status.result text) c.in_ok-diagram.ensures.same
    (subst (λ s. IsReductionText diagram s text) (sym c.status.ensures) (subst (IsReductionText diagram (verdict_status verdict)) (sym c.in_ok-text.ensures) told))
