use Rattle.std.proofs.Common.{refl, sym, subst}
use Rattle.nego_reduce.specs.Reducing.{uses_of}
use Rattle.nego_cli.specs.Verdict.{verdict_status}
use Rattle.nego_cli.specs.Ask.{IsAskText}
use Rattle.nego_cli.proofs.ask.ask.Goals as goal

pub returns-clause-ok : goal.returns-clause-ok
returns-clause-ok g c =
    let diagram = c.in_ok-diagram.diagram in
    let values = c.args.values.now in
    let verdict = c.in_ok-reduced.verdict in
    let text = c.in_ok-text.text in
    let told : IsAskText values diagram (verdict_status verdict) text = record {
      uses = uses_of c.in_ok-reduced.reduced;
      left = c.in_ok-reduced.ensures.left;
      verdict = verdict;
      start = c.in-Ok.start;
      reduced = c.in_ok-reduced.ensures.reduced;
      status_is = refl;
      starts = c.in-Ok.ensures.at;
      answers = c.in_ok-text.ensures;
    } in
    subst (λ d. IsAskText values d c.status.result text) c.in_ok-diagram.ensures.same (subst (λ s. IsAskText values diagram s text) (sym c.status.ensures) told)
