use Rattle.std.proofs.Common.{◌≡◌, ◌∙◌, [], Err, IfErr, refl, sym, ap, subst}
use Rattle.std.proofs.lemmas.Result.{err_from_is_err_and}
use Rattle.nego_model.specs.Negotiation.{IsDeterministic}
use Rattle.nego_model.specs.Diagram.{negotiation_of}
use Rattle.nego_cli.specs.Dispatch.{HasNoText}
use Rattle.nego_cli.specs.Make.{MakeTurn}
use Rattle.nego_cli.proofs.MadeAnswers.{no_refusal, made_told}
use Rattle.nego_cli.proofs.make.make.Goals as goal

pub returns-in_err-diagram-clause-err : goal.returns-in_err-diagram-clause-err
returns-in_err-diagram-clause-err g c =
    let d = c.in_ok-shaped.field-0 in
    let why = c.in_err-diagram.field-0.0 in
    let p = err_from_is_err_and c.from_residual-in_err-diagram.result c.from_residual-in_err-diagram.ensures.1 in
    let determined : IsDeterministic (negotiation_of d) = subst (λ x. IsDeterministic (negotiation_of x)) (sym c.in_ok-shaped.ensures.content) c.in_ok-made.ensures.deterministic in
    let nothing : HasNoText MakeTurn [] why = no_refusal d why c.in_ok-shaped.ensures.diagram determined c.in_err-diagram.ensures.err in
    subst (λ r. IfErr r (HasNoText MakeTurn [])) (sym (p.1 ∙ ap Err p.2)) nothing

pub returns-clause-ok : goal.returns-clause-ok
returns-clause-ok g c =
    let made = c.in_ok-made.made in (
      refl,
      made_told c.args.n made c.in_ok-diagram.diagram c.in_ok-reduced.reduced c.in_ok-reduced.field-0-1 c.in_ok-text.text c.add_line.new.text c.in_ok-made.ensures.content
          (c.in_ok-diagram.ensures.same ∙ c.in_ok-shaped.ensures.content) c.in_ok-reduced.ensures c.in_ok-made.ensures.acyclic c.in_ok-made.ensures.sound c.in_ok-text.ensures.text c.in_ok-add_line.ensures,
    )
