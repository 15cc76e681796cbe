use Rattle.std.proofs.Common.{◌++◌, sym, subst}
use Rattle.std.specs.Prelude.{OnOk, codes}
use Rattle.nego_base.specs.Appending.{Appends}
use Rattle.nego_expr.proofs.Printing.{appends_then}
use Rattle.nego_cli.specs.Refusals.{choice_words, refusal_words}
use Rattle.nego_cli.proofs.NamedPlaces.{then_ok, appends_words}
use Rattle.nego_cli.proofs.refusal_text.add_refusal.Goals as goal

pub returns-in_ok-extend_from_slice-in-Undetermined : goal.returns-in_ok-extend_from_slice-in-Undetermined
returns-in_ok-extend_from_slice-in-Undetermined c =
    let old = c.args.text.now in
    let mid = c.extend_from_slice-in-Undetermined.new.self in
    let new = c.add_choice.new.text in
    let r = c.add_choice.result in
    let words = codes "NotDeterministic " in
    let choice = choice_words c.in-Undetermined.d c.in-Undetermined.o.0 c.in-Undetermined.a.0 in
    subst (λ why. OnOk r (Appends old new (refusal_words why))) (sym c.in-Undetermined.is)
    (then_ok r (Appends mid new choice) (Appends old new (λ rest. words ++ choice rest))
    (appends_then old mid new (λ rest. words ++ rest) choice (appends_words old mid words c.in_ok-extend_from_slice-in-Undetermined.ensures.ok)) c.add_choice.ensures)
