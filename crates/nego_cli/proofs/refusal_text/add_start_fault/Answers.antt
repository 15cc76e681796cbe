use Rattle.std.proofs.Common.{◌++◌, sym, subst}
use Rattle.std.specs.Prelude.{codes, decimal}
use Rattle.nego_base.specs.Appending.{Appends}
use Rattle.nego_expr.proofs.Printing.{appends_then}
use Rattle.nego_model.specs.Diagram.{agent_name}
use Rattle.nego_cli.specs.Refusals.{start_fault_words}
use Rattle.nego_cli.proofs.NamedPlaces.{appends_words}
use Rattle.nego_cli.proofs.refusal_text.add_start_fault.Goals as goal

pub returns-in_ok-push_decimal-in-StartCount : goal.returns-in_ok-push_decimal-in-StartCount
returns-in_ok-push_decimal-in-StartCount c =
    let old = c.args.text.now in
    let mid = c.extend_from_slice.new.self in
    let new = c.push_decimal.new.self in
    let words = codes "StartCount " in
    let given = decimal c.in-StartCount.given in
    subst (λ fault. Appends old new (start_fault_words c.args.d.now fault)) (sym c.in-StartCount.is)
    (appends_then old mid new (λ rest. words ++ rest) (λ rest. given ++ rest) (appends_words old mid words c.in_ok-extend_from_slice-in-StartCount.ensures.ok) (appends_words mid new given c.in_ok-push_decimal-in-StartCount.ensures.ok))

pub returns-in_ok-extend_from_slice-in-StartTooLarge-2 : goal.returns-in_ok-extend_from_slice-in-StartTooLarge-2
returns-in_ok-extend_from_slice-in-StartTooLarge-2 c =
    let d = c.args.d.now in
    let old = c.args.text.now in
    let mid = c.extend_from_slice-in-StartTooLarge.new.self in
    let new = c.extend_from_slice-in-StartTooLarge-2.new.self in
    let words = codes "StartTooLarge " in
    let name = agent_name d c.in-StartTooLarge.a.0 in
    subst (λ fault. Appends old new (start_fault_words d fault)) (sym c.in-StartTooLarge.is)
    (appends_then old mid new (λ rest. words ++ rest) (λ rest. name ++ rest) (appends_words old mid words c.in_ok-extend_from_slice-in-StartTooLarge.ensures.ok)
    (subst (λ t. Appends mid new (λ rest. t ++ rest)) c.agent_name.ensures.value (appends_words mid new c.agent_name.result.now c.in_ok-extend_from_slice-in-StartTooLarge-2.ensures.ok)))
