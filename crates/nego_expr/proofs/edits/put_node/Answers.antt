use Rattle.std.proofs.Common.{List, Some, map, option_map, slice_set, sym, ap, ◌∙◌}
use Rattle.std.specs.Option.{option_copied_mut}
use Rattle.std.proofs.lemmas.List.{map-set}
use Rattle.std.proofs.lemmas.Option.{slice_get-map}
use Rattle.nego_expr.specs.Work.{WorkOutcome}
use Rattle.nego_expr.specs.WorkView.{plain_outcome}
use Rattle.nego_expr.proofs.WorkEdits.{with_node}
use Rattle.nego_expr.proofs.edits.put_node.Goals as goal

pub returns-clause-outcomes : goal.returns-clause-outcomes
returns-clause-outcomes c =
    let items = c.args.outcomes.now.items in
    let put : WorkOutcome → List WorkOutcome = λ y. slice_set (map plain_outcome items) c.args.i (with_node c.args.node.0 y) in
    ap (option_map put)
    (slice_get-map plain_outcome items c.args.i
    ∙ ap (option_map plain_outcome) (sym c.get_mut.ensures.value ∙ ap (λ r. option_copied_mut r) c.unwrap.ensures))
    ∙ ap Some (sym (map-set plain_outcome items c.args.i _))
