use Rattle.std.proofs.Common.{◌∙◌, ◌++◌, [], ◌∷◌, sym, ap₂, List, ℕ, arith}
use Rattle.std.proofs.lemmas.List.FromFn.{map-range_with_len_more}
use Rattle.nego_model.specs.Diagram.{outcome_table}
use Rattle.nego_eval.proofs.rows.lenders.Goals as goal

pub loop-o-preserved : goal.loop-o-preserved
loop-o-preserved c =
    c.in_ok-push.ensures.ok
    ∙ ap₂ (λ (front : List (List (List ℕ))) (one : List (List ℕ)). front ++ one ∷ []) c.loop-o.invariant (c.in_ok-lend.ensures ∙ c.table.ensures.value)
    ∙ sym (map-range_with_len_more (outcome_table c.args.diagram.now) 0 c.loop-o.o c.loop-o.o (omega arith))
