use Rattle.std.proofs.Common.{◌∙◌, ◌++◌, map, take, ap, sym, subst}
use Rattle.nego_base.specs.Appending.{Appends}
use Rattle.nego_expr.specs.SummaryText.{plain_final, final_line, final_lines}
use Rattle.nego_expr.proofs.Printing.{appends_then, final_lines-more}
use Rattle.nego_expr.proofs.Seen.{map-take_more}
use Rattle.nego_expr.proofs.summary.add_finals.Goals as goal

pub loop-outcome-preserved : goal.loop-outcome-preserved
loop-outcome-preserved c =
    let old = c.args.text.now in
    let new = c.add_final.new.text in
    let finals = c.args.finals.now in
    let i = c.loop-outcome.outcome-index in
    let outcome = c.outcome-item.result in
    let seen = map plain_final (take i finals) in
    let lines : Appends old new (λ rest. final_lines seen (final_line (plain_final outcome) rest)) =
    appends_then old c.loop-outcome.text new (final_lines seen) (final_line (plain_final outcome)) c.loop-outcome.invariant c.in_ok-add_final.ensures in
    subst (λ outcomes. Appends old new (final_lines outcomes)) (sym (map-take_more plain_final finals i outcome outcome c.loop-outcome-test.true (sym c.outcome-item.is)))
    (λ rest. lines rest ∙ ap (λ words. old ++ words) (sym (final_lines-more seen (plain_final outcome) rest)))
