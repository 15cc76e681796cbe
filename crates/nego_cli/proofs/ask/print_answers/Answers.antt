use Rattle.std.proofs.Common.{◌∙◌, ℕ, [], map, take, slice_index_or, refl, ap, sym, subst}
use Rattle.nego_base.specs.Appending.{Appends}
use Rattle.nego_expr.proofs.Printing.{appends_then}
use Rattle.nego_expr.proofs.Seen.{map-take_more}
use Rattle.nego_cli.specs.Ask.{answer_line, lines_of_answers, numbered}
use Rattle.nego_cli.proofs.Answers.{lines_of_answers-more}
use Rattle.nego_cli.proofs.ask.print_answers.Goals as goal

pub loop-answer-preserved : goal.loop-answer-preserved
loop-answer-preserved c =
    let d = c.args.d.now in
    let new = c.add_answer.new.text in
    let answers = c.args.answers.now in
    let i = c.loop-answer.answer-index in
    let answer = slice_index_or {A = ℕ × ℕ} answers i (0, 0) in
    let seen = map (numbered d) (take i answers) in
    let lines : Appends [] new (λ rest. lines_of_answers d seen (answer_line d (numbered d answer) rest)) =
    appends_then [] c.loop-answer.text new (lines_of_answers d seen) (answer_line d (numbered d answer)) c.loop-answer.invariant.lines c.in_ok-add_answer.ensures.line in
    record {
      lines = subst (λ items. Appends [] new (lines_of_answers d items)) (sym (map-take_more (numbered d) answers i (0, 0) answer c.loop-answer-test.true refl))
          (λ rest. lines rest ∙ sym (lines_of_answers-more d seen (numbered d answer) rest));
      sizes = ap (λ s. s.now) c.add_answer.ensures.sizes ∙ c.loop-answer.invariant.sizes;
      texts = c.in_ok-add_answer.ensures.texts;
    }
