use Rattle.std.proofs.Common.{◌≡◌, ◌≤◌, inl, inr, [], length, map, sym, subst, arith}
use Rattle.std.proofs.lemmas.List.{length-map}
use Rattle.std.specs.Prelude.{All, IfOk}
use Rattle.nego_model.specs.Summary.{final_outcomes}
use Rattle.nego_expr.specs.SummaryText.{plain_final, plain_summary}
use Rattle.nego_reduce.specs.Reducing.{uses_of}
use Rattle.nego_cli.specs.Ask.{AreEnds, IsAnswerIn, answer_lines, numbered}
use Rattle.nego_cli.specs.Verdict.{verdict_line}
use Rattle.nego_cli.proofs.Verdicts.{one_tells}
use Rattle.nego_cli.proofs.Answers.{as_many, each_in, are_ends, few_outcomes, answers_told, verdict_told}
use Rattle.nego_cli.proofs.ask.print_answer.Goals as goal

pub ask-requires-clause-few : goal.ask-requires-clause-few
ask-requires-clause-few c =
    let d = c.args.d.now in
    let summary = c.in-One.summary in
    let fresh = c.requires.judged.fresh in
    let told = one_tells d summary c.in-One.field-1 c.args.reduced.now c.args.verdict c.in-One.is c.requires.judged in
    let size : length (plain_summary summary).finals ≡ length (final_outcomes d) = as_many d fresh.diagram_read (plain_summary summary) fresh.determined told.1 c.args.start c.requires.start in
    let same : length (plain_summary summary).finals ≡ length summary.finals = length-map summary.finals plain_final in
    let few : length (final_outcomes d) ≤ length d.outcomes = few_outcomes 0 d.outcomes d.last in
    omega (arith, size, same, few, fresh.limits.few_outcomes)

pub print_answers-requires : goal.print_answers-requires
print_answers-requires c =
    let d = c.args.d.now in
    let summary = c.in-One.summary in
    let fresh = c.requires.judged.fresh in
    let told = one_tells d summary c.in-One.field-1 c.args.reduced.now c.args.verdict c.in-One.is c.requires.judged in
    subst (All (IsAnswerIn d)) (sym c.as_slice.ensures)
    (each_in d fresh.diagram_read (plain_summary summary) fresh.determined told.1 c.args.start c.requires.start c.in_ok-answers-in-One.answers c.in_ok-answers-in-One.ensures)

pub returns-in_ok-answers-in-One : goal.returns-in_ok-answers-in-One
returns-in_ok-answers-in-One c =
    let d = c.args.d.now in
    let summary = c.in-One.summary in
    let fresh = c.requires.judged.fresh in
    let answers = c.in_ok-answers-in-One.answers in
    let told = one_tells d summary c.in-One.field-1 c.args.reduced.now c.args.verdict c.in-One.is c.requires.judged in
    let ends : AreEnds d c.args.start (map (numbered d) answers) = are_ends d fresh.diagram_read (plain_summary summary) fresh.determined told.1 c.args.start c.requires.start answers c.in_ok-answers-in-One.ensures in
    answers_told d c.args.start (length (uses_of c.args.reduced.now)) c.args.verdict (map (numbered d) answers) c.print_answers.result told.0 ends
    (subst (λ xs. IfOk c.print_answers.result (λ text. text ≡ answer_lines d (map (numbered d) xs))) c.as_slice.ensures c.print_answers.ensures)

pub returns-in-Stuck : goal.returns-in-Stuck
returns-in-Stuck c =
    let r = c.print_verdict.result in
    verdict_told c.args.d.now c.args.start c.in-Stuck.field-0 c.in-Stuck.uses c.args.reduced.now c.args.verdict r c.requires.judged.on (inl c.in-Stuck.is)
    (subst (λ n. IfOk r (λ text. text ≡ verdict_line c.args.verdict n [])) c.len.ensures c.print_verdict.ensures)

pub returns-in-NodeLimit : goal.returns-in-NodeLimit
returns-in-NodeLimit c =
    let r = c.print_verdict-in-NodeLimit.result in
    verdict_told c.args.d.now c.args.start c.in-NodeLimit.field-0 c.in-NodeLimit.uses c.args.reduced.now c.args.verdict r c.requires.judged.on (inr c.in-NodeLimit.is)
    (subst (λ n. IfOk r (λ text. text ≡ verdict_line c.args.verdict n [])) c.len-in-NodeLimit.ensures c.print_verdict-in-NodeLimit.ensures)
