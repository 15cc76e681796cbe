use Rattle.std.proofs.Common.{◌≡◌, ◌+◌, ◌≤◌, Some, length, map, slice_get, sym, subst, ap, ◌∙◌}
use Rattle.std.proofs.lemmas.List.{length-map}
use Rattle.nego_model.specs.Diagram.{relation_of}
use Rattle.nego_expr.specs.SummaryText.{plain_final, plain_summary}
use Rattle.nego_eval.specs.Answers.{AreAnswersBelow}
use Rattle.nego_eval.proofs.Answering.{more_answers, all_answers, final_at, final_node, final_pair, final_row}
use Rattle.nego_eval.proofs.answers.ask.Goals as goal

pub make-requires-clause-there : goal.make-requires-clause-there
make-requires-clause-there c =
    let summary = plain_summary c.args.s.now in
    let outcome = c.outcome-item.result in
    let here = subst (λ finals. slice_get (map plain_final finals) c.loop-place.place ≡ Some (plain_final outcome)) c.as_slice-outcome-items.ensures
    (final_at c.as_slice-outcome-items.result.now c.loop-place.place outcome c.loop-place-test.true c.outcome-item.is) in
    final_pair c.args.d.now summary c.loop-place.making.rows outcome.node c.args.start c.loop-place.invariant.making.rows c.loop-place.invariant.diagram c.loop-place.invariant.nodes
    (final_node _ summary c.loop-place.place (plain_final outcome) c.requires.formed here) c.requires.start

pub loop-place-preserved : goal.loop-place-preserved
loop-place-preserved c =
    let summary = plain_summary c.args.s.now in
    let outcome = c.outcome-item.result in
    let rows = c.make.new.self.rows in
    let place = c.loop-place.place in
    let here = subst (λ finals. slice_get (map plain_final finals) place ≡ Some (plain_final outcome)) c.as_slice-outcome-items.ensures
    (final_at c.as_slice-outcome-items.result.now place outcome c.loop-place-test.true c.outcome-item.is) in
    let same = ap (λ r. r.diagram.now) c.in_ok-make.ensures.alike ∙ c.loop-place.invariant.diagram in
    let same' = ap (λ r. r.nodes.now.nodes) c.in_ok-make.ensures.alike ∙ c.loop-place.invariant.nodes in
    let made = final_row c.args.d.now summary rows outcome.node.0 c.args.start c.get.result.now same same' c.get.ensures in
    record {
      making = c.in_ok-make.ensures.making;
      diagram = same;
      nodes = same';
      answers = subst (AreAnswersBelow (relation_of c.args.d.now) summary c.args.start (place + 1)) (sym c.in_ok-add_row.ensures)
          (more_answers (relation_of c.args.d.now) summary c.args.start place c.loop-place.answers (plain_final outcome) rows.joint c.get.result.now here made c.loop-place.invariant.answers);
    }

pub returns : goal.returns
returns c =
    let summary = plain_summary c.args.s.now in
    let all : length summary.finals ≤ c.loop-place.place = rw (length-map c.args.s.now.finals plain_final, ← c.as_slice-outcome-items.ensures) c.loop-place-test.false in
    all_answers (relation_of c.args.d.now) summary c.args.start c.loop-place.place c.loop-place.answers all c.loop-place.invariant.answers
