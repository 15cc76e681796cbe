use Rattle.std.proofs.Common.{◌≡◌}
use Rattle.nego_model.specs.Diagram.{relation_of}
use Rattle.nego_expr.specs.SummaryText.{plain_summary}
use Rattle.nego_eval.specs.Answers.{AreAnswersBelow}
use Rattle.nego_eval.specs.Making.{AreMaking}
use Rattle.nego_eval.proofs.answers.ask.Given as goal

-- the answers of the places so far
abbrev pub invariant-loop-place : goal.invariant-loop-place
invariant-loop-place l = record {
  making : AreMaking l.making;
  diagram : l.making.rows.diagram.now ≡ l.d;
  nodes : l.making.rows.nodes.now.nodes ≡ l.s.nodes.nodes;
  answers : AreAnswersBelow (relation_of l.d) (plain_summary l.s) l.start l.place l.answers;
}
