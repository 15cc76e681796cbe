use Rattle.std.proofs.Common.{sym, ap, ◌∙◌}
use Rattle.nego_model.specs.Diagram.{relation_of}
use Rattle.nego_expr.specs.SummaryText.{plain_final, plain_summary}
use Rattle.nego_base.proofs.ListLaws.{mapped_at}
use Rattle.nego_eval.proofs.Answering.{answer_means, final_node, final_pair, final_row}
use Rattle.nego_eval.proofs.answers.holds.Goals as goal

pub make-requires-clause-there : goal.make-requires-clause-there
make-requires-clause-there c =
    let summary = plain_summary c.args.s.now in
    let outcome = c.index.result.now in
    let here = mapped_at plain_final c.args.s.now.finals c.args.place outcome c.index.ensures in
    final_pair c.args.d.now summary c.in_ok-making.making.rows outcome.node c.args.start c.in_ok-making.ensures.making.rows c.in_ok-making.ensures.diagram (ap (λ n. n.nodes) c.in_ok-making.ensures.nodes)
    (final_node _ summary c.args.place (plain_final outcome) c.requires.formed here) c.requires.start

pub returns : goal.returns
returns c =
    let summary = plain_summary c.args.s.now in
    let outcome = c.index.result.now in
    let rows = c.make.new.self.rows in
    let here = mapped_at plain_final c.args.s.now.finals c.args.place outcome c.index.ensures in
    let same = ap (λ r. r.diagram.now) c.in_ok-make.ensures.alike ∙ c.in_ok-making.ensures.diagram in
    let same' = ap (λ r. r.nodes.now.nodes) c.in_ok-make.ensures.alike ∙ ap (λ n. n.nodes) c.in_ok-making.ensures.nodes in
    let made = final_row c.args.d.now summary rows outcome.node.0 c.args.start c.get.result.now same same' c.get.ensures in
    let answer = answer_means (relation_of c.args.d.now) summary c.args.start c.args.place c.args.end (plain_final outcome) here in
    (λ h. answer.1 ((made.exact c.args.end).0 (sym c.has.ensures ∙ h)), λ h. c.has.ensures ∙ (made.exact c.args.end).1 (answer.0 h))
