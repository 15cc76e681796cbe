use Rattle.std.proofs.Common.{◌<◌, length}
use Rattle.std.proofs.lemmas.List.Elements.{All-map}
use Rattle.nego_expr.specs.SummaryText.{plain_final}
use Rattle.nego_eval.proofs.tests.summary_of.Goals as goal

pub returns-clause-formed : goal.returns-clause-formed
returns-clause-formed c = record {
  below = c.requires.below;
  bases = c.requires.bases;
  there = All-map (λ outcome. outcome.node < length c.args.nodes.nodes) plain_final c.args.finals c.requires.finals;
}
