use Rattle.std.proofs.Common.{map, take}
use Rattle.nego_base.specs.Appending.{Appends}
use Rattle.nego_expr.specs.NodeView.{plain_node}
use Rattle.nego_expr.specs.SummaryText.{node_lines}
use Rattle.nego_expr.proofs.summary.add_nodes.Given as goal

-- the lines of the nodes so far
abbrev pub invariant-loop-i : goal.invariant-loop-i
invariant-loop-i l = Appends l.initial.text l.text (node_lines 0 (map plain_node (take l.i l.nodes)))
