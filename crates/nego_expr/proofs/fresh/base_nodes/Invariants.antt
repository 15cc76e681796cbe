use Rattle.std.proofs.Common.{◌≡◌, ◌+◌, map}
use Rattle.std.specs.List.{range_with_len}
use Rattle.nego_model.specs.Expression.{Base}
use Rattle.nego_expr.proofs.fresh.base_nodes.Given as goal

-- the nodes so far, and room for the others
abbrev pub invariant-loop-o : goal.invariant-loop-o
invariant-loop-o l = (l.nodes.nodes ≡ map Base (range_with_len 0 l.o)) × (l.nodes.room + l.o ≡ l.count)
