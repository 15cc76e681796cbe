use Rattle.std.proofs.Common.{◌<◌}
use Rattle.std.specs.Prelude.{All, ⊤}
use Rattle.nego_model.specs.Expression.{NodeBases}
use Rattle.nego_eval.proofs.tests.nodes_of.Given as goal

-- the nodes so far are over the outcomes
abbrev pub invariant-loop-node : goal.invariant-loop-node
invariant-loop-node g l = All (NodeBases (λ o. o < l.outcomes) (λ i. ⊤)) l.nodes.nodes
