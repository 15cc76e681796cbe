use Rattle.nego_reduce.proofs.bound.CountedNodes.{acyclic_nodes_are_counted}
use Rattle.nego_reduce.proofs.bound.FewNodes.{acyclic_nodes_are_few}
use Rattle.nego_reduce.proofs.laws.acyclic_nodes_are_counted.Goals as goal

pub returns : goal.returns
returns c = record { counted = acyclic_nodes_are_counted; few = acyclic_nodes_are_few }
