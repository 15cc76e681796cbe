use Rattle.std.proofs.Common.{◌≡◌, ℕ, map, take}
use Rattle.std.specs.List.{list_any}
use Rattle.nego_base.specs.Members.{is_in, IsRisingBelow}
use Rattle.nego_shape.specs.Rules.{over_agents}
use Rattle.nego_shape.proofs.checks.outcomes.overfull.Given as goal

abbrev pub invariant-loop-set : goal.invariant-loop-set
invariant-loop-set l = IsRisingBelow 16 l.over × ((a : ℕ) → is_in a l.over ≡ list_any (λ set. is_in a (over_agents (map (λ agent. agent.size) l.agents) set)) (take l.set-index l.sets))
