use Rattle.std.proofs.Common.{◌≡◌, ◌∷◌, ℕ, take}
use Rattle.std.specs.List.{list_any}
use Rattle.nego_base.specs.Members.{is_in, IsRisingBelow}
use Rattle.nego_data.specs.CaseForm.{term_agents}
use Rattle.nego_shape.proofs.checks.outcomes.assigned.Given as goal

abbrev pub invariant-loop-set : goal.invariant-loop-set
invariant-loop-set l = IsRisingBelow 16 l.named × ((a : ℕ) → is_in a l.named ≡ list_any (λ set. is_in a (set.agent.0 ∷ term_agents set.term)) (take l.set-index l.sets))
