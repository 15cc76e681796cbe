use Rattle.std.proofs.Common.{◌≡◌, ◌∷◌, ℕ, take}
use Rattle.std.specs.List.{list_any}
use Rattle.nego_base.specs.Members.{is_in, IsRisingBelow}
use Rattle.nego_data.specs.CaseForm.{operand_agents}
use Rattle.nego_shape.proofs.checks.outcomes.tested.Given as goal

abbrev pub invariant-loop-test : goal.invariant-loop-test
invariant-loop-test l = IsRisingBelow 16 l.set × ((a : ℕ) → is_in a l.set ≡ list_any (λ test. is_in a (test.agent.0 ∷ operand_agents test.right)) (take l.test-index l.tests))
