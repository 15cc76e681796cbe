use Rattle.std.proofs.Common.{◌≡◌, ℕ, take}
use Rattle.std.specs.List.{list_any}
use Rattle.nego_base.specs.Members.{is_in, IsRisingBelow}
use Rattle.nego_shape.proofs.checks.outcomes.sent.Given as goal

abbrev pub invariant-loop-next : goal.invariant-loop-next
invariant-loop-next l = IsRisingBelow 16 l.set × ((a : ℕ) → is_in a l.set ≡ list_any (λ next. is_in a next.agents) (take l.next-index l.nexts))
