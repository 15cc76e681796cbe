use Rattle.std.proofs.Common.{◌≡◌, ℕ, take}
use Rattle.std.specs.List.{list_any}
use Rattle.nego_base.specs.Members.{is_in, IsRisingBelow}
use Rattle.nego_shape.proofs.Gathering.{leads_on}
use Rattle.nego_shape.proofs.making.next_set.Given as goal

abbrev pub invariant-loop-next : goal.invariant-loop-next
invariant-loop-next l = IsRisingBelow 64 l.set × ((m : ℕ) → is_in m l.set ≡ list_any (leads_on l.a.0 m) (take l.next-index l.nexts))
