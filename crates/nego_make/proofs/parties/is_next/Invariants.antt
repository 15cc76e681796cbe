use Rattle.std.proofs.Common.{◌≡◌, ◌+◌, ◌-◌, ◌≤◌, false}
use Rattle.std.specs.List.{list_any, range_with_len}
use Rattle.nego_base.specs.Members.{is_in}
use Rattle.nego_make.specs.Generated.{parties}
use Rattle.nego_make.proofs.parties.is_next.Given as goal

-- the agent is no party of the atoms so far
abbrev pub invariant-loop-k : goal.invariant-loop-k
invariant-loop-k l = (list_any (λ m. is_in l.a (parties l.n m)) (range_with_len (l.i + 1) (l.k - (l.i + 1))) ≡ false) × (l.i + 1 ≤ l.k) × (l.k ≤ l.j)
