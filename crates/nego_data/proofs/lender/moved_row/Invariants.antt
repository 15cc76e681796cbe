use Rattle.std.proofs.Common.{◌≡◌, ℕ, ◌+◌, ◌-◌, ◌<◌, ◌≤◌, true, slice_index}
use Rattle.nego_base.specs.Members.{is_in, IsRisingBelow}
use Rattle.nego_data.proofs.lender.moved_row.Given as goal

-- the numbers so far are moved
abbrev pub invariant-loop-n : goal.invariant-loop-n
invariant-loop-n l = record {
  bound : l.from ≤ 1024;
  sound : (e : ℕ) → is_in e l.moved ≡ true → (n : ℕ) × (is_in n l.row ≡ true) × (e + slice_index l.spread l.number ≡ l.d + slice_index l.spread n);
  complete : (n : ℕ) → n < l.from → is_in n l.row ≡ true → is_in (l.d + slice_index l.spread n - slice_index l.spread l.number) l.moved ≡ true;
  rising : IsRisingBelow 1024 l.moved;
}

abbrev pub decreases-loop-n : goal.decreases-loop-n
decreases-loop-n l = 1024 - l.from
