use Rattle.std.proofs.Common.{◌≡◌, ◌<◌, ℕ, ◌&&◌, ◌==◌, nat_lt}
use Rattle.nego_data.specs.Tables.{IsTable, is_related}
use Rattle.nego_data.proofs.rows.Rows.identity.Given as goal

-- each joint data so far is related to itself
abbrev pub invariant-loop-d : goal.invariant-loop-d
invariant-loop-d l = record {
  table : IsTable l.all l.rows;
  related : (c e : ℕ) → c < l.all → e < l.all → is_related l.rows c e ≡ (nat_lt c l.d && c == e);
}
