use Rattle.std.proofs.Common.{◌≡◌, ℕ, ◌<◌, ◌&&◌, ◌||◌, nat_lt, [], ◌∷◌}
use Rattle.nego_data.specs.Data.{data_count}
use Rattle.nego_data.specs.Tables.{IsTable, is_related}
use Rattle.nego_data.specs.Cases.{relates}
use Rattle.nego_data.proofs.making.add_case.Given as goal

-- what the case relates to the joint data so far
abbrev pub invariant-loop-d : goal.invariant-loop-d
invariant-loop-d l = record {
  table : IsTable (data_count l.sizes) l.rows;
  related : (c e : ℕ) → c < data_count l.sizes → e < data_count l.sizes →
      is_related l.rows c e ≡ (is_related l.initial.rows c e || (nat_lt c l.d && relates l.sizes (l.case ∷ []) c e));
}
