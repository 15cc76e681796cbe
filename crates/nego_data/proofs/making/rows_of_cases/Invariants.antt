use Rattle.std.proofs.Common.{◌≡◌, ℕ, ◌<◌, take}
use Rattle.std.specs.List.{All, list_any}
use Rattle.nego_data.specs.Data.{data_count}
use Rattle.nego_data.specs.Tables.{IsTable, is_related}
use Rattle.nego_data.specs.Cases.{covers, relates}
use Rattle.nego_data.specs.Covered.{AreThose, IsKnown}
use Rattle.nego_data.specs.Assignments.{IsApplied}
use Rattle.nego_data.specs.Makers.{HasOffsets}
use Rattle.nego_data.proofs.making.rows_of_cases.Given as goal

-- what the cases so far relate and cover
abbrev pub invariant-loop-case : goal.invariant-loop-case
invariant-loop-case l = record {
  table : IsTable (data_count l.sizes) l.rows;
  related : (d e : ℕ) → d < data_count l.sizes → e < data_count l.sizes → is_related l.rows d e ≡ relates l.sizes (take l.case-index l.cases) d e;
  covered : AreThose l.sizes (λ values. list_any (λ case. covers case values) (take l.case-index l.cases)) l.covered.words;
  known : All (IsKnown l.sizes) l.known;
  applied : All (IsApplied l.sizes l.rows) l.applied;
  offsets : All (HasOffsets l.sizes) l.offsets;
}
