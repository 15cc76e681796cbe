-- How sizes are kept: padded with 0 to 16 numbers, with their count and product beside them.
use Rattle.std.specs.Prelude.{◌≡◌, ℕ, ◌-◌, ◌≤◌, List, ◌++◌, length, take, replicate}
use Rattle.std.proofs.Common.{refl, arith, length-take}
use Rattle.nego_data.specs.declared.joint_data.Sizes.TheInside.{Inside}
use Rattle.nego_data.specs.Data.{data_count}
use Rattle.nego_data.specs.Sizes.{AreSizes}

-- the sizes
abbrev pub sizes_kept : Inside → List ℕ
sizes_kept s = take s.count s.sizes

-- These are sizes, with their product, and 0 behind them.
pub record AreKept (s : Inside) : Type 0 where
  pub sixteen : length s.sizes ≡ 16
  pub counted : s.count ≤ 16
  pub are_sizes : AreSizes (sizes_kept s)
  pub padded : s.sizes ≡ sizes_kept s ++ replicate (16 - s.count) 0
  pub product : s.all ≡ data_count (sizes_kept s)

-- how many sizes are kept
pub length-sizes_kept : (s : Inside) → AreKept s → length (sizes_kept s) ≡ s.count
length-sizes_kept s h = let e = length-take s.count s.sizes in omega (arith, e, h.sixteen, h.counted)

-- sizes are kept in one way
pub same_kept : (s : Inside) → AreKept s →
    ◌≡◌ {A = Inside} (record { count = length (sizes_kept s); sizes = sizes_kept s ++ replicate (16 - length (sizes_kept s)) 0; all = data_count (sizes_kept s) }) s
same_kept s h = rw (length-sizes_kept s h, ← h.padded, ← h.product) refl
