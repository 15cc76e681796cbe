use Rattle.std.proofs.Common.{◌≡◌, ◌≤◌, take}
use Rattle.nego_data.specs.Data.{data_count}
use Rattle.nego_data.proofs.joint_data.product.Given as goal

-- the product of the sizes so far
abbrev pub invariant-loop-a : goal.invariant-loop-a
invariant-loop-a l = record { product : l.all ≡ data_count (take l.a l.sizes); small : l.all ≤ 1024 }
