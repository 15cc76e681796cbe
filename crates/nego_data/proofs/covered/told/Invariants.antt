use Rattle.std.proofs.Common.{◌≡◌, ℕ, ◌&&◌, nat_lt}
use Rattle.nego_data.specs.BitRows.{is_set}
use Rattle.nego_data.specs.Cases.{test_holds}
use Rattle.nego_data.specs.Sizes.{tuple_of}
use Rattle.nego_data.proofs.covered.told.Given as goal

-- those of the joint data so far
abbrev pub invariant-loop-d : goal.invariant-loop-d
invariant-loop-d l = (e : ℕ) → is_set l.set.words e ≡ (test_holds l.test (tuple_of l.sizes e) && nat_lt e l.d)
