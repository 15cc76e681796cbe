use Rattle.std.proofs.Common.{◌≡◌, ℕ, ◌&&◌, nat_lt}
use Rattle.nego_data.specs.BitRows.{is_set}
use Rattle.nego_data.specs.Sizes.{tuple_of}
use Rattle.nego_data.specs.Given.{is_offset}
use Rattle.nego_data.proofs.giving.row_of_offsets.Given as goal

-- the joint data so far
abbrev pub invariant-loop-o : goal.invariant-loop-o
invariant-loop-o l = (e : ℕ) → is_set l.offsets.words e ≡ (is_offset l.free (tuple_of l.sizes e) && nat_lt e l.o)
