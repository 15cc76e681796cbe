use Rattle.std.proofs.Common.{◌≡◌, ◌<◌, ℕ, length, take, slice_index}
use Rattle.nego_data.specs.Cases.{term_for}
use Rattle.nego_data.specs.Given.{least_after}
use Rattle.nego_data.proofs.giving.least_values.Given as goal

-- the least values after the assignments so far
abbrev pub invariant-loop-set : goal.invariant-loop-set
invariant-loop-set l = record {
  sixteen : length l.new ≡ 16;
  least : (a : ℕ) → a < length l.sizes → slice_index l.new a ≡ least_after (term_for (take l.set-index l.set-items) a) (slice_index l.sizes a) l.old (slice_index l.old a);
}
