use Rattle.std.proofs.Common.{◌≡◌, map}
use Rattle.std.specs.List.{range_with_len}
use Rattle.nego_data.specs.Data.{joint}
use Rattle.nego_data.specs.Sizes.{tuple_of}
use Rattle.nego_data.proofs.lender.spread_of.Given as goal

-- where the numbers so far stand
abbrev pub invariant-loop-n : goal.invariant-loop-n
invariant-loop-n l = l.spread ≡ map (λ n. joint l.sizes (tuple_of l.part n)) (range_with_len 0 l.n)
