use Rattle.std.proofs.Common.{◌≡◌, ◌+◌, ◌++◌, length, map, drop}
use Rattle.std.specs.Vec.Iter.{into_iter_items}
use Rattle.nego_expr.specs.Finish.{finals_of}
use Rattle.nego_expr.specs.SummaryText.{plain_final}
use Rattle.nego_expr.specs.WorkView.{plain_outcome}
use Rattle.nego_expr.proofs.finish.finals_of.Given as goal

-- those so far, and of the names that are left those to come, are all
abbrev pub invariant-loop-name : goal.invariant-loop-name
invariant-loop-name l =
    let left = into_iter_items l.name-iterator in
    (goal.iterator-loop-name).can_next l.name-iterator
    × (goal.iterator-loop-name).is_finite l.name-iterator
    × (length l.finals + length left ≡ length l.outcomes)
    × (map plain_final l.finals ++ finals_of left (drop (length l.finals) (map plain_outcome l.outcomes)) ≡ finals_of l.fn.names (map plain_outcome l.outcomes))
