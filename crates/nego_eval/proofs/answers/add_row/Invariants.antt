use Rattle.std.proofs.Common.{◌≡◌, ◌++◌, map}
use Rattle.std.specs.List.{filter, range_with_len}
use Rattle.nego_base.specs.Members.{is_in}
use Rattle.nego_eval.proofs.answers.add_row.Given as goal

-- the pairs of the row so far are added
abbrev pub invariant-loop-e : goal.invariant-loop-e
invariant-loop-e l = l.answers ≡ l.initial.answers ++ map (λ e. (l.place, e)) (filter (λ e. is_in e l.row) (range_with_len 0 l.e))
