use Rattle.std.proofs.Common.{◌≡◌, ℕ, ◌+◌, cond, IsTrue, length}
use Rattle.std.specs.Prelude.{slice_index}
use Rattle.nego_base.specs.Members.{is_in}
use Rattle.nego_expr.proofs.counts.Counts.add_each.Given as goal

-- what is still to be added
abbrev pub invariant-loop-n : goal.invariant-loop-n
invariant-loop-n l = record {
  some : (m : ℕ) → IsTrue (is_in m l.rest) → IsTrue (is_in m l.fn.atoms);
  sums : (m : ℕ) → slice_index l.self m + cond (is_in m l.rest) 1 0 ≡ slice_index l.initial.self m + cond (is_in m l.fn.atoms) 1 0;
}

abbrev pub decreases-loop-n : goal.decreases-loop-n
decreases-loop-n l = length l.rest
