-- The law of iteration.
use Rattle.std.specs.Prelude.{ℕ}
use Rattle.nego_expr.specs.Use.{Iterate}
use Rattle.nego_expr.specs.Keeps.{IsKeeping}

-- Iterations that a work allows keep.
abbrev pub IteratingKeeps : Type 0
IteratingKeeps = (o : ℕ) → IsKeeping (Iterate o)
