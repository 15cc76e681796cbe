-- What is known of a work after a shortcut: of its uses only those of the outcome that made it are new.
use Rattle.std.specs.Prelude.{◌≡◌, ◌≢◌, ⊤, ℕ, ◌<◌, false, Option, Some, None}
use Rattle.nego_expr.specs.Work.{PlainWork}
use Rattle.nego_expr.specs.Use.{PlainUse, Merge, Iterate, Shortcut, Close, allows}
use Rattle.nego_reduce.specs.Order.{takes_shortcut}

-- No two outcomes but for this one may be merged, none but this one may be iterated, and the order takes no shortcut of a
-- lesser one.
pub record OthersAreDone (work : PlainWork) (o : ℕ) : Type 0 where
  pub merges : (p q : ℕ) → p ≢ o → q ≢ o → allows work (Merge p q) ≡ false
  pub iterations : (p : ℕ) → p ≢ o → allows work (Iterate p) ≡ false
  pub shortcuts : (p m : ℕ) → p < o → takes_shortcut work p m ≡ false

-- It is so where an outcome is given. Where none is, nothing is known.
abbrev pub MayOffer : PlainWork → Option ℕ → Type 0
MayOffer work None = ⊤
MayOffer work (Some o) = OthersAreDone work o

-- the outcome that makes a shortcut, where the use is one
abbrev pub entering : PlainUse → Option ℕ
entering (Merge o1 o2) = None
entering (Iterate o) = None
entering (Shortcut o n) = Some o
entering Close = None
