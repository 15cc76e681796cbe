-- What a list with room for more items ends as, where a `&mut` to an item of it was returned.
use Rattle.std.specs.Prelude.{ℕ, Option, slice_set}
use Rattle.std.specs.Borrow.{LendsIf, Fml, RattleType, MutBor}
use Rattle.nego_base.specs.Room.{WithRoom}
use Rattle.nego_base.specs.contracts.reserved.Reserved.{the_row}

-- once the borrow r ends, the place has the last value written through r, where there is such a place; the room stays
abbrev pub lends_reserved : (T : RattleType) → MutBor (WithRoom T.Denot) → ℕ → Option (MutBor T.Denot) → Fml
lends_reserved T s i r = LendsIf (the_row T) T s r (λ x. record s.now { items = slice_set s.now.items i x }) s.now
