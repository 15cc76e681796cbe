-- What a list ends as, where a `&mut` to an item of it was returned.
use Rattle.std.specs.Prelude.{ℕ, List, Option, slice_set}
use Rattle.std.specs.Borrow.{Lends, LendsIf, Fml, RattleType, MutBor}
use Rattle.nego_base.specs.contracts.seq.Seq.{the_row}

module _ (T : RattleType) (s : MutBor (List T.Denot)) where
  -- once the borrow r ends, the place has the last value written through r
  abbrev pub lends_item : ℕ → MutBor T.Denot → Fml
  lends_item i r = Lends (the_row T) T s r (slice_set s.now i)

  -- the same where there is such a place, and else the list stays as it is
  abbrev pub lends_get : ℕ → Option (MutBor T.Denot) → Fml
  lends_get i r = LendsIf (the_row T) T s r (slice_set s.now i) s.now
