-- What the uses of rules keep.
use Rattle.std.specs.Prelude.{◌≡◌, ◌↔◌, ℕ, ◌<◌, List, [], length, slice_index_or, IsTrue}
use Rattle.nego_base.specs.Members.{is_in}
use Rattle.nego_data.specs.Data.{data_count}
use Rattle.nego_data.specs.Locality.{ActsOn}
use Rattle.nego_model.specs.Occurring.{IsSound}
use Rattle.nego_model.specs.Joining.{RelationTest, By, Runs}
use Rattle.nego_model.specs.Locality.{IsLocal}
use Rattle.nego_expr.specs.Work.{PlainWork, IsWork, negotiation_of_work, work_outcomes, ByWork}
use Rattle.nego_expr.specs.Use.{PlainUse, allows, after_use}

-- Each outcome that was read acts on the parties of its atom alone.
abbrev pub BasesAreLocal : PlainWork → List ℕ → RelationTest → Type 0
BasesAreLocal work sizes test = (o : ℕ) → o < length work.bases → ActsOn sizes (slice_index_or work.bases o []) (By test o)

-- Where each outcome that was read acts on the parties of its atom alone, each alive outcome's expression acts on the
-- parties of the alive outcome's atom alone. It holds for all sizes, also where one of them is 0.
abbrev pub WorksAreLocal : Type 0
WorksAreLocal = (work : PlainWork) (sizes : List ℕ) (test : RelationTest) → IsWork work → BasesAreLocal work sizes test → IsLocal (negotiation_of_work work) sizes (ByWork test work)

-- What each use keeps: names and the parties of what was read stay; the new work is sound exactly where the old one is,
-- has the same final outcomes, and its complete runs with each of them relate what the old one's do. This is so for all
-- sizes of data, and whatever the test by which the outcomes that were read act on the parties of their atoms alone.
pub record Keeps (old new : PlainWork) : Type 0 where
  pub names : old.names ≡ new.names
  pub bases : old.bases ≡ new.bases
  pub sound : IsSound (negotiation_of_work old) ↔ IsSound (negotiation_of_work new)
  pub finals : work_outcomes old old.last ≡ work_outcomes new new.last
  pub runs : (sizes : List ℕ) (test : RelationTest) (f d e : ℕ) → BasesAreLocal old sizes test → d < data_count sizes → IsTrue (is_in f (work_outcomes old old.last)) →
      Runs (negotiation_of_work old) (ByWork test old) f d e ↔ Runs (negotiation_of_work new) (ByWork test new) f d e

-- A use that a work allows leaves a work, and keeps what it was.
abbrev pub IsKeeping : PlainUse → Type 0
IsKeeping next = (work : PlainWork) → IsWork work → IsTrue (allows work next) → IsWork (after_use work next) × Keeps work (after_use work next)

-- Each use that a work allows does so.
abbrev pub UsesKeep : Type 0
UsesKeep = (next : PlainUse) → IsKeeping next
