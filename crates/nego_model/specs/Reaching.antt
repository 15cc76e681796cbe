-- Where occurrences lead from a marking and joint data.
use Rattle.std.specs.Prelude.{◌≡◌, ℕ, List, [], ◌∷◌, replicate, Some}
use Rattle.nego_model.specs.Negotiation.{Negotiation, IsOutcome}
use Rattle.nego_model.specs.Occurring.{PlainMarking, Occurrence, opening_marking, leaves}
use Rattle.nego_model.specs.Joining.{Relation, Joins}

-- everyone is ready for the last atom alone
abbrev pub all_at_last : Negotiation → PlainMarking
all_at_last nego = replicate nego.agents (nego.last ∷ [])

-- Some occurrences lead from a marking to another, and join d to e.
pub record Reaches (nego : Negotiation) (relation : Relation) (from : PlainMarking) (d : ℕ) (to : PlainMarking) (e : ℕ) : Type 0 where
  pub steps : List Occurrence
  pub leads : leaves nego from steps ≡ Some to
  pub joins : Joins relation steps d e

-- A way to everyone at the last atom, and one outcome of it.
pub record EndsAtLast (nego : Negotiation) (relation : Relation) (f d e : ℕ) : Type 0 where
  pub before : ℕ
  pub way : Reaches nego relation (opening_marking nego) d (all_at_last nego) before
  pub last : relation f before e
  pub outcome : IsOutcome nego nego.last f
