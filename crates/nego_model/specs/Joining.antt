-- Which joint data a run leads to, from which.
use Rattle.std.specs.Prelude.{◌≡◌, ℕ, Bool, List, [], ◌∷◌, ◌++◌, map, IsTrue, ⊤}
use Rattle.nego_model.specs.Negotiation.{Negotiation}
use Rattle.nego_model.specs.Occurring.{Occurrence, IsRun, IsComplete}

-- what outcomes do to joint data: the outcome, the data before and the data after
abbrev pub Relation : Type 1
Relation = ℕ → ℕ → ℕ → Type 0

-- the same as a test, over which a law may range
abbrev pub RelationTest : Type 0
RelationTest = ℕ → ℕ → ℕ → Bool

-- the relation of a test
abbrev pub By : RelationTest → Relation
By test o d e = IsTrue (test o d e)

-- an entry: an occurrence, and the joint data after it
pub record Entry : Type 0 where
  pub step : Occurrence
  pub joint : ℕ

-- the occurrences of entries
abbrev pub steps_of : List Entry → List Occurrence
steps_of entries = map (λ entry. entry.step) entries

-- Each entry's outcome relates the data before it to the data after it; before the first entry they are d.
abbrev pub AreRelated : Relation → ℕ → List Entry → Type 0
AreRelated relation d [] = ⊤
AreRelated relation d (entry ∷ entries) = relation entry.step.1 d entry.joint × AreRelated relation entry.joint entries

-- the data after entries, before which they are d
abbrev pub joint_after : ℕ → List Entry → ℕ
joint_after d [] = d
joint_after d (entry ∷ entries) = joint_after entry.joint entries

-- A history: its occurrences are a run, and its data, which begin with the start, are related entry by entry.
pub record IsHistory (nego : Negotiation) (relation : Relation) (start : ℕ) (history : List Entry) : Type 0 where
  pub run : IsRun nego (steps_of history)
  pub related : AreRelated relation start history

-- Some data along the occurrences lead from d to e.
pub record Joins (relation : Relation) (run : List Occurrence) (d e : ℕ) : Type 0 where
  pub entries : List Entry
  pub occurrences : steps_of entries ≡ run
  pub related : AreRelated relation d entries
  pub ends : joint_after d entries ≡ e

-- The last entry is of this atom and has this outcome.
abbrev pub EndsWith : List Occurrence → Occurrence → Type 0
EndsWith run step = (front : List Occurrence) × (run ≡ front ++ step ∷ [])

-- Some complete run whose last outcome is f joins d to e.
pub record Runs (nego : Negotiation) (relation : Relation) (f d e : ℕ) : Type 0 where
  pub run : List Occurrence
  pub complete : IsComplete nego run
  pub ends : (n : ℕ) × EndsWith run (n, f)
  pub joins : Joins relation run d e
