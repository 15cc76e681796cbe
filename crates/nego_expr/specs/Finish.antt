-- The summary of a work of one atom.
use Rattle.std.specs.Prelude.{◌≡◌, ◌↔◌, ℕ, List, [], ◌∷◌, length, IsTrue}
use Rattle.nego_base.specs.Members.{is_in}
use Rattle.nego_model.specs.Occurring.{IsSound}
use Rattle.nego_model.specs.Joining.{RelationTest, Runs}
use Rattle.nego_model.specs.Diagram.{PlainDiagram, IsDiagram}
use Rattle.nego_model.specs.Summary.{PlainFinal, PlainSummary, Tells}
use Rattle.nego_expr.specs.Work.{WorkOutcome, PlainWork, IsWork, outcomes_at, negotiation_of_work, work_outcomes, ByWork}
use Rattle.nego_expr.specs.StandsFor.{StandsFor}

-- the names, each with the node of the outcome at its place
abbrev pub finals_of : List (List ℕ) → List WorkOutcome → List PlainFinal
finals_of [] outcomes = []
finals_of (name ∷ names) [] = []
finals_of (name ∷ names) (outcome ∷ outcomes) = record { name = name; node = outcome.node } ∷ finals_of names outcomes

-- all nodes, and for each outcome of the last atom its name and node
abbrev pub summary_of_work : PlainWork → PlainSummary
summary_of_work work = record { nodes = work.nodes; finals = finals_of work.names (outcomes_at work work.last) }

-- A work of one atom is sound, and its complete runs with an outcome relate what the outcome's expression means.
abbrev pub OneAtomWorksAreSound : Type 0
OneAtomWorksAreSound = (work : PlainWork) → IsWork work → length work.atoms ≡ 1 →
    IsSound (negotiation_of_work work)
    × ((test : RelationTest) (f d e : ℕ) → IsTrue (is_in f (work_outcomes work work.last)) →
    Runs (negotiation_of_work work) (ByWork test work) f d e ↔ ByWork test work f d e)

-- The summary of a work of one atom that stands for a diagram tells the diagram.
abbrev pub FinishedWorksTell : Type 0
FinishedWorksTell = (diagram : PlainDiagram) (work : PlainWork) → IsDiagram diagram → length work.atoms ≡ 1 → StandsFor work diagram → Tells (summary_of_work work) diagram
