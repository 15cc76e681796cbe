-- When a work stands for the diagram that was read.
use Rattle.std.specs.Prelude.{◌≡◌, ◌↔◌, ℕ, ◌<◌, List, length, map, All, IsTrue}
use Rattle.nego_base.specs.Members.{is_in}
use Rattle.nego_data.specs.Data.{data_count}
use Rattle.nego_model.specs.Negotiation.{IsNegotiation, IsDeterministic}
use Rattle.nego_model.specs.Occurring.{Occurrence, opening_marking, leaves, IsSound}
use Rattle.nego_model.specs.Joining.{RelationTest, By, Runs}
use Rattle.nego_model.specs.Locality.{IsLocal}
use Rattle.nego_model.specs.Diagram.{PlainDiagram, negotiation_of, parties_of, outcome_name, IsDiagram}
use Rattle.nego_model.specs.Limits.{IsWithinLimits}
use Rattle.nego_model.specs.Summary.{final_outcomes}
use Rattle.nego_expr.specs.Work.{PlainWork, IsWork, negotiation_of_work, work_outcomes, ByWork}
use Rattle.nego_expr.specs.Fresh.{fresh_work}
use Rattle.nego_expr.specs.Keeps.{Keeps}

-- A diagram's form: it is a negotiation, and each outcome is of an atom.
pub record HasForm (diagram : PlainDiagram) : Type 0 where
  pub form : IsNegotiation (negotiation_of diagram)
  pub own_atom : All (λ outcome. outcome.atom < length diagram.atoms) diagram.outcomes

-- A work stands for a diagram: what was read are the diagram's outcomes, with their parties, and the names are those of
-- its final outcomes; the work is sound exactly where the diagram is, has the same final outcomes, and its complete runs
-- with each of them relate what the diagram's do. This is so for all sizes of data, and whatever the test by which the
-- diagram's outcomes act on the parties of their atoms alone.
pub record StandsFor (work : PlainWork) (diagram : PlainDiagram) : Type 0 where
  pub read : HasForm diagram
  pub is_work : IsWork work
  pub bases : work.bases ≡ map (λ outcome. parties_of diagram outcome.atom) diagram.outcomes
  pub names : work.names ≡ map (outcome_name diagram) (final_outcomes diagram)
  pub sound : IsSound (negotiation_of diagram) ↔ IsSound (negotiation_of_work work)
  pub finals : final_outcomes diagram ≡ work_outcomes work work.last
  pub runs : (sizes : List ℕ) (test : RelationTest) (f d e : ℕ) → IsLocal (negotiation_of diagram) sizes (By test) → d < data_count sizes → IsTrue (is_in f (final_outcomes diagram)) →
      Runs (negotiation_of diagram) (By test) f d e ↔ Runs (negotiation_of_work work) (ByWork test work) f d e

-- The fresh work of a diagram that has form and is deterministic stands for it.
abbrev pub FreshWorksStand : Type 0
FreshWorksStand = (diagram : PlainDiagram) → HasForm diagram → IsDeterministic (negotiation_of diagram) → StandsFor (fresh_work diagram) diagram

-- The same occurrences are runs of the work and of the diagram, and leave the same marking.
abbrev pub HasTheRuns : PlainWork → PlainDiagram → Type 0
HasTheRuns work diagram = (steps : List Occurrence) →
    leaves (negotiation_of diagram) (opening_marking (negotiation_of diagram)) steps ≡ leaves (negotiation_of_work work) (opening_marking (negotiation_of_work work)) steps

-- It has the diagram's runs too.
abbrev pub FreshWorksHaveTheRuns : Type 0
FreshWorksHaveTheRuns = (diagram : PlainDiagram) → HasForm diagram → IsDeterministic (negotiation_of diagram) → HasTheRuns (fresh_work diagram) diagram

-- The work is the fresh one of a deterministic diagram within the limits.
pub record IsFresh (work : PlainWork) (diagram : PlainDiagram) : Type 0 where
  pub diagram_read : IsDiagram diagram
  pub limits : IsWithinLimits diagram
  pub determined : IsDeterministic (negotiation_of diagram)
  pub fresh : work ≡ fresh_work diagram

-- What stands for a diagram, and is kept, stands for it.
abbrev pub KeptWorksStand : Type 0
KeptWorksStand = (old new : PlainWork) (diagram : PlainDiagram) → StandsFor old diagram → IsWork new → Keeps old new → StandsFor new diagram
