-- A marking and a run of a diagram as plain data, and how far a run goes.
use Rattle.std.specs.Prelude.{◌≡◌, ◌+◌, ◌<◌, List, length, map, take, Some}
use Rattle.nego_base.specs.declared.ids.AtomId.{AtomId}
use Rattle.nego_base.specs.declared.ids.OutcomeId.{OutcomeId}
use Rattle.nego_model.specs.declared.marking.Marking.{Marking}
use Rattle.nego_model.specs.declared.runs.Follow.{Follow}
use Rattle.nego_model.specs.declared.runs.Follow.TheVariants.{Complete, Partial, Stops}
use Rattle.nego_model.specs.Occurring.{PlainMarking, Occurrence, opening_marking, leaves, IsRun, IsComplete}
use Rattle.nego_model.specs.Diagram.{PlainDiagram, negotiation_of}

-- what the agents of the diagram are ready for
abbrev pub marking_in : PlainDiagram → Marking → PlainMarking
marking_in diagram marking = take (length diagram.agents) marking.ready

-- the entries of a run, by their numbers
abbrev pub occurrences : List (AtomId × OutcomeId) → List Occurrence
occurrences run = map (λ step. (step.0.0, step.1.0)) run

-- How far occurrences go: they are a complete run; or a run to the marking, and not a complete one; or the entries
-- before the place are a run, and with the entry there they are none.
abbrev pub Goes : PlainDiagram → List Occurrence → Follow → Type 0
Goes diagram run Complete = IsComplete (negotiation_of diagram) run
Goes diagram run (Partial marking) =
    (leaves (negotiation_of diagram) (opening_marking (negotiation_of diagram)) run ≡ Some (marking_in diagram marking)) × ¬ IsComplete (negotiation_of diagram) run
Goes diagram run (Stops i) = (i < length run) × IsRun (negotiation_of diagram) (take i run) × ¬ IsRun (negotiation_of diagram) (take (i + 1) run)
