-- The lines that say why an input is refused. Every line ends with a newline.
use Rattle.std.specs.Prelude.{ℕ, ◌<◌, ⊤, List, [], ◌∷◌, ◌++◌, length, codes, decimal}
use Rattle.nego_base.specs.declared.fault.FaultKind.{FaultKind}
use Rattle.nego_base.specs.declared.fault.FaultKind.TheVariants as kinds
use Rattle.nego_base.specs.declared.fault.Fault.{Fault}
use Rattle.nego_data.specs.Data.{split}
use Rattle.nego_model.specs.Diagram.{PlainDiagram, agent_name, atom_name, outcome_name, atom_of}
use Rattle.nego_reader.specs.declared.parsed.Parsed.{Parsed}
use Rattle.nego_reader.specs.Content.{content_of}
use Rattle.nego_shape.specs.declared.fault.Many.{Many}
use Rattle.nego_shape.specs.declared.fault.Many.TheVariants as many
use Rattle.nego_shape.specs.declared.fault.ShapeKind.{ShapeKind}
use Rattle.nego_shape.specs.declared.fault.ShapeKind.TheVariants as shapes
use Rattle.nego_shape.specs.Answer.{AreJointIn}
use Rattle.nego_shape.specs.Naming.{diagram_in}
use Rattle.agent_core.specs.Deciding.{Finished, NotLeader, Waits}
use Rattle.agent_core.specs.Worlds as worlds
use Rattle.nego_world.specs.Events.{RefusalNamesAgent}
use Rattle.nego_world.specs.Stepping.{plain_why}
use Rattle.nego_cli.specs.declared.failure.PartName.{PartName}
use Rattle.nego_cli.specs.declared.failure.PartName.TheVariants as parts
use Rattle.nego_cli.specs.declared.failure.StartFault.{StartFault}
use Rattle.nego_cli.specs.declared.failure.StartFault.TheVariants.{StartCount, StartTooLarge}
use Rattle.nego_cli.specs.declared.failure.Refusal.{Refusal}
use Rattle.nego_cli.specs.declared.failure.Refusal.TheVariants as refusals

-- the diagram that the value of a text is
abbrev pub diagram_of : Parsed → PlainDiagram
diagram_of p = diagram_in (content_of p)

-- the name of the kind of a fault
abbrev pub kind_name : FaultKind → List ℕ
kind_name kinds.Line = codes "Line"
kind_name kinds.Byte = codes "Byte"
kind_name kinds.Version = codes "Version"
kind_name kinds.Word = codes "Word"
kind_name kinds.Count = codes "Count"
kind_name kinds.Name = codes "Name"
kind_name kinds.Number = codes "Number"
kind_name kinds.Case = codes "Case"
kind_name kinds.Agent = codes "Agent"
kind_name kinds.Many = codes "Many"

-- an outcome: its atom's name, a dot and its own
abbrev pub outcome_words : PlainDiagram → ℕ → List ℕ → List ℕ
outcome_words d o rest = atom_name d (atom_of d o) ++ (codes "." ++ (outcome_name d o ++ rest))

-- an outcome and an agent
abbrev pub choice_words : PlainDiagram → ℕ → ℕ → List ℕ → List ℕ
choice_words d o a rest = outcome_words d o (codes " " ++ (agent_name d a ++ rest))

abbrev pub many_name : Many → List ℕ
many_name many.Agents = codes "agents"
many_name many.Atoms = codes "atoms"
many_name many.Outcomes = codes "outcomes"

-- the values, each behind a blank
abbrev pub value_words : List ℕ → List ℕ → List ℕ
value_words [] rest = rest
value_words (value ∷ values) rest = codes " " ++ (decimal value ++ value_words values rest)

-- the kind of a fault of shape and its arguments
abbrev pub shape_words : PlainDiagram → ShapeKind → List ℕ → List ℕ
shape_words d shapes.NoAgent rest = codes "NoAgent" ++ rest
shape_words d (shapes.TooMany what) rest = codes "TooMany " ++ (many_name what ++ rest)
shape_words d (shapes.Twice name) rest = codes "Twice " ++ (name ++ rest)
shape_words d (shapes.Unknown name) rest = codes "Unknown " ++ (name ++ rest)
shape_words d (shapes.NoParty n) rest = codes "NoParty " ++ (atom_name d n.0 ++ rest)
shape_words d (shapes.NoOutcome n) rest = codes "NoOutcome " ++ (atom_name d n.0 ++ rest)
shape_words d (shapes.FirstLacks a) rest = codes "FirstLacks " ++ (agent_name d a.0 ++ rest)
shape_words d (shapes.LastLacks a) rest = codes "LastLacks " ++ (agent_name d a.0 ++ rest)
shape_words d (shapes.NextMissing o a) rest = codes "NextMissing " ++ choice_words d o.0 a.0 rest
shape_words d (shapes.NextStranger o a n) rest = codes "NextStranger " ++ choice_words d o.0 a.0 (codes " " ++ (atom_name d n.0 ++ rest))
shape_words d (shapes.LastLeads o) rest = codes "LastLeads " ++ outcome_words d o.0 rest
shape_words d (shapes.NotParty o a) rest = codes "NotParty " ++ choice_words d o.0 a.0 rest
shape_words d (shapes.ZeroSize a) rest = codes "ZeroSize " ++ (agent_name d a.0 ++ rest)
shape_words d (shapes.SizeTooLarge a) rest = codes "SizeTooLarge " ++ (agent_name d a.0 ++ rest)
shape_words d (shapes.JointTooLarge a) rest = codes "JointTooLarge " ++ (agent_name d a.0 ++ rest)
shape_words d (shapes.ValueTooLarge o a) rest = codes "ValueTooLarge " ++ choice_words d o.0 a.0 rest
shape_words d (shapes.NotTotal o e) rest = codes "NotTotal " ++ outcome_words d o.0 (value_words (split d.sizes e) rest)

-- the name of a part of an input
abbrev pub part_name : PartName → List ℕ
part_name parts.Diagram = codes "diagram"
part_name parts.Certificate = codes "certificate"
part_name parts.Schedule = codes "schedule"

-- a part of an input and a line of it
abbrev pub place_words : PartName → ℕ → List ℕ → List ℕ
place_words part line rest = part_name part ++ (codes " line " ++ (decimal line ++ (codes " " ++ rest)))

-- the place and the kind of a fault of grammar
abbrev pub fault_words : PartName → Fault → List ℕ → List ℕ
fault_words part fault rest = place_words part fault.line (codes "column " ++ (decimal fault.column ++ (codes " " ++ (kind_name fault.kind ++ rest))))

-- why start values are no start of the diagram's agents
abbrev pub start_fault_words : PlainDiagram → StartFault → List ℕ → List ℕ
start_fault_words d (StartCount given) rest = codes "StartCount " ++ (decimal given ++ rest)
start_fault_words d (StartTooLarge a) rest = codes "StartTooLarge " ++ (agent_name d a.0 ++ rest)

-- why an event is refused
abbrev pub event_refusal_words : PlainDiagram → worlds.Refusal → List ℕ → List ℕ
event_refusal_words d (worlds.NoMessage i) rest = codes "NoMessage " ++ (decimal i ++ rest)
event_refusal_words d (worlds.NoDecision Finished) rest = codes "Finished" ++ rest
event_refusal_words d (worlds.NoDecision NotLeader) rest = codes "NotLeader" ++ rest
event_refusal_words d (worlds.NoDecision (Waits p)) rest = codes "Waits " ++ (agent_name d p ++ rest)

-- the line of a schedule's event that is refused, and why
abbrev pub step_refusal_words : PlainDiagram → ℕ → worlds.Refusal → List ℕ → List ℕ
step_refusal_words d line why rest = place_words parts.Schedule line (event_refusal_words d why rest)

-- what is refused, and why
abbrev pub refusal_words : Refusal → List ℕ → List ℕ
refusal_words (refusals.TooLong part) rest = part_name part ++ (codes " TooLong" ++ rest)
refusal_words (refusals.NoEnd part line) rest = place_words part line (codes "NoEnd" ++ rest)
refusal_words (refusals.Off part fault) rest = fault_words part fault rest
refusal_words (refusals.Misshapen p fault) rest = place_words parts.Diagram fault.line (shape_words (diagram_of p) fault.kind rest)
refusal_words (refusals.Undetermined d o a) rest = codes "NotDeterministic " ++ choice_words d o.0 a.0 rest
refusal_words (refusals.NoStart d fault) rest = start_fault_words d fault rest
refusal_words (refusals.NoStep d line why) rest = step_refusal_words d line (plain_why why) rest

-- the line of a refusal
abbrev pub refusal_line : Refusal → List ℕ
refusal_line why = codes "refused " ++ refusal_words why (codes "\n")

-- The agent that the fault names is there.
abbrev pub IsAgentNamed : PlainDiagram → StartFault → Type 0
IsAgentNamed d (StartCount given) = ⊤
IsAgentNamed d (StartTooLarge a) = a.0 < length d.agents

-- What the refusal names is there: joint data of the text's sizes, or an outcome and an agent of the diagram.
abbrev pub IsNamed : Refusal → Type 0
IsNamed (refusals.Misshapen p fault) = AreJointIn p fault.kind
IsNamed (refusals.Undetermined d o a) = (o.0 < length d.outcomes) × (a.0 < length d.agents)
IsNamed (refusals.NoStart d fault) = IsAgentNamed d fault
IsNamed (refusals.NoStep d line why) = RefusalNamesAgent d (plain_why why)
IsNamed _ = ⊤
