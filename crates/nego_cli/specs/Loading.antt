-- Diagrams, certificates and schedules that are read of an input.
use Rattle.std.specs.Prelude.{◌≡◌, ◌⊎◌, ⊤, ℕ, List, [], ◌∷◌}
use Rattle.nego_base.specs.declared.fault.Fault.{Fault}
use Rattle.nego_model.specs.Diagram.{PlainDiagram, IsDiagram}
use Rattle.nego_reader.specs.declared.parsed.Parsed.{Parsed}
use Rattle.nego_reader.specs.Content.{content_of}
use Rattle.nego_reader.specs.Spelling.{Spells}
use Rattle.nego_reader.specs.Table.{IsFirstFault}
use Rattle.nego_cert.specs.Table as certificates
use Rattle.world_text.specs.ScheduleTable as schedules
use Rattle.nego_shape.specs.declared.fault.ShapeFault.{ShapeFault}
use Rattle.nego_shape.specs.Conditions.{HasShape}
use Rattle.nego_shape.specs.FirstFault as shapes
use Rattle.nego_cli.specs.declared.failure.PartName.{PartName}
use Rattle.nego_cli.specs.declared.failure.PartName.TheVariants.{Diagram, Certificate, Schedule}
use Rattle.nego_cli.specs.declared.failure.Refusal.{Refusal}
use Rattle.nego_cli.specs.declared.failure.Refusal.TheVariants.{TooLong, NoEnd, Off, Misshapen}
use Rattle.nego_cli.specs.declared.failure.Failure.{Failure}
use Rattle.nego_cli.specs.declared.failure.Failure.TheVariants as failures
use Rattle.nego_cli.specs.Effect.{Effect, HasFaulted, Stayed}
use Rattle.nego_cli.specs.Parts.{Read, ReadPart, ReadTooLong, ReadNoEnd, HasRead, TookParts}
use Rattle.nego_cli.specs.Refusals.{diagram_of}

-- The text spells a value that has the shape of a diagram, and this is its diagram.
pub record SpellsDiagram (text : List ℕ) (d : PlainDiagram) : Type 0 where
  pub value : Parsed
  pub spelled : Spells text value
  pub shaped : HasShape (content_of value)
  pub is : d ≡ diagram_of value

-- The text is off its grammar, first at this fault, and spells nothing.
pub record IsOffAt (text : List ℕ) (fault : Fault) : Type 0 where
  pub first : IsFirstFault text fault
  pub nothing : (p : Parsed) → ¬ Spells text p

abbrev pub IsOff : List ℕ → Refusal → Type 0
IsOff text why = (fault : Fault) × (why ≡ Off Diagram fault) × IsOffAt text fault

-- The value that the text spells has a fault of shape, of which this is the first.
abbrev pub IsMisshapen : List ℕ → Refusal → Type 0
IsMisshapen text why = (p : Parsed) × (fault : ShapeFault) × (why ≡ Misshapen p fault) × Spells text p × shapes.IsFirstFault p fault

-- Why the text has no diagram: it is off its grammar, or what it spells has a fault of shape.
abbrev pub HasNoDiagram : List ℕ → Refusal → Type 0
HasNoDiagram text why = IsOff text why ⊎ IsMisshapen text why

-- What was read where a part of this name was wanted is none, for this reason: the text has no value, for the reason that
-- its grammar gives, or there is no text.
abbrev pub IsNoPart : PartName → (List ℕ → Refusal → Type 0) → Read → Refusal → Type 0
IsNoPart name is_wrong (ReadPart text) why = is_wrong text why
IsNoPart name is_wrong ReadTooLong why = why ≡ TooLong name
IsNoPart name is_wrong (ReadNoEnd line) why = why ≡ NoEnd name line

-- What was read where a diagram was wanted is none, for this reason.
abbrev pub IsNoDiagram : Read → Refusal → Type 0
IsNoDiagram = IsNoPart Diagram HasNoDiagram

-- The text is off the grammar of certificates, first at this fault.
abbrev pub HasNoCertificate : List ℕ → Refusal → Type 0
HasNoCertificate text why = (fault : Fault) × (why ≡ Off Certificate fault) × certificates.IsFirstFault text fault

-- What was read where a certificate was wanted is none, for this reason.
abbrev pub IsNoCertificate : Read → Refusal → Type 0
IsNoCertificate = IsNoPart Certificate HasNoCertificate

-- The text is off the grammar of the diagram's schedules, first at this fault.
abbrev pub HasNoSchedule : PlainDiagram → List ℕ → Refusal → Type 0
HasNoSchedule d text why = (fault : Fault) × (why ≡ Off Schedule fault) × schedules.IsFirstFault d text fault

-- What was read where a schedule was wanted is none, for this reason.
abbrev pub IsNoSchedule : PlainDiagram → Read → Refusal → Type 0
IsNoSchedule d = IsNoPart Schedule (HasNoSchedule d)

-- The text spells this diagram, which is one.
abbrev pub IsDiagramOf : List ℕ → PlainDiagram → Type 0
IsDiagramOf text d = SpellsDiagram text d × IsDiagram d

-- A part was read, and spells this value.
pub record HasValue {X : Type 0} (spells : List ℕ → X → Type 0) (source : Effect) (x : X) : Type 0 where
  pub text : List ℕ
  pub read : HasRead (ReadPart text ∷ []) source
  pub spelled : spells text x

-- Why no value of a part was read: what was read is none, a call of the source failed, or memory was wanted.
abbrev pub HasNoValue : (Read → Refusal → Type 0) → Effect → Failure → Type 0
HasNoValue is_none source (failures.Refused why) = (read : Read) × HasRead (read ∷ []) source × is_none read why
HasNoValue is_none source failures.ReadFault = HasFaulted source × TookParts 1 source
HasNoValue is_none source failures.Memory = Stayed source × TookParts 1 source
HasNoValue is_none source failures.Words = ⊥

-- Why no part of this name was read: it is too long, or has no end, a call of the source failed, or memory was wanted.
abbrev pub HasNoPart : PartName → Effect → Failure → Type 0
HasNoPart part source (failures.Refused (TooLong named)) = (named ≡ part) × HasRead (ReadTooLong ∷ []) source
HasNoPart part source (failures.Refused (NoEnd named line)) = (named ≡ part) × HasRead (ReadNoEnd line ∷ []) source
HasNoPart part source (failures.Refused _) = ⊥
HasNoPart part source failures.ReadFault = HasFaulted source × TookParts 1 source
HasNoPart part source failures.Memory = Stayed source × TookParts 1 source
HasNoPart part source failures.Words = ⊥

-- Why there is no value of the text: it has none, for the reason that its grammar gives, or memory was wanted.
abbrev pub IsUnspelled : (List ℕ → Refusal → Type 0) → List ℕ → Failure → Type 0
IsUnspelled is_wrong text (failures.Refused why) = is_wrong text why
IsUnspelled is_wrong text failures.Memory = ⊤
IsUnspelled is_wrong text _ = ⊥

-- The value has the shape of a diagram, and this is its diagram, which is one.
abbrev pub IsShapeOf : Parsed → PlainDiagram → Type 0
IsShapeOf p d = HasShape (content_of p) × (d ≡ diagram_of p) × IsDiagram d

-- Why there is no diagram of the value: it has this first fault of shape, or memory was wanted.
abbrev pub HasNoShape : Parsed → Failure → Type 0
HasNoShape p (failures.Refused (Misshapen q fault)) = (q ≡ p) × shapes.IsFirstFault p fault
HasNoShape p (failures.Refused _) = ⊥
HasNoShape p failures.Memory = ⊤
HasNoShape p _ = ⊥
