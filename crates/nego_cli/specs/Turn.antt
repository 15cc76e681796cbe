-- What a command does behind what it has read.
use Rattle.std.specs.Prelude.{◌≡◌, ◌⊎◌, ℕ, List, [], ◌∷◌}
use Rattle.nego_model.specs.Diagram.{PlainDiagram}
use Rattle.nego_cli.specs.declared.failure.Refusal.{Refusal}
use Rattle.nego_cli.specs.declared.status.Status.{Status}
use Rattle.nego_cli.specs.Parts.{Read, ReadPart}
use Rattle.nego_cli.specs.Loading.{SpellsDiagram, IsNoDiagram, IsDiagramOf}

-- How a command ends: it tells a text, or refuses.
pub data Turn : Type 0 where
  TellsText : Turn
  Refuses : Refusal → Turn

-- A command that reads nothing more tells a text where it can, and refuses for each reason for which it can't.
abbrev pub TurnHere : Type 0 → (Refusal → Type 0) → List Read → Turn → Type 0
TurnHere can cannot reads TellsText = can × (reads ≡ [])
TurnHere can cannot reads (Refuses why) = cannot why × (reads ≡ [])

-- A command that reads nothing more tells a text, whatever it was given.
abbrev pub OnlyTells : List Read → Turn → Type 0
OnlyTells reads turn = (turn ≡ TellsText) × (reads ≡ [])

-- A command over a part of some kind refuses what is no such part, and else does this with the value that the part spells
-- and with what it reads behind it.
abbrev pub TurnOver : {X : Type 0} → (List ℕ → X → Type 0) → (Read → Refusal → Type 0) → (X → List Read → Turn → Type 0) → List Read → Turn → Type 0
TurnOver spells is_none does [] turn = ⊥
TurnOver {X} spells is_none does (read ∷ reads) turn =
    ((why : Refusal) × (turn ≡ Refuses why) × (reads ≡ []) × is_none read why) ⊎ ((text : List ℕ) × (x : X) × (read ≡ ReadPart text) × spells text x × does x reads turn)

-- The text of a command over a part: it tells this of the value that the part spells and of what is read behind it.
abbrev pub TextOver : {X : Type 0} → (List ℕ → X → Type 0) → (X → List Read → Status → List ℕ → Type 0) → List Read → Status → List ℕ → Type 0
TextOver {X} spells tells (ReadPart text ∷ reads) status out = (x : X) × spells text x × tells x reads status out
TextOver spells tells _ status out = ⊥

-- A command over a diagram does this with the diagram and with what it reads behind it.
abbrev pub TurnOverDiagram : (PlainDiagram → List Read → Turn → Type 0) → List Read → Turn → Type 0
TurnOverDiagram does = TurnOver SpellsDiagram IsNoDiagram does

-- It tells this of the diagram and of what is read behind it.
abbrev pub TextOverDiagram : (PlainDiagram → List Read → Status → List ℕ → Type 0) → List Read → Status → List ℕ → Type 0
TextOverDiagram tells = TextOver IsDiagramOf tells
