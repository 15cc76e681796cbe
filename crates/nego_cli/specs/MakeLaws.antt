-- That what `make` prints begins with a diagram that is deterministic, acyclic and sound.
use Rattle.std.specs.Prelude.{◌≡◌, ◌↔◌, ℕ, ◌≤◌, List, [], ◌∷◌, ◌++◌, length}
use Rattle.nego_model.specs.Negotiation.{IsDeterministic}
use Rattle.nego_model.specs.Acyclic.{IsAcyclic}
use Rattle.nego_model.specs.Occurring.{IsSound}
use Rattle.nego_model.specs.Diagram.{negotiation_of}
use Rattle.nego_expr.specs.Work.{PlainWork}
use Rattle.nego_expr.specs.Use.{PlainUse}
use Rattle.nego_cli.specs.declared.command.Command.TheVariants.{Reduce, Make}
use Rattle.nego_cli.specs.declared.status.Status.{Status}
use Rattle.nego_cli.specs.declared.status.Status.TheVariants.{Done}
use Rattle.nego_cli.specs.declared.verdict.Verdict.TheVariants.{Sound}
use Rattle.nego_cli.specs.Parts.{ReadPart, reads_at}
use Rattle.nego_cli.specs.Loading.{SpellsDiagram}
use Rattle.nego_cli.specs.Commands.{TextOf}
use Rattle.nego_cli.specs.Certificate.{reduction_text}
use Rattle.nego_cli.specs.Make.{made_diagram, made_line}

-- The text is a part and a line behind it. Whatever stands behind the part, the first part that is read is this one,
-- which spells the diagram of n atoms; and this one is deterministic, acyclic and sound. `reduce` tells one text of it, that it
-- is sound, and the line's last numbers are of this text: that of its uses, and that of its nodes.
pub record IsMadeInput (n : ℕ) (text : List ℕ) : Type 0 where
  pub part : List ℕ
  pub uses : List PlainUse
  pub left : PlainWork
  pub joined : text ≡ part ++ made_line (made_diagram n) (length uses) (length left.nodes) []
  pub read : (rest : List ℕ) → reads_at 1 (part ++ rest) ≡ ReadPart part ∷ []
  pub spelled : SpellsDiagram part (made_diagram n)
  pub determined : IsDeterministic (negotiation_of (made_diagram n))
  pub acyclic : IsAcyclic (negotiation_of (made_diagram n))
  pub sound : IsSound (negotiation_of (made_diagram n))
  pub reduced : (status : Status) (told : List ℕ) → TextOf Reduce (ReadPart part ∷ []) status told ↔ ((status ≡ Done) × (told ≡ reduction_text (made_diagram n) uses left Sound))

-- Each text that `make` tells is such an input.
abbrev pub MadeTextsAreInputs : Type 0
MadeTextsAreInputs = (n : ℕ) → 2 ≤ n → n ≤ 64 → (status : Status) (text : List ℕ) → TextOf (Make n) [] status text → IsMadeInput n text
