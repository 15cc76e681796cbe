-- That what `reduce` prints of a diagram can be replayed behind it.
use Rattle.std.specs.Prelude.{◌≡◌, ◌↔◌, ℕ, ◌≤◌, List, [], ◌∷◌, ◌++◌, length}
use Rattle.nego_io.specs.Laws.{IsClosedPart}
use Rattle.nego_model.specs.Diagram.{PlainDiagram}
use Rattle.nego_expr.specs.Work.{PlainWork}
use Rattle.nego_expr.specs.Use.{PlainUse}
use Rattle.nego_expr.specs.Finish.{summary_of_work}
use Rattle.nego_cert.specs.Replay.{PlainVerdict, Accepted, NotOne}
use Rattle.nego_cli.specs.declared.command.Command.TheVariants.{Reduce, Replay}
use Rattle.nego_cli.specs.declared.status.Status.{Status}
use Rattle.nego_cli.specs.declared.verdict.Verdict.{Verdict}
use Rattle.nego_cli.specs.declared.verdict.Verdict.TheVariants.{Sound}
use Rattle.nego_cli.specs.Parts.{ReadPart, part_limit, reads_at}
use Rattle.nego_cli.specs.Loading.{SpellsDiagram}
use Rattle.nego_cli.specs.Turn.{TellsText}
use Rattle.nego_cli.specs.Commands.{TurnOf, TextOf}
use Rattle.nego_cli.specs.Verdict.{IsReducedTo}
use Rattle.nego_cli.specs.Certificate.{reduction_text}
use Rattle.nego_cli.specs.Replay.{replay_status, replay_text}

-- what replay comes to with the certificate of a reduction that leaves this work: it is accepted with the same summary where
-- the diagram is called sound, and else as many atoms are left
abbrev pub replayed_verdict : PlainWork → Verdict → PlainVerdict
replayed_verdict left Sound = Accepted (summary_of_work left)
replayed_verdict left _ = NotOne (length left.atoms)

-- The text is a reduction of the diagram which the part spells. With this text behind it, the part is an input of `replay`,
-- which tells just what the reduction's certificate comes to.
pub record IsReplayed (part text : List ℕ) : Type 0 where
  pub diagram : PlainDiagram
  pub uses : List PlainUse
  pub left : PlainWork
  pub verdict : Verdict
  pub spelled : SpellsDiagram part diagram
  pub reduced : IsReducedTo diagram uses left verdict
  pub printed : text ≡ reduction_text diagram uses left verdict
  pub turn : TurnOf Replay (reads_at 2 (part ++ text)) TellsText
  pub told : (status : Status) (told : List ℕ) →
      TextOf Replay (reads_at 2 (part ++ text)) status told ↔ ((status ≡ replay_status (replayed_verdict left verdict)) × (told ≡ replay_text (length uses) (replayed_verdict left verdict)))

-- Each text that `reduce` tells of a part can be replayed behind it, where the part's last line ends with a newline.
abbrev pub ReductionsAreReplayed : Type 0
ReductionsAreReplayed = (part text : List ℕ) (status : Status) → IsClosedPart part → length part ≤ part_limit → TurnOf Reduce (ReadPart part ∷ []) TellsText → TextOf Reduce (ReadPart part ∷ []) status text → IsReplayed part text
