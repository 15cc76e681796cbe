-- What passes between a command and the words that ask for it.
use Rattle.std.specs.Prelude.{◌≡◌, ℕ, ◌<◌, ⊤, List, [], None, Some, Result, Ok, Err}
use Rattle.nego_cli.specs.declared.answer.Answer.{Answer}
use Rattle.nego_cli.specs.declared.command.Command.{Command}
use Rattle.nego_cli.specs.declared.failure.Failure.{Failure}
use Rattle.nego_cli.specs.declared.failure.Failure.TheVariants as failures
use Rattle.nego_cli.specs.declared.failure.Refusal.{Refusal}
use Rattle.nego_cli.specs.declared.status.Status.{Status}
use Rattle.nego_cli.specs.Effect.{Effect, HasFaulted, Stayed}
use Rattle.nego_cli.specs.Parts.{Read, HasRead, TookParts}
use Rattle.nego_cli.specs.Turn.{Turn, TellsText, Refuses}
use Rattle.nego_cli.specs.Commands.{TurnOf, TextOf, parts_of, most_parts}

-- Why a command tells no text behind what it has read: it refuses, or memory was wanted.
abbrev pub HasNoText : (List Read → Turn → Type 0) → List Read → Failure → Type 0
HasNoText ends reads (failures.Refused why) = ends reads (Refuses why)
HasNoText ends reads failures.Memory = ⊤
HasNoText ends reads _ = ⊥

-- The failure is a refusal for such a reason.
abbrev pub IsRefusedFor : (Refusal → Type 0) → Failure → Type 0
IsRefusedFor is (failures.Refused why) = is why
IsRefusedFor is _ = ⊥

-- The answer has its cause in what was taken of the source, for a command that ends so and tells such texts behind what it
-- reads, which is so many parts at most. Only where it reads a part it has a read fault.
abbrev pub IsAnswerBy : (List Read → Turn → Type 0) → (List Read → Status → List ℕ → Type 0) → ℕ → Effect → Result Answer Failure → Type 0
IsAnswerBy ends tells most source (Ok answer) = (reads : List Read) × HasRead reads source × ends reads TellsText × tells reads answer.status answer.text
IsAnswerBy ends tells most source (Err (failures.Refused why)) = (reads : List Read) × HasRead reads source × ends reads (Refuses why)
IsAnswerBy ends tells most source (Err failures.ReadFault) = (0 < most) × HasFaulted source × TookParts most source
IsAnswerBy ends tells most source (Err failures.Memory) = Stayed source × TookParts most source
IsAnswerBy ends tells most source (Err failures.Words) = ⊥

-- The answer of the command has its cause in what was taken of the source; or the command isn't built.
abbrev pub IsAnswer : Command → Effect → Result Answer Failure → Type 0
IsAnswer command source (Err failures.Words) = (parts_of command ≡ None) × HasRead [] source
IsAnswer command source answer = IsAnswerBy (TurnOf command) (TextOf command) (most_parts (Some command)) source answer
