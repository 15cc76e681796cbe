-- The answer of the command that words say is the answer to the words.
use Rattle.std.proofs.Common.{◌≡◌, ◌∙◌, ℕ, ◌<◌, List, Option, Some, None, Result, Ok, Err, refl, sym, ap, subst}
use Rattle.std.specs.Prelude.{IfErr, option_and_then}
use Rattle.std.specs.Option.{option_map_or}
use Rattle.nego_cli.specs.declared.answer.Answer.{Answer}
use Rattle.nego_cli.specs.declared.command.Command.{Command}
use Rattle.nego_cli.specs.declared.failure.Failure.{Failure}
use Rattle.nego_cli.specs.declared.failure.Failure.TheVariants as failures
use Rattle.nego_cli.specs.Effect.{Effect}
use Rattle.nego_cli.specs.Parts.{TookParts}
use Rattle.nego_cli.specs.Turn.{TellsText, Refuses}
use Rattle.nego_cli.specs.Words.{command_of}
use Rattle.nego_cli.specs.Commands.{parts_of, built, asked, Asks, most_parts}
use Rattle.nego_cli.specs.Dispatch.{IsAnswer}
use Rattle.nego_cli.specs.Delivery.{FailureIsNamed}
use Rattle.nego_cli.specs.Answer.{IsFound}
use Rattle.nego_cli.proofs.Turns.{parts_within, turn_named}

asks_so : (words : List (List ℕ)) (command : Command) (most : ℕ) → command_of words ≡ Some command → parts_of command ≡ Some most → Asks words command
asks_so words command most is parts = ap (option_and_then built) is ∙ ap (option_and_then (λ _. Some command)) parts

-- a command that isn't built reads no part
built_most : (command : Command) (parts : Option ℕ) → parts_of command ≡ parts → most_parts (built command) ≡ most_parts (Some command)
built_most command (Some most) is = ap most_parts (ap (option_and_then (λ _. Some command)) is)
built_most command None is = ap most_parts (ap (option_and_then (λ _. Some command)) is) ∙ sym (ap (λ parts. option_map_or (λ n. n) parts 0) is)

most_so : (words : List (List ℕ)) (command : Command) → command_of words ≡ Some command → most_parts (Some command) ≡ most_parts (asked words)
most_so words command is = sym (ap (λ c. most_parts (option_and_then built c)) is ∙ built_most command (parts_of command) refl)

pub found_so : (words : List (List ℕ)) (command : Command) (source : Effect) (r : Result Answer Failure) → command_of words ≡ Some command → IsAnswer command source r → IsFound words source r
found_so words command source (Ok answer) is (reads, read, turn, told) =
    let within = parts_within command reads TellsText turn in
    record { command = command; reads = reads; asks = asks_so words command within.0 is within.1; read = read; turn = turn; told = told }
found_so words command source (Err failures.Words) is (none, read) = (ap (option_and_then built) is ∙ ap (option_and_then (λ _. Some command)) none, read)
found_so words command source (Err (failures.Refused why)) is (reads, read, turn) =
    let within = parts_within command reads (Refuses why) turn in
    record { command = command; reads = reads; asks = asks_so words command within.0 is within.1; read = read; turn = turn }
found_so words command source (Err failures.ReadFault) is (reads, failed, took) =
    (subst (λ n. 0 < n) (most_so words command is) reads, failed, subst (λ n. TookParts n source) (most_so words command is) took)
found_so words command source (Err failures.Memory) is (stayed, took) = (stayed, subst (λ n. TookParts n source) (most_so words command is) took)

-- what a refusal names is there
pub found_named : (words : List (List ℕ)) (source : Effect) (r : Result Answer Failure) → IsFound words source r → IfErr r FailureIsNamed
found_named words source (Ok answer) h = tt
found_named words source (Err failures.Words) h = tt
found_named words source (Err (failures.Refused why)) h = turn_named h.command h.reads why h.turn
found_named words source (Err failures.ReadFault) h = tt
found_named words source (Err failures.Memory) h = tt
