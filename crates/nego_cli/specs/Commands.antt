-- The commands that are built: a row for each in three tables.
use Rattle.std.specs.Prelude.{◌≡◌, ℕ, List, Option, Some, None, option_and_then}
use Rattle.std.specs.Option.{option_map_or}
use Rattle.nego_cli.specs.declared.command.Command.{Command}
use Rattle.nego_cli.specs.declared.command.Command.TheVariants as commands
use Rattle.nego_cli.specs.declared.status.Status.{Status}
use Rattle.nego_cli.specs.Words.{command_of}
use Rattle.nego_cli.specs.Parts.{Read}
use Rattle.nego_cli.specs.Turn.{Turn, TurnOverDiagram, TextOverDiagram}
use Rattle.nego_cli.specs.Check.{CheckTurn, CheckText}
use Rattle.nego_cli.specs.Reduce.{ReduceTurn, ReduceText}
use Rattle.nego_cli.specs.Replay.{ReplayTurn, ReplayText}
use Rattle.nego_cli.specs.Ask.{AskTurn, AskText}
use Rattle.nego_cli.specs.Make.{MakeTurn, MakeText}
use Rattle.nego_cli.specs.Run.{RunTurn, RunText}

-- how many parts of the input a command reads at most, where it is built
abbrev pub parts_of : Command → Option ℕ
parts_of commands.Check = Some 1
parts_of commands.Reduce = Some 1
parts_of commands.Replay = Some 2
parts_of (commands.Ask values) = Some 1
parts_of (commands.Run values) = Some 2
parts_of (commands.Make n) = Some 0
parts_of _ = None

-- how a command ends behind what it has read
abbrev pub TurnOf : Command → List Read → Turn → Type 0
TurnOf commands.Check reads turn = TurnOverDiagram CheckTurn reads turn
TurnOf commands.Reduce reads turn = TurnOverDiagram ReduceTurn reads turn
TurnOf commands.Replay reads turn = TurnOverDiagram ReplayTurn reads turn
TurnOf (commands.Ask values) reads turn = TurnOverDiagram (AskTurn values) reads turn
TurnOf (commands.Run values) reads turn = TurnOverDiagram (RunTurn values) reads turn
TurnOf (commands.Make n) reads turn = MakeTurn reads turn
TurnOf _ reads turn = ⊥

-- which text a command tells of what it has read, and with which status
abbrev pub TextOf : Command → List Read → Status → List ℕ → Type 0
TextOf commands.Check reads status text = TextOverDiagram CheckText reads status text
TextOf commands.Reduce reads status text = TextOverDiagram ReduceText reads status text
TextOf commands.Replay reads status text = TextOverDiagram ReplayText reads status text
TextOf (commands.Ask values) reads status text = TextOverDiagram (AskText values) reads status text
TextOf (commands.Run values) reads status text = TextOverDiagram (RunText values) reads status text
TextOf (commands.Make n) reads status text = MakeText n reads status text
TextOf _ reads status text = ⊥

-- a command, where it is built
abbrev pub built : Command → Option Command
built command = option_and_then (λ _. Some command) (parts_of command)

-- the command that the words ask for, where it is built
abbrev pub asked : List (List ℕ) → Option Command
asked words = option_and_then built (command_of words)

-- The words ask for the command.
abbrev pub Asks : List (List ℕ) → Command → Type 0
Asks words command = asked words ≡ Some command

-- how many parts of the input are read at most for a command, or for none
abbrev pub most_parts : Option Command → ℕ
most_parts command = option_map_or (λ n. n) (option_and_then parts_of command) 0
