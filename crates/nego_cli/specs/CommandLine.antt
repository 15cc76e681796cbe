-- What `clap` splits the words by: the commands, each with how many words it takes behind its name.
use Rattle.std.specs.Prelude.{ℕ, true, List, [], Option, Some, codes, option_and_then, unwrap_or}
use Rattle.clap.specs.Words.{App, Row, Rule, Shape, Text, all_of, new_app, new_rule, with_rule, with_subcommand}
use Rattle.clap.specs.Simple.{new_shape, on_top}
use Rattle.nego_cli.specs.declared.command.Command.{Command}
use Rattle.nego_cli.specs.Words.{command_with}
use Rattle.clap.specs.declared.builder.action.ArgAction.TheVariants.{Set}

-- the argument that takes from `fewest` to `most` words
abbrev pub numbers_rule : ℕ → ℕ → Rule
numbers_rule fewest most = record (new_rule (codes "numbers")) {
  action = Some Set;
  range = Some (record { start_inclusive = fewest; end_inclusive = most });
  required = true;
}

-- a command that takes no word behind its name
abbrev pub alone : Text → Shape
alone name = new_shape name

-- a command that takes from `fewest` to `most` words behind its name
abbrev pub with_numbers : Text → ℕ → ℕ → Shape
with_numbers name fewest most = (with_rule (new_app name) (numbers_rule fewest most)).top

-- the program, before it has a command: its name is no word of a call, and it has no help
abbrev pub program : App
program = on_top (λ s. record s { no_binary_name = true; disable_help_flag = true; disable_help_subcommand = true; subcommand_required = true }) (new_app (codes "nego"))

-- the program with its commands
abbrev pub command_line : App
command_line =
    with_subcommand (with_subcommand (with_subcommand (with_subcommand (with_subcommand (with_subcommand (with_subcommand program
    (alone (codes "check"))) (alone (codes "reduce"))) (alone (codes "replay")))
    (with_numbers (codes "ask") 1 16)) (with_numbers (codes "run") 1 16))
    (with_numbers (codes "node") 3 18)) (with_numbers (codes "make") 1 1)

-- the words that were found for that argument
abbrev pub numbers_in : List Row → List Text
numbers_in rows = unwrap_or (all_of (codes "numbers") rows) []

-- the command of what the words were split into: its name, and what was found behind it
abbrev pub command_split : Option (Text × List Row) → Option Command
command_split = option_and_then (λ found. command_with found.0 (numbers_in found.1))
