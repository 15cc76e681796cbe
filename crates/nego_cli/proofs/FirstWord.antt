-- How the command line takes the first word.
use Rattle.std.proofs.Common.{◌≡◌, ◌∙◌, ◌++◌, false, refl, sym, ap, ap₂, List, [], ◌∷◌, Option, Some, None, codes}
use Rattle.std.specs.Prelude.{is_some, find}
use Rattle.std.specs.Option.{option_map, option_map_or}
use Rattle.std.specs.List.{fold}
use Rattle.std.specs.Str.{bytes_eq}
use Rattle.clap.specs.Walk.{Names, Text, Walk, after_step, answers_to, finished, idle, nothing_held, rows_after, settled, subcommand_met, subcommand_or_other, walk, walk_from, walked}
use Rattle.clap.specs.Simple.{App, Shape, built, entered, label_of, names_of, rows_at, subcommand_of}
use Rattle.clap.specs.Kinds.{Kinds, or_else}
use Rattle.clap.specs.Faults.{check_fault, defaults_fault, entered_fault, fault_of, level_fault, other_fault, settle_fault, step_fault, turn_fault, walk_fault}
use Rattle.clap.specs.declared.error.kind.ErrorKind.TheVariants as kind
use Rattle.clap.proofs.WalkLemmas.{walk_stopped}
use Rattle.nego_cli.specs.CommandLine.{command_line}
use Rattle.nego_cli.proofs.BehindName.{IsPlain, no_dashes, no_long, no_short, or_else_nil}

abbrev pub whole : App
whole = built command_line

abbrev pub names : Names
names = names_of whole

-- the command of this name
abbrev pub command_found : Text → Option Shape
command_found name = find (λ s. answers_to name (label_of s)) whole.subs

-- the faults of the command line, by those of its walk and by where it ends
abbrev whole_of : Kinds → Walk → Kinds
whole_of of_walk w =
    or_else of_walk (or_else (entered_fault whole w.stopped) (or_else (settle_fault [] false w.held)
    (or_else (defaults_fault (settled [] w.held).rows []) (check_fault whole.top (finished [] w.held) (is_some (entered whole w.stopped))))))

-- the walk at a word that a command answers to, or none
abbrev walked_by : Text → Option Text → Walk
walked_by name o = let met = subcommand_or_other [] o idle 1 name nothing_held in after_step [] name (walk_from nothing_held) met.0 met.1

abbrev turned_by : Text → Option Text → Kinds
turned_by name o = let met = subcommand_or_other [] o idle 1 name nothing_held in or_else (other_fault whole.top o name nothing_held) (step_fault whole.top 1 met.0 met.1)

-- ---- a first word that names a command

module _ (name : Text) (met : subcommand_met names idle name ≡ Some name) (help : bytes_eq name (codes "help") ≡ false) (s : Shape) (found : command_found name ≡ Some s) where
  abbrev stop : List Text → Walk
  stop rest = record (walk_from nothing_held) { stopped = Some (name, rest) }

  named : walked [] names (walk_from nothing_held) name ≡ stop []
  unfolding walked
  named = ap (walked_by name) met

  all_behind : (rest : List Text) → walk [] names nothing_held (name ∷ rest) ≡ stop rest
  all_behind rest = ap (λ w. fold (walked [] names) w rest) named ∙ sym (walk_stopped [] names (walk_from nothing_held) name [] rest)

  name_passes : turn_fault whole.top names (walk_from nothing_held) name ≡ []
  name_passes = ap (turned_by name) met ∙ rw help refl

  behind_passes : (seen rest : List Text) → walk_fault whole.top names (stop seen) rest ≡ []
  unfolding walk_fault walked
  behind_passes seen [] = refl
  behind_passes seen (word ∷ rest) = behind_passes (seen ++ word ∷ []) rest

  all_pass : (rest : List Text) → walk_fault whole.top names (walk_from nothing_held) (name ∷ rest) ≡ []
  unfolding walk_fault
  all_pass rest = ap₂ (λ (k : Kinds) (w : Walk). or_else k (walk_fault whole.top names w rest)) name_passes named ∙ behind_passes [] rest

  -- what its command makes of the words behind it
  pub named_fault : (rest : List Text) → fault_of command_line (name ∷ rest) ≡ level_fault s [] nothing_held rest false []
  unfolding defaults_fault
  named_fault rest =
      ap₂ whole_of (all_pass rest) (all_behind rest)
      ∙ ap (λ (o : Option Shape). or_else (option_map_or (λ t. level_fault t [] nothing_held rest false []) o []) (check_fault whole.top [] (is_some (option_map (λ t. rows_at t rest) o)))) found
      ∙ or_else_nil (level_fault s [] nothing_held rest false [])

  pub named_rows : (rest : List Text) → subcommand_of command_line (name ∷ rest) ≡ Some (s.name, rows_after s.rules [] rest)
  named_rows rest = ap (λ (w : Walk). entered whole w.stopped) (all_behind rest) ∙ ap (λ (o : Option Shape). option_map (λ t. rows_at t rest) o) found

-- ---- another first word, and none

pub other_fault_of : (name : Text) → IsPlain name → subcommand_met names idle name ≡ None → (rest : List Text)
    → fault_of command_line (name ∷ rest) ≡ kind.UnknownArgument ∷ kind.InvalidSubcommand ∷ []
unfolding walk_fault
other_fault_of name h none rest =
    let end = walk [] names nothing_held (name ∷ rest) in
    let turn : turn_fault whole.top names (walk_from nothing_held) name ≡ kind.UnknownArgument ∷ kind.InvalidSubcommand ∷ [] =
    ap (turned_by name) none ∙ rw (no_dashes name h, no_long name h, no_short name h) refl in
    ap (λ (k : Kinds). whole_of (or_else k (walk_fault whole.top names (walked [] names (walk_from nothing_held) name) rest)) end) turn

pub no_word_fault : fault_of command_line [] ≡ kind.MissingSubcommand ∷ []
unfolding walk_fault defaults_fault
no_word_fault = refl
