-- How a command of the command line takes the words behind its name.
use Rattle.std.proofs.Common.{◌≡◌, ◌∙◌, ◌++◌, ◌||◌, ℕ, Bool, true, false, refl, sym, ap, ap₂, List, [], ◌∷◌, length, Option, Some, None, append-nil, append_assoc, codes, nat_lt}
use Rattle.std.specs.Prelude.{not, ◌==◌}
use Rattle.std.specs.List.{fold}
use Rattle.std.specs.Str.{bytes_eq}
use Rattle.clap.specs.Lexer.{long_of, short_of, strip_byte}
use Rattle.clap.specs.Walk.{Held, Row, Rule, Text, Walk, finished, idle, nothing_held, positional, rows_after, settled, walk, walk_from, walked}
use Rattle.clap.specs.Simple.{Shape, built_leaf, filled, inherited, with_index}
use Rattle.clap.specs.Kinds.{Kinds, or_else, range_kinds, values_kinds}
use Rattle.clap.specs.Faults.{check_fault, defaults_fault, level_fault, settle_fault, turn_fault, walk_fault}
use Rattle.clap.specs.declared.error.kind.ErrorKind.TheVariants as kind
use Rattle.clap.specs.declared.parser.matches.ValueSource.TheVariants.{CommandLine}
use Rattle.clap.specs.declared.builder.value_parser.Reading.TheVariants.{AsWritten}
use Rattle.clap.specs.declared.builder.value_parser.ValueParser.TheVariants as vp
use Rattle.nego_cli.specs.CommandLine.{alone, numbers_rule, program, with_numbers}

-- the word doesn't begin with `-`
abbrev pub IsPlain : Text → Type 0
IsPlain word = strip_byte 45 word ≡ None

abbrev pub AllPlain : List Text → Type 0
AllPlain [] = Unit {0}
AllPlain (word ∷ rest) = IsPlain word × AllPlain rest

-- a plain word isn't `--`
pub no_dashes : (word : Text) → IsPlain word → bytes_eq word (45 ∷ 45 ∷ []) ≡ false
no_dashes [] h = refl
no_dashes (x ∷ xs) h = go (x == 45) refl
  where
    go : (b : Bool) → (x == 45) ≡ b → bytes_eq (x ∷ xs) (45 ∷ 45 ∷ []) ≡ false
    go true e = let bad : ◌≡◌ {A = Option Text} (Some xs) None = rw e at h in cc
    go false e = rw e refl

-- nor a flag
pub no_long : (word : Text) → IsPlain word → long_of word ≡ None
no_long word h = rw h refl

pub no_short : (word : Text) → IsPlain word → short_of word ≡ None
no_short word h = rw h refl

-- a command as the program has it
abbrev pub ready : Shape → Shape
ready s = built_leaf (inherited program.top s)

-- the argument of the words behind the name, as built
abbrev pub numbers : ℕ → ℕ → List Rule
numbers fewest most = with_index 1 (filled (numbers_rule fewest most)) ∷ []

pub or_else_nil : (k : Kinds) → or_else k [] ≡ k
or_else_nil [] = refl
or_else_nil (x ∷ xs) = refl

-- each text is a value
any_values : (vs : List Text) → values_kinds false vp.String vs ≡ []
any_values [] = refl
any_values (v ∷ vs) = any_values vs

-- what is found for these words
abbrev pub numbers_row : List Text → Row
numbers_row words = record { id = codes "numbers"; values = words; count = None; source = Some CommandLine; reading = AsWritten }

-- the faults of a level, by those of its walk and by what is held at its end
abbrev level_of : Shape → Kinds → Held → Kinds
level_of s of_walk end =
    or_else of_walk (or_else [] (or_else (settle_fault s.rules s.args_override_self end)
    (or_else (defaults_fault (settled s.rules end).rows s.rules) (check_fault s (finished s.rules end) false))))

-- ---- a command that takes several words

module _ (name : Text) (fewest most : ℕ) (several : (not (fewest == most) || nat_lt 1 fewest) ≡ true) where
  -- the walk behind these words
  abbrev behind : List Text → Walk
  behind words =
      record { held = record { rows = []; pending = Some (codes "numbers", words); skip = 0 }; waiting = positional; position = 1; is_trailing = false; stopped = None }

  first_word : (word : Text) → IsPlain word → walked (numbers fewest most) [] (walk_from nothing_held) word ≡ behind (word ∷ [])
  unfolding walked
  first_word word h =
      rw (no_dashes word h, no_long word h, no_short word h, several) refl

  next_word : (words : List Text) (word : Text) → IsPlain word → walked (numbers fewest most) [] (behind words) word ≡ behind (words ++ word ∷ [])
  unfolding walked
  next_word words word h =
      rw (no_dashes word h, no_long word h, no_short word h, several) refl

  next_words : (words rest : List Text) → AllPlain rest → fold (walked (numbers fewest most) []) (behind words) rest ≡ behind (words ++ rest)
  next_words words [] h = ap behind (sym (append-nil words))
  next_words words (word ∷ rest) h =
      ap (λ w. fold (walked (numbers fewest most) []) w rest) (next_word words word h.0) ∙ next_words (words ++ word ∷ []) rest h.1
      ∙ ap behind (append_assoc words (word ∷ []) rest)

  all_words : (word : Text) (rest : List Text) → AllPlain (word ∷ rest) → walk (numbers fewest most) [] nothing_held (word ∷ rest) ≡ behind (word ∷ rest)
  all_words word rest h = ap (λ w. fold (walked (numbers fewest most) []) w rest) (first_word word h.0) ∙ next_words (word ∷ []) rest h.1

  abbrev command : Shape
  command = ready (with_numbers name fewest most)

  first_word_passes : (word : Text) → IsPlain word → turn_fault command [] (walk_from nothing_held) word ≡ []
  first_word_passes word h = rw (no_dashes word h, no_long word h, no_short word h) refl

  next_word_passes : (words : List Text) (word : Text) → IsPlain word → turn_fault command [] (behind words) word ≡ []
  next_word_passes words word h = rw (no_dashes word h, no_long word h, no_short word h, several) refl

  next_words_pass : (words rest : List Text) → AllPlain rest → walk_fault command [] (behind words) rest ≡ []
  unfolding walk_fault
  next_words_pass words [] h = refl
  next_words_pass words (word ∷ rest) h =
      ap₂ (λ (k : Kinds) (w : Walk). or_else k (walk_fault command [] w rest)) (next_word_passes words word h.0) (next_word words word h.0)
      ∙ next_words_pass (words ++ word ∷ []) rest h.1

  all_words_pass : (word : Text) (rest : List Text) → AllPlain (word ∷ rest) → walk_fault command [] (walk_from nothing_held) (word ∷ rest) ≡ []
  unfolding walk_fault
  all_words_pass word rest h =
      ap₂ (λ (k : Kinds) (w : Walk). or_else k (walk_fault command [] w rest)) (first_word_passes word h.0) (first_word word h.0)
      ∙ next_words_pass (word ∷ []) rest h.1

  -- behind the walk only the count of the words is a fault
  count_faults : (word : Text) (rest : List Text) → level_of command [] (behind (word ∷ rest)).held ≡ range_kinds fewest most (length (word ∷ rest))
  unfolding defaults_fault
  count_faults word rest =
      let count = range_kinds fewest most (length (word ∷ rest)) in
      or_else_nil _ ∙ ap (or_else count) (any_values (word ∷ rest)) ∙ or_else_nil count

  pub several_fault : (word : Text) (rest : List Text) → AllPlain (word ∷ rest)
      → level_fault command [] nothing_held (word ∷ rest) false [] ≡ range_kinds fewest most (length (word ∷ rest))
  several_fault word rest h =
      ap₂ (λ (k : Kinds) (w : Walk). level_of command k w.held) (all_words_pass word rest h) (all_words word rest h) ∙ count_faults word rest

  -- without a word the argument is missing
  pub none_fault : level_fault command [] nothing_held [] false [] ≡ kind.MissingRequiredArgument ∷ []
  unfolding walk_fault defaults_fault
  none_fault = refl

  pub several_rows : (word : Text) (rest : List Text) → AllPlain (word ∷ rest) → rows_after command.rules [] (word ∷ rest) ≡ numbers_row (word ∷ rest) ∷ []
  several_rows word rest h = ap (λ (w : Walk). finished (numbers fewest most) w.held) (all_words word rest h)

-- ---- a command that takes one word

module _ (name : Text) where
  abbrev single : Shape
  single = ready (with_numbers name 1 1)

  -- the walk behind the word
  abbrev behind_one : Text → Walk
  behind_one word =
      record { held = record { rows = []; pending = Some (codes "numbers", word ∷ []); skip = 0 }; waiting = idle; position = 2; is_trailing = false; stopped = None }

  only_word : (word : Text) → IsPlain word → walked (numbers 1 1) [] (walk_from nothing_held) word ≡ behind_one word
  unfolding walked
  only_word word h = rw (no_dashes word h, no_long word h, no_short word h) refl

  only_word_passes : (word : Text) → IsPlain word → turn_fault single [] (walk_from nothing_held) word ≡ []
  only_word_passes word h = rw (no_dashes word h, no_long word h, no_short word h) refl

  second_word : (word second : Text) → IsPlain second → turn_fault single [] (behind_one word) second ≡ kind.UnknownArgument ∷ []
  second_word word second h = rw (no_dashes second h, no_long second h, no_short second h) refl

  pub missing_fault : level_fault single [] nothing_held [] false [] ≡ kind.MissingRequiredArgument ∷ []
  unfolding walk_fault defaults_fault
  missing_fault = refl

  pub one_fault : (word : Text) → IsPlain word → level_fault single [] nothing_held (word ∷ []) false [] ≡ []
  unfolding walk_fault defaults_fault
  one_fault word h =
      ap₂ (λ (k : Kinds) (w : Walk). level_of single (or_else k []) w.held) (only_word_passes word h) (only_word word h)

  pub two_fault : (word second : Text) (rest : List Text) → IsPlain word → IsPlain second
      → level_fault single [] nothing_held (word ∷ second ∷ rest) false [] ≡ kind.UnknownArgument ∷ []
  unfolding walk_fault
  two_fault word second rest h k =
      let end = walk (numbers 1 1) [] nothing_held (word ∷ second ∷ rest) in
      let later = λ (w : Walk). or_else (turn_fault single [] w second) (walk_fault single [] (walked (numbers 1 1) [] w second) rest) in
      ap₂ (λ (k : Kinds) (w : Walk). level_of single (or_else k (later w)) end.held) (only_word_passes word h) (only_word word h)
      ∙ ap (λ (k : Kinds). level_of single (or_else k (walk_fault single [] (walked (numbers 1 1) [] (behind_one word) second) rest)) end.held) (second_word word second k)

  pub one_row : (word : Text) → IsPlain word → rows_after single.rules [] (word ∷ []) ≡ numbers_row (word ∷ []) ∷ []
  one_row word h = ap (λ (w : Walk). finished (numbers 1 1) w.held) (only_word word h)

-- ---- a command that takes no word

module _ (name : Text) where
  abbrev bare : Shape
  bare = ready (alone name)

  pub bare_fault : level_fault bare [] nothing_held [] false [] ≡ []
  unfolding walk_fault defaults_fault
  bare_fault = refl

  stray_word : (word : Text) → IsPlain word → turn_fault bare [] (walk_from nothing_held) word ≡ kind.UnknownArgument ∷ []
  stray_word word h = rw (no_dashes word h, no_long word h, no_short word h) refl

  pub stray_fault : (word : Text) (rest : List Text) → IsPlain word → level_fault bare [] nothing_held (word ∷ rest) false [] ≡ kind.UnknownArgument ∷ []
  unfolding walk_fault
  stray_fault word rest h =
      let end = walk [] [] nothing_held (word ∷ rest) in
      ap (λ (k : Kinds). level_of bare (or_else k (walk_fault bare [] (walked [] [] (walk_from nothing_held) word) rest)) end.held) (stray_word word h)

  pub no_row : rows_after bare.rules [] [] ≡ []
  no_row = refl
