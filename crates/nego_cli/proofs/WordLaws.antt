-- What the words of a call come to, by what the command line makes of them.
use Rattle.std.proofs.Common.{◌≡◌, ◌∙◌, ℕ, Bool, true, false, refl, sym, ap, List, [], ◌∷◌, length, Option, Some, None, true≢false, unwrap_or, codes, map, option_map, Bor, Box, Result, Ok, Err, IfOk}
use Rattle.std.specs.Prelude.{◌≢◌, ◌==◌, nat_le, not, slice_index}
use Rattle.std.specs.List.{list_all}
use Rattle.std.proofs.lemmas.Bool.{and_parts}
use Rattle.clap.specs.Lexer.{strip_byte}
use Rattle.std.specs.Box.{box_value}
use Rattle.clap.specs.Words.{Row, Text, fault_of, matched_of, raw_values, rows_of, subcommand_name_of, subcommand_of, subcommand_rows, subcommand_rows_of}
use Rattle.clap.specs.declared.parser.matches.ArgMatches.{ArgMatches}
use Rattle.clap.specs.declared.parser.matches.ArgMatches.TheViews.{out-ArgMatches, out-SubCommand}
use Rattle.clap.specs.declared.parser.matches.Found.{Found}
use Rattle.clap.specs.declared.parser.matches.SubCommand.{SubCommand}
use Rattle.clap.proofs.WalkLemmas.{raw_values-rows}
use Rattle.nego_cli.specs.CommandLine.{command_line, command_split, numbers_in}
use Rattle.nego_cli.specs.Words.{Gives, are_words, command_of, command_with, is_word, takes_count}
use Rattle.nego_cli.specs.declared.command.WordsAnswer.{WordsAnswer}
use Rattle.nego_cli.specs.declared.command.WordsAnswer.TheVariants.{Words as BadWords}
use Rattle.nego_base.proofs.Cases.{ok-err, same_Err}
use Rattle.nego_cli.proofs.BehindName.{AllPlain, IsPlain}
use Rattle.nego_cli.proofs.FirstWord.{no_word_fault}
use Rattle.nego_cli.proofs.SplitLaws.{rows_for, splits}

plain_byte : (word : List ℕ) → not (slice_index word 0 == 45) ≡ true → IsPlain word
plain_byte [] h = refl
plain_byte (x ∷ xs) h = go (x == 45) refl
  where
    go : (b : Bool) → (x == 45) ≡ b → strip_byte 45 (x ∷ xs) ≡ None
    go true e = let bad : false ≡ true = rw e at h in absurd (true≢false (sym bad))
    go false e = rw e refl

plain_word : (word : List ℕ) → is_word word ≡ true → IsPlain word
plain_word word h =
    let short = (and_parts (nat_le 1 (length word)) _ h).1 in
    let rest = (and_parts (nat_le (length word) 24) _ short).1 in
    plain_byte word (and_parts (not (slice_index word 0 == 45)) _ rest).0

all_plain : (words : List (List ℕ)) → list_all is_word words ≡ true → AllPlain words
all_plain [] h = tt
all_plain (word ∷ rest) h = let p = and_parts (is_word word) _ h in (plain_word word p.0, all_plain rest p.1)

each_plain : (words : List (List ℕ)) → are_words words ≡ true → AllPlain words
each_plain words h = all_plain words (and_parts (nat_le (length words) 19) _ (and_parts (nat_le 1 (length words)) _ h).1).1

-- the words of a command that the command line takes
pub record IsTaken (words : List (List ℕ)) : Type 0 where
  pub name : List ℕ
  pub rest : List (List ℕ)
  pub split : subcommand_of command_line words ≡ Some (name, rows_for rest)
  pub said : command_of words ≡ command_with name rest

pub taken : (words : List (List ℕ)) → are_words words ≡ true → fault_of command_line words ≡ [] → IsTaken words
taken [] h none = let bad = sym no_word_fault ∙ none in cc
taken (name ∷ rest) h none =
    let s = splits name rest (each_plain (name ∷ rest) h) in
    let count : takes_count name (length rest) ≡ true = s.0.0 none in
    record { name = name; rest = rest; split = s.1 none; said = rw (h, count) refl }

pub refused : (words : List (List ℕ)) → are_words words ≡ true → fault_of command_line words ≢ [] → command_of words ≡ None
refused [] h some = refl
refused (name ∷ rest) h some =
    let count : takes_count name (length rest) ≡ false = (splits name rest (each_plain (name ∷ rest) h)).0.1 some in
    rw (h, count) refl

pub numbers_are : (rest : List Text) → numbers_in (rows_for rest) ≡ rest
numbers_are [] = refl
numbers_are (word ∷ rest) = refl

-- ---- what was found, as the getters of the matches say it

pub split_by : (m : ArgMatches) (name : Text) (rows : List Row) → Some name ≡ subcommand_name_of m → Some rows ≡ option_map (λ p. p.1) (subcommand_rows_of m)
    → subcommand_rows_of m ≡ Some (name, rows)
split_by m name rows = go (out-ArgMatches m).subcommand
  where
    go : {Z : Type 0} (o : Option (Box SubCommand Z)) → Some name ≡ option_map (λ b. (out-SubCommand (box_value b)).name.now) o
        → Some rows ≡ option_map (λ p. p.1) (subcommand_rows o) → subcommand_rows o ≡ Some (name, rows)
    go None e f = cc
    go (Some b) e f = cc

texts_or : (o : Option (Bor (List (Bor Text)))) (d : Bor (List (Bor Text))) → d.now ≡ []
    → map (λ s. s.now) (unwrap_or o d).now ≡ unwrap_or (option_map (λ texts. map (λ s. s.now) texts.now) o) []
texts_or None d e = ap (map (λ s. s.now)) e
texts_or (Some texts) d e = refl

pub numbers_read : (f : Found) (o : Option (Bor (List (Bor Text)))) (d : Bor (List (Bor Text))) → d.now ≡ []
    → option_map (λ texts. map (λ s. s.now) texts.now) o ≡ option_map raw_values (matched_of f (codes "numbers"))
    → map (λ s. s.now) (unwrap_or o d).now ≡ numbers_in (rows_of f)
numbers_read f o d e h = texts_or o d e ∙ ap (λ o. unwrap_or o []) (h ∙ raw_values-rows f (codes "numbers"))

-- ---- answers

pub gives_ok : {A : Type 0} (o : Option A) (r : Result A WordsAnswer) → Gives o r → IfOk r (λ x. o ≡ Some x)
gives_ok o (Ok x) h = h
gives_ok o (Err e) h = tt

pub gives_err : {A : Type 0} (o : Option A) (r : Result A WordsAnswer) → Gives o r → r ≡ Err BadWords → o ≡ None
gives_err o (Ok x) h e = absurd (ok-err x BadWords e)
gives_err {A} o (Err d) h e = h (same_Err {T = A} d BadWords e)

-- what the words of a call were split into is the command that they say
pub command_found : (words : List (List ℕ)) → are_words words ≡ true → fault_of command_line words ≡ [] → (found : Option (Text × List Row)) → found ≡ subcommand_of command_line words
    → command_split found ≡ command_of words
command_found words h none found is =
    let t = taken words h none in
    ap command_split (is ∙ t.split) ∙ ap (command_with t.name) (numbers_are t.rest) ∙ sym t.said
