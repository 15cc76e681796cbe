-- When a line and its words are as a reader asks.
use Rattle.std.proofs.Common.{◌≡◌, ℕ, ◌≤◌, Bool, true, false, cond, ltb, Some, None, Option, Ok, Err, Result, inl, inr, List, length, refl, sym, ◌∙◌, ap, arith}
use Rattle.std.specs.Fmt.{decimal}
use Rattle.std.specs.List.{slice_get}
use Rattle.std.specs.Option.{option_map_or}
use Rattle.std.specs.Str.{bytes_eq}
use Rattle.std.proofs.lemmas.Bool.{cond-true, cond-false, le-ltb, ltb-false}
use Rattle.std.proofs.lemmas.Option.{slice_get_past, slice_get_cases, none-some}
use Rattle.std.proofs.lemmas.Slice.Eq.{bytes_eq-Decides}
use Rattle.nego_base.specs.declared.fault.Fault.{Fault}
use Rattle.nego_base.specs.declared.fault.FaultKind.TheVariants as kinds
use Rattle.nego_base.specs.declared.line.Word.{Word}
use Rattle.nego_base.specs.declared.line.Line.{Line}
use Rattle.nego_base.specs.Name.{is_name}
use Rattle.nego_base.specs.Number.{number_of}
use Rattle.nego_base.specs.Grammar.{at_word, past_line, least_words, exact_words, text_word, name_word, number_word}
use Rattle.nego_base.proofs.Cases.{same_Ok}
use Rattle.nego_base.proofs.NumberLaws.{number_is, number_of-decimal}

-- a test passed, or its fault
cond_ok : (t : Bool) (f : Fault) → ◌≡◌ {A = Result (Unit {0}) Fault} (cond t (Ok tt) (Err f)) (Ok tt) → t ≡ true
cond_ok true f h = refl
cond_ok false f h = cc

cond_err : (t : Bool) (f : Fault) → ◌≡◌ {A = Result (Unit {0}) Fault} (cond t (Err f) (Ok tt)) (Ok tt) → t ≡ false
cond_err true f h = cc
cond_err false f h = refl

pub least_ok : (n : ℕ) (line : Line) → least_words n line ≡ Ok tt → n ≤ length line.words
unfolding least_words
least_ok n line h = ltb-false (length line.words) n (cond_err (ltb (length line.words) n) (past_line kinds.Count line) h)

pub least_words-ok : (n : ℕ) (line : Line) → n ≤ length line.words → least_words n line ≡ Ok tt
unfolding least_words
least_words-ok n line h = cond-false _ _ _ (le-ltb (length line.words) n h)

past_end : (line : Line) (n : ℕ) → slice_get line.words n ≡ None → length line.words ≤ n
past_end line n h = elim (slice_get_cases line.words n).1 [
  | inl there ↦ absurd (none-some there.0 (sym h ∙ there.2))
  | inr past ↦ past.0
]

pub exact_ok : (n : ℕ) (line : Line) → exact_words n line ≡ Ok tt → length line.words ≡ n
unfolding exact_words
exact_ok n line h = by_word (slice_get line.words n) refl h
  where
    by_word : (o : Option Word) → (slice_get line.words n ≡ o) → option_map_or (λ word. Err (at_word kinds.Count word)) o (least_words n line) ≡ Ok tt → length line.words ≡ n
    by_word (Some word) is h = cc
    by_word None is h = (let most = past_end line n is in let least = least_ok n line h in omega arith)

pub exact_words-ok : (n : ℕ) (line : Line) → length line.words ≡ n → exact_words n line ≡ Ok tt
unfolding exact_words
exact_words-ok n line h =
    ap (λ o. option_map_or (λ word. Err (at_word kinds.Count word)) o (least_words n line)) (slice_get_past line.words n (omega arith))
    ∙ least_words-ok n line (omega arith)

pub text_ok : (text : List ℕ) (word : Word) → text_word text word ≡ Ok tt → word.text ≡ text
unfolding text_word
text_ok text word h = (bytes_eq-Decides word.text text).0 (cond_ok (bytes_eq word.text text) (at_word kinds.Word word) h)

pub text_word-ok : (text : List ℕ) (word : Word) → word.text ≡ text → text_word text word ≡ Ok tt
unfolding text_word
text_word-ok text word h = cond-true _ _ _ ((bytes_eq-Decides word.text text).1 h)

pub name_ok : (word : Word) → name_word word ≡ Ok tt → is_name word.text ≡ true
unfolding name_word
name_ok word h = cond_ok (is_name word.text) (at_word kinds.Name word) h

pub name_word-ok : (word : Word) → is_name word.text ≡ true → name_word word ≡ Ok tt
unfolding name_word
name_word-ok word h = cond-true _ _ _ h

pub number_ok : (word : Word) (n : ℕ) → number_word word ≡ Ok n → (word.text ≡ decimal n) × (n ≤ 999999)
unfolding number_word
number_ok word n h = by_number (number_of word.text) refl h
  where
    by_number : (o : Option ℕ) → (number_of word.text ≡ o) → option_map_or (λ m. Ok m) o (Err (at_word kinds.Number word)) ≡ Ok n → (word.text ≡ decimal n) × (n ≤ 999999)
    by_number None is h = cc
    by_number (Some m) is h = number_is word.text n (is ∙ ap (λ k. Some k) (same_Ok {E = Fault} m n h))

pub number_word-ok : (word : Word) (n : ℕ) → word.text ≡ decimal n → n ≤ 999999 → number_word word ≡ Ok n
unfolding number_word
number_word-ok word n h few = ap (λ o. option_map_or (λ m. Ok m) o (Err (at_word kinds.Number word))) (ap number_of h ∙ number_of-decimal n few)
