-- A text cut at its first newline, its first blank, or its first byte that is no blank.
use Rattle.std.proofs.Common.{◌≡◌, ℕ, ◌+◌, ◌-◌, ◌<◌, Bool, true, false, not, ◌==◌, List, [], ◌∷◌, ◌++◌, length, take, drop, get_or, refl, sym, ◌∙◌, ap, zero, suc, arith}
use Rattle.std.specs.List.{list_any, list_all}
use Rattle.std.proofs.lemmas.Bool.{and_from, or_parts, not-false, not-true, false≢true, eqb-true}
use Rattle.std.proofs.lemmas.Bool.Decides.{nat_tests}
use Rattle.std.proofs.lemmas.List.{append-nil, take-append-drop, take_more, drop_more, length-take-le, length-drop}
use Rattle.nego_base.specs.Lines.{is_newline, is_blank, is_word_end, lines, words}
use Rattle.nego_base.specs.Scan.{word_at, words_at}
use Rattle.nego_base.proofs.LineLaws.{HasNoBlank, lines_whole, lines_last, words_blank}
use Rattle.nego_base.proofs.Places.{IsFirst}
use Rattle.nego_base.proofs.WordLaws.{words_at_blank, words_at_word}

-- a text up to its first newline is its first line
pub line_cut : (bytes : List ℕ) (i : ℕ) → IsFirst is_newline bytes i → lines bytes ≡ take (i + 1) bytes ∷ lines (drop (i + 1) bytes)
line_cut bytes i first =
    let rest = drop (i + 1) bytes in
    let front : take (i + 1) bytes ≡ take i bytes ++ 10 ∷ [] = take_more bytes i 0 first.within ∙ ap (λ b. take i bytes ++ b ∷ []) (eqb-true _ 10 first.there) in
    ap lines (sym (take-append-drop (i + 1) bytes))
    ∙ (ap (λ t. lines (t ++ rest)) front ∙ (lines_whole (take i bytes) rest first.before ∙ ap (λ t. t ∷ lines rest) (sym front)))

-- a text without a newline is one line
pub line_all : (bytes : List ℕ) → 0 < length bytes → list_any is_newline bytes ≡ false → lines bytes ≡ bytes ∷ []
line_all [] filled free = absurd (omega arith)
line_all (b ∷ bs) filled free = lines_last b bs free

pub none_fails : (test : ℕ → Bool) (bytes : List ℕ) → list_any (λ b. not (test b)) bytes ≡ false → list_all test bytes ≡ true
none_fails test [] h = refl
none_fails test (b ∷ bs) h =
    let parts = or_parts (not (test b)) (list_any (λ c. not (test c)) bs) h in
    and_from (test b) (list_all test bs) (not-false (test b) parts.0) (none_fails test bs parts.1)

-- what is left from the first byte that is no blank
pub blanks_cut : (bytes : List ℕ) (i : ℕ) → IsFirst (λ b. not (is_blank b)) bytes i → (number column : ℕ) → words_at number column bytes ≡ words_at number (column + (length bytes - length (drop i bytes))) (drop i bytes)
blanks_cut bytes i first number column =
    let size : length (take i bytes) ≡ i = length-take-le i bytes (let w = first.within in omega arith) in
    let left : length (drop i bytes) ≡ length bytes - i = length-drop i bytes in
    let moved : column + length (take i bytes) ≡ column + (length bytes - length (drop i bytes)) = (let w = first.within in omega arith) in
    ap (words_at number column) (sym (take-append-drop i bytes))
    ∙ (words_at_blank number column (take i bytes) (drop i bytes) (none_fails is_blank (take i bytes) first.before) ∙ ap (λ k. words_at number k (drop i bytes)) moved)

-- it has the same words
pub blanks_before : (bytes : List ℕ) (i : ℕ) → IsFirst (λ b. not (is_blank b)) bytes i → words (drop i bytes) ≡ words bytes
blanks_before bytes i first = sym (words_blank (take i bytes) (drop i bytes) (none_fails is_blank (take i bytes) first.before)) ∙ ap words (take-append-drop i bytes)

pub blanks_alone : (bytes : List ℕ) → list_any (λ b. not (is_blank b)) bytes ≡ false → [] ≡ words bytes
blanks_alone bytes h = sym (words_blank bytes [] (none_fails is_blank bytes h)) ∙ ap words (append-nil bytes)

-- it begins with a word
pub begins_word : (bytes : List ℕ) (i : ℕ) → IsFirst (λ b. not (is_blank b)) bytes i → is_word_end (drop i bytes) ≡ (length (drop i bytes) == 0)
begins_word bytes i first =
    let more = drop_more bytes i 0 first.within in
    let no_blank : is_blank (get_or bytes i 0) ≡ false = not-true _ first.there in
    let filled : 0 < length (drop i bytes) = omega (arith, ap length more) in
    ap is_word_end more ∙ (no_blank ∙ sym (grind (arith, nat_tests)))

-- blanks alone have no word
pub blanks_all : (bytes : List ℕ) → list_any (λ b. not (is_blank b)) bytes ≡ false → (number column : ℕ) → words_at number column bytes ≡ words_at number (column + length bytes) []
blanks_all bytes h number column =
    ap (words_at number column) (sym (append-nil bytes)) ∙ words_at_blank number column bytes [] (none_fails is_blank bytes h)

word_before : (word rest : List ℕ) → 0 < length word → HasNoBlank word → is_word_end rest ≡ true → (number column : ℕ) →
    words_at number column (word ++ rest) ≡ word_at number column word ∷ words_at number (column + length word) rest
word_before [] rest filled free e number column = absurd (omega arith)
word_before (b ∷ bs) rest filled free e number column = words_at_word number column b bs rest free e

first_not_here : (bytes : List ℕ) (i : ℕ) → is_word_end bytes ≡ false → IsFirst is_blank bytes i → 0 < i
first_not_here [] i h first = absurd (false≢true (sym h))
first_not_here (b ∷ bs) zero h first = absurd (false≢true (sym h ∙ first.there))
first_not_here (b ∷ bs) (suc i) h first = omega arith

-- a text that begins with a word is that word, up to the first blank, and the rest
pub word_cut : (bytes : List ℕ) (i : ℕ) → is_word_end bytes ≡ false → IsFirst is_blank bytes i → (number column : ℕ) →
    words_at number column bytes ≡ word_at number column (take i bytes) ∷ words_at number (column + length (take i bytes)) (drop i bytes)
word_cut bytes i begins first number column =
    let size : length (take i bytes) ≡ i = length-take-le i bytes (let w = first.within in omega arith) in
    let filled : 0 < length (take i bytes) = (let f = first_not_here bytes i begins first in omega arith) in
    ap (words_at number column) (sym (take-append-drop i bytes))
    ∙ word_before (take i bytes) (drop i bytes) filled first.before (ap is_word_end (drop_more bytes i 0 first.within) ∙ first.there) number column

pub word_all : (bytes : List ℕ) → is_word_end bytes ≡ false → list_any is_blank bytes ≡ false → (number column : ℕ) →
    words_at number column bytes ≡ word_at number column bytes ∷ words_at number (column + length bytes) []
word_all [] begins free number column = absurd (false≢true (sym begins))
word_all (b ∷ bs) begins free number column =
    ap (words_at number column) (sym (append-nil (b ∷ bs))) ∙ words_at_word number column b bs [] free refl
