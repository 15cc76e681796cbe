-- The words of a line, with one blank between two, are no longer than the line.
use Rattle.std.proofs.Common.{◌≡◌, ℕ, ◌+◌, ◌≤◌, true, List, [], ◌∷◌, ◌++◌, length, All, sym, subst, arith, cond}
use Rattle.std.specs.List.{onto_first}
use Rattle.std.proofs.lemmas.Bool.{cond-true, cond_both}
use Rattle.std.proofs.lemmas.List.{length-append}
use Rattle.std.proofs.lemmas.List.Elements.{All-nil, All-cons, All-append}
use Rattle.nego_base.specs.declared.line.Line.{Line}
use Rattle.nego_base.specs.Lines.{lines, without_end, is_blank, is_word_end, words}
use Rattle.nego_base.specs.Scan.{is_passed, line_at, line_if_kept, scanned_from, scanned}
use Rattle.nego_base.specs.Printed.{printed_line}
use Rattle.nego_base.proofs.WordLaws.{texts_at}
use Rattle.nego_reader.specs.Content.{texts}

-- how many bytes the words have, and a blank behind each
abbrev pub spaced : List (List ℕ) → ℕ
spaced [] = 0
spaced (w ∷ ws) = length w + 1 + spaced ws

pub spaced-append : (xs ys : List (List ℕ)) → spaced (xs ++ ys) ≡ spaced xs + spaced ys
spaced-append [] ys = omega arith
spaced-append (x ∷ xs) ys = let more = spaced-append xs ys in omega arith

-- a printed line has no blank behind its last word
length-printed_line : (w : List ℕ) (ws : List (List ℕ)) → length (printed_line (w ∷ ws)) + 1 ≡ spaced (w ∷ ws)
length-printed_line w [] = omega arith
length-printed_line w (v ∷ vs) =
    let more = length-printed_line v vs in
    let whole : length (w ++ 32 ∷ printed_line (v ∷ vs)) ≡ length w + length (32 ∷ printed_line (v ∷ vs)) = length-append w (32 ∷ printed_line (v ∷ vs)) in
    omega arith

pub printed_line_fits : (ws : List (List ℕ)) (n : ℕ) → spaced ws ≤ n + 1 → length (printed_line ws) ≤ n
printed_line_fits [] n h = omega arith
printed_line_fits (w ∷ ws) n h = omega (arith, length-printed_line w ws)

spaced_onto : (b n : ℕ) (ws : List (List ℕ)) → spaced ws ≤ n + 1 → spaced (onto_first b ws) ≤ n + 2
spaced_onto b n [] h = omega arith
spaced_onto b n (w ∷ ws) h = omega arith

-- the words of a text; where a word ends at its front, one blank less
spaced_words : (bytes : List ℕ) → (spaced (words bytes) ≤ length bytes + 1) × (is_word_end bytes ≡ true → spaced (words bytes) ≤ length bytes)
spaced_words [] = (omega arith, λ _. omega arith)
spaced_words (b ∷ bs) =
    let more = spaced_words bs in
    let most : spaced (words bs) ≤ length bs + 1 = more.0 in
    let P : List (List ℕ) → Type 0 = λ ws. spaced ws ≤ length (b ∷ bs) + 1 in (
      cond_both (is_blank b) (words bs) (cond (is_word_end bs) ((b ∷ []) ∷ words bs) (onto_first b (words bs))) P (λ _. omega arith)
          (λ _. cond_both (is_word_end bs) ((b ∷ []) ∷ words bs) (onto_first b (words bs)) P (λ ends. let few = more.1 ends in omega arith)
          (λ _. let onto = spaced_onto b (length bs) (words bs) most in omega arith)),
      λ blank. subst (λ (ws : List (List ℕ)). spaced ws ≤ length (b ∷ bs)) (sym (cond-true (is_blank b) (words bs) (cond (is_word_end bs) ((b ∷ []) ∷ words bs) (onto_first b (words bs))) blank)) (omega arith),
    )

-- The line has room for its words with one blank between two.
pub record IsSpaced (line : Line) : Type 0 where
  pub room : spaced (texts line.words) ≤ line.length + 1

spaced_line : (number : ℕ) (body : List ℕ) → IsSpaced (line_at number body)
spaced_line number body = record { room = subst (λ (ws : List (List ℕ)). spaced ws ≤ length body + 1) (sym (texts_at number 1 body)) (spaced_words body).0 }

spaced_from : (number : ℕ) (texts : List (List ℕ)) → All IsSpaced (scanned_from number texts)
unfolding scanned_from
spaced_from number [] = All-nil IsSpaced
spaced_from number (line ∷ rest) =
    let body = without_end line in
    All-append IsSpaced (line_if_kept number body) (scanned_from (number + 1) rest)
    (cond_both (is_passed body) [] (line_at number body ∷ []) (All IsSpaced) (λ _. All-nil IsSpaced) (λ _. All-cons IsSpaced (line_at number body) [] (spaced_line number body) (All-nil IsSpaced)))
    (spaced_from (number + 1) rest)

-- so have all lines of a text
pub lines_spaced : (bytes : List ℕ) → All IsSpaced (scanned bytes)
unfolding scanned
lines_spaced bytes = spaced_from 1 (lines bytes)
