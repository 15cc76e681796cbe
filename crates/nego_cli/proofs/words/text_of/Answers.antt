use Rattle.std.proofs.Common.{◌≡◌, ◌∙◌, ◌<◌, ◌≤◌, ◌&&◌, ℕ, true, ap, length, Some, Result, Ok, Err, Bor, MatchResult, option_map, List, [], ◌∷◌, zero, suc, get_or, leb-true, arith, rules, lit<}
use Rattle.std.specs.Prelude.{IsUtf8, ◌==◌, nat_le, not, slice_index}
use Rattle.std.specs.Result.{result_ok}
use Rattle.std.specs.List.{list_all}
use Rattle.std.proofs.lemmas.Bool.{and_parts}
use Rattle.std.proofs.lemmas.Str.{IsUtf8-from_ascii}
use Rattle.nego_cli.specs.Words.{is_word}
use Rattle.nego_cli.proofs.words.text_of.Goals as goal

-- printable bytes are ASCII
ascii : (bytes : List ℕ) → list_all (λ b. nat_le 33 b && nat_le b 126) bytes ≡ true → (i : ℕ) → get_or bytes i 0 < 128
ascii [] h i = lit< tt
ascii (x ∷ xs) h zero =
    let most : x ≤ 126 = leb-true x 126 (and_parts (nat_le 33 x) (nat_le x 126) (and_parts (nat_le 33 x && nat_le x 126) _ h).0).1 in
    omega arith
ascii (x ∷ xs) h (suc i) = ascii xs (and_parts (nat_le 33 x && nat_le x 126) _ h).1 i

-- so a word is text
word_is_text : (bytes : List ℕ) → is_word bytes ≡ true → IsUtf8 bytes
word_is_text bytes h =
    let short = (and_parts (nat_le 1 (length bytes)) _ h).1 in
    let rest = (and_parts (nat_le (length bytes) 24) _ short).1 in
    IsUtf8-from_ascii bytes (ascii bytes (and_parts (not (slice_index bytes 0 == 45)) _ rest).1)

text_read : {E : Type 0} (Q : E → Type 0) (bytes : List ℕ) (r : Result (Bor (List ℕ)) E)
    → MatchResult r (λ s. (s.now ≡ bytes) × IsUtf8 bytes) (λ e. ¬ (IsUtf8 bytes) × Q e) → IsUtf8 bytes
    → option_map (λ s. s.now) (result_ok r) ≡ Some bytes
text_read Q bytes (Ok s) h utf8 = ap Some h.0
text_read Q bytes (Err e) h utf8 = absurd (h.0 utf8)

pub returns : goal.returns
returns c =
    let right : is_word c.args.word.now ≡ true = search rules in
    let bytes : c.as_slice-bytes.result.now ≡ c.args.word.now = c.as_slice-bytes.ensures in
    let utf8 : IsUtf8 c.as_slice-bytes.result.now = word_is_text _ (ap is_word bytes ∙ right) in
    rw (right, c.ok.ensures.value) (text_read _ _ c.from_utf8.result c.from_utf8.ensures.cases utf8 ∙ ap Some bytes)
