-- Lines of words that can be printed, and what they say when they are read.
use Rattle.std.proofs.Common.{◌≡◌, ℕ, ◌≤◌, Bool, true, ◌&&◌, nat_le, nat_lt, List, [], ◌∷◌, length, All, codes, decimal, refl, ◌∙◌, arith}
use Rattle.std.specs.List.{list_all}
use Rattle.std.proofs.lemmas.Bool.{and_parts, leb-true, ltb-true}
use Rattle.std.proofs.lemmas.Fmt.{length-decimal-le}
use Rattle.std.proofs.lemmas.List.Elements.{All-nil, All-cons}
use Rattle.nego_base.specs.Printed.{printed_line, IsPrintableWord, IsPrintable}
use Rattle.nego_base.specs.Scan.{line_at}
use Rattle.nego_base.proofs.NameLaws.{each_where_all, decimal_printable}
use Rattle.nego_base.proofs.PrintedLaws.{words_printed}
use Rattle.nego_base.proofs.WordLaws.{texts_at}
use Rattle.nego_cert.specs.Table.{word_texts}

abbrev is_printed : ℕ → Bool
is_printed b = nat_le 33 b && nat_le b 126

-- a text of which a test computes that it can be printed
pub literal : (bytes : List ℕ) → (nat_lt 0 (length bytes) && list_all is_printed bytes) ≡ true → IsPrintableWord bytes
literal bytes h =
    let parts = and_parts (nat_lt 0 (length bytes)) (list_all is_printed bytes) h in
    record {
      filled = ltb-true 0 (length bytes) parts.0;
      bytes = each_where_all is_printed (λ b. (33 ≤ b) × (b ≤ 126)) (λ b t. let both = and_parts (nat_le 33 b) (nat_le b 126) t in (leb-true 33 b both.0, leb-true b 126 both.1)) bytes parts.1;
    }

-- a number of six digits at most
abbrev pub Short : ℕ → Type 0
Short n = n ≤ 999999

pub number : (n : ℕ) → Short n → IsPrintableWord (decimal n)
number n few = decimal_printable n (omega arith)

pub digits : (n : ℕ) → Short n → length (decimal n) ≤ 6
digits n few = length-decimal-le 6 n (omega arith) (omega arith) (omega arith)

pub one_word : (w : List ℕ) → IsPrintableWord w → All IsPrintableWord (w ∷ [])
one_word w h = All-cons IsPrintableWord w [] h (All-nil IsPrintableWord)

pub two_words : (w v : List ℕ) → IsPrintableWord w → IsPrintableWord v → All IsPrintableWord (w ∷ v ∷ [])
two_words w v h k = All-cons IsPrintableWord w (v ∷ []) h (one_word v k)

pub three_words : (w v u : List ℕ) → IsPrintableWord w → IsPrintableWord v → IsPrintableWord u → All IsPrintableWord (w ∷ v ∷ u ∷ [])
three_words w v u h k l = All-cons IsPrintableWord w (v ∷ u ∷ []) h (two_words v u k l)

-- the words of a printed line
pub words_are : (n : ℕ) (words : List (List ℕ)) → IsPrintable words → word_texts (line_at n (printed_line words)) ≡ words
words_are n words h = texts_at n 1 (printed_line words) ∙ words_printed words h.words

-- ---- the last line of a text

abbrev pub end_words : List (List ℕ)
end_words = codes "end" ∷ []

pub end_printable : IsPrintable end_words
end_printable = record { filled = omega arith; words = one_word (codes "end") (literal (codes "end") refl); no_comment = λ e. omega arith; short = omega arith }
