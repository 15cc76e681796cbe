-- The printed text of uses spells a certificate of just these uses, and its lines are short.
use Rattle.std.proofs.Common.{◌≡◌, ℕ, ◌+◌, ◌*◌, ◌<◌, ◌≤◌, List, [], ◌∷◌, ◌++◌, length, map, All, codes, decimal, refl, sym, ap, subst, ◌∙◌, append_assoc, arith}
use Rattle.std.specs.List.{Contains}
use Rattle.std.proofs.lemmas.Fmt.{length-decimal-le}
use Rattle.std.proofs.lemmas.List.{length-append}
use Rattle.std.proofs.lemmas.List.Elements.{All-nil, All-cons, All-head, All-tail}
use Rattle.nego_base.specs.declared.line.Line.{Line}
use Rattle.nego_base.specs.LineGrammar.{Say, behind_rows}
use Rattle.nego_base.specs.Lines.{lines}
use Rattle.nego_base.specs.Printed.{printed_line, printed, IsPrintable, ArePrintable}
use Rattle.nego_base.specs.Scan.{scanned, line_at}
use Rattle.nego_base.proofs.LineFaults.{named_is}
use Rattle.nego_base.proofs.PrintedLaws.{lines_printed, numbered, scan_fault_printed, scanned_printed}
use Rattle.nego_expr.specs.declared.uses.Use.{Use}
use Rattle.nego_expr.specs.declared.uses.Use.TheVariants as the_uses
use Rattle.nego_expr.specs.Use.{PlainUse, Merge, Iterate, Shortcut, Close}
use Rattle.nego_expr.specs.UseView.{plain_use}
use Rattle.nego_cert.specs.declared.cert.Cert.{Cert}
use Rattle.nego_cert.specs.declared.cert.CertLine.{CertLine}
use Rattle.nego_cert.specs.declared.row.Kind.{Kind}
use Rattle.nego_cert.specs.declared.row.Kind.TheVariants as kinds
use Rattle.nego_cert.specs.declared.row.Row.{Row}
use Rattle.nego_cert.specs.declared.row.Row.TheVariants as rows
use Rattle.nego_cert.specs.CertificateText.{use_line, use_lines, certificate_text}
use Rattle.nego_cert.specs.Lines.{keyword, followers, kind_of_use, rows_of, use_words, uses_of}
use Rattle.nego_cert.specs.Table.{HasShortNumbers, SpellsLine, certificate_lines, SpellsCertificate}
use Rattle.nego_cert.specs.Laws.{PrintedAreSpelled, SpelledAreShort, HasSmallNumbers, PrintedAreShort}
use Rattle.nego_cert.proofs.PrintedLines.{literal, Short, number, digits, one_word, two_words, three_words, words_are, end_words, end_printable}

-- ---- the lines of a printed certificate

abbrev pub header_words : List (List ℕ)
header_words = codes "certificate" ∷ codes "1" ∷ []

abbrev words_behind : List PlainUse → List (List (List ℕ))
words_behind uses = map use_words uses ++ end_words ∷ []

abbrev all_words : List PlainUse → List (List (List ℕ))
all_words uses = header_words ∷ words_behind uses

use_line_is : (what : PlainUse) (rest : List ℕ) → use_line what rest ≡ (printed_line (use_words what) ++ 10 ∷ []) ++ rest
use_line_is (Merge o1 o2) rest = simp append_assoc refl
use_line_is (Iterate o) rest = simp append_assoc refl
use_line_is (Shortcut o n) rest = simp append_assoc refl
use_line_is Close rest = refl

use_lines_are : (uses : List PlainUse) → use_lines uses (codes "end\n") ≡ printed (words_behind uses)
unfolding printed
use_lines_are [] = refl
use_lines_are (first ∷ uses) = use_line_is first (use_lines uses (codes "end\n")) ∙ ap (λ t. (printed_line (use_words first) ++ 10 ∷ []) ++ t) (use_lines_are uses)

text_is : (uses : List PlainUse) → certificate_text uses ≡ printed (all_words uses)
unfolding printed
text_is uses = ap (λ t. codes "certificate 1\n" ++ t) (use_lines_are uses)

-- ---- they can be printed

use_printable : (what : PlainUse) → HasShortNumbers what → IsPrintable (use_words what)
use_printable (Merge o1 o2) h =
    let few = All-head Short o1 (o2 ∷ []) h in
    let few' = All-head Short o2 [] (All-tail Short o1 (o2 ∷ []) h) in
    record {
      filled = omega arith;
      words = three_words (codes "merge") (decimal o1) (decimal o2) (literal (codes "merge") refl) (number o1 few) (number o2 few');
      no_comment = λ e. omega arith;
      short = (let e = length-append (decimal o1) (32 ∷ decimal o2) in let d = digits o1 few in let d' = digits o2 few' in omega arith);
    }
use_printable (Iterate o) h =
    let few = All-head Short o [] h in
    record {
      filled = omega arith;
      words = two_words (codes "iterate") (decimal o) (literal (codes "iterate") refl) (number o few);
      no_comment = λ e. omega arith;
      short = (let d = digits o few in omega arith);
    }
use_printable (Shortcut o n) h =
    let few = All-head Short o (n ∷ []) h in
    let few' = All-head Short n [] (All-tail Short o (n ∷ []) h) in
    record {
      filled = omega arith;
      words = three_words (codes "shortcut") (decimal o) (decimal n) (literal (codes "shortcut") refl) (number o few) (number n few');
      no_comment = λ e. omega arith;
      short = (let e = length-append (decimal o) (32 ∷ decimal n) in let d = digits o few in let d' = digits n few' in omega arith);
    }
use_printable Close h = record { filled = omega arith; words = one_word (codes "close") (literal (codes "close") refl); no_comment = λ e. omega arith; short = omega arith }

header_printable : IsPrintable header_words
header_printable = record { filled = omega arith; words = two_words (codes "certificate") (codes "1") (literal (codes "certificate") refl) (literal (codes "1") refl); no_comment = λ e. omega arith; short = omega arith }

behind_printable : (uses : List PlainUse) → All HasShortNumbers uses → ArePrintable (words_behind uses)
behind_printable [] h = All-cons IsPrintable end_words [] end_printable (All-nil IsPrintable)
behind_printable (first ∷ uses) h =
    All-cons IsPrintable (use_words first) (words_behind uses) (use_printable first (All-head HasShortNumbers first uses h)) (behind_printable uses (All-tail HasShortNumbers first uses h))

-- the lines of the text
pub printed_lines : (uses : List PlainUse) → All HasShortNumbers uses → lines (certificate_text uses) ≡ map (λ words. printed_line words ++ 10 ∷ []) (all_words uses)
printed_lines uses h = ap lines (text_is uses) ∙ lines_printed (all_words uses) (All-cons IsPrintable header_words (words_behind uses) header_printable (behind_printable uses h))

-- ---- what they say

-- a use of the program, from its numbers
abbrev use_of : PlainUse → Use
use_of (Merge o1 o2) = the_uses.Merge (record { 0 = o1 }) (record { 0 = o2 })
use_of (Iterate o) = the_uses.Iterate (record { 0 = o })
use_of (Shortcut o n) = the_uses.Shortcut (record { 0 = o }) (record { 0 = n })
use_of Close = the_uses.Close

plain_use_of : (what : PlainUse) → plain_use (use_of what) ≡ what
plain_use_of (Merge o1 o2) = refl
plain_use_of (Iterate o) = refl
plain_use_of (Shortcut o n) = refl
plain_use_of Close = refl

-- the uses on lines of these numbers
abbrev placed : ℕ → List PlainUse → List CertLine
placed n [] = []
placed n (first ∷ uses) = record { line = n; what = use_of first } ∷ placed (n + 1) uses

placed_uses : (n : ℕ) (uses : List PlainUse) → map (λ (line : CertLine). plain_use line.what) (placed n uses) ≡ uses
placed_uses n [] = refl
placed_uses n (first ∷ uses) = ap (λ u. u ∷ map (λ (line : CertLine). plain_use line.what) (placed (n + 1) uses)) (plain_use_of first) ∙ ap (λ us. first ∷ us) (placed_uses (n + 1) uses)

abbrev behind_header : List Kind
behind_header = followers kinds.Header

use_may_stand : (what : PlainUse) → Contains behind_header (kind_of_use (use_of what))
use_may_stand (Merge o1 o2) = (named_is keyword (keyword kinds.Merge) behind_header kinds.Merge refl).0
use_may_stand (Iterate o) = (named_is keyword (keyword kinds.Iterate) behind_header kinds.Iterate refl).0
use_may_stand (Shortcut o n) = (named_is keyword (keyword kinds.Shortcut) behind_header kinds.Shortcut refl).0
use_may_stand Close = (named_is keyword (keyword kinds.Close) behind_header kinds.Close refl).0

behind_use : (what : PlainUse) → followers (kind_of_use (use_of what)) ≡ behind_header
behind_use (Merge o1 o2) = refl
behind_use (Iterate o) = refl
behind_use (Shortcut o n) = refl
behind_use Close = refl

use_says : (n : ℕ) (what : PlainUse) → HasShortNumbers what → SpellsLine (line_at n (printed_line (use_words what))) (rows.Use (record { line = n; what = use_of what }))
use_says n (Merge o1 o2) h = (refl, words_are n (use_words (Merge o1 o2)) (use_printable (Merge o1 o2) h), h)
use_says n (Iterate o) h = (refl, words_are n (use_words (Iterate o)) (use_printable (Iterate o) h), h)
use_says n (Shortcut o m) h = (refl, words_are n (use_words (Shortcut o m)) (use_printable (Shortcut o m) h), h)
use_says n Close h = (refl, words_are n (use_words Close) (use_printable Close h), h)

abbrev rows_behind : ℕ → List PlainUse → List Row
rows_behind n uses = map rows.Use (placed n uses) ++ rows.End ∷ []

uses_say : (n : ℕ) (uses : List PlainUse) → All HasShortNumbers uses →
    Say certificate_lines behind_header (numbered n (words_behind uses)) (rows_behind n uses) × (behind_rows certificate_lines behind_header (rows_behind n uses) ≡ [])
uses_say n [] h = (((named_is keyword (keyword kinds.End) behind_header kinds.End refl).0, words_are n end_words end_printable, tt), refl)
uses_say n (first ∷ uses) h =
    let later = uses_say (n + 1) uses (All-tail HasShortNumbers first uses h) in
    let same = sym (behind_use first) in (
      (use_may_stand first, use_says n first (All-head HasShortNumbers first uses h), subst (λ (ks : List Kind). Say certificate_lines ks (numbered (n + 1) (words_behind uses)) (rows_behind (n + 1) uses)) same later.0),
      subst (λ (ks : List Kind). behind_rows certificate_lines ks (rows_behind (n + 1) uses) ≡ []) same later.1,
    )

pub printed_spelled : PrintedAreSpelled
printed_spelled uses h =
    let cert : Cert = record { uses = placed 2 uses } in
    let printable : ArePrintable (all_words uses) = All-cons IsPrintable header_words (words_behind uses) header_printable (behind_printable uses h) in
    let later = uses_say 2 uses h in
    let says : Say certificate_lines (kinds.Header ∷ []) (numbered 1 (all_words uses)) (rows_of cert) =
    ((named_is keyword (keyword kinds.Header) (kinds.Header ∷ []) kinds.Header refl).0, words_are 1 header_words header_printable, later.0) in
    let spells : SpellsCertificate (printed (all_words uses)) cert =
    record { scans = scan_fault_printed (all_words uses) printable; say = subst (λ (ls : List Line). Say certificate_lines (kinds.Header ∷ []) ls (rows_of cert)) (sym (scanned_printed (all_words uses) printable)) says; ends = later.1 } in
    (cert, subst (λ t. SpellsCertificate t cert) (sym (text_is uses)) spells, placed_uses 2 uses)

-- ---- what texts spell is short

short_uses : (known : List Kind) (lines : List Line) (uses : List CertLine) → Say certificate_lines known lines (map rows.Use uses ++ rows.End ∷ []) → All HasShortNumbers (map (λ (line : CertLine). plain_use line.what) uses)
short_uses known lines [] h = All-nil HasShortNumbers
short_uses known [] (first ∷ uses) h = absurd h
short_uses known (line ∷ lines) (first ∷ uses) h =
    All-cons HasShortNumbers (plain_use first.what) (map (λ (line : CertLine). plain_use line.what) uses) h.1.2 (short_uses (followers (kind_of_use first.what)) lines uses h.2)

pub spelled_short : SpelledAreShort
spelled_short bytes cert h = by_lines (scanned bytes) h.say
  where
    by_lines : (lines : List Line) → Say certificate_lines (kinds.Header ∷ []) lines (rows_of cert) → All HasShortNumbers (uses_of cert)
    by_lines [] said = absurd said
    by_lines (line ∷ lines) said = short_uses behind_header lines cert.uses said.2

-- ---- how long the lines are

few_digits : (n : ℕ) → n < 1000 → length (decimal n) ≤ 3
few_digits n h = length-decimal-le 3 n (omega arith) (omega arith) (omega arith)

line_short : (what : PlainUse) (rest : List ℕ) → HasSmallNumbers what → length (use_line what rest) ≤ 16 + length rest
line_short (Merge o1 o2) rest h =
    let d = few_digits o1 h.0 in
    let d' = few_digits o2 h.1 in
    let e = length-append (decimal o1) (32 ∷ (decimal o2 ++ (10 ∷ rest))) in
    let e' = length-append (decimal o2) (10 ∷ rest) in
    omega arith
line_short (Iterate o) rest h =
    let d = few_digits o h in
    let e = length-append (decimal o) (10 ∷ rest) in
    omega arith
line_short (Shortcut o n) rest h =
    let d = few_digits o h.0 in
    let d' : length (decimal n) ≤ 2 = (let small = h.1 in length-decimal-le 2 n (omega arith) (omega arith) (omega arith)) in
    let e = length-append (decimal o) (32 ∷ (decimal n ++ (10 ∷ rest))) in
    let e' = length-append (decimal n) (10 ∷ rest) in
    omega arith
line_short Close rest h = omega arith

lines_short : (uses : List PlainUse) (rest : List ℕ) → All HasSmallNumbers uses → length (use_lines uses rest) ≤ 16 * length uses + length rest
lines_short [] rest h = omega arith
lines_short (first ∷ uses) rest h =
    let one = line_short first (use_lines uses rest) (All-head HasSmallNumbers first uses h) in
    let others = lines_short uses rest (All-tail HasSmallNumbers first uses h) in
    omega arith

pub printed_short : PrintedAreShort
printed_short uses h = let lines = lines_short uses (codes "end\n") h in omega arith
