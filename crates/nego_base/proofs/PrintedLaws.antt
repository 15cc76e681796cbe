-- Texts of lines of words, as they are printed, are scanned to these words.
use Rattle.std.proofs.Common.{◌≡◌, ◌≢◌, ℕ, ◌+◌, ◌≤◌, false, not, ◌==◌, Some, None, inl, inr, List, [], ◌∷◌, ◌++◌, length, map, take, refl, sym, ◌∙◌, ap, subst, arith}
use Rattle.std.specs.List.{All, position}
use Rattle.std.specs.Option.{option_or, option_map_or}
use Rattle.std.proofs.lemmas.Bool.{and_left, and_from, or_from, or_left, or_right, le-leb, cases_eq, eq-eqb, ne_eqb, cond-true, cond-false, cond_both, le-ltb, not_from_true, not_from_false}
use Rattle.std.proofs.lemmas.List.{append-nil, length-map}
use Rattle.std.proofs.lemmas.List.Elements.{All-nil, All-cons, All-head, All-tail, All-append, All-weaker, All-take}
use Rattle.std.proofs.lemmas.List.Folds.{list_any_none}
use Rattle.nego_base.specs.declared.fault.FaultKind.TheVariants as kinds
use Rattle.nego_base.specs.declared.line.Line.{Line}
use Rattle.nego_base.specs.Lines.{is_newline, is_blank, lines, without_end, words}
use Rattle.nego_base.specs.Scan.{is_comment, may_stand, bad_byte, fault_at, long_fault, line_fault, faults_from, scan_fault, is_passed, line_at, line_if_kept, scanned_from, scanned, count_lines}
use Rattle.nego_base.specs.Printed.{printed_line, printed, IsPrintableWord, IsPrintable, ArePrintable}
use Rattle.nego_base.proofs.LineLaws.{HasNoNewline, HasNoBlank, lines_whole, without_end_newline, words_word}
use Rattle.nego_base.proofs.Places.{place_none}
use Rattle.nego_base.proofs.WordLaws.{texts_at}

-- a byte of a printed line
abbrev IsText : ℕ → Type 0
IsText b = (32 ≤ b) × (b ≤ 126)

abbrev IsPrinted : ℕ → Type 0
IsPrinted b = (33 ≤ b) × (b ≤ 126)

printed_no_blank : (b : ℕ) → IsPrinted b → is_blank b ≡ false
printed_no_blank b h = let low = h.0 in or_from _ _ (ne_eqb b 32 (λ e. omega arith)) (ne_eqb b 9 (λ e. omega arith))

word_no_blank : (word : List ℕ) → IsPrintableWord word → HasNoBlank word
word_no_blank word h = list_any_none is_blank word (All-weaker IsPrinted (λ b. is_blank b ≡ false) printed_no_blank word h.bytes)

words_front : (word rest : List ℕ) → IsPrintableWord word → (words (word ++ 32 ∷ rest) ≡ word ∷ words rest) × (words word ≡ word ∷ [])
words_front [] rest h = absurd (let f = h.filled in omega arith)
words_front (b ∷ bs) rest h =
    let free = word_no_blank (b ∷ bs) h in
    (words_word b bs (32 ∷ rest) free refl, ap words (sym (append-nil (b ∷ bs))) ∙ words_word b bs [] free refl)

-- the words of a printed line
pub words_printed : (texts : List (List ℕ)) → All IsPrintableWord texts → words (printed_line texts) ≡ texts
words_printed [] h = refl
words_printed (w ∷ []) h = (words_front w [] (All-head IsPrintableWord w [] h)).1
words_printed (w ∷ v ∷ vs) h =
    (words_front w (printed_line (v ∷ vs)) (All-head IsPrintableWord w (v ∷ vs) h)).0
    ∙ ap (λ ws. w ∷ ws) (words_printed (v ∷ vs) (All-tail IsPrintableWord w (v ∷ vs) h))

text_bytes : (word : List ℕ) → IsPrintableWord word → All IsText word
text_bytes word h = All-weaker IsPrinted IsText (λ b p. let low = p.0 in (omega arith, p.1)) word h.bytes

line_bytes : (texts : List (List ℕ)) → All IsPrintableWord texts → All IsText (printed_line texts)
line_bytes [] h = All-nil IsText
line_bytes (w ∷ []) h = text_bytes w (All-head IsPrintableWord w [] h)
line_bytes (w ∷ v ∷ vs) h =
    All-append IsText w (32 ∷ printed_line (v ∷ vs)) (text_bytes w (All-head IsPrintableWord w (v ∷ vs) h))
    (All-cons IsText 32 (printed_line (v ∷ vs)) (omega arith, omega arith) (line_bytes (v ∷ vs) (All-tail IsPrintableWord w (v ∷ vs) h)))

text_may_stand : (b : ℕ) → IsText b → not (may_stand b) ≡ false
text_may_stand b h =
    elim (cases_eq b 32) [
      | inl blank ↦ not_from_true _ (or_left _ _ (or_left _ _ (eq-eqb b 32 blank)))
      | inr other ↦ (let low = h.0 in let more : 33 ≤ b = omega arith in not_from_true _ (or_right _ _ (and_from _ _ (le-leb 33 b more) (le-leb b 126 h.1))))
    ]

no_newline : (bytes : List ℕ) → All IsText bytes → HasNoNewline bytes
no_newline bytes h = list_any_none is_newline bytes (All-weaker IsText (λ b. is_newline b ≡ false) (λ b t. let low = t.0 in ne_eqb b 10 (λ e. omega arith)) bytes h)

last_byte : (front : List ℕ) (b : ℕ) → All IsText (front ++ b ∷ []) → IsText b
last_byte [] b h = All-head IsText b [] h
last_byte (x ∷ xs) b h = last_byte xs b (All-tail IsText x (xs ++ b ∷ []) h)

-- a printed line with its newline, without its end
body_printed : (bytes : List ℕ) → All IsText bytes → without_end (bytes ++ 10 ∷ []) ≡ bytes
body_printed bytes h = without_end_newline bytes (λ front e. let P : List ℕ → Type 0 = All IsText in let low = (last_byte front 13 (subst P e h)).0 in omega arith)

-- the first byte of a printable line
pub record Begins (bytes : List ℕ) : Type 0 where
  pub head : ℕ
  pub more : List ℕ
  pub is : bytes ≡ head ∷ more
  pub no_blank : is_blank head ≡ false
  pub no_hash : (head == 35) ≡ false

begins_word : (b : ℕ) (bs more bytes : List ℕ) → IsPrintableWord (b ∷ bs) → b ≢ 35 → bytes ≡ (b ∷ bs) ++ more → Begins bytes
begins_word b bs more bytes h no_hash e = record {
  head = b;
  more = bs ++ more;
  is = e;
  no_blank = printed_no_blank b (All-head IsPrinted b bs h.bytes);
  no_hash = ne_eqb b 35 no_hash;
}

begins : (texts : List (List ℕ)) → IsPrintable texts → Begins (printed_line texts)
begins [] h = absurd (let f = h.filled in omega arith)
begins ([] ∷ rest) h = absurd (let f = (All-head IsPrintableWord [] rest h.words).filled in omega arith)
begins ((b ∷ bs) ∷ []) h = begins_word b bs [] (b ∷ bs) (All-head IsPrintableWord (b ∷ bs) [] h.words) h.no_comment (sym (append-nil (b ∷ bs)))
begins ((b ∷ bs) ∷ v ∷ vs) h =
    begins_word b bs (32 ∷ printed_line (v ∷ vs)) (printed_line ((b ∷ bs) ∷ v ∷ vs)) (All-head IsPrintableWord (b ∷ bs) (v ∷ vs) h.words) h.no_comment refl

not_passed : (bytes : List ℕ) → Begins bytes → is_passed bytes ≡ false
not_passed bytes h =
    let word : is_passed (h.head ∷ h.more) ≡ false = or_from _ _ (and_left _ _ h.no_blank) (first_is h.head h.more h.no_blank h.no_hash) in
    ap is_passed h.is ∙ word
  where
    first_is : (b : ℕ) (bs : List ℕ) → is_blank b ≡ false → (b == 35) ≡ false → is_comment (b ∷ bs) ≡ false
    first_is b bs no_blank no_hash = ap (λ o. option_map_or (λ x. x == 35) o false) (cond-true _ _ _ (not_from_false _ no_blank)) ∙ no_hash

-- a printable line has no fault
no_line_fault : (number : ℕ) (bytes : List ℕ) → All IsText bytes → length bytes ≤ 1024 → line_fault number bytes ≡ None
unfolding line_fault
no_line_fault number bytes text short =
    let front : position (λ b. not (may_stand b)) (take 1024 bytes) ≡ None = place_none (λ b. not (may_stand b)) (take 1024 bytes)
    (list_any_none (λ b. not (may_stand b)) (take 1024 bytes) (All-weaker IsText (λ b. not (may_stand b) ≡ false) text_may_stand (take 1024 bytes) (All-take IsText 1024 bytes text))) in
    let none : bad_byte bytes ≡ None = cond_both (is_comment bytes) None (position (λ b. not (may_stand b)) (take 1024 bytes)) (λ o. o ≡ None) (λ _. refl) (λ _. front) in
    ap (λ o. option_map_or (λ i. Some (fault_at number (i + 1) kinds.Byte)) o (long_fault number bytes)) none
    ∙ cond-false _ _ _ (le-ltb 1024 (length bytes) short)

-- the printed lines, with their newlines
abbrev ended_line : List (List ℕ) → List ℕ
ended_line texts = printed_line texts ++ 10 ∷ []

pub lines_printed : (lists : List (List (List ℕ))) → ArePrintable lists → lines (printed lists) ≡ map ended_line lists
unfolding printed
lines_printed [] h = refl
lines_printed (texts ∷ rest) h =
    let this = All-head IsPrintable texts rest h in
    lines_whole (printed_line texts) (printed rest) (no_newline (printed_line texts) (line_bytes texts this.words))
    ∙ ap (λ ls. ended_line texts ∷ ls) (lines_printed rest (All-tail IsPrintable texts rest h))

-- the lines of a printed text, with their numbers and words, where the first has this number
abbrev pub numbered : ℕ → List (List (List ℕ)) → List Line
numbered number [] = []
numbered number (texts ∷ rest) = line_at number (printed_line texts) ∷ numbered (number + 1) rest

faults_printed : (number : ℕ) (lists : List (List (List ℕ))) → ArePrintable lists → faults_from number (map ended_line lists) ≡ None
unfolding faults_from
faults_printed number [] h = refl
faults_printed number (texts ∷ rest) h =
    let this = All-head IsPrintable texts rest h in
    let bytes = line_bytes texts this.words in
    ap (λ o. option_or o (faults_from (number + 1) (map ended_line rest))) (ap (line_fault number) (body_printed (printed_line texts) bytes) ∙ no_line_fault number (printed_line texts) bytes this.short)
    ∙ faults_printed (number + 1) rest (All-tail IsPrintable texts rest h)

lines_numbered : (number : ℕ) (lists : List (List (List ℕ))) → ArePrintable lists → scanned_from number (map ended_line lists) ≡ numbered number lists
unfolding scanned_from
lines_numbered number [] h = refl
lines_numbered number (texts ∷ rest) h =
    let this = All-head IsPrintable texts rest h in
    let kept : line_if_kept number (without_end (ended_line texts)) ≡ line_at number (printed_line texts) ∷ [] =
    ap (line_if_kept number) (body_printed (printed_line texts) (line_bytes texts this.words)) ∙ cond-false _ _ _ (not_passed (printed_line texts) (begins texts this)) in
    ap (λ ls. ls ++ scanned_from (number + 1) (map ended_line rest)) kept
    ∙ ap (λ ls. line_at number (printed_line texts) ∷ ls) (lines_numbered (number + 1) rest (All-tail IsPrintable texts rest h))

texts_numbered : (number : ℕ) (lists : List (List (List ℕ))) → ArePrintable lists → map (λ line. map (λ w. w.text) line.words) (numbered number lists) ≡ lists
texts_numbered number [] h = refl
texts_numbered number (texts ∷ rest) h =
    let this = All-head IsPrintable texts rest h in
    ap (λ ws. ws ∷ map (λ line. map (λ w. w.text) line.words) (numbered (number + 1) rest)) (texts_at number 1 (printed_line texts) ∙ words_printed texts this.words)
    ∙ ap (λ ls. texts ∷ ls) (texts_numbered (number + 1) rest (All-tail IsPrintable texts rest h))

-- a printed text has no fault
pub scan_fault_printed : (lists : List (List (List ℕ))) → ArePrintable lists → scan_fault (printed lists) ≡ None
unfolding scan_fault
scan_fault_printed lists h = ap (faults_from 1) (lines_printed lists h) ∙ faults_printed 1 lists h

-- it is scanned to its lines
pub scanned_printed : (lists : List (List (List ℕ))) → ArePrintable lists → scanned (printed lists) ≡ numbered 1 lists
unfolding scanned
scanned_printed lists h = ap (scanned_from 1) (lines_printed lists h) ∙ lines_numbered 1 lists h

-- with their words
pub words_of_printed : (lists : List (List (List ℕ))) → ArePrintable lists → map (λ line. map (λ w. w.text) line.words) (scanned (printed lists)) ≡ lists
words_of_printed lists h = ap (map (λ line. map (λ w. w.text) line.words)) (scanned_printed lists h) ∙ texts_numbered 1 lists h

-- and no others
pub count_lines_printed : (lists : List (List (List ℕ))) → ArePrintable lists → count_lines (printed lists) ≡ length lists
unfolding count_lines
count_lines_printed lists h = ap (λ ls. length ls) (lines_printed lists h) ∙ length-map lists ended_line
