-- Certificates are read by their grammar: a line is read by what it is asked, what is read of it is what it says, and
-- what it says is read.
use Rattle.std.proofs.Common.{◌≡◌, ℕ, ◌≤◌, ◌<◌, cond, List, [], ◌∷◌, ◌++◌, length, map, All, Some, Result, Ok, Err, refl, sym, ap, subst, ◌∙◌, arith}
use Rattle.std.specs.Prelude.{slice_get, codes, decimal}
use Rattle.std.specs.Str.{bytes_eq}
use Rattle.std.proofs.lemmas.List.Elements.{All-nil, All-cons, All-head, All-tail}
use Rattle.nego_base.specs.declared.fault.FaultKind.TheVariants as fault_kinds
use Rattle.nego_base.specs.declared.fault.Fault.{Fault}
use Rattle.nego_base.specs.declared.line.Word.{Word}
use Rattle.nego_base.specs.declared.line.Line.{Line}
use Rattle.nego_base.specs.Grammar.{at_word, exact_words, number_word}
use Rattle.nego_base.specs.LineGrammar.{Demand, Words, Version, Number, word_number}
use Rattle.nego_base.specs.LineWalk.{word_in, Answers}
use Rattle.nego_base.specs.Results.{◌>>=◌}
use Rattle.nego_base.proofs.Cases.{bind_ok, same_Ok}
use Rattle.nego_base.proofs.GrammarLaws.{exact_ok}
use Rattle.nego_base.proofs.LineFaults.{Reads, answers_then, answers_last}
use Rattle.nego_base.proofs.LineDemands.{exact_answers, number_answers, version_answers, place_answers}
use Rattle.nego_expr.specs.declared.uses.Use.{Use}
use Rattle.nego_expr.specs.declared.uses.Use.TheVariants as the_uses
use Rattle.nego_cert.specs.declared.row.Kind.{Kind}
use Rattle.nego_cert.specs.declared.row.Kind.TheVariants as kinds
use Rattle.nego_cert.specs.declared.row.Row.{Row}
use Rattle.nego_cert.specs.declared.row.Row.TheVariants as rows
use Rattle.nego_cert.specs.Lines.{keyword, kind_of, kind_of_use}
use Rattle.nego_cert.specs.Table.{one_number, two_numbers, demands, SpellsLine, certificate_lines}
use Rattle.nego_cert.specs.Reading.{number_in, header_in, one_in, two_in, use_row, row_of, row_in}
use Rattle.nego_cert.proofs.LineTexts.{text_at, first_again, one_read, one_again, two_read, two_again, header_read, header_again, word_read, word_again}

-- ---- kinds

-- the kind that the text is the keyword of
abbrev kind_named : List ℕ → Kind
kind_named text =
    cond (bytes_eq text (codes "certificate")) kinds.Header (cond (bytes_eq text (codes "merge")) kinds.Merge (cond (bytes_eq text (codes "iterate")) kinds.Iterate
    (cond (bytes_eq text (codes "shortcut")) kinds.Shortcut (cond (bytes_eq text (codes "close")) kinds.Close kinds.End))))

keyword_named : (kind : Kind) → kind_named (keyword kind) ≡ kind
keyword_named kinds.Header = refl
keyword_named kinds.Merge = refl
keyword_named kinds.Iterate = refl
keyword_named kinds.Shortcut = refl
keyword_named kinds.Close = refl
keyword_named kinds.End = refl

pub same_kind : (k k' : Kind) → keyword k ≡ keyword k' → k ≡ k'
same_kind k k' h = sym (keyword_named k) ∙ (ap kind_named h ∙ keyword_named k')

-- ---- what a line is asked

abbrev Asks : ⊥ → Word → Type 0
Asks own word = ⊥

module _ (line : Line) where
  abbrev By : {Y : Type 0} → List (Demand ⊥) → Result Y Fault → Type 0
  By asked r = Answers Asks line asked r

  number_by : (i : ℕ) → i < length line.words → By (map Number (word_number i line)) (number_in line i)
  unfolding number_in
  number_by i within = place_answers Asks line i (λ w. Number w) (λ word. number_word word) within (number_answers Asks line)

  header_by : By (demands kinds.Header line) (header_in line)
  unfolding header_in
  header_by =
      answers_then Asks line (Words 2 ∷ []) (map (Version (codes "1")) (word_number 1 line)) (exact_words 2 line) (λ _. word_in line 1 >>= λ version. cond (bytes_eq version.text (codes "1")) (Ok tt) (Err (at_word fault_kinds.Version version)))
      (exact_answers Asks line 2)
      (λ _ is. place_answers Asks line 1 (λ w. Version (codes "1") w) (λ version. cond (bytes_eq version.text (codes "1")) (Ok tt) (Err (at_word fault_kinds.Version version))) (let two = exact_ok 2 line is in omega arith)
      (version_answers Asks line (codes "1")))

  one_by : By (one_number line) (one_in line)
  unfolding one_in
  one_by = answers_then Asks line (Words 2 ∷ []) (map Number (word_number 1 line)) (exact_words 2 line) (λ _. number_in line 1) (exact_answers Asks line 2) (λ _ is. number_by 1 (let two = exact_ok 2 line is in omega arith))

  two_by : By (two_numbers line) (two_in line)
  unfolding two_in
  two_by =
      answers_then Asks line (Words 3 ∷ []) (map Number (word_number 1 line) ++ map Number (word_number 2 line)) (exact_words 3 line) (λ _. number_in line 1 >>= λ one. number_in line 2 >>= λ two. Ok (one, two)) (exact_answers Asks line 3)
      (λ _ is. let three : length line.words ≡ 3 = exact_ok 3 line is in
      answers_then Asks line (map Number (word_number 1 line)) (map Number (word_number 2 line)) (number_in line 1) (λ one. number_in line 2 >>= λ two. Ok (one, two)) (number_by 1 (omega arith))
      (λ one _. answers_last Asks line (map Number (word_number 2 line)) (number_in line 2) (λ two. (one, two)) (number_by 2 (omega arith))))

  row_by : (kind : Kind) → By (demands kind line) (row_of kind line)
  unfolding row_of
  row_by kinds.Header = answers_last Asks line (demands kinds.Header line) (header_in line) (λ _. rows.Header) header_by
  row_by kinds.Merge = answers_last Asks line (two_numbers line) (two_in line) (λ x. use_row line (the_uses.Merge (record { 0 = x.0 }) (record { 0 = x.1 }))) two_by
  row_by kinds.Iterate = answers_last Asks line (one_number line) (one_in line) (λ o. use_row line (the_uses.Iterate (record { 0 = o }))) one_by
  row_by kinds.Shortcut = answers_last Asks line (two_numbers line) (two_in line) (λ x. use_row line (the_uses.Shortcut (record { 0 = x.0 }) (record { 0 = x.1 }))) two_by
  row_by kinds.Close = answers_last Asks line (Words 1 ∷ []) (exact_words 1 line) (λ _. use_row line the_uses.Close) (exact_answers Asks line 1)
  row_by kinds.End = answers_last Asks line (Words 1 ∷ []) (exact_words 1 line) (λ _. rows.End) (exact_answers Asks line 1)

-- ---- what a line says

abbrev Short : ℕ → Type 0
Short n = n ≤ 999999

short_one : (n : ℕ) → n ≤ 999999 → All Short (n ∷ [])
short_one n h = All-cons Short n [] h (All-nil Short)

short_two : (m n : ℕ) → m ≤ 999999 → n ≤ 999999 → All Short (m ∷ n ∷ [])
short_two m n h k = All-cons Short m (n ∷ []) h (short_one n k)

row_takes : (kind : Kind) (line : Line) (first : Word) (row : Row) → slice_get line.words 0 ≡ Some first → first.text ≡ keyword kind → row_of kind line ≡ Ok row → SpellsLine line row × (kind_of row ≡ kind)
unfolding row_of
row_takes kinds.Header line first row at keyword h =
    let a = bind_ok (header_in line) (λ _. Ok rows.Header) row h in
    subst (λ (r : Row). SpellsLine line r × (kind_of r ≡ kinds.Header)) (same_Ok {E = Fault} rows.Header row a.2) (header_read line (codes "certificate") (text_at line 0 first at ∙ ap (λ (t : List ℕ). Some t) keyword) a.1, refl)
row_takes kinds.Merge line first row at keyword h =
    let a = bind_ok (two_in line) (λ x. Ok (use_row line (the_uses.Merge (record { 0 = x.0 }) (record { 0 = x.1 })))) row h in
    let b = two_read line (codes "merge") a.0 (text_at line 0 first at ∙ ap (λ (t : List ℕ). Some t) keyword) a.1 in
    subst (λ (r : Row). SpellsLine line r × (kind_of r ≡ kinds.Merge)) (same_Ok {E = Fault} (use_row line (the_uses.Merge (record { 0 = a.0.0 }) (record { 0 = a.0.1 }))) row a.2) ((refl, b.0, short_two a.0.0 a.0.1 b.1 b.2), refl)
row_takes kinds.Iterate line first row at keyword h =
    let a = bind_ok (one_in line) (λ o. Ok (use_row line (the_uses.Iterate (record { 0 = o })))) row h in
    let b = one_read line (codes "iterate") a.0 (text_at line 0 first at ∙ ap (λ (t : List ℕ). Some t) keyword) a.1 in
    subst (λ (r : Row). SpellsLine line r × (kind_of r ≡ kinds.Iterate)) (same_Ok {E = Fault} (use_row line (the_uses.Iterate (record { 0 = a.0 }))) row a.2) ((refl, b.0, short_one a.0 b.1), refl)
row_takes kinds.Shortcut line first row at keyword h =
    let a = bind_ok (two_in line) (λ x. Ok (use_row line (the_uses.Shortcut (record { 0 = x.0 }) (record { 0 = x.1 })))) row h in
    let b = two_read line (codes "shortcut") a.0 (text_at line 0 first at ∙ ap (λ (t : List ℕ). Some t) keyword) a.1 in
    subst (λ (r : Row). SpellsLine line r × (kind_of r ≡ kinds.Shortcut)) (same_Ok {E = Fault} (use_row line (the_uses.Shortcut (record { 0 = a.0.0 }) (record { 0 = a.0.1 }))) row a.2) ((refl, b.0, short_two a.0.0 a.0.1 b.1 b.2), refl)
row_takes kinds.Close line first row at keyword h =
    let a = bind_ok (exact_words 1 line) (λ _. Ok (use_row line the_uses.Close)) row h in
    subst (λ (r : Row). SpellsLine line r × (kind_of r ≡ kinds.Close)) (same_Ok {E = Fault} (use_row line the_uses.Close) row a.2)
    ((refl, word_read line (codes "close") (text_at line 0 first at ∙ ap (λ (t : List ℕ). Some t) keyword) a.1, All-nil Short), refl)
row_takes kinds.End line first row at keyword h =
    let a = bind_ok (exact_words 1 line) (λ _. Ok rows.End) row h in
    subst (λ (r : Row). SpellsLine line r × (kind_of r ≡ kinds.End)) (same_Ok {E = Fault} rows.End row a.2) (word_read line (codes "end") (text_at line 0 first at ∙ ap (λ (t : List ℕ). Some t) keyword) a.1, refl)

-- a use is read again with its line
use_again : (line : Line) (number : ℕ) (what : Use) → SpellsLine line (rows.Use (record { line = number; what = what })) → row_of (kind_of_use what) line ≡ Ok (use_row line what)
unfolding row_of
use_again line number (the_uses.Merge o1 o2) h = rw (two_again line (codes "merge") o1.0 o2.0 h.1 (All-head Short o1.0 (o2.0 ∷ []) h.2) (All-head Short o2.0 [] (All-tail Short o1.0 (o2.0 ∷ []) h.2))) refl
use_again line number (the_uses.Iterate o) h = rw (one_again line (codes "iterate") o.0 h.1 (All-head Short o.0 [] h.2)) refl
use_again line number (the_uses.Shortcut o n) h = rw (two_again line (codes "shortcut") o.0 n.0 h.1 (All-head Short o.0 (n.0 ∷ []) h.2) (All-head Short n.0 [] (All-tail Short o.0 (n.0 ∷ []) h.2))) refl
use_again line number the_uses.Close h = rw (word_again line (codes "close") h.1) refl

row_again : (line : Line) (row : Row) → SpellsLine line row → row_of (kind_of row) line ≡ Ok row
unfolding row_of
row_again line rows.Header h = rw (header_again line (codes "certificate") h) refl
row_again line (rows.Use u) h = use_again line u.line u.what h ∙ ap (λ (n : ℕ). Ok (rows.Use (record { line = n; what = u.what }))) (sym h.0)
row_again line rows.End h = rw (word_again line (codes "end") h) refl

use_begins : (line : Line) (number : ℕ) (what : Use) → SpellsLine line (rows.Use (record { line = number; what = what })) → (first : Word) × (slice_get line.words 0 ≡ Some first) × (first.text ≡ keyword (kind_of_use what))
use_begins line number (the_uses.Merge o1 o2) h = first_again line (codes "merge") (decimal o1.0 ∷ decimal o2.0 ∷ []) h.1
use_begins line number (the_uses.Iterate o) h = first_again line (codes "iterate") (decimal o.0 ∷ []) h.1
use_begins line number (the_uses.Shortcut o n) h = first_again line (codes "shortcut") (decimal o.0 ∷ decimal n.0 ∷ []) h.1
use_begins line number the_uses.Close h = first_again line (codes "close") [] h.1

row_begins : (line : Line) (row : Row) → SpellsLine line row → (first : Word) × (slice_get line.words 0 ≡ Some first) × (first.text ≡ keyword (kind_of row))
row_begins line rows.Header h = first_again line (codes "certificate") (codes "1" ∷ []) h
row_begins line (rows.Use u) h = use_begins line u.line u.what h
row_begins line rows.End h = first_again line (codes "end") [] h

-- certificates are read by their grammar
pub reads : Reads certificate_lines row_in
reads = record {
  apart = same_kind;
  answers = λ may kind line. row_by line kind;
  takes = λ may kind line first row at keyword h. row_takes kind line first row at keyword h;
  again = λ may line row h. row_again line row h;
  begins = λ may line row h. row_begins line row h;
}
