-- A line as it is put behind a text: its first word, and the others with a blank before each.
use Rattle.std.proofs.Common.{◌≡◌, ℕ, List, [], ◌∷◌, ◌++◌, map, codes, sym, ap, ◌∙◌, append_assoc}
use Rattle.std.proofs.lemmas.List.{append-nil}
use Rattle.std.proofs.lemmas.List.Concat.{flat_map-append}
use Rattle.std.proofs.lemmas.List.Folds.{flat_map-map}
use Rattle.nego_base.specs.Printed.{printed_line, printed}
use Rattle.nego_reader.specs.declared.parsed.Parsed.{Parsed}
use Rattle.nego_reader.specs.Rows.{Row, rows_of}
use Rattle.nego_reader.specs.Printing.{row_words, printed_diagram}
use Rattle.nego_reader.specs.PrintedLines.{behind_blanks, line_text, row_texts}

pub words_behind : (word : List ℕ) (words : List (List ℕ)) → printed_line (word ∷ words) ≡ word ++ behind_blanks words
words_behind word [] = sym (append-nil word)
words_behind word (w ∷ ws) = ap (λ (t : List ℕ). word ++ 32 ∷ t) (words_behind w ws)

-- a line of a keyword, a name and words, piece by piece
pub named_put : (start t1 t2 t3 t4 keyword name : List ℕ) (words : List (List ℕ)) → t1 ≡ start ++ keyword → t2 ≡ t1 ++ 32 ∷ [] → t3 ≡ t2 ++ name →
    t4 ≡ t3 ++ behind_blanks words → t4 ++ 10 ∷ [] ≡ start ++ line_text (keyword ∷ name ∷ words)
named_put start t1 t2 t3 t4 keyword name words e1 e2 e3 e4 = rw (e4, e3, e2, e1, words_behind name words) (simp append_assoc)

-- the line of a case, piece by piece
pub case_put : (start t1 t2 t3 t4 : List ℕ) (tests sets : List (List ℕ)) → t1 ≡ start ++ codes "case" → t2 ≡ t1 ++ behind_blanks tests → t3 ≡ t2 ++ 32 ∷ 58 ∷ [] →
    t4 ≡ t3 ++ behind_blanks sets → t4 ++ 10 ∷ [] ≡ start ++ line_text (codes "case" ∷ tests ++ codes ":" ∷ sets)
case_put start t1 t2 t3 t4 tests sets e1 e2 e3 e4 =
    let line : printed_line (codes "case" ∷ (tests ++ codes ":" ∷ sets)) ≡ codes "case" ++ (behind_blanks tests ++ 32 ∷ 58 ∷ behind_blanks sets) =
    words_behind (codes "case") (tests ++ codes ":" ∷ sets) ∙ ap (λ (t : List ℕ). codes "case" ++ t) (flat_map-append (λ w. 32 ∷ w) tests (codes ":" ∷ sets)) in
    rw (e4, e3, e2, e1, line) (simp append_assoc)

-- the printed text of the rows
pub rows_printed : (rows : List Row) → printed (map row_words rows) ≡ row_texts rows
unfolding printed
rows_printed rows = flat_map-map line_text row_words rows

-- the printed text of a diagram
pub diagram_printed : (p : Parsed) → row_texts (rows_of p) ≡ printed_diagram p
unfolding printed_diagram
diagram_printed p = sym (rows_printed (rows_of p))
