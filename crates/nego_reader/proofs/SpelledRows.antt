-- What the rows have that lines spell, and how long they are printed.
use Rattle.std.proofs.Common.{◌≡◌, ℕ, ◌+◌, ◌==◌, ◌≤◌, List, [], ◌∷◌, ◌++◌, length, map, All, codes, decimal, inl, inr, refl, sym, ap, ◌∙◌, arith, append_assoc}
use Rattle.std.proofs.lemmas.Bool.{cond-true, cond_both, eq-eqb}
use Rattle.std.proofs.lemmas.List.{length-append, map-append}
use Rattle.std.proofs.lemmas.List.Elements.{All-nil, All-cons}
use Rattle.nego_base.specs.LineGrammar.{IsNameWord}
use Rattle.nego_base.specs.declared.line.Word.{Word}
use Rattle.nego_base.specs.declared.line.Line.{Line}
use Rattle.nego_reader.specs.declared.parsed.PTest.{PTest}
use Rattle.nego_reader.specs.declared.parsed.PRight.{PRight}
use Rattle.nego_reader.specs.declared.parsed.PRight.TheVariants as rights
use Rattle.nego_reader.specs.declared.parsed.PSet.{PSet}
use Rattle.nego_reader.specs.declared.parsed.PTerm.{PTerm}
use Rattle.nego_reader.specs.declared.parsed.PTerm.TheVariants as terms
use Rattle.nego_reader.specs.Content.{texts}
use Rattle.nego_reader.specs.Rows.{Row, HeaderRow, AgentRow, AtomRow, OutRow, CaseRow, NextRow, FirstRow, LastRow, EndRow}
use Rattle.nego_reader.specs.Spelling.{Each, op_text, SpellsRight, SpellsTest, SpellsSum, SpellsTerm, SpellsSet, Begins, SpellsLine}
use Rattle.nego_reader.specs.Printing.{right_text, test_text, plus_text, term_text, set_text, row_words}
use Rattle.nego_reader.specs.Printable.{IsRight, IsTest, IsTerm, IsSet, IsRow}
use Rattle.nego_reader.proofs.Spacing.{spaced, spaced-append}

-- ---- words

right_is : (word : Word) (i : ℕ) (bytes : List ℕ) (right : PRight) → SpellsRight word i bytes right → IsRight right × (bytes ≡ right_text right)
right_is word i bytes (rights.Number n) h = (h.1, h.0)
right_is word i bytes (rights.Name name) h = (h.1, sym h.0.text)

-- a comparison is printed as it is spelled
test_is : (word : Word) (test : PTest) → SpellsTest word test → IsTest test × (word.text ≡ test_text test)
test_is word test h =
    let right = right_is word (length test.left.text + length (op_text test.op)) h.right_bytes test.right h.right in
    (record { left = h.name; right = right.0 }, h.parts ∙ ap (λ (t : List ℕ). test.left.text ++ op_text test.op ++ t) right.1)

sum_is : (sign : ℕ) (word : Word) (i : ℕ) (bytes : List ℕ) (name : Word) (n : ℕ) → SpellsSum sign word i bytes name n → IsNameWord name × (n ≤ 999999) × (bytes ≡ name.text ++ sign ∷ decimal n)
sum_is sign word i bytes name n h = (h.3, h.4.1, h.1 ∙ ap (λ (t : List ℕ). name.text ++ sign ∷ t) h.4.0)

-- what is assigned is printed no longer than it is spelled
term_is : (word : Word) (i : ℕ) (bytes : List ℕ) (term : PTerm) → SpellsTerm word i bytes term → IsTerm term × (length (term_text term) ≤ length bytes)
term_is word i bytes terms.Any h = (tt, let e = ap length h in omega arith)
term_is word i bytes (terms.Number n) h = (h.1, let e = ap length h.0 in omega arith)
term_is word i bytes (terms.Plus name n) (inl h) =
    let alone : plus_text name.text n ≡ name.text = cond-true (n == 0) _ _ (eq-eqb n 0 h.2) in
    let zero = h.2 in
    ((h.1, omega arith), let e = ap length (alone ∙ h.0.text) in omega arith)
term_is word i bytes (terms.Plus name n) (inr h) =
    let sum = sum_is 43 word i bytes name n h in
    let size : length (name.text ++ 43 ∷ decimal n) ≡ length name.text + length (43 ∷ decimal n) = length-append name.text (43 ∷ decimal n) in
    let same : length bytes ≡ length (name.text ++ 43 ∷ decimal n) = ap length sum.2 in
    let again : name.text ++ codes "+" ++ decimal n ≡ name.text ++ 43 ∷ decimal n = append_assoc name.text (codes "+") (decimal n) in
    let size' : length (name.text ++ codes "+" ++ decimal n) ≡ length (name.text ++ 43 ∷ decimal n) = ap length again in (
      (sum.0, sum.1),
      cond_both (n == 0) name.text (name.text ++ codes "+" ++ decimal n) (λ (t : List ℕ). length t ≤ length bytes) (λ _. omega arith) (λ _. omega arith),
    )
term_is word i bytes (terms.Minus name n) h =
    let sum = sum_is 45 word i bytes name n h in
    let same = ap length (append_assoc name.text (codes "-") (decimal n) ∙ sym sum.2) in
    ((sum.0, sum.1), omega arith)

set_is : (word : Word) (set : PSet) → SpellsSet word set → IsSet set × (length (set_text set) ≤ length word.text)
set_is word set h =
    let term = term_is word (length set.agent.text + 2) h.term_bytes set.term h.term in
    let few = term.1 in
    let size : length (set.agent.text ++ codes ":=" ++ h.term_bytes) ≡ length (set.agent.text ++ codes ":=") + length h.term_bytes = length-append (set.agent.text ++ codes ":=") h.term_bytes in
    let size' : length (set_text set) ≡ length (set.agent.text ++ codes ":=") + length (term_text set.term) = length-append (set.agent.text ++ codes ":=") (term_text set.term) in
    let same = ap length h.parts in
    (record { agent = h.name; term = term.0 }, omega arith)

tests_are : (words : List Word) (tests : List PTest) → Each SpellsTest words tests → All IsTest tests × (texts words ≡ map test_text tests)
tests_are [] [] h = (All-nil IsTest, refl)
tests_are [] (t ∷ ts) h = absurd h
tests_are (w ∷ ws) [] h = absurd h
tests_are (w ∷ ws) (t ∷ ts) h =
    let first = test_is w t h.0 in
    let more = tests_are ws ts h.1 in
    (All-cons IsTest t ts first.0 more.0, ap (λ (x : List ℕ). x ∷ texts ws) first.1 ∙ ap (λ (xs : List (List ℕ)). test_text t ∷ xs) more.1)

sets_are : (words : List Word) (sets : List PSet) → Each SpellsSet words sets → All IsSet sets × (spaced (map set_text sets) ≤ spaced (texts words))
sets_are [] [] h = (All-nil IsSet, omega arith)
sets_are [] (s ∷ ss) h = absurd h
sets_are (w ∷ ws) [] h = absurd h
sets_are (w ∷ ws) (s ∷ ss) h =
    let first = set_is w s h.0 in
    let more = sets_are ws ss h.1 in
    let short = first.1 in
    let shorter = more.1 in
    (All-cons IsSet s ss first.0 more.0, omega arith)

-- ---- lines

begins_is : (text : List ℕ) (line : Line) (rest : List Word) → Begins text line rest → texts line.words ≡ text ∷ texts rest
begins_is text line rest h = ap texts h.words ∙ ap (λ (t : List ℕ). t ∷ texts rest) h.keyword

-- words that are printed as they are spelled
as_long : (words words' : List (List ℕ)) → words' ≡ words → spaced words ≤ spaced words'
as_long words words' h = let e = ap spaced h in omega arith

abbrev IsSpelled : Line → Row → Type 0
IsSpelled line row = IsRow row × (spaced (row_words row) ≤ spaced (texts line.words))

-- a row that a line spells is printed no longer than the line
pub row_is : (line : Line) (row : Row) → SpellsLine line row → IsSpelled line row
row_is line HeaderRow h =
    (tt, as_long (row_words HeaderRow) (texts line.words) (begins_is (codes "nego") line (h.0 ∷ []) h.1 ∙ ap (λ (t : List ℕ). codes "nego" ∷ t ∷ []) h.2))
row_is line (AgentRow a) h =
    ((h.2, h.3.1), as_long (row_words (AgentRow a)) (texts line.words) (begins_is (codes "agent") line (a.name ∷ h.0 ∷ []) h.1 ∙ ap (λ (t : List ℕ). codes "agent" ∷ a.name.text ∷ t ∷ []) h.3.0))
row_is line (AtomRow name parties) h = (h.1, as_long (row_words (AtomRow name parties)) (texts line.words) (begins_is (codes "atom") line (name ∷ parties) h.0))
row_is line (OutRow name) h = (h.1, as_long (row_words (OutRow name)) (texts line.words) (begins_is (codes "out") line (name ∷ []) h.0))
row_is line (CaseRow c) h =
    let tests = tests_are h.0 c.tests h.4 in
    let sets = sets_are h.2 c.sets h.6 in
    let all : texts line.words ≡ codes "case" ∷ (texts h.0 ++ h.1.text ∷ texts h.2) =
    begins_is (codes "case") line (h.0 ++ h.1 ∷ h.2) h.3 ∙ ap (λ (ts : List (List ℕ)). codes "case" ∷ ts) (map-append (λ (w : Word). w.text) h.0 (h.1 ∷ h.2)) in
    let size = ap spaced all in
    let parts = spaced-append (texts h.0) (h.1.text ∷ texts h.2) in
    let parts' = spaced-append (map test_text c.tests) (codes ":" ∷ map set_text c.sets) in
    let same = ap spaced tests.1 in
    let colon = ap length h.5 in
    let shorter = sets.1 in
    ((tests.0, sets.0), omega arith)
row_is line (NextRow n) h = ((h.1, h.2), as_long (row_words (NextRow n)) (texts line.words) (begins_is (codes "next") line (n.atom ∷ n.agents) h.0))
row_is line (FirstRow name) h = (h.1, as_long (row_words (FirstRow name)) (texts line.words) (begins_is (codes "first") line (name ∷ []) h.0))
row_is line (LastRow name) h = (h.1, as_long (row_words (LastRow name)) (texts line.words) (begins_is (codes "last") line (name ∷ []) h.0))
row_is line EndRow h = (tt, as_long (row_words EndRow) (texts line.words) (begins_is (codes "end") line [] h))
