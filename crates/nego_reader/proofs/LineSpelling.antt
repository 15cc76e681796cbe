-- Lines: what is read is spelled so, and what is spelled so is read.
use Rattle.std.proofs.Common.{◌≡◌, ℕ, suc, ◌+◌, ◌≤◌, ◌<◌, Bool, true, false, cond, List, [], ◌∷◌, ◌++◌, length, take, drop, get_or, All, Option, Some, None, Result, Ok, Err, refl, sym, ap, subst, ◌∙◌, append_assoc, arith, add-one, add-zero}
use Rattle.std.specs.Prelude.{slice_get, position, codes}
use Rattle.std.specs.List.{list_any, position_or_len}
use Rattle.std.specs.Option.{option_map_or}
use Rattle.std.specs.Str.{bytes_eq}
use Rattle.std.proofs.Math.Seq.{split_at}
use Rattle.std.proofs.lemmas.Bool.{false≢true, false_from_ne_true, or_from, cond-true, lt-ltb}
use Rattle.std.proofs.lemmas.List.{drop_all, take_at, drop_at, length-append, get_or_append_left, get_or-append-add}
use Rattle.std.proofs.lemmas.List.Elements.{All-nil, All-cons, All-head, All-tail}
use Rattle.std.proofs.lemmas.List.Folds.{list_any_at}
use Rattle.std.proofs.lemmas.List.Quantifiers.{position-Some}
use Rattle.std.proofs.lemmas.List.Sums.{position_or_len_is}
use Rattle.std.proofs.lemmas.Option.{slice_get_within, slice_get-get_or, same_Some}
use Rattle.std.proofs.lemmas.Slice.Eq.{bytes_eq-Decides}
use Rattle.nego_reader.specs.Table.{is_colon}
use Rattle.nego_base.specs.LineWalk.{each, word_in}
use Rattle.nego_base.specs.LineGrammar.{IsNameWord}
use Rattle.nego_base.specs.declared.fault.FaultKind.TheVariants as fault_kinds
use Rattle.nego_base.specs.declared.fault.Fault.{Fault}
use Rattle.nego_base.specs.declared.line.Word.{Word}
use Rattle.nego_base.specs.declared.line.Line.{Line}
use Rattle.nego_base.specs.Grammar.{at_word, past_line, least_words, exact_words, name_word, number_word}
use Rattle.nego_base.specs.Results.{◌>>=◌}
use Rattle.nego_base.proofs.Cases.{bind_ok, bind_some, same_Ok}
use Rattle.nego_base.proofs.GrammarLaws.{least_ok, least_words-ok, exact_ok, exact_words-ok, name_ok, name_word-ok, number_ok, number_word-ok}
use Rattle.nego_reader.specs.declared.parsed.PAgent.{PAgent}
use Rattle.nego_reader.specs.declared.parsed.PNext.{PNext}
use Rattle.nego_reader.specs.declared.parsed.PCase.{PCase}
use Rattle.nego_reader.specs.declared.parsed.PTest.{PTest}
use Rattle.nego_reader.specs.declared.parsed.PSet.{PSet}
use Rattle.nego_reader.specs.Rows.{Kind, Nego, Agent, Atom, Out, Case, Next, First, Last, End, Row, HeaderRow, AgentRow, AtomRow, OutRow, CaseRow, NextRow, FirstRow, LastRow, EndRow, keyword, kind_of}
use Rattle.nego_reader.specs.Spelling.{Each, SpellsTest, SpellsSet, Begins, SpellsLine}
use Rattle.nego_reader.specs.Reading.{name_of, name_in, header_in, agent_in, named_in, names_in, next_in, in_case, sides_of, case_in, test_of, set_of, row_of}
use Rattle.nego_base.proofs.LineLoops.{cut_at}
use Rattle.nego_reader.proofs.Eaches.{each_takes, each_again}
use Rattle.nego_reader.proofs.WordSpelling.{guard_ok, in_case_ok, same_bytes, test_takes, test_again, set_takes, set_again, test_no_colon, set_no_colon}

-- ---- words of a line

word_in_ok : (line : Line) (i : ℕ) (word : Word) → word_in line i ≡ Ok word → slice_get line.words i ≡ Some word
unfolding word_in
word_in_ok line i word h = by_word (slice_get line.words i) h
  where
    by_word : (o : Option Word) → ◌≡◌ {A = Result Word Fault} (option_map_or (λ w. Ok w) o (Err (past_line fault_kinds.Count line))) (Ok word) → o ≡ Some word
    by_word None h = absurd cc
    by_word (Some w) h = ap (λ (v : Word). Some v) (same_Ok {E = Fault} w word h)

word_in_again : (line : Line) (i : ℕ) (word : Word) → slice_get line.words i ≡ Some word → word_in line i ≡ Ok word
unfolding word_in
word_in_again line i word h = rw h refl

-- the words from a place on
from_word : (words : List Word) (i : ℕ) (word : Word) → slice_get words i ≡ Some word → drop i words ≡ word ∷ drop (i + 1) words
from_word words i word h =
    let inside = slice_get_within words i word h in
    cut_at words i word inside (same_Some word (get_or words i word) (sym h ∙ slice_get-get_or words i word inside))

name_of_ok : (word name : Word) → name_of word ≡ Ok name → (word ≡ name) × IsNameWord word
unfolding name_of
name_of_ok word name h =
    let a = bind_ok (name_word word) (λ _. Ok word) name h in
    (same_Ok {E = Fault} word name a.2, name_ok word a.1)

name_of_again : (word : Word) → IsNameWord word → name_of word ≡ Ok word
unfolding name_of
name_of_again word h = rw (name_word-ok word h) refl

name_in_ok : (line : Line) (i : ℕ) (name : Word) → name_in line i ≡ Ok name → (slice_get line.words i ≡ Some name) × IsNameWord name
unfolding name_in
name_in_ok line i name h =
    let a = bind_ok (word_in line i) name_of name h in
    let b = name_of_ok a.0 name a.2 in
    (word_in_ok line i a.0 a.1 ∙ ap (λ (w : Word). Some w) b.0, subst IsNameWord b.0 b.1)

name_in_again : (line : Line) (i : ℕ) (name : Word) → slice_get line.words i ≡ Some name → IsNameWord name → name_in line i ≡ Ok name
unfolding name_in
name_in_again line i name h named = rw (word_in_again line i name h) (name_of_again name named)

names_ok : (words names : List Word) → each name_of words ≡ Ok names → (words ≡ names) × All IsNameWord words
unfolding each
names_ok [] names h = (same_Ok {E = Fault} [] names h, All-nil IsNameWord)
names_ok (word ∷ words) names h =
    let a = bind_ok (name_of word) (λ y. each name_of words >>= λ ys. Ok (y ∷ ys)) names h in
    let b = bind_ok (each name_of words) (λ ys. Ok (a.0 ∷ ys)) names a.2 in
    let first = name_of_ok word a.0 a.1 in
    let others = names_ok words b.0 b.1 in
    let same : a.0 ∷ b.0 ≡ names = same_Ok {E = Fault} (a.0 ∷ b.0) names b.2 in
    (ap (λ (w : Word). w ∷ words) first.0 ∙ (ap (λ (ws : List Word). a.0 ∷ ws) others.0 ∙ same), All-cons IsNameWord word words first.1 others.1)

names_again : (words : List Word) → All IsNameWord words → each name_of words ≡ Ok words
unfolding each
names_again [] h = refl
names_again (word ∷ words) h = rw (name_of_again word (All-head IsNameWord word words h), names_again words (All-tail IsNameWord word words h)) refl

-- ---- lines of two words

begins_at : (line : Line) (first : Word) (text : List ℕ) (rest : List Word) → slice_get line.words 0 ≡ Some first → first.text ≡ text → drop 1 line.words ≡ rest → Begins text line rest
begins_at line first text rest h keyword e = record { first = first; words = from_word line.words 0 first h ∙ ap (λ (ws : List Word). first ∷ ws) e; keyword = keyword }

-- the only word behind the first
one_behind : (line : Line) (word : Word) → exact_words 2 line ≡ Ok tt → slice_get line.words 1 ≡ Some word → drop 1 line.words ≡ word ∷ []
one_behind line word counted h =
    let two : length line.words ≡ 2 = exact_ok 2 line counted in
    from_word line.words 1 word h ∙ ap (λ (ws : List Word). word ∷ ws) (drop_all 2 line.words (omega arith))

named_takes : (text : List ℕ) (line : Line) (first name : Word) → slice_get line.words 0 ≡ Some first → first.text ≡ text → named_in line ≡ Ok name → Begins text line (name ∷ []) × IsNameWord name
unfolding named_in
named_takes text line first name at keyword h =
    let a = bind_ok (exact_words 2 line) (λ _. name_in line 1) name h in
    let b = name_in_ok line 1 name a.2 in
    (begins_at line first text (name ∷ []) at keyword (one_behind line name a.1 b.0), b.1)

named_again : (text : List ℕ) (line : Line) (name : Word) → Begins text line (name ∷ []) → IsNameWord name → named_in line ≡ Ok name
unfolding named_in
named_again text line name h named = rw (exact_words-ok 2 line (ap length h.words)) (name_in_again line 1 name (ap (λ (ws : List Word). slice_get ws 1) h.words) named)

header_takes : (line : Line) (first : Word) → slice_get line.words 0 ≡ Some first → first.text ≡ codes "nego" → header_in line ≡ Ok tt → SpellsLine line HeaderRow
unfolding header_in
header_takes line first at keyword h =
    let a = bind_ok (exact_words 2 line) (λ _. word_in line 1 >>= λ version. cond (bytes_eq version.text (codes "1")) (Ok tt) (Err (at_word fault_kinds.Version version))) tt h in
    let b = bind_ok (word_in line 1) (λ version. cond (bytes_eq version.text (codes "1")) (Ok tt) (Err (at_word fault_kinds.Version version))) tt a.2 in
    let g = guard_ok (bytes_eq b.0.text (codes "1")) tt tt (at_word fault_kinds.Version b.0) b.2 in
    (b.0, begins_at line first (codes "nego") (b.0 ∷ []) at keyword (one_behind line b.0 a.1 (word_in_ok line 1 b.0 b.1)), same_bytes b.0.text (codes "1") g.0)

header_again : (line : Line) → SpellsLine line HeaderRow → header_in line ≡ Ok tt
unfolding header_in
header_again line h =
    rw (exact_words-ok 2 line (ap length h.1.words), word_in_again line 1 h.0 (ap (λ (ws : List Word). slice_get ws 1) h.1.words), ap (λ (t : List ℕ). bytes_eq t (codes "1")) h.2) refl

-- ---- agents

agent_takes : (line : Line) (first : Word) (agent : PAgent) → slice_get line.words 0 ≡ Some first → first.text ≡ codes "agent" → agent_in line ≡ Ok agent → SpellsLine line (AgentRow agent)
unfolding agent_in
agent_takes line first agent at keyword h =
    let a = bind_ok (exact_words 3 line) (λ _. name_in line 1 >>= λ name. word_in line 2 >>= λ word. number_word word >>= λ size. Ok (record { name = name; size = size })) agent h in
    let b = bind_ok (name_in line 1) (λ name. word_in line 2 >>= λ word. number_word word >>= λ size. Ok (record { name = name; size = size })) agent a.2 in
    let c = bind_ok (word_in line 2) (λ word. number_word word >>= λ size. Ok (record { name = b.0; size = size })) agent b.2 in
    let d = bind_ok (number_word c.0) (λ size. Ok (record { name = b.0; size = size })) agent c.2 in
    let name = name_in_ok line 1 b.0 b.1 in
    let three : length line.words ≡ 3 = exact_ok 3 line a.1 in
    let second : drop 2 line.words ≡ c.0 ∷ [] = from_word line.words 2 c.0 (word_in_ok line 2 c.0 c.1) ∙ ap (λ (ws : List Word). c.0 ∷ ws) (drop_all 3 line.words (omega arith)) in
    let behind : drop 1 line.words ≡ b.0 ∷ c.0 ∷ [] = from_word line.words 1 b.0 name.0 ∙ ap (λ (ws : List Word). b.0 ∷ ws) second in
    let made : PAgent = record { name = b.0; size = d.0 } in
    subst (λ (x : PAgent). SpellsLine line (AgentRow x)) (same_Ok {E = Fault} made agent d.2)
    (c.0, begins_at line first (codes "agent") (b.0 ∷ c.0 ∷ []) at keyword behind, name.1, number_ok c.0 d.0 d.1)

agent_again : (line : Line) (agent : PAgent) → SpellsLine line (AgentRow agent) → agent_in line ≡ Ok agent
unfolding agent_in
agent_again line agent h =
    rw (exact_words-ok 3 line (ap length h.1.words), name_in_again line 1 agent.name (ap (λ (ws : List Word). slice_get ws 1) h.1.words) h.2, word_in_again line 2 h.0 (ap (λ (ws : List Word). slice_get ws 2) h.1.words), number_word-ok h.0 agent.size h.3.0 h.3.1) refl

-- ---- lines of names

record IsNames (n : ℕ) (text : List ℕ) (line : Line) (name : Word) (names : List Word) : Type 0 where
  begins : Begins text line (name ∷ names)
  named : All IsNameWord (name ∷ names)
  enough : n ≤ length line.words

names_take : (n : ℕ) (text : List ℕ) (line : Line) (first : Word) (x : Word × List Word) → slice_get line.words 0 ≡ Some first → first.text ≡ text → names_in n line ≡ Ok x → IsNames n text line x.0 x.1
unfolding names_in
names_take n text line first x at keyword h =
    let a = bind_ok (least_words n line) (λ _. name_in line 1 >>= λ name. each name_of (drop 2 line.words) >>= λ names. Ok (name, names)) x h in
    let b = bind_ok (name_in line 1) (λ name. each name_of (drop 2 line.words) >>= λ names. Ok (name, names)) x a.2 in
    let c = bind_ok (each name_of (drop 2 line.words)) (λ names. Ok (b.0, names)) x b.2 in
    let name = name_in_ok line 1 b.0 b.1 in
    let names = names_ok (drop 2 line.words) c.0 c.1 in
    let behind : drop 1 line.words ≡ b.0 ∷ c.0 = from_word line.words 1 b.0 name.0 ∙ ap (λ (ws : List Word). b.0 ∷ ws) names.0 in
    let made : Word × List Word = (b.0, c.0) in
    subst (λ (y : Word × List Word). IsNames n text line y.0 y.1) (same_Ok {E = Fault} made x c.2) (record {
      begins = begins_at line first text (b.0 ∷ c.0) at keyword behind;
      named = All-cons IsNameWord b.0 c.0 name.1 (subst (All IsNameWord) names.0 names.1);
      enough = least_ok n line a.1;
    })

names_in_again : (n : ℕ) (text : List ℕ) (line : Line) (name : Word) (names : List Word) → Begins text line (name ∷ names) → All IsNameWord (name ∷ names) → n ≤ suc (suc (length names)) → names_in n line ≡ Ok (name, names)
unfolding names_in
names_in_again n text line name names h named enough =
    let size : length line.words ≡ suc (suc (length names)) = ap length h.words in
    rw (least_words-ok n line (omega arith), name_in_again line 1 name (ap (λ (ws : List Word). slice_get ws 1) h.words) (All-head IsNameWord name names named), ap (drop 2) h.words, names_again names (All-tail IsNameWord name names named)) refl

next_takes : (line : Line) (first : Word) (next : PNext) → slice_get line.words 0 ≡ Some first → first.text ≡ codes "next" → next_in line ≡ Ok next → SpellsLine line (NextRow next)
unfolding next_in
next_takes line first next at keyword h =
    let a = bind_ok (names_in 3 line) (λ names. Ok (record { atom = names.0; agents = names.1 })) next h in
    let names = names_take 3 (codes "next") line first a.0 at keyword a.1 in
    let size : length line.words ≡ suc (suc (length a.0.1)) = ap length names.begins.words in
    let enough = names.enough in
    let made : PNext = record { atom = a.0.0; agents = a.0.1 } in
    subst (λ (x : PNext). SpellsLine line (NextRow x)) (same_Ok {E = Fault} made next a.2) (names.begins, names.named, omega arith)

next_again : (line : Line) (next : PNext) → SpellsLine line (NextRow next) → next_in line ≡ Ok next
unfolding next_in
next_again line next h = let filled = h.2 in rw (names_in_again 3 (codes "next") line next.atom next.agents h.0 h.1 (omega arith)) refl

-- ---- cases

colon_place : (front : List Word) (colon : Word) (rest : List Word) → list_any is_colon front ≡ false → is_colon colon ≡ true → position is_colon (front ++ colon ∷ rest) ≡ Some (length front)
colon_place front colon rest free there =
    let all = front ++ colon ∷ rest in
    let size : length all ≡ length front + suc (length rest) = length-append front (colon ∷ rest) in
    let at : position_or_len is_colon all ≡ length front = position_or_len_is is_colon all (length front) colon (omega arith)
    (λ k below. ap is_colon (get_or_append_left front (colon ∷ rest) colon k below) ∙ fails_at front k free below)
    (λ _. ap is_colon (ap (λ k. get_or all k colon) (sym (add-zero (length front))) ∙ get_or-append-add front (colon ∷ rest) 0 colon) ∙ there) in
    cond-true _ _ _ (lt-ltb (position_or_len is_colon all) (length all) (omega arith)) ∙ ap (λ n. Some n) at
  where
    fails_at : (words : List Word) (k : ℕ) → list_any is_colon words ≡ false → k < length words → is_colon (get_or words k colon) ≡ false
    fails_at words k free below = false_from_ne_true _ (λ there. false≢true (sym free ∙ list_any_at is_colon words k colon below there))

pub sides_ok : (words : List Word) (default : Word) (sides : List Word × List Word) → sides_of words ≡ Some sides → (colon : Word) × (words ≡ sides.0 ++ colon ∷ sides.1) × (colon.text ≡ codes ":")
unfolding sides_of
sides_ok words default sides h =
    let a = bind_some (position is_colon words) (λ n. cond (list_any is_colon (drop (n + 1) words)) None (Some (take n words, drop (n + 1) words))) sides h in
    let at = position-Some is_colon words a.0 default a.1 in
    let colon = get_or words a.0 default in
    let cut : words ≡ take a.0 words ++ (colon ∷ drop (a.0 + 1) words) = rw add-one (split_at words a.0 default at.0) in
    let same = no_other (list_any is_colon (drop (a.0 + 1) words)) (take a.0 words, drop (a.0 + 1) words) sides a.2 in
    (colon, cut ∙ ap (λ (p : List Word × List Word). p.0 ++ colon ∷ p.1) same, same_bytes colon.text (codes ":") at.1)
  where
    no_other : (t : Bool) (x y : List Word × List Word) → cond t None (Some x) ≡ Some y → x ≡ y
    no_other true x y h = absurd cc
    no_other false x y h = same_Some x y h

pub sides_again : (tests : List Word) (colon : Word) (sets : List Word) → list_any is_colon tests ≡ false → colon.text ≡ codes ":" → list_any is_colon sets ≡ false → sides_of (tests ++ colon ∷ sets) ≡ Some (tests, sets)
unfolding sides_of
sides_again tests colon sets before text after =
    let is : is_colon colon ≡ true = (bytes_eq-Decides colon.text (codes ":")).1 text in
    let size : length tests + 1 ≡ length (tests ++ colon ∷ []) = rw (length-append tests (colon ∷ [])) refl in
    let behind : drop (length tests + 1) (tests ++ colon ∷ sets) ≡ sets =
    ap (λ (ws : List Word). drop (length tests + 1) ws) (sym (append_assoc tests (colon ∷ []) sets)) ∙ drop_at (tests ++ colon ∷ []) sets (length tests + 1) (sym size) in
    rw (colon_place tests colon sets before is, behind, after, take_at tests (colon ∷ sets) (length tests) refl) refl

tests_no_colon : (words : List Word) (tests : List PTest) → Each SpellsTest words tests → list_any is_colon words ≡ false
tests_no_colon [] [] h = refl
tests_no_colon [] (test ∷ tests) h = absurd h
tests_no_colon (word ∷ words) [] h = absurd h
tests_no_colon (word ∷ words) (test ∷ tests) h = or_from _ _ (test_no_colon word test h.0) (tests_no_colon words tests h.1)

sets_no_colon : (words : List Word) (sets : List PSet) → Each SpellsSet words sets → list_any is_colon words ≡ false
sets_no_colon [] [] h = refl
sets_no_colon [] (set ∷ sets) h = absurd h
sets_no_colon (word ∷ words) [] h = absurd h
sets_no_colon (word ∷ words) (set ∷ sets) h = or_from _ _ (set_no_colon word set h.0) (sets_no_colon words sets h.1)

case_takes : (line : Line) (first : Word) (c : PCase) → slice_get line.words 0 ≡ Some first → first.text ≡ codes "case" → case_in line ≡ Ok c → SpellsLine line (CaseRow c)
unfolding case_in
case_takes line first c at keyword h =
    let a = bind_ok (least_words 2 line) (λ _. word_in line 0 >>= λ word. in_case word (sides_of (drop 1 line.words)) >>= λ sides. each test_of sides.0 >>= λ tests. each set_of sides.1 >>= λ sets. Ok (record { tests = tests; sets = sets })) c h in
    let b = bind_ok (word_in line 0) (λ word. in_case word (sides_of (drop 1 line.words)) >>= λ sides. each test_of sides.0 >>= λ tests. each set_of sides.1 >>= λ sets. Ok (record { tests = tests; sets = sets })) c a.2 in
    let d = bind_ok (in_case b.0 (sides_of (drop 1 line.words))) (λ sides. each test_of sides.0 >>= λ tests. each set_of sides.1 >>= λ sets. Ok (record { tests = tests; sets = sets })) c b.2 in
    let e = bind_ok (each test_of d.0.0) (λ tests. each set_of d.0.1 >>= λ sets. Ok (record { tests = tests; sets = sets })) c d.2 in
    let f = bind_ok (each set_of d.0.1) (λ sets. Ok (record { tests = e.0; sets = sets })) c e.2 in
    let sides = sides_ok (drop 1 line.words) first d.0 (in_case_ok b.0 (sides_of (drop 1 line.words)) d.0 d.1) in
    let made : PCase = record { tests = e.0; sets = f.0 } in
    subst (λ (x : PCase). SpellsLine line (CaseRow x)) (same_Ok {E = Fault} made c f.2)
    (d.0.0, sides.0, d.0.1, begins_at line first (codes "case") (d.0.0 ++ sides.0 ∷ d.0.1) at keyword sides.1, each_takes test_of SpellsTest test_takes d.0.0 e.0 e.1, sides.2, each_takes set_of SpellsSet set_takes d.0.1 f.0 f.1)

case_again : (line : Line) (c : PCase) → SpellsLine line (CaseRow c) → case_in line ≡ Ok c
unfolding case_in
case_again line c h =
    let tests = h.0 in
    let colon = h.1 in
    let sets = h.2 in
    let words = h.3.words in
    let size : length line.words ≡ suc (length (tests ++ colon ∷ sets)) = ap length words in
    let enough : 2 ≤ length line.words = omega (arith, length-append tests (colon ∷ sets)) in
    let first : slice_get line.words 0 ≡ Some h.3.first = ap (λ (ws : List Word). slice_get ws 0) words in
    rw (least_words-ok 2 line enough, word_in_again line 0 h.3.first first, ap (drop 1) words, sides_again tests colon sets (tests_no_colon tests c.tests h.4) h.5 (sets_no_colon sets c.sets h.6), each_again test_of SpellsTest test_again tests c.tests h.4, each_again set_of SpellsSet set_again sets c.sets h.6) refl

-- ---- lines of all kinds

pub row_takes : (kind : Kind) (line : Line) (first : Word) (row : Row) → slice_get line.words 0 ≡ Some first → first.text ≡ keyword kind → row_of kind line ≡ Ok row → SpellsLine line row
unfolding row_of
row_takes Nego line first row at keyword h =
    let a = bind_ok (header_in line) (λ _. Ok HeaderRow) row h in
    subst (SpellsLine line) (same_Ok {E = Fault} HeaderRow row a.2) (header_takes line first at keyword a.1)
row_takes Agent line first row at keyword h =
    let a = bind_ok (agent_in line) (λ agent. Ok (AgentRow agent)) row h in
    subst (SpellsLine line) (same_Ok {E = Fault} (AgentRow a.0) row a.2) (agent_takes line first a.0 at keyword a.1)
row_takes Atom line first row at keyword h =
    let a = bind_ok (names_in 2 line) (λ names. Ok (AtomRow names.0 names.1)) row h in
    let names = names_take 2 (codes "atom") line first a.0 at keyword a.1 in
    subst (SpellsLine line) (same_Ok {E = Fault} (AtomRow a.0.0 a.0.1) row a.2) (names.begins, names.named)
row_takes Out line first row at keyword h =
    let a = bind_ok (named_in line) (λ name. Ok (OutRow name)) row h in
    subst (SpellsLine line) (same_Ok {E = Fault} (OutRow a.0) row a.2) (named_takes (codes "out") line first a.0 at keyword a.1)
row_takes Case line first row at keyword h =
    let a = bind_ok (case_in line) (λ c. Ok (CaseRow c)) row h in
    subst (SpellsLine line) (same_Ok {E = Fault} (CaseRow a.0) row a.2) (case_takes line first a.0 at keyword a.1)
row_takes Next line first row at keyword h =
    let a = bind_ok (next_in line) (λ next. Ok (NextRow next)) row h in
    subst (SpellsLine line) (same_Ok {E = Fault} (NextRow a.0) row a.2) (next_takes line first a.0 at keyword a.1)
row_takes First line first row at keyword h =
    let a = bind_ok (named_in line) (λ name. Ok (FirstRow name)) row h in
    subst (SpellsLine line) (same_Ok {E = Fault} (FirstRow a.0) row a.2) (named_takes (codes "first") line first a.0 at keyword a.1)
row_takes Last line first row at keyword h =
    let a = bind_ok (named_in line) (λ name. Ok (LastRow name)) row h in
    subst (SpellsLine line) (same_Ok {E = Fault} (LastRow a.0) row a.2) (named_takes (codes "last") line first a.0 at keyword a.1)
row_takes End line first row at keyword h =
    let a = bind_ok (exact_words 1 line) (λ _. Ok EndRow) row h in
    let one : length line.words ≡ 1 = exact_ok 1 line a.1 in
    subst (SpellsLine line) (same_Ok {E = Fault} EndRow row a.2) (begins_at line first (codes "end") [] at keyword (drop_all 1 line.words (omega arith)))

-- a row is of the kind of its line
pub row_kind : (kind : Kind) (line : Line) (row : Row) → row_of kind line ≡ Ok row → kind_of row ≡ kind
unfolding row_of
row_kind Nego line row h = ap kind_of (sym (same_Ok {E = Fault} _ row (bind_ok (header_in line) (λ _. Ok HeaderRow) row h).2))
row_kind Agent line row h = let a = bind_ok (agent_in line) (λ agent. Ok (AgentRow agent)) row h in ap kind_of (sym (same_Ok {E = Fault} (AgentRow a.0) row a.2))
row_kind Atom line row h = let a = bind_ok (names_in 2 line) (λ names. Ok (AtomRow names.0 names.1)) row h in ap kind_of (sym (same_Ok {E = Fault} (AtomRow a.0.0 a.0.1) row a.2))
row_kind Out line row h = let a = bind_ok (named_in line) (λ name. Ok (OutRow name)) row h in ap kind_of (sym (same_Ok {E = Fault} (OutRow a.0) row a.2))
row_kind Case line row h = let a = bind_ok (case_in line) (λ c. Ok (CaseRow c)) row h in ap kind_of (sym (same_Ok {E = Fault} (CaseRow a.0) row a.2))
row_kind Next line row h = let a = bind_ok (next_in line) (λ next. Ok (NextRow next)) row h in ap kind_of (sym (same_Ok {E = Fault} (NextRow a.0) row a.2))
row_kind First line row h = let a = bind_ok (named_in line) (λ name. Ok (FirstRow name)) row h in ap kind_of (sym (same_Ok {E = Fault} (FirstRow a.0) row a.2))
row_kind Last line row h = let a = bind_ok (named_in line) (λ name. Ok (LastRow name)) row h in ap kind_of (sym (same_Ok {E = Fault} (LastRow a.0) row a.2))
row_kind End line row h = ap kind_of (sym (same_Ok {E = Fault} _ row (bind_ok (exact_words 1 line) (λ _. Ok EndRow) row h).2))

pub row_again : (line : Line) (row : Row) → SpellsLine line row → row_of (kind_of row) line ≡ Ok row
unfolding row_of
row_again line HeaderRow h = rw (header_again line h) refl
row_again line (AgentRow agent) h = rw (agent_again line agent h) refl
row_again line (AtomRow name parties) h = rw (names_in_again 2 (codes "atom") line name parties h.0 h.1 (omega arith)) refl
row_again line (OutRow name) h = rw (named_again (codes "out") line name h.0 h.1) refl
row_again line (CaseRow c) h = rw (case_again line c h) refl
row_again line (NextRow next) h = rw (next_again line next h) refl
row_again line (FirstRow name) h = rw (named_again (codes "first") line name h.0 h.1) refl
row_again line (LastRow name) h = rw (named_again (codes "last") line name h.0 h.1) refl
row_again line EndRow h = rw (exact_words-ok 1 line (ap length h.words)) refl

-- the first word of a line
pub begins_with : (text : List ℕ) (line : Line) (rest : List Word) → Begins text line rest → (first : Word) × (slice_get line.words 0 ≡ Some first) × (first.text ≡ text)
begins_with text line rest h = (h.first, ap (λ (ws : List Word). slice_get ws 0) h.words, h.keyword)

pub first_again : (line : Line) (row : Row) → SpellsLine line row → (first : Word) × (slice_get line.words 0 ≡ Some first) × (first.text ≡ keyword (kind_of row))
first_again line HeaderRow h = begins_with (codes "nego") line (h.0 ∷ []) h.1
first_again line (AgentRow agent) h = begins_with (codes "agent") line (agent.name ∷ h.0 ∷ []) h.1
first_again line (AtomRow name parties) h = begins_with (codes "atom") line (name ∷ parties) h.0
first_again line (OutRow name) h = begins_with (codes "out") line (name ∷ []) h.0
first_again line (CaseRow c) h = begins_with (codes "case") line (h.0 ++ h.1 ∷ h.2) h.3
first_again line (NextRow next) h = begins_with (codes "next") line (next.atom ∷ next.agents) h.0
first_again line (FirstRow name) h = begins_with (codes "first") line (name ∷ []) h.0
first_again line (LastRow name) h = begins_with (codes "last") line (name ∷ []) h.0
first_again line EndRow h = begins_with (codes "end") line [] h
