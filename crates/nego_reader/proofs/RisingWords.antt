-- In what a text spells lines rise from each line of the diagram to the next, and columns from name to name.
use Rattle.std.proofs.Common.{◌≡◌, ℕ, ◌+◌, ◌<◌, ◌≤◌, Bool, true, false, List, [], ◌∷◌, ◌++◌, length, get_or, All, codes, inl, inr, refl, sym, ap, subst, ◌∙◌, arith}
use Rattle.std.specs.List.{AllPairs, flat_map}
use Rattle.std.proofs.lemmas.Bool.{cases_Bool, cond-true, cond-false, cond_both, and_parts, leb-true, false≢true}
use Rattle.std.proofs.lemmas.List.{length-append}
use Rattle.std.proofs.lemmas.List.Elements.{All-nil, All-cons, All-head, All-tail, All-append, All-weaker}
use Rattle.nego_base.specs.declared.op.Op.{Op}
use Rattle.nego_base.specs.declared.op.Op.TheVariants.{Eq, Ne, Lt, Le, Gt, Ge}
use Rattle.nego_base.specs.declared.line.Line.{Line}
use Rattle.nego_base.specs.declared.line.Word.{Word}
use Rattle.nego_base.specs.LineGrammar.{IsNameWord}
use Rattle.nego_base.specs.Name.{is_name}
use Rattle.nego_base.specs.Lines.{lines, without_end, is_blank, is_word_end}
use Rattle.nego_base.specs.Scan.{word_at, onto_word, words_at, StandsIn, is_passed, line_at, line_if_kept, scanned_from, scanned}
use Rattle.nego_base.proofs.ListLaws.{All-front, All-back}
use Rattle.nego_base.proofs.PairLaws.{AllPairs-nil, AllPairs-cons, AllPairs-head, AllPairs-tail, AllPairs-append, AllPairs-front, AllPairs-back, AllPairs-between}
use Rattle.nego_base.proofs.WordLaws.{words_stand, first_column}
use Rattle.nego_reader.specs.declared.parsed.Parsed.{Parsed}
use Rattle.nego_reader.specs.declared.parsed.PTest.{PTest}
use Rattle.nego_reader.specs.declared.parsed.PRight.{PRight}
use Rattle.nego_reader.specs.declared.parsed.PRight.TheVariants as rights
use Rattle.nego_reader.specs.declared.parsed.PSet.{PSet}
use Rattle.nego_reader.specs.declared.parsed.PTerm.{PTerm}
use Rattle.nego_reader.specs.declared.parsed.PTerm.TheVariants as terms
use Rattle.nego_reader.specs.Rows.{Row, HeaderRow, AgentRow, AtomRow, OutRow, CaseRow, NextRow, FirstRow, LastRow, EndRow, rows_of}
use Rattle.nego_reader.specs.Spelling.{Each, IsInside, op_text, SpellsRight, SpellsTest, SpellsSum, SpellsTerm, SpellsSet, Begins, SpellsLine, Spells}
use Rattle.nego_reader.specs.Rising.{right_words, test_words, term_words, set_words, case_words, words_in, IsAbove, IsLeftOf, HasRisingWords}

-- ---- the words of a line

-- the one ends before the other, and begins before it
abbrev Ends : Word → Word → Type 0
Ends word other = (word.column + length word.text ≤ other.column) × (word.column < other.column)

ends_onto : (number column b : ℕ) (ws : List Word) → ((w : Word) (more : List Word) → ws ≡ w ∷ more → w.column ≡ column + 1) → AllPairs Ends ws → AllPairs Ends (onto_word number column b ws)
ends_onto number column b [] first h = AllPairs-cons Ends (word_at number column (b ∷ [])) [] (All-nil (Ends (word_at number column (b ∷ [])))) (AllPairs-nil Ends)
ends_onto number column b (w ∷ ws) first h =
    let New : Word = word_at number column (b ∷ w.text) in
    let at = first w ws refl in
    AllPairs-cons Ends New ws
    (All-weaker (Ends w) (Ends New) (λ v e. let ends = e.0 in (omega (arith, at, ends), omega (arith, at, ends))) ws (AllPairs-head Ends w ws h))
    (AllPairs-tail Ends w ws h)

words_end : (number column : ℕ) (bytes : List ℕ) → AllPairs Ends (words_at number column bytes)
unfolding words_at
words_end number column [] = AllPairs-nil Ends
words_end number column (b ∷ bs) =
    let more = words_end number (column + 1) bs in
    let One : Word = word_at number column (b ∷ []) in
    elim (cases_Bool (is_blank b)) [
      | inl blank ↦ subst (AllPairs Ends) (sym (cond-true _ _ _ blank)) more
      | inr word ↦ elim (cases_Bool (is_word_end bs)) [
        | inl ends ↦ subst (AllPairs Ends) (sym (cond-false _ _ _ word ∙ cond-true _ _ _ ends))
            (AllPairs-cons Ends One (words_at number (column + 1) bs)
            (All-weaker (StandsIn number (column + 1) bs) (Ends One) (λ v s. let from = s.from in (omega (arith, from), omega (arith, from))) (words_at number (column + 1) bs) (words_stand number (column + 1) bs))
            more)
        | inr goes_on ↦ subst (AllPairs Ends) (sym (cond-false _ _ _ word ∙ cond-false _ _ _ goes_on))
            (ends_onto number column b (words_at number (column + 1) bs) (λ w rest e. first_column number (column + 1) bs w rest goes_on e) more)
      ]
    ]

-- ---- the lines of a text

-- Its words stand on it, and each ends before the later ones.
record IsRanked (line : Line) : Type 0 where
  pub number : All (λ word. word.line ≡ line.number) line.words
  pub columns : AllPairs Ends line.words

ranked : (number : ℕ) (body : List ℕ) → IsRanked (line_at number body)
ranked number body = record {
  number = All-weaker (StandsIn number 1 body) (λ (word : Word). word.line ≡ number) (λ word s. s.line) (words_at number 1 body) (words_stand number 1 body);
  columns = words_end number 1 body;
}

abbrev IsHigher : Line → Line → Type 0
IsHigher line other = line.number < other.number

-- The lines are ranked, none has a lower number, and the numbers rise.
record AreRanked (number : ℕ) (list : List Line) : Type 0 where
  pub each : All IsRanked list
  pub low : All (λ line. number ≤ line.number) list
  pub rising : AllPairs IsHigher list

ranked_from : (number : ℕ) (texts : List (List ℕ)) → AreRanked number (scanned_from number texts)
unfolding scanned_from
ranked_from number [] = record { each = All-nil IsRanked; low = All-nil (λ line. number ≤ line.number); rising = AllPairs-nil IsHigher }
ranked_from number (text ∷ rest) =
    let body = without_end text in
    let more = ranked_from (number + 1) rest in
    let behind = scanned_from (number + 1) rest in
    let low : All (λ (line : Line). number ≤ line.number) behind = All-weaker (λ (line : Line). number + 1 ≤ line.number) (λ (line : Line). number ≤ line.number) (λ line l. omega (arith, l)) behind more.low in
    let above : All (IsHigher (line_at number body)) behind = All-weaker (λ (line : Line). number + 1 ≤ line.number) (IsHigher (line_at number body)) (λ line l. omega (arith, l)) behind more.low in
    cond_both (is_passed body) [] (line_at number body ∷ []) (λ kept. AreRanked number (kept ++ behind))
    (λ _. record { each = more.each; low = low; rising = more.rising })
    (λ _. record {
      each = All-cons IsRanked (line_at number body) behind (ranked number body) more.each;
      low = All-cons (λ (line : Line). number ≤ line.number) (line_at number body) behind (omega arith) low;
      rising = AllPairs-cons IsHigher (line_at number body) behind above more.rising;
    })

-- ---- names in words

-- the name stands in the word
abbrev IsWithin : Word → Word → Type 0
IsWithin outer name = (name.line ≡ outer.line) × (outer.column ≤ name.column) × (name.column < outer.column + length outer.text)

-- The names stand in the word, each left of the later ones.
record AreWithin (outer : Word) (names : List Word) : Type 0 where
  pub within : All (IsWithin outer) names
  pub rising : AllPairs IsLeftOf names

some_op : (op : Op) → 0 < length (op_text op)
some_op Eq = omega arith
some_op Ne = omega arith
some_op Lt = omega arith
some_op Le = omega arith
some_op Gt = omega arith
some_op Ge = omega arith

some_name : (word : Word) → IsNameWord word → 0 < length word.text
unfolding is_name
some_name word h = let long = leb-true 1 (length word.text) (and_parts _ _ (and_parts _ _ (and_parts _ _ h).0).0).0 in omega (arith, long)

-- one name, and perhaps one more behind it
alone : (outer name : Word) → IsWithin outer name → AreWithin outer (name ∷ [])
alone outer name h = record { within = All-cons (IsWithin outer) name [] h (All-nil (IsWithin outer)); rising = AllPairs-cons IsLeftOf name [] (All-nil (IsLeftOf name)) (AllPairs-nil IsLeftOf) }

two_names : (outer name other : Word) → IsWithin outer name → IsWithin outer other → name.column < other.column → AreWithin outer (name ∷ other ∷ [])
two_names outer name other h k l =
    let rest = alone outer other k in
    let same : name.line ≡ other.line = h.0 ∙ sym k.0 in
    record {
      within = All-cons (IsWithin outer) name (other ∷ []) h rest.within;
      rising = AllPairs-cons IsLeftOf name (other ∷ []) (All-cons (IsLeftOf name) other [] (same, l) (All-nil (IsLeftOf name))) rest.rising;
    }

-- the front of a word, a sign and what is behind it
length_parts : (word : Word) (front sign behind : List ℕ) → word.text ≡ front ++ sign ++ behind → length word.text ≡ length front + (length sign + length behind)
length_parts word front sign behind h =
    let whole : length word.text ≡ length (front ++ sign) + length behind = ap (λ (text : List ℕ). length text) h ∙ length-append (front ++ sign) behind in
    let both = length-append front sign in
    omega (arith, whole, both)

test_within : (word : Word) (test : PTest) → SpellsTest word test → AreWithin word (test_words test)
test_within word test h = go test.right h.right
  where
    long : length word.text ≡ length test.left.text + (length (op_text test.op) + length h.right_bytes)
    long = length_parts word test.left.text (op_text test.op) h.right_bytes h.parts

    left : IsWithin word test.left
    left = let sign = some_op test.op in let at = h.left.column in (h.left.line, omega (arith, at), omega (arith, at, sign, long))

    go : (right : PRight) → SpellsRight word (length test.left.text + length (op_text test.op)) h.right_bytes right → AreWithin word (test.left ∷ right_words right)
    go (rights.Number n) k = alone word test.left left
    go (rights.Name name) k =
        let sign = some_op test.op in
        let at = h.left.column in
        let there = k.0.column in
        let some = some_name name k.1 in
        let is : length name.text ≡ length h.right_bytes = ap (λ (text : List ℕ). length text) k.0.text in
        two_names word test.left name left (k.0.line, omega (arith, there), omega (arith, there, some, is, long)) (omega (arith, at, there, sign))

set_within : (word : Word) (set : PSet) → SpellsSet word set → AreWithin word (set_words set)
set_within word set h = go set.term h.term
  where
    long : length word.text ≡ length set.agent.text + (2 + length h.term_bytes)
    long = length_parts word set.agent.text (codes ":=") h.term_bytes h.parts

    left : IsWithin word set.agent
    left = let at = h.agent.column in (h.agent.line, omega (arith, at), omega (arith, at, long))

    both : (name : Word) → IsInside (length set.agent.text + 2) name.text word name → 0 < length h.term_bytes → AreWithin word (set.agent ∷ name ∷ [])
    both name inside some =
        let at = h.agent.column in
        let there = inside.column in
        two_names word set.agent name left (inside.line, omega (arith, there), omega (arith, there, some, long)) (omega (arith, at, there))

    summed : (sign : ℕ) (name : Word) (n : ℕ) → SpellsSum sign word (length set.agent.text + 2) h.term_bytes name n → AreWithin word (set.agent ∷ name ∷ [])
    summed sign name n s =
        let all : length h.term_bytes ≡ length name.text + length (sign ∷ s.0) = ap (λ (text : List ℕ). length text) s.1 ∙ length-append name.text (sign ∷ s.0) in
        both name s.2 (omega (arith, all))

    go : (term : PTerm) → SpellsTerm word (length set.agent.text + 2) h.term_bytes term → AreWithin word (set.agent ∷ term_words term)
    go terms.Any k = alone word set.agent left
    go (terms.Number n) k = alone word set.agent left
    go (terms.Plus name n) (inl alone_there) =
        let inside = alone_there.0 in
        let some = some_name name alone_there.1 in
        let is : length name.text ≡ length h.term_bytes = ap (λ (text : List ℕ). length text) inside.text in
        both name (record { text = refl; line = inside.line; column = inside.column }) (omega (arith, some, is))
    go (terms.Plus name n) (inr sum) = summed 43 name n sum
    go (terms.Minus name n) sum = summed 45 name n sum

-- ---- names in the words of a line

-- the names stand on this line, and each left of the later ones
record AreOn (line : ℕ) (names : List Word) : Type 0 where
  pub on : All (λ name. name.line ≡ line) names
  pub rising : AllPairs IsLeftOf names

left_of : (line : ℕ) (name other : Word) → name.line ≡ line → other.line ≡ line → name.column < other.column → IsLeftOf name other
left_of line name other h k l = (h ∙ sym k, l)

-- words of which each holds some names
module _ {A : Type 0} (names : A → List Word) (Spelled : Word → A → Type 0) (within : (word : Word) (x : A) → Spelled word x → AreWithin word (names x)) where
  -- the names stand at or behind this column
  far : (line column : ℕ) (words : List Word) (xs : List A) → Each Spelled words xs → All (λ (word : Word). (word.line ≡ line) × (column ≤ word.column)) words → All (λ (name : Word). (name.line ≡ line) × (column ≤ name.column)) (flat_map names xs)
  far line column [] [] h l = All-nil (λ (name : Word). (name.line ≡ line) × (column ≤ name.column))
  far line column [] (x ∷ xs) h l = absurd h
  far line column (word ∷ words) [] h l = absurd h
  far line column (word ∷ words) (x ∷ xs) h l =
      let Far : Word → Type 0 = λ name. (name.line ≡ line) × (column ≤ name.column) in
      let here = All-head Far word words l in
      All-append Far (names x) (flat_map names xs)
      (All-weaker (IsWithin word) Far (λ name w. let from = w.1 in let is = here.1 in (w.0 ∙ here.0, omega (arith, from, is))) (names x) (within word x h.0).within)
      (far line column words xs h.1 (All-tail Far word words l))

  -- and before this one
  near : (line column : ℕ) (words : List Word) (xs : List A) → Each Spelled words xs → All (λ (word : Word). (word.line ≡ line) × (word.column + length word.text ≤ column)) words →
      All (λ (name : Word). (name.line ≡ line) × (name.column < column)) (flat_map names xs)
  near line column [] [] h l = All-nil (λ (name : Word). (name.line ≡ line) × (name.column < column))
  near line column [] (x ∷ xs) h l = absurd h
  near line column (word ∷ words) [] h l = absurd h
  near line column (word ∷ words) (x ∷ xs) h l =
      let Ended : Word → Type 0 = λ w. (w.line ≡ line) × (w.column + length w.text ≤ column) in
      let Near : Word → Type 0 = λ name. (name.line ≡ line) × (name.column < column) in
      let here = All-head Ended word words l in
      All-append Near (names x) (flat_map names xs)
      (All-weaker (IsWithin word) Near (λ name w. let to = w.2 in let is = here.1 in (w.0 ∙ here.0, omega (arith, to, is))) (names x) (within word x h.0).within)
      (near line column words xs h.1 (All-tail Ended word words l))

  rise : (line : ℕ) (words : List Word) (xs : List A) → Each Spelled words xs → All (λ (word : Word). word.line ≡ line) words → AllPairs Ends words → AreOn line (flat_map names xs)
  rise line [] [] h l e = record { on = All-nil (λ (name : Word). name.line ≡ line); rising = AllPairs-nil IsLeftOf }
  rise line [] (x ∷ xs) h l e = absurd h
  rise line (word ∷ words) [] h l e = absurd h
  rise line (word ∷ words) (x ∷ xs) h l e =
      let On : Word → Type 0 = λ name. name.line ≡ line in
      let here : word.line ≡ line = All-head On word words l in
      let later = All-tail On word words l in
      let column = word.column + length word.text in
      let own = within word x h.0 in
      let more = rise line words xs h.1 later (AllPairs-tail Ends word words e) in
      let ends = AllPairs-head Ends word words e in
      let behind = far line column words xs h.1 (λ k d m. (later k d m, (ends k d m).0)) in
      record {
        on = All-append On (names x) (flat_map names xs) (All-weaker (IsWithin word) On (λ name w. w.0 ∙ here) (names x) own.within) more.on;
        rising = AllPairs-append IsLeftOf (names x) (flat_map names xs) own.rising more.rising
            (All-weaker (IsWithin word) (λ name. All (IsLeftOf name) (flat_map names xs))
            (λ name w. All-weaker (λ (other : Word). (other.line ≡ line) × (column ≤ other.column)) (IsLeftOf name)
            (λ other f. let to = w.2 in let from = f.1 in left_of line name other (w.0 ∙ here) f.0 (omega (arith, to, from))) (flat_map names xs) behind) (names x) own.within);
      }

-- words that are names themselves
rise_words : (line : ℕ) (words : List Word) → All (λ (word : Word). word.line ≡ line) words → AllPairs Ends words → AreOn line words
rise_words line words l e = record { on = l; rising = λ i j d low high. left_of line (get_or words i d) (get_or words j d) (l i d (omega (arith, low, high))) (l j d high) (e i j d low high).1 }

-- ---- lines and what they say

-- the words behind the first of a line
behind_first : (text : List ℕ) (line : Line) (rest : List Word) → Begins text line rest → IsRanked line → All (λ (word : Word). word.line ≡ line.number) rest × AllPairs Ends rest
behind_first text line rest b r =
    let On : Word → Type 0 = λ word. word.line ≡ line.number in
    (All-tail On b.first rest (subst (All On) b.words r.number), AllPairs-tail Ends b.first rest (subst (AllPairs Ends) b.words r.columns))

no_names : (line : ℕ) → AreOn line []
no_names line = record { on = All-nil (λ (name : Word). name.line ≡ line); rising = AllPairs-nil IsLeftOf }

one_name : (text : List ℕ) (line : Line) (name : Word) (rest : List Word) → Begins text line (name ∷ rest) → IsRanked line → AreOn line.number (name ∷ [])
one_name text line name rest b r =
    let two = behind_first text line (name ∷ rest) b r in
    record {
      on = All-cons (λ (word : Word). word.line ≡ line.number) name [] (All-head (λ (word : Word). word.line ≡ line.number) name rest two.0) (All-nil (λ (word : Word). word.line ≡ line.number));
      rising = AllPairs-cons IsLeftOf name [] (All-nil (IsLeftOf name)) (AllPairs-nil IsLeftOf);
    }

all_names : (text : List ℕ) (line : Line) (words : List Word) → Begins text line words → IsRanked line → AreOn line.number words
all_names text line words b r = let two = behind_first text line words b r in rise_words line.number words two.0 two.1

row_on : (line : Line) (row : Row) → SpellsLine line row → IsRanked line → AreOn line.number (words_in row)
row_on line HeaderRow h r = no_names line.number
row_on line (AgentRow a) h r = one_name (codes "agent") line a.name (h.0 ∷ []) h.1 r
row_on line (AtomRow name parties) h r = all_names (codes "atom") line (name ∷ parties) h.0 r
row_on line (OutRow name) h r = one_name (codes "out") line name [] h.0 r
row_on line (CaseRow c) h r =
    let tests = h.0 in
    let colon = h.1 in
    let sets = h.2 in
    let b = h.3 in
    let spelled = h.4 in
    let On : Word → Type 0 = λ word. word.line ≡ line.number in
    let two = behind_first (codes "case") line (tests ++ colon ∷ sets) b r in
    let behind = All-back On tests (colon ∷ sets) two.0 in
    let later = AllPairs-back Ends tests (colon ∷ sets) two.1 in
    let between = AllPairs-between Ends tests (colon ∷ sets) two.1 in
    let front = All-front On tests (colon ∷ sets) two.0 in
    let one = rise test_words SpellsTest test_within line.number tests c.tests spelled front (AllPairs-front Ends tests (colon ∷ sets) two.1) in
    let other = rise set_words SpellsSet set_within line.number sets c.sets h.6 (All-tail On colon sets behind) (AllPairs-tail Ends colon sets later) in
    let before = near test_words SpellsTest test_within line.number colon.column tests c.tests spelled (λ k d l. (front k d l, (All-head (Ends (get_or tests k d)) colon sets (between k d l)).0)) in
    let after = far set_words SpellsSet set_within line.number colon.column sets c.sets h.6 (λ k d l. (All-tail On colon sets behind k d l, let e = (AllPairs-head Ends colon sets later k d l).1 in omega (arith, e))) in
    record {
      on = All-append On (flat_map test_words c.tests) (flat_map set_words c.sets) one.on other.on;
      rising = AllPairs-append IsLeftOf (flat_map test_words c.tests) (flat_map set_words c.sets) one.rising other.rising
          (λ k d l. All-weaker (λ (name : Word). (name.line ≡ line.number) × (colon.column ≤ name.column)) (IsLeftOf (get_or (flat_map test_words c.tests) k d))
          (λ name f. let n = before k d l in let to = n.1 in let from = f.1 in left_of line.number (get_or (flat_map test_words c.tests) k d) name n.0 f.0 (omega (arith, to, from))) (flat_map set_words c.sets) after);
    }
row_on line (NextRow n) h r = all_names (codes "next") line (n.atom ∷ n.agents) h.0 r
row_on line (FirstRow name) h r = one_name (codes "first") line name [] h.0 r
row_on line (LastRow name) h r = one_name (codes "last") line name [] h.0 r
row_on line EndRow h r = no_names line.number

-- ---- the diagram

rows_above : (number : ℕ) (ls : List Line) (rows : List Row) → Each SpellsLine ls rows → All IsRanked ls → All (λ (line : Line). number < line.number) ls → All (λ (row : Row). All (λ (name : Word). number < name.line) (words_in row)) rows
rows_above number [] [] h r l = All-nil (λ (row : Row). All (λ (name : Word). number < name.line) (words_in row))
rows_above number [] (x ∷ xs) h r l = absurd h
rows_above number (line ∷ ls) [] h r l = absurd h
rows_above number (line ∷ ls) (x ∷ xs) h r l =
    let low = All-head (λ (other : Line). number < other.number) line ls l in
    All-cons (λ (row : Row). All (λ (name : Word). number < name.line) (words_in row)) x xs
    (All-weaker (λ (name : Word). name.line ≡ line.number) (λ (name : Word). number < name.line) (λ name e. omega (arith, e, low)) (words_in x) (row_on line x h.0 (All-head IsRanked line ls r)).on)
    (rows_above number ls xs h.1 (All-tail IsRanked line ls r) (All-tail (λ (other : Line). number < other.number) line ls l))

rows_rise : (ls : List Line) (rows : List Row) → Each SpellsLine ls rows → All IsRanked ls → AllPairs IsHigher ls → AllPairs IsAbove rows
rows_rise [] [] h r p = AllPairs-nil IsAbove
rows_rise [] (x ∷ xs) h r p = absurd h
rows_rise (line ∷ ls) [] h r p = absurd h
rows_rise (line ∷ ls) (x ∷ xs) h r p =
    let later = All-tail IsRanked line ls r in
    let own = (row_on line x h.0 (All-head IsRanked line ls r)).on in
    let below = rows_above line.number ls xs h.1 later (AllPairs-head IsHigher line ls p) in
    AllPairs-cons IsAbove x xs
    (All-weaker (λ (row : Row). All (λ (name : Word). line.number < name.line) (words_in row)) (IsAbove x)
    (λ row b. All-weaker (λ (name : Word). name.line ≡ line.number) (λ (name : Word). All (λ (other : Word). name.line < other.line) (words_in row))
    (λ name e. subst (λ n. All (λ (other : Word). n < other.line) (words_in row)) (sym e) b) (words_in x) own) xs below)
    (rows_rise ls xs h.1 later (AllPairs-tail IsHigher line ls p))

columns_rise : (ls : List Line) (rows : List Row) → Each SpellsLine ls rows → All IsRanked ls → All (λ (row : Row). AllPairs IsLeftOf (words_in row)) rows
columns_rise [] [] h r = All-nil (λ (row : Row). AllPairs IsLeftOf (words_in row))
columns_rise [] (x ∷ xs) h r = absurd h
columns_rise (line ∷ ls) [] h r = absurd h
columns_rise (line ∷ ls) (x ∷ xs) h r =
    All-cons (λ (row : Row). AllPairs IsLeftOf (words_in row)) x xs (row_on line x h.0 (All-head IsRanked line ls r)).rising (columns_rise ls xs h.1 (All-tail IsRanked line ls r))

pub rising : (bytes : List ℕ) (p : Parsed) → Spells bytes p → HasRisingWords p
unfolding scanned
rising bytes p h =
    let all = ranked_from 1 (lines bytes) in
    record { lines = rows_rise (scanned bytes) (rows_of p) h.lines all.each all.rising; columns = columns_rise (scanned bytes) (rows_of p) h.lines all.each }
