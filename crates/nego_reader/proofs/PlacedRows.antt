-- What a row's printed line spells: the row, with the places of that line.
use Rattle.std.proofs.Common.{◌≡◌, ℕ, ◌+◌, ◌<◌, ◌≤◌, List, [], ◌∷◌, ◌++◌, length, map, All, codes, decimal, inl, inr, refl, sym, ap, subst, ◌∙◌, arith, append_assoc}
use Rattle.std.proofs.lemmas.Bool.{cases_eq, cond-true, cond-false, eq-eqb, ne_eqb}
use Rattle.std.proofs.lemmas.List.Elements.{All-nil, All-cons, All-head, All-tail}
use Rattle.nego_base.specs.LineGrammar.{IsNameWord}
use Rattle.nego_base.specs.declared.line.Word.{Word}
use Rattle.nego_base.specs.declared.line.Line.{Line}
use Rattle.nego_base.specs.Name.{is_name}
use Rattle.nego_reader.specs.declared.parsed.PAgent.{PAgent}
use Rattle.nego_reader.specs.declared.parsed.PNext.{PNext}
use Rattle.nego_reader.specs.declared.parsed.PCase.{PCase}
use Rattle.nego_reader.specs.declared.parsed.PTest.{PTest}
use Rattle.nego_reader.specs.declared.parsed.PRight.{PRight}
use Rattle.nego_reader.specs.declared.parsed.PRight.TheVariants as rights
use Rattle.nego_reader.specs.declared.parsed.PSet.{PSet}
use Rattle.nego_reader.specs.declared.parsed.PTerm.{PTerm}
use Rattle.nego_reader.specs.declared.parsed.PTerm.TheVariants as terms
use Rattle.nego_reader.specs.Content.{texts, agent_content, right_content, test_content, term_content, set_content, case_content, next_content}
use Rattle.nego_reader.specs.Rows.{HeaderRow, AgentRow, CaseRow, NextRow, EndRow}
use Rattle.nego_reader.specs.Reading.{piece}
use Rattle.nego_reader.specs.Spelling.{Each, IsInside, op_text, SpellsRight, SpellsTest, SpellsTerm, SpellsSet, Begins, SpellsLine}
use Rattle.nego_reader.specs.Printing.{right_text, test_text, plus_text, term_text, set_text, row_words}
use Rattle.nego_reader.specs.Printable.{IsRight, IsTest, IsTerm, IsSet, IsRow}

-- ---- lists of words

-- the words are one of this text, and those behind it
pub record IsFirst (words : List Word) (text : List ℕ) (others : List (List ℕ)) : Type 0 where
  pub first : Word
  pub behind : List Word
  pub are : words ≡ first ∷ behind
  pub text_is : first.text ≡ text
  pub others_are : texts behind ≡ others

first_of : (words : List Word) (text : List ℕ) (others : List (List ℕ)) → texts words ≡ text ∷ others → IsFirst words text others
first_of [] text others h = absurd cc
first_of (w ∷ ws) text others h = record { first = w; behind = ws; are = refl; text_is = cc; others_are = cc }

none_of : (words : List Word) → texts words ≡ [] → words ≡ []
none_of [] h = refl
none_of (w ∷ ws) h = absurd cc

-- the words are some of these texts, and then others
pub record IsParted (words : List Word) (front back : List (List ℕ)) : Type 0 where
  pub before : List Word
  pub behind : List Word
  pub are : words ≡ before ++ behind
  pub front_is : texts before ≡ front
  pub back_is : texts behind ≡ back

parted : (words : List Word) (front back : List (List ℕ)) → texts words ≡ front ++ back → IsParted words front back
parted words [] back h = record { before = []; behind = words; are = refl; front_is = refl; back_is = h }
parted words (t ∷ ts) back h =
    let head = first_of words t (ts ++ back) h in
    let tail = parted head.behind ts back head.others_are in
    record {
      before = head.first ∷ tail.before;
      behind = tail.behind;
      are = head.are ∙ ap (λ (ws : List Word). head.first ∷ ws) tail.are;
      front_is = ap (λ (x : List ℕ). x ∷ texts tail.before) head.text_is ∙ ap (λ (xs : List (List ℕ)). t ∷ xs) tail.front_is;
      back_is = tail.back_is;
    }

-- words of the same texts are names where those are
same_name : (word word' : Word) → word'.text ≡ word.text → IsNameWord word → IsNameWord word'
same_name word word' e h = ap is_name e ∙ h

same_names : (words words' : List Word) → texts words' ≡ texts words → All IsNameWord words → All IsNameWord words'
same_names [] words' e h = subst (λ (ws : List Word). All IsNameWord ws) (sym (none_of words' e)) (All-nil IsNameWord)
same_names (w ∷ ws) [] e h = All-nil IsNameWord
same_names (w ∷ ws) (v ∷ vs) e h = All-cons IsNameWord v vs (same_name w v (cc) (All-head IsNameWord w ws h)) (same_names ws vs (cc) (All-tail IsNameWord w ws h))

-- ---- words of cases

inside : (word : Word) (i : ℕ) (text : List ℕ) → IsInside i text word (piece word i text)
inside word i text = record { text = refl; line = refl; column = refl }

abbrev RightAt : Word → ℕ → PRight → Type 0
RightAt word i right = (right' : PRight) × SpellsRight word i (right_text right) right' × (right_content right' ≡ right_content right)

right_at : (word : Word) (i : ℕ) (right : PRight) → IsRight right → RightAt word i right
right_at word i (rights.Number n) h = (rights.Number n, (refl, h), refl)
right_at word i (rights.Name name) h = (rights.Name (piece word i name.text), (inside word i name.text, h), refl)

abbrev TestAt : Word → PTest → Type 0
TestAt word test = (test' : PTest) × SpellsTest word test' × (test_content test' ≡ test_content test)

test_at : (word : Word) (test : PTest) → IsTest test → word.text ≡ test_text test → TestAt word test
test_at word test h e =
    let left = piece word 0 test.left.text in
    let right = right_at word (length test.left.text + length (op_text test.op)) test.right h.right in (
      record { left = left; op = test.op; right = right.0 },
      record { right_bytes = right_text test.right; parts = e; left = inside word 0 test.left.text; name = h.left; right = right.1 },
      rw right.2 refl,
    )

abbrev TermAt : Word → ℕ → PTerm → Type 0
TermAt word i term = (term' : PTerm) × SpellsTerm word i (term_text term) term' × (term_content term' ≡ term_content term)

plus_at : (word : Word) (i : ℕ) (name : Word) (n : ℕ) → IsNameWord name → n ≤ 999999 → SpellsTerm word i (plus_text name.text n) (terms.Plus (piece word i name.text) n)
plus_at word i name n h few =
    let term = terms.Plus (piece word i name.text) n in
    elim (cases_eq n 0) [
      | inl zero ↦
          let alone : plus_text name.text n ≡ name.text = cond-true _ _ _ (eq-eqb n 0 zero) in
          subst (λ (t : List ℕ). SpellsTerm word i t term) (sym alone) (inl (inside word i name.text, h, zero))
      | inr more ↦
          let sum : plus_text name.text n ≡ name.text ++ 43 ∷ decimal n = cond-false _ _ _ (ne_eqb n 0 more) ∙ append_assoc name.text (codes "+") (decimal n) in
          subst (λ (t : List ℕ). SpellsTerm word i t term) (sym sum) (inr (decimal n, refl, inside word i name.text, h, (refl, few)))
    ]

term_at : (word : Word) (i : ℕ) (term : PTerm) → IsTerm term → TermAt word i term
term_at word i terms.Any h = (terms.Any, refl, refl)
term_at word i (terms.Number n) h = (terms.Number n, (refl, h), refl)
term_at word i (terms.Plus name n) h = (terms.Plus (piece word i name.text) n, plus_at word i name n h.0 h.1, refl)
term_at word i (terms.Minus name n) h =
    (terms.Minus (piece word i name.text) n, (decimal n, append_assoc name.text (codes "-") (decimal n), inside word i name.text, h.0, (refl, h.1)), refl)

abbrev SetAt : Word → PSet → Type 0
SetAt word set = (set' : PSet) × SpellsSet word set' × (set_content set' ≡ set_content set)

set_at : (word : Word) (set : PSet) → IsSet set → word.text ≡ set_text set → SetAt word set
set_at word set h e =
    let term = term_at word (length set.agent.text + 2) set.term h.term in (
      record { agent = piece word 0 set.agent.text; term = term.0 },
      record { term_bytes = term_text set.term; parts = e; agent = inside word 0 set.agent.text; name = h.agent; term = term.1 },
      rw term.2 refl,
    )

-- items of a list, each by its word
module _ {X C : Type 0} (R : Word → X → Type 0) (content : X → C) (text : X → List ℕ) (Is : X → Type 0)
    (one : (word : Word) (x : X) → Is x → word.text ≡ text x → (x' : X) × R word x' × (content x' ≡ content x)) where
  each_at : (words : List Word) (xs : List X) → All Is xs → texts words ≡ map text xs → (xs' : List X) × Each R words xs' × (map content xs' ≡ map content xs)
  each_at [] [] h e = ([], tt, refl)
  each_at [] (x ∷ xs) h e = absurd cc
  each_at (w ∷ ws) [] h e = absurd cc
  each_at (w ∷ ws) (x ∷ xs) h e =
      let first = one w x (All-head Is x xs h) (cc) in
      let more = each_at ws xs (All-tail Is x xs h) (cc) in
      (first.0 ∷ more.0, (first.1, more.1), ap (λ (c : C). c ∷ map content more.0) first.2 ∙ ap (λ (cs : List C). content x ∷ cs) more.2)

-- ---- lines

pub header_at : (line : Line) → texts line.words ≡ row_words HeaderRow → SpellsLine line HeaderRow
header_at line e =
    let first = first_of line.words (codes "nego") (codes "1" ∷ []) e in
    let version = first_of first.behind (codes "1") [] first.others_are in
    let rest : first.behind ≡ version.first ∷ [] = version.are ∙ ap (λ (ws : List Word). version.first ∷ ws) (none_of version.behind version.others_are) in
    (version.first, record { first = first.first; words = first.are ∙ ap (λ (ws : List Word). first.first ∷ ws) rest; keyword = first.text_is }, version.text_is)

pub end_at : (line : Line) → texts line.words ≡ row_words EndRow → SpellsLine line EndRow
end_at line e =
    let first = first_of line.words (codes "end") [] e in
    record { first = first.first; words = first.are ∙ ap (λ (ws : List Word). first.first ∷ ws) (none_of first.behind first.others_are); keyword = first.text_is }

pub agent_at : (line : Line) (a : PAgent) → IsRow (AgentRow a) → texts line.words ≡ row_words (AgentRow a) → (a' : PAgent) × SpellsLine line (AgentRow a') × (agent_content a' ≡ agent_content a)
agent_at line a h e =
    let first = first_of line.words (codes "agent") (a.name.text ∷ decimal a.size ∷ []) e in
    let name = first_of first.behind a.name.text (decimal a.size ∷ []) first.others_are in
    let size = first_of name.behind (decimal a.size) [] name.others_are in
    let rest : first.behind ≡ name.first ∷ size.first ∷ [] =
    name.are ∙ ap (λ (ws : List Word). name.first ∷ ws) (size.are ∙ ap (λ (ws : List Word). size.first ∷ ws) (none_of size.behind size.others_are)) in (
      record { name = name.first; size = a.size },
      (
        size.first,
        record { first = first.first; words = first.are ∙ ap (λ (ws : List Word). first.first ∷ ws) rest; keyword = first.text_is },
        same_name a.name name.first name.text_is h.0,
        (size.text_is, h.1),
      ),
      rw name.text_is refl,
    )

-- a line of a keyword, a name and names
pub record IsNamed (line : Line) (keyword : List ℕ) (name : Word) (names : List Word) : Type 0 where
  pub name' : Word
  pub names' : List Word
  pub begins : Begins keyword line (name' ∷ names')
  pub named : All IsNameWord (name' ∷ names')
  pub name_is : name'.text ≡ name.text
  pub names_are : texts names' ≡ texts names

pub named_at : (line : Line) (keyword : List ℕ) (name : Word) (names : List Word) → All IsNameWord (name ∷ names) → texts line.words ≡ keyword ∷ name.text ∷ texts names → IsNamed line keyword name names
named_at line keyword name names h e =
    let first = first_of line.words keyword (name.text ∷ texts names) e in
    let second = first_of first.behind name.text (texts names) first.others_are in
    record {
      name' = second.first;
      names' = second.behind;
      begins = record { first = first.first; words = first.are ∙ ap (λ (ws : List Word). first.first ∷ ws) second.are; keyword = first.text_is };
      named = All-cons IsNameWord second.first second.behind (same_name name second.first second.text_is (All-head IsNameWord name names h))
          (same_names names second.behind second.others_are (All-tail IsNameWord name names h));
      name_is = second.text_is;
      names_are = second.others_are;
    }

-- a line of a keyword and a name
pub record IsNamedOne (line : Line) (keyword : List ℕ) (name : Word) : Type 0 where
  pub name' : Word
  pub begins : Begins keyword line (name' ∷ [])
  pub named : IsNameWord name'
  pub name_is : name'.text ≡ name.text

pub one_at : (line : Line) (keyword : List ℕ) (name : Word) → IsNameWord name → texts line.words ≡ keyword ∷ name.text ∷ [] → IsNamedOne line keyword name
one_at line keyword name h e =
    let all = named_at line keyword name [] (All-cons IsNameWord name [] h (All-nil IsNameWord)) e in
    let none : all.names' ≡ [] = none_of all.names' all.names_are in
    record {
      name' = all.name';
      begins = subst (λ (ws : List Word). Begins keyword line (all.name' ∷ ws)) none all.begins;
      named = All-head IsNameWord all.name' all.names' all.named;
      name_is = all.name_is;
    }

filled : (words words' : List Word) → texts words' ≡ texts words → 0 < length words → 0 < length words'
filled [] words' e h = absurd (omega arith)
filled (w ∷ ws) [] e h = absurd cc
filled (w ∷ ws) (v ∷ vs) e h = omega arith

pub next_at : (line : Line) (n : PNext) → IsRow (NextRow n) → texts line.words ≡ row_words (NextRow n) → (n' : PNext) × SpellsLine line (NextRow n') × (next_content n' ≡ next_content n)
next_at line n h e =
    let all = named_at line (codes "next") n.atom n.agents h.0 e in
    (record { atom = all.name'; agents = all.names' }, (all.begins, all.named, filled n.agents all.names' all.names_are h.1), rw (all.name_is, all.names_are) refl)

-- a word, some words, another word and some words
split : (all behind before rest sets : List Word) (first colon : Word) → all ≡ first ∷ behind → behind ≡ before ++ rest → rest ≡ colon ∷ sets → all ≡ first ∷ (before ++ colon ∷ sets)
split all behind before rest sets first colon e f g = e ∙ ap (λ (ws : List Word). first ∷ ws) (f ∙ ap (λ (ws : List Word). before ++ ws) g)

pub case_at : (line : Line) (c : PCase) → IsRow (CaseRow c) → texts line.words ≡ row_words (CaseRow c) → (c' : PCase) × SpellsLine line (CaseRow c') × (case_content c' ≡ case_content c)
case_at line c h e =
    let first = first_of line.words (codes "case") (map test_text c.tests ++ codes ":" ∷ map set_text c.sets) e in
    let parts = parted first.behind (map test_text c.tests) (codes ":" ∷ map set_text c.sets) first.others_are in
    let colon = first_of parts.behind (codes ":") (map set_text c.sets) parts.back_is in
    let tests = each_at SpellsTest test_content test_text IsTest test_at parts.before c.tests h.0 parts.front_is in
    let sets = each_at SpellsSet set_content set_text IsSet set_at colon.behind c.sets h.1 colon.others_are in
    let words = split line.words first.behind parts.before parts.behind colon.behind first.first colon.first first.are parts.are colon.are in (
      record { tests = tests.0; sets = sets.0 },
      (parts.before, colon.first, colon.behind, record { first = first.first; words = words; keyword = first.text_is }, tests.1, colon.text_is, sets.1),
      rw (tests.2, sets.2) refl,
    )
