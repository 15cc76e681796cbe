-- Each line of a diagram is read by what it is asked.
use Rattle.std.proofs.Common.{◌≡◌, ℕ, suc, ◌+◌, ◌≤◌, ◌<◌, Bool, true, false, cond, ltb, List, [], ◌∷◌, ◌++◌, length, map, take, drop, Option, Some, None, Result, Ok, Err, refl, sym, ap, subst, ◌∙◌, arith}
use Rattle.std.specs.Prelude.{codes, position}
use Rattle.std.specs.List.{list_any, position_or_len, before_first, after_first}
use Rattle.std.specs.Str.{bytes_eq}
use Rattle.std.proofs.lemmas.List.{map-append}
use Rattle.nego_base.specs.declared.fault.FaultKind.TheVariants as fault_kinds
use Rattle.nego_base.specs.declared.fault.Fault.{Fault}
use Rattle.nego_base.specs.declared.line.Word.{Word}
use Rattle.nego_base.specs.declared.line.Line.{Line}
use Rattle.nego_base.specs.Grammar.{at_word, least_words, exact_words, name_word, number_word}
use Rattle.nego_base.specs.LineGrammar.{Demand, Words, LeastWords, Version, Name, Number, Own, word_number}
use Rattle.nego_base.specs.LineWalk.{each, word_in, Answers}
use Rattle.nego_base.specs.Results.{◌>>=◌}
use Rattle.nego_base.proofs.Cases.{bind_some, ok-err}
use Rattle.nego_base.proofs.GrammarLaws.{least_ok, exact_ok}
use Rattle.nego_base.proofs.LineFaults.{answers_then, answers_last}
use Rattle.nego_base.proofs.LineDemands.{one_answer, least_answers, exact_answers, name_answers, number_answers, version_answers, each_answers, place_answers, place_then}
use Rattle.nego_reader.specs.declared.parsed.PCase.{PCase}
use Rattle.nego_reader.specs.Rows.{Kind, Nego, Agent, Atom, Out, Case, Next, First, Last, End, HeaderRow, AgentRow, AtomRow, OutRow, CaseRow, NextRow, FirstRow, LastRow, EndRow}
use Rattle.nego_reader.specs.Reading.{in_case, name_of, name_in, header_in, agent_in, named_in, names_in, next_in, sides_of, case_in, test_of, set_of, row_of}
use Rattle.nego_reader.specs.Table.{is_colon, HasOneColon, CaseDemand, OneColon, Test, Set, IsAsAsked, in_case_words, named, demands}
use Rattle.std.proofs.lemmas.Bool.{or_from}
use Rattle.std.proofs.lemmas.Option.{same_Some, none-some}
use Rattle.std.proofs.lemmas.Slice.Eq.{bytes_eq-Decides}
use Rattle.nego_reader.proofs.LineSpelling.{sides_ok, sides_again}
use Rattle.nego_reader.proofs.WordSpelling.{same_bytes, in_case_ok}
use Rattle.nego_reader.proofs.CaseFaults.{in_case_fails, fault_at_word, test_answers, set_answers}

module _ (line : Line) where
  abbrev By : {Y : Type 0} → List (Demand CaseDemand) → Result Y Fault → Type 0
  By asked r = Answers IsAsAsked line asked r

  -- ---- names

  name_by : (word : Word) → By (Name word ∷ []) (name_of word)
  unfolding name_of
  name_by word = answers_last IsAsAsked line (Name word ∷ []) (name_word word) (λ _. word) (name_answers IsAsAsked line word)

  name_in_by : (i : ℕ) → i < length line.words → By (map Name (word_number i line)) (name_in line i)
  unfolding name_in
  name_in_by i within = place_answers IsAsAsked line i (λ w. Name w) name_of within name_by

  named_by : By (named line) (named_in line)
  unfolding named_in
  named_by = answers_then IsAsAsked line (Words 2 ∷ []) (map Name (word_number 1 line)) (exact_words 2 line) (λ _. name_in line 1) (exact_answers IsAsAsked line 2) (λ _ is. name_in_by 1 (let two = exact_ok 2 line is in omega arith))

  -- the words from the second on: the second, and those behind it
  from_second : (words : List Word) → take 1 (drop 1 words) ++ drop 2 words ≡ drop 1 words
  from_second [] = refl
  from_second (first ∷ []) = refl
  from_second (first ∷ second ∷ words) = refl

  names_by : (n : ℕ) → 2 ≤ n → By (LeastWords n ∷ map Name (drop 1 line.words)) (names_in n line)
  unfolding names_in
  names_by n least =
      let both : map Name (word_number 1 line) ++ map Name (drop 2 line.words) ≡ map {B = Demand CaseDemand} Name (drop 1 line.words) =
      sym (map-append Name (word_number 1 line) (drop 2 line.words)) ∙ ap (map Name) (from_second line.words) in
      answers_then IsAsAsked line (LeastWords n ∷ []) (map Name (drop 1 line.words)) (least_words n line) (λ _. name_in line 1 >>= λ name. each name_of (drop 2 line.words) >>= λ names. Ok (name, names)) (least_answers IsAsAsked line n)
      (λ _ is. subst (λ asked. By {Y = Word × List Word} asked (name_in line 1 >>= λ name. each name_of (drop 2 line.words) >>= λ names. Ok (name, names))) both
      (answers_then IsAsAsked line (map Name (word_number 1 line)) (map Name (drop 2 line.words)) (name_in line 1) (λ name. each name_of (drop 2 line.words) >>= λ names. Ok (name, names))
      (name_in_by 1 (let enough = least_ok n line is in omega arith))
      (λ name _. answers_last IsAsAsked line (map Name (drop 2 line.words)) (each name_of (drop 2 line.words)) (λ names. (name, names)) (each_answers IsAsAsked line (λ w. Name w) name_of name_by (drop 2 line.words)))))

  -- ---- the header, and agents

  header_by : By (demands Nego line) (header_in line)
  unfolding header_in
  header_by =
      answers_then IsAsAsked line (Words 2 ∷ []) (map (Version (codes "1")) (word_number 1 line)) (exact_words 2 line) (λ _. word_in line 1 >>= λ version. cond (bytes_eq version.text (codes "1")) (Ok tt) (Err (at_word fault_kinds.Version version)))
      (exact_answers IsAsAsked line 2)
      (λ _ is. place_answers IsAsAsked line 1 (λ w. Version (codes "1") w) (λ version. cond (bytes_eq version.text (codes "1")) (Ok tt) (Err (at_word fault_kinds.Version version))) (let two = exact_ok 2 line is in omega arith)
      (version_answers IsAsAsked line (codes "1")))

  agent_by : By (demands Agent line) (agent_in line)
  unfolding agent_in
  agent_by =
      answers_then IsAsAsked line (Words 3 ∷ []) (map Name (word_number 1 line) ++ map Number (word_number 2 line)) (exact_words 3 line)
      (λ _. name_in line 1 >>= λ name. word_in line 2 >>= λ word. number_word word >>= λ size. Ok (record { name = name; size = size })) (exact_answers IsAsAsked line 3)
      (λ _ is. let three : length line.words ≡ 3 = exact_ok 3 line is in
      answers_then IsAsAsked line (map Name (word_number 1 line)) (map Number (word_number 2 line)) (name_in line 1) (λ name. word_in line 2 >>= λ word. number_word word >>= λ size. Ok (record { name = name; size = size })) (name_in_by 1 (omega arith))
      (λ name _. place_answers IsAsAsked line 2 (λ w. Number w) (λ word. number_word word >>= λ size. Ok (record { name = name; size = size })) (omega arith)
      (λ word. answers_last IsAsAsked line (Number word ∷ []) (number_word word) (λ size. record { name = name; size = size }) (number_answers IsAsAsked line word))))

  -- ---- cases

  -- where the first colon stands
  colon_at : (words : List Word) (n : ℕ) → position is_colon words ≡ Some n → position_or_len is_colon words ≡ n
  colon_at words n h = same_Some (position_or_len is_colon words) n (guard_some (ltb (position_or_len is_colon words) (length words)) (position_or_len is_colon words) n h)
    where
      guard_some : (t : Bool) (k n : ℕ) → cond t (Some k) None ≡ Some n → Some k ≡ Some n
      guard_some true k n h = h
      guard_some false k n h = absurd cc

  none_before : (words : List Word) → list_any is_colon (before_first is_colon words) ≡ false
  none_before [] = refl
  none_before (word ∷ words) = by_test (is_colon word) refl (none_before words)
    where
      by_test : (t : Bool) → is_colon word ≡ t → list_any is_colon (before_first is_colon words) ≡ false → list_any is_colon (before_first is_colon (word ∷ words)) ≡ false
      by_test true e later = rw e refl
      by_test false e later =
          let n = position_or_len is_colon words in
          let further : position_or_len is_colon (word ∷ words) ≡ suc n = rw e (omega arith) in
          ap (λ k. list_any is_colon (take k (word ∷ words))) further ∙ or_from _ _ e later

  other : (t : Bool) (x y : List Word × List Word) → cond t None (Some x) ≡ Some y → (t ≡ false) × (x ≡ y)
  other true x y h = absurd cc
  other false x y h = (refl, same_Some x y h)

  -- the sides of the one colon
  record AreSides (words : List Word) (sides : List Word × List Word) : Type 0 where
    tests : sides.0 ≡ before_first is_colon words
    sets : sides.1 ≡ after_first is_colon words
    none_behind : list_any is_colon sides.1 ≡ false

  sides_are : (words : List Word) (sides : List Word × List Word) → sides_of words ≡ Some sides → AreSides words sides
  unfolding sides_of
  sides_are words sides h =
      let a = bind_some (position is_colon words) (λ n. cond (list_any is_colon (drop (n + 1) words)) None (Some (take n words, drop (n + 1) words))) sides h in
      let same = other (list_any is_colon (drop (a.0 + 1) words)) (take a.0 words, drop (a.0 + 1) words) sides a.2 in
      let n = colon_at words a.0 a.1 in
      let tests : take a.0 words ≡ sides.0 = ap (λ (s : List Word × List Word). s.0) same.1 in
      let sets : drop (a.0 + 1) words ≡ sides.1 = ap (λ (s : List Word × List Word). s.1) same.1 in
      record {
        tests = sym tests ∙ ap (λ k. take k words) (sym n);
        sets = sym sets ∙ ap (λ k. drop (k + 1) words) (sym n);
        none_behind = ap (list_any is_colon) (sym sets) ∙ same.0;
      }

  one_colon : (words : List Word) (first : Word) (sides : List Word × List Word) → sides_of words ≡ Some sides → HasOneColon words
  one_colon words first sides h =
      let at = sides_ok words first sides h in
      let are = sides_are words sides h in
      record { before = sides.0; colon = at.0; behind = sides.1; parts = at.1; is = (bytes_eq-Decides at.0.text (codes ":")).1 at.2; none_before = ap (list_any is_colon) are.tests ∙ none_before words; none_behind = are.none_behind }

  no_sides : (words : List Word) → sides_of words ≡ None → HasOneColon words → ⊥
  no_sides words none h =
      none-some (h.before, h.behind) (sym none ∙ (ap sides_of h.parts ∙ sides_again h.before h.colon h.behind h.none_before (same_bytes h.colon.text (codes ":") h.is) h.none_behind))

  abbrev asked_once : Word → Demand CaseDemand
  asked_once first = Own (OneColon (drop 1 line.words)) fault_kinds.Case first

  sides_by : (first : Word) → By (asked_once first ∷ []) (in_case first (sides_of (drop 1 line.words)))
  sides_by first =
      let words = drop 1 line.words in
      one_answer IsAsAsked line (asked_once first) (in_case first (sides_of words)) (λ sides h. one_colon words first sides (in_case_ok first (sides_of words) sides h))
      (λ fault h. (λ one. no_sides words (in_case_none first (sides_of words) fault h) one, fault_at_word first (in_case first (sides_of words)) fault (in_case_fails first (sides_of words)) h))
    where
      in_case_none : {A : Type 0} (word : Word) (o : Option A) (fault : Fault) → in_case word o ≡ Err fault → o ≡ None
      in_case_none word None fault h = refl
      in_case_none word (Some x) fault h = absurd (ok-err {E = Fault} x fault h)

  case_by : By (demands Case line) (case_in line)
  unfolding case_in
  case_by =
      let words = drop 1 line.words in
      let tests = in_case_words Test (before_first is_colon words) in
      let sets = in_case_words Set (after_first is_colon words) in
      answers_then IsAsAsked line (LeastWords 2 ∷ []) (in_case_words (OneColon words) (word_number 0 line) ++ (tests ++ sets)) (least_words 2 line)
      (λ _. word_in line 0 >>= λ word. in_case word (sides_of words) >>= λ sides. each test_of sides.0 >>= λ tests. each set_of sides.1 >>= λ sets. Ok (record { tests = tests; sets = sets })) (least_answers IsAsAsked line 2)
      (λ _ is. place_then IsAsAsked line 0 asked_once (tests ++ sets) (λ word. in_case word (sides_of words) >>= λ sides. each test_of sides.0 >>= λ tests. each set_of sides.1 >>= λ sets. Ok (record { tests = tests; sets = sets }))
      (let enough = least_ok 2 line is in omega arith)
      (λ word. answers_then IsAsAsked line (asked_once word ∷ []) (tests ++ sets) (in_case word (sides_of words)) (λ sides. each test_of sides.0 >>= λ tests. each set_of sides.1 >>= λ sets. Ok (record { tests = tests; sets = sets })) (sides_by word)
      (λ sides h. sides_read sides (sides_are words sides (in_case_ok word (sides_of words) sides h)))))
    where
      sides_read : (sides : List Word × List Word) → AreSides (drop 1 line.words) sides →
          By {Y = PCase} (in_case_words Test (before_first is_colon (drop 1 line.words)) ++ in_case_words Set (after_first is_colon (drop 1 line.words))) (each test_of sides.0 >>= λ tests. each set_of sides.1 >>= λ sets. Ok (record { tests = tests; sets = sets }))
      sides_read sides are =
          rw (← are.tests, ← are.sets)
          (answers_then IsAsAsked line (in_case_words Test sides.0) (in_case_words Set sides.1) (each test_of sides.0) (λ tests. each set_of sides.1 >>= λ sets. Ok (record { tests = tests; sets = sets }))
          (each_answers IsAsAsked line (λ w. Own Test fault_kinds.Case w) test_of (λ w. test_answers w line) sides.0)
          (λ tests _. answers_last IsAsAsked line (in_case_words Set sides.1) (each set_of sides.1) (λ sets. record { tests = tests; sets = sets }) (each_answers IsAsAsked line (λ w. Own Set fault_kinds.Case w) set_of (λ w. set_answers w line) sides.1)))

  -- ---- lines of all kinds

  next_by : By (demands Next line) (next_in line)
  unfolding next_in
  next_by = answers_last IsAsAsked line (demands Next line) (names_in 3 line) (λ names. record { atom = names.0; agents = names.1 }) (names_by 3 (omega arith))

  pub row_by : (kind : Kind) → By (demands kind line) (row_of kind line)
  unfolding row_of
  row_by Nego = answers_last IsAsAsked line (demands Nego line) (header_in line) (λ _. HeaderRow) header_by
  row_by Agent = answers_last IsAsAsked line (demands Agent line) (agent_in line) (λ agent. AgentRow agent) agent_by
  row_by Atom = answers_last IsAsAsked line (demands Atom line) (names_in 2 line) (λ names. AtomRow names.0 names.1) (names_by 2 (omega arith))
  row_by Out = answers_last IsAsAsked line (demands Out line) (named_in line) (λ name. OutRow name) named_by
  row_by Case = answers_last IsAsAsked line (demands Case line) (case_in line) (λ c. CaseRow c) case_by
  row_by Next = answers_last IsAsAsked line (demands Next line) (next_in line) (λ next. NextRow next) next_by
  row_by First = answers_last IsAsAsked line (demands First line) (named_in line) (λ name. FirstRow name) named_by
  row_by Last = answers_last IsAsAsked line (demands Last line) (named_in line) (λ name. LastRow name) named_by
  row_by End = answers_last IsAsAsked line (demands End line) (exact_words 1 line) (λ _. EndRow) (exact_answers IsAsAsked line 1)
