-- The demands that all grammars make are those by which a line and its words are read.
use Rattle.std.proofs.Common.{◌≡◌, ℕ, Bool, true, false, cond, List, [], ◌∷◌, ◌++◌, length, map, Option, Some, None, Result, Ok, Err, ltb, zero, suc, ◌<◌, take, drop, inl, Decides, refl, sym, ◌∙◌, arith}
use Rattle.std.specs.Prelude.{slice_get}
use Rattle.std.specs.Option.{option_map_or}
use Rattle.std.specs.Str.{bytes_eq}
use Rattle.std.proofs.lemmas.Bool.{false≢true}
use Rattle.std.proofs.lemmas.Slice.Eq.{bytes_eq-Decides}
use Rattle.nego_base.specs.Name.{is_name}
use Rattle.nego_base.specs.Number.{number_of}
use Rattle.nego_base.proofs.Cases.{same_Err, ok-err}
use Rattle.nego_base.specs.declared.fault.Fault.{Fault}
use Rattle.nego_base.specs.declared.fault.FaultKind.TheVariants as kinds
use Rattle.nego_base.specs.declared.line.Word.{Word}
use Rattle.nego_base.specs.declared.line.Line.{Line}
use Rattle.nego_base.specs.Grammar.{at_word, past_line, least_words, exact_words, name_word, number_word}
use Rattle.nego_base.specs.LineGrammar.{Demand, Words, LeastWords, Version, Name, Number, Meets, unmet, word_number}
use Rattle.nego_base.specs.LineWalk.{each, word_in, Answers}
use Rattle.nego_base.specs.Results.{◌>>=◌}
use Rattle.nego_base.proofs.GrammarLaws.{least_ok, least_words-ok, exact_ok, exact_words-ok, name_ok, name_word-ok, number_ok, number_word-ok}
use Rattle.nego_base.proofs.LineFaults.{answers_then, answers_last}

-- the word of a list at a place within it
word_there : (words : List Word) (i : ℕ) → i < length words → (word : Word) × (slice_get words i ≡ Some word) × (take 1 (drop i words) ≡ word ∷ [])
word_there [] i within = absurd (omega arith)
word_there (word ∷ words) zero within = (word, refl, refl)
word_there (word ∷ words) (suc i) within = let later = word_there words i (omega arith) in (later.0, later.1, later.2)

module _ {X : Type 0} (Is : X → Word → Type 0) (line : Line) where
  -- one demand, from what its two answers say
  pub one_answer : {Y : Type 0} (demand : Demand X) (r : Result Y Fault) → ((y : Y) → r ≡ Ok y → Meets Is line demand) → ((fault : Fault) → r ≡ Err fault → (¬ Meets Is line demand) × (fault ≡ unmet line demand)) →
      Answers Is line (demand ∷ []) r
  one_answer demand (Ok y) met failed = (met y refl, tt)
  one_answer demand (Err fault) met failed = inl (failed fault refl)

  -- ---- how many words

  least_fault : (n : ℕ) (fault : Fault) → least_words n line ≡ Err fault → fault ≡ past_line kinds.Count line
  unfolding least_words
  least_fault n fault h = by_test (ltb (length line.words) n) h
    where
      by_test : (t : Bool) → ◌≡◌ {A = Result (Unit {0}) Fault} (cond t (Err (past_line kinds.Count line)) (Ok tt)) (Err fault) → fault ≡ past_line kinds.Count line
      by_test true h = same_Err {T = Unit {0}} fault (past_line kinds.Count line) (sym h)
      by_test false h = absurd (ok-err {E = Fault} tt fault h)

  pub least_answers : (n : ℕ) → Answers Is line (LeastWords n ∷ []) (least_words n line)
  least_answers n = one_answer (LeastWords n) (least_words n line) (λ y h. least_ok n line h) (λ fault h. (λ enough. ok-err {E = Fault} tt fault (sym (least_words-ok n line enough) ∙ h), least_fault n fault h))

  exact_fault : (n : ℕ) (fault : Fault) → exact_words n line ≡ Err fault → fault ≡ unmet {X = X} line (Words n)
  unfolding exact_words
  exact_fault n fault h = by_word (slice_get line.words n) h
    where
      by_word : (o : Option Word) → option_map_or (λ word. Err (at_word kinds.Count word)) o (least_words n line) ≡ Err fault → fault ≡ option_map_or (at_word kinds.Count) o (past_line kinds.Count line)
      by_word (Some word) h = same_Err {T = Unit {0}} fault (at_word kinds.Count word) (sym h)
      by_word None h = least_fault n fault h

  pub exact_answers : (n : ℕ) → Answers Is line (Words n ∷ []) (exact_words n line)
  exact_answers n = one_answer (Words n) (exact_words n line) (λ y h. exact_ok n line h) (λ fault h. (λ so_many. ok-err {E = Fault} tt fault (sym (exact_words-ok n line so_many) ∙ h), exact_fault n fault h))

  -- ---- words

  name_fault : (word : Word) (fault : Fault) → name_word word ≡ Err fault → fault ≡ at_word kinds.Name word
  unfolding name_word
  name_fault word fault h = by_test (is_name word.text) h
    where
      by_test : (t : Bool) → ◌≡◌ {A = Result (Unit {0}) Fault} (cond t (Ok tt) (Err (at_word kinds.Name word))) (Err fault) → fault ≡ at_word kinds.Name word
      by_test true h = absurd (ok-err {E = Fault} tt fault h)
      by_test false h = same_Err {T = Unit {0}} fault (at_word kinds.Name word) (sym h)

  pub name_answers : (word : Word) → Answers Is line (Name word ∷ []) (name_word word)
  name_answers word = one_answer (Name word) (name_word word) (λ y h. name_ok word h) (λ fault h. (λ named. ok-err {E = Fault} tt fault (sym (name_word-ok word named) ∙ h), name_fault word fault h))

  number_fault : (word : Word) (fault : Fault) → number_word word ≡ Err fault → fault ≡ at_word kinds.Number word
  unfolding number_word
  number_fault word fault h = by_number (number_of word.text) h
    where
      by_number : (o : Option ℕ) → ◌≡◌ {A = Result ℕ Fault} (option_map_or (λ n. Ok n) o (Err (at_word kinds.Number word))) (Err fault) → fault ≡ at_word kinds.Number word
      by_number (Some n) h = absurd (ok-err {E = Fault} n fault h)
      by_number None h = same_Err {T = ℕ} fault (at_word kinds.Number word) (sym h)

  pub number_answers : (word : Word) → Answers Is line (Number word ∷ []) (number_word word)
  number_answers word =
      one_answer (Number word) (number_word word) (λ n h. (n, number_ok word n h))
      (λ fault h. (λ number. ok-err {E = Fault} number.0 fault (sym (number_word-ok word number.0 number.1.0 number.1.1) ∙ h), number_fault word fault h))

  pub version_answers : (text : List ℕ) (word : Word) → Answers {Y = Unit {0}} Is line (Version text word ∷ []) (cond (bytes_eq word.text text) (Ok tt) (Err (at_word kinds.Version word)))
  version_answers text word = by_test (bytes_eq word.text text) (bytes_eq-Decides word.text text)
    where
      by_test : (t : Bool) → Decides t (word.text ≡ text) → Answers {Y = Unit {0}} Is line (Version text word ∷ []) (cond t (Ok tt) (Err (at_word kinds.Version word)))
      by_test true decides = (decides.0 refl, tt)
      by_test false decides = inl (λ same. false≢true (decides.1 same), refl)

  -- ---- words at their places

  -- one behind the other
  pub each_answers : {A B : Type 0} (demand : A → Demand X) (f : A → Result B Fault) → ((x : A) → Answers Is line (demand x ∷ []) (f x)) → (xs : List A) → Answers Is line (map demand xs) (each f xs)
  unfolding each
  each_answers demand f one [] = tt
  each_answers demand f one (x ∷ xs) =
      answers_then Is line (demand x ∷ []) (map demand xs) (f x) (λ y. each f xs >>= λ ys. Ok (y ∷ ys)) (one x)
      (λ y is. answers_last Is line (map demand xs) (each f xs) (λ ys. y ∷ ys) (each_answers demand f one xs))

  -- the word at a place of a line that is long enough, alone
  pub place_answers : {Y : Type 0} (i : ℕ) (demand : Word → Demand X) (f : Word → Result Y Fault) → i < length line.words → ((word : Word) → Answers Is line (demand word ∷ []) (f word)) →
      Answers Is line (map demand (word_number i line)) (word_in line i >>= f)
  unfolding word_in
  place_answers i demand f within one =
      let at = word_there line.words i within in
      rw (at.2, at.1) (one at.0)

  -- the same, where more is asked behind it
  pub place_then : {Y : Type 0} (i : ℕ) (demand : Word → Demand X) (more : List (Demand X)) (f : Word → Result Y Fault) → i < length line.words → ((word : Word) → Answers Is line (demand word ∷ more) (f word)) →
      Answers Is line (map demand (word_number i line) ++ more) (word_in line i >>= f)
  unfolding word_in
  place_then i demand more f within one =
      let at = word_there line.words i within in
      rw (at.2, at.1) (one at.0)
