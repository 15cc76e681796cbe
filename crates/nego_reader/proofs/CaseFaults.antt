-- Each fault of a word of a case line is `Case`, at the word.
use Rattle.std.proofs.Common.{◌≡◌, ℕ, ◌+◌, ◌==◌, Bool, true, false, cond, List, [], ◌∷◌, take, drop, Option, Some, None, Result, Ok, Err, refl, sym, ◌∙◌}
use Rattle.std.specs.Prelude.{codes}
use Rattle.std.specs.Option.{option_map_or}
use Rattle.std.specs.Str.{bytes_eq}
use Rattle.nego_base.specs.declared.fault.FaultKind.TheVariants as fault_kinds
use Rattle.nego_base.specs.declared.fault.Fault.{Fault}
use Rattle.nego_base.specs.declared.line.Word.{Word}
use Rattle.nego_base.specs.declared.line.Line.{Line}
use Rattle.nego_base.specs.Name.{is_name}
use Rattle.nego_base.specs.Number.{number_of}
use Rattle.nego_base.specs.Grammar.{at_word}
use Rattle.nego_base.specs.LineGrammar.{Own}
use Rattle.nego_base.specs.LineWalk.{Answers}
use Rattle.nego_base.specs.Results.{◌>>=◌}
use Rattle.nego_base.proofs.Cases.{same_Err, ok-err}
use Rattle.nego_base.proofs.LineDemands.{one_answer}
use Rattle.nego_reader.specs.declared.parsed.PRight.TheVariants as rights
use Rattle.nego_reader.specs.declared.parsed.PTerm.TheVariants as terms
use Rattle.nego_reader.specs.Reading.{piece, in_case, name_end, sign_end, op_of, name_at, right_at, test_at, test_of, sum_of, sum_at, term_at, behind, set_of}
use Rattle.nego_reader.specs.Table.{Test, Set, IsAsAsked}
use Rattle.nego_reader.proofs.WordSpelling.{test_takes, test_again, set_takes, set_again}

-- what fails, fails so
abbrev pub FailsAt : {A : Type 0} → Word → Result A Fault → Type 0
FailsAt word (Ok x) = Unit {0}
FailsAt word (Err fault) = fault ≡ at_word fault_kinds.Case word

module _ (word : Word) where
  then_fails : {A B : Type 0} (r : Result A Fault) (f : A → Result B Fault) → FailsAt word r → ((x : A) → FailsAt word (f x)) → FailsAt word (r >>= f)
  then_fails (Ok x) f h k = k x
  then_fails (Err fault) f h k = h

  test_fails : {A : Type 0} (t : Bool) (r s : Result A Fault) → FailsAt word r → FailsAt word s → FailsAt word (cond t r s)
  test_fails true r s h k = h
  test_fails false r s h k = k

  option_fails : {A B : Type 0} (o : Option A) (f : A → B) (r : Result B Fault) → FailsAt word r → FailsAt word (option_map_or (λ x. Ok (f x)) o r)
  option_fails (Some x) f r h = tt
  option_fails None f r h = h

  pub in_case_fails : {A : Type 0} (o : Option A) → FailsAt word (in_case word o)
  in_case_fails (Some x) = tt
  in_case_fails None = refl

  name_fails : (i : ℕ) (bytes : List ℕ) → FailsAt word (name_at word i bytes)
  unfolding name_at
  name_fails i bytes = test_fails (is_name bytes) (Ok (piece word i bytes)) (Err (at_word fault_kinds.Case word)) tt refl

  right_fails : (i : ℕ) (bytes : List ℕ) → FailsAt word (right_at word i bytes)
  unfolding right_at
  right_fails i bytes =
      option_fails (number_of bytes) (λ n. rights.Number n) (name_at word i bytes >>= λ name. Ok (rights.Name name))
      (then_fails (name_at word i bytes) (λ name. Ok (rights.Name name)) (name_fails i bytes) (λ name. tt))

  test_at_fails : (n m : ℕ) → FailsAt word (test_at word n m)
  unfolding test_at
  test_at_fails n m =
      let op = op_of (take m (drop n word.text)) in
      let rest = drop m (drop n word.text) in
      then_fails (name_at word 0 (take n word.text)) (λ left. in_case word op >>= λ op. right_at word (n + m) rest >>= λ right. Ok (record { left = left; op = op; right = right })) (name_fails 0 (take n word.text))
      (λ left. then_fails (in_case word op) (λ op. right_at word (n + m) rest >>= λ right. Ok (record { left = left; op = op; right = right })) (in_case_fails op)
      (λ op. then_fails (right_at word (n + m) rest) (λ right. Ok (record { left = left; op = op; right = right })) (right_fails (n + m) rest) (λ right. tt)))

  test_of_fails : FailsAt word (test_of word)
  unfolding test_of
  test_of_fails = test_at_fails (name_end word.text) (sign_end (drop (name_end word.text) word.text))

  sum_fails : (name : Word) (bytes : List ℕ) → FailsAt word (sum_of word name bytes)
  unfolding sum_of
  sum_fails name [] = tt
  sum_fails name (sign ∷ digits) =
      then_fails (in_case word (number_of digits)) (λ n. cond (sign == 43) (Ok (terms.Plus name n)) (cond (sign == 45) (Ok (terms.Minus name n)) (Err (at_word fault_kinds.Case word)))) (in_case_fails (number_of digits))
      (λ n. test_fails (sign == 43) (Ok (terms.Plus name n)) (cond (sign == 45) (Ok (terms.Minus name n)) (Err (at_word fault_kinds.Case word))) tt
      (test_fails (sign == 45) (Ok (terms.Minus name n)) (Err (at_word fault_kinds.Case word)) tt refl))

  sum_at_fails : (i : ℕ) (bytes : List ℕ) → FailsAt word (sum_at word i bytes)
  unfolding sum_at
  sum_at_fails i bytes =
      then_fails (name_at word i (take (name_end bytes) bytes)) (λ name. sum_of word name (drop (name_end bytes) bytes)) (name_fails i (take (name_end bytes) bytes)) (λ name. sum_fails name (drop (name_end bytes) bytes))

  term_fails : (i : ℕ) (bytes : List ℕ) → FailsAt word (term_at word i bytes)
  unfolding term_at
  term_fails i bytes =
      let rest = option_map_or (λ n. Ok (terms.Number n)) (number_of bytes) (sum_at word i bytes) in
      test_fails (bytes_eq bytes (codes "*")) (Ok terms.Any) rest tt (option_fails (number_of bytes) (λ n. terms.Number n) (sum_at word i bytes) (sum_at_fails i bytes))

  set_of_fails : FailsAt word (set_of word)
  unfolding set_of
  set_of_fails =
      let n = name_end word.text in
      let rest = behind (codes ":=") (drop n word.text) in
      then_fails (name_at word 0 (take n word.text)) (λ agent. in_case word rest >>= λ bytes. term_at word (n + 2) bytes >>= λ term. Ok (record { agent = agent; term = term })) (name_fails 0 (take n word.text))
      (λ agent. then_fails (in_case word rest) (λ bytes. term_at word (n + 2) bytes >>= λ term. Ok (record { agent = agent; term = term })) (in_case_fails rest)
      (λ bytes. then_fails (term_at word (n + 2) bytes) (λ term. Ok (record { agent = agent; term = term })) (term_fails (n + 2) bytes) (λ term. tt)))

  -- the fault of an answer that fails so
  pub fault_at_word : {A : Type 0} (r : Result A Fault) (fault : Fault) → FailsAt word r → r ≡ Err fault → fault ≡ at_word fault_kinds.Case word
  fault_at_word (Ok x) fault h is = absurd (ok-err {E = Fault} x fault is)
  fault_at_word {A} (Err f) fault h is = same_Err {T = A} fault f (sym is) ∙ h

  -- ---- a comparison, and an assignment, as they are asked

  pub test_answers : (line : Line) → Answers IsAsAsked line (Own Test fault_kinds.Case word ∷ []) (test_of word)
  test_answers line =
      one_answer IsAsAsked line (Own Test fault_kinds.Case word) (test_of word) (λ test h. (test, test_takes word test h))
      (λ fault h. (λ test. ok-err {E = Fault} test.0 fault (sym (test_again word test.0 test.1) ∙ h), fault_at_word (test_of word) fault test_of_fails h))

  pub set_answers : (line : Line) → Answers IsAsAsked line (Own Set fault_kinds.Case word ∷ []) (set_of word)
  set_answers line =
      one_answer IsAsAsked line (Own Set fault_kinds.Case word) (set_of word) (λ set h. (set, set_takes word set h))
      (λ fault h. (λ set. ok-err {E = Fault} set.0 fault (sym (set_again word set.0 set.1) ∙ h), fault_at_word (set_of word) fault set_of_fails h))
