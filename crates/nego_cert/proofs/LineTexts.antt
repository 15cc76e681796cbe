-- A line by the texts of its words: what is read of it stands there, and what stands there is read.
use Rattle.std.proofs.Common.{◌≡◌, ℕ, ◌≤◌, Bool, true, false, cond, List, [], ◌∷◌, length, map, Option, Some, None, Result, Ok, Err, refl, sym, ap, subst, ◌∙◌, arith}
use Rattle.std.specs.Prelude.{slice_get, codes, decimal}
use Rattle.std.specs.Option.{option_map_or, option_map}
use Rattle.std.specs.Str.{bytes_eq}
use Rattle.std.proofs.lemmas.List.{length-map}
use Rattle.std.proofs.lemmas.Option.{same_Some, none-some, slice_get-map}
use Rattle.std.proofs.lemmas.Slice.Eq.{bytes_eq-Decides}
use Rattle.nego_base.specs.declared.fault.FaultKind.TheVariants as fault_kinds
use Rattle.nego_base.specs.declared.fault.Fault.{Fault}
use Rattle.nego_base.specs.declared.line.Word.{Word}
use Rattle.nego_base.specs.declared.line.Line.{Line}
use Rattle.nego_base.specs.Grammar.{at_word, past_line, exact_words, number_word}
use Rattle.nego_base.specs.LineWalk.{word_in}
use Rattle.nego_base.specs.Results.{◌>>=◌}
use Rattle.nego_base.proofs.Cases.{bind_ok, same_Ok}
use Rattle.nego_base.proofs.GrammarLaws.{exact_ok, exact_words-ok, number_ok, number_word-ok}
use Rattle.nego_cert.specs.Table.{word_texts}
use Rattle.nego_cert.specs.Reading.{number_in, header_in, one_in, two_in}

-- ---- short lists by their items

module _ {A : Type 0} where
  pub only : (xs : List A) (x : A) → length xs ≡ 1 → slice_get xs 0 ≡ Some x → xs ≡ x ∷ []
  only [] x size h = absurd (omega arith)
  only (y ∷ []) x size h = ap (λ z. z ∷ []) (same_Some y x h)
  only (y ∷ z ∷ rest) x size h = absurd (omega arith)

  pub pair : (xs : List A) (x y : A) → length xs ≡ 2 → slice_get xs 0 ≡ Some x → slice_get xs 1 ≡ Some y → xs ≡ x ∷ y ∷ []
  pair [] x y size h k = absurd (omega arith)
  pair (a ∷ rest) x y size h k = ap (λ z. z ∷ rest) (same_Some a x h) ∙ ap (λ zs. x ∷ zs) (only rest y (omega arith) k)

  pub triple : (xs : List A) (x y z : A) → length xs ≡ 3 → slice_get xs 0 ≡ Some x → slice_get xs 1 ≡ Some y → slice_get xs 2 ≡ Some z → xs ≡ x ∷ y ∷ z ∷ []
  triple [] x y z size h k l = absurd (omega arith)
  triple (a ∷ rest) x y z size h k l = ap (λ b. b ∷ rest) (same_Some a x h) ∙ ap (λ zs. x ∷ zs) (pair rest y z (omega arith) k l)

module _ (line : Line) where
  -- ---- a word

  pub text_at : (i : ℕ) (word : Word) → slice_get line.words i ≡ Some word → slice_get (word_texts line) i ≡ Some word.text
  text_at i word h = slice_get-map (λ (w : Word). w.text) line.words i ∙ ap (option_map (λ (w : Word). w.text)) h

  pub text_read : (i : ℕ) (word : Word) → word_in line i ≡ Ok word → slice_get (word_texts line) i ≡ Some word.text
  unfolding word_in
  text_read i word h = by_word (slice_get line.words i) refl h
    where
      by_word : (o : Option Word) → slice_get line.words i ≡ o → ◌≡◌ {A = Result Word Fault} (option_map_or (λ w. Ok w) o (Err (past_line fault_kinds.Count line))) (Ok word) → slice_get (word_texts line) i ≡ Some word.text
      by_word None is h = absurd cc
      by_word (Some w) is h = text_at i w is ∙ ap (λ (v : Word). Some v.text) (same_Ok {E = Fault} w word h)

  pub text_again : (i : ℕ) (text : List ℕ) → slice_get (word_texts line) i ≡ Some text → (word : Word) × (word_in line i ≡ Ok word) × (word.text ≡ text)
  unfolding word_in
  text_again i text h = by_word (slice_get line.words i) refl
    where
      by_word : (o : Option Word) → slice_get line.words i ≡ o → (word : Word) × (option_map_or (λ w. Ok w) o (Err (past_line fault_kinds.Count line)) ≡ Ok word) × (word.text ≡ text)
      by_word None is = absurd (none-some text (ap (option_map (λ (w : Word). w.text)) (sym is) ∙ (sym (slice_get-map (λ (w : Word). w.text) line.words i) ∙ h)))
      by_word (Some w) is = (w, refl, same_Some w.text text (sym (text_at i w is) ∙ h))

  pub first_again : (text : List ℕ) (rest : List (List ℕ)) → word_texts line ≡ text ∷ rest → (first : Word) × (slice_get line.words 0 ≡ Some first) × (first.text ≡ text)
  first_again text rest h = by_words line.words h
    where
      by_words : (words : List Word) → map (λ (w : Word). w.text) words ≡ text ∷ rest → (first : Word) × (slice_get words 0 ≡ Some first) × (first.text ≡ text)
      by_words [] e = absurd cc
      by_words (w ∷ ws) e = (w, refl, heads w.text text (map (λ (w : Word). w.text) ws) rest e)
        where
          heads : (a b : List ℕ) (xs ys : List (List ℕ)) → a ∷ xs ≡ b ∷ ys → a ≡ b
          heads a b xs ys h = cc

  -- ---- how many words

  pub count_read : (n : ℕ) → exact_words n line ≡ Ok tt → length (word_texts line) ≡ n
  count_read n h = length-map line.words (λ (w : Word). w.text) ∙ exact_ok n line h

  pub count_again : (n : ℕ) → length (word_texts line) ≡ n → exact_words n line ≡ Ok tt
  count_again n h = exact_words-ok n line (sym (length-map line.words (λ (w : Word). w.text)) ∙ h)

  -- ---- numbers

  pub number_read : (i n : ℕ) → number_in line i ≡ Ok n → (slice_get (word_texts line) i ≡ Some (decimal n)) × (n ≤ 999999)
  unfolding number_in
  number_read i n h =
      let a = bind_ok (word_in line i) (λ word. number_word word) n h in
      let b = number_ok a.0 n a.2 in
      (text_read i a.0 a.1 ∙ ap (λ (t : List ℕ). Some t) b.0, b.1)

  pub number_again : (i n : ℕ) → slice_get (word_texts line) i ≡ Some (decimal n) → n ≤ 999999 → number_in line i ≡ Ok n
  unfolding number_in
  number_again i n h few =
      let word = text_again i (decimal n) h in
      rw word.1 (number_word-ok word.0 n word.2 few)

  pub one_read : (text : List ℕ) (n : ℕ) → slice_get (word_texts line) 0 ≡ Some text → one_in line ≡ Ok n → (word_texts line ≡ text ∷ decimal n ∷ []) × (n ≤ 999999)
  unfolding one_in
  one_read text n first h =
      let a = bind_ok (exact_words 2 line) (λ _. number_in line 1) n h in
      let b = number_read 1 n a.2 in
      (pair (word_texts line) text (decimal n) (count_read 2 a.1) first b.0, b.1)

  pub one_again : (text : List ℕ) (n : ℕ) → word_texts line ≡ text ∷ decimal n ∷ [] → n ≤ 999999 → one_in line ≡ Ok n
  unfolding one_in
  one_again text n h few = rw (count_again 2 (ap length h)) (number_again 1 n (ap (λ ts. slice_get ts 1) h) few)

  pub two_read : (text : List ℕ) (x : ℕ × ℕ) → slice_get (word_texts line) 0 ≡ Some text → two_in line ≡ Ok x → (word_texts line ≡ text ∷ decimal x.0 ∷ decimal x.1 ∷ []) × (x.0 ≤ 999999) × (x.1 ≤ 999999)
  unfolding two_in
  two_read text x first h =
      let a = bind_ok (exact_words 3 line) (λ _. number_in line 1 >>= λ one. number_in line 2 >>= λ two. Ok (one, two)) x h in
      let b = bind_ok (number_in line 1) (λ one. number_in line 2 >>= λ two. Ok (one, two)) x a.2 in
      let c = bind_ok (number_in line 2) (λ two. Ok (b.0, two)) x b.2 in
      let one = number_read 1 b.0 b.1 in
      let two = number_read 2 c.0 c.1 in
      let made : ℕ × ℕ = (b.0, c.0) in
      subst (λ (y : ℕ × ℕ). (word_texts line ≡ text ∷ decimal y.0 ∷ decimal y.1 ∷ []) × (y.0 ≤ 999999) × (y.1 ≤ 999999)) (same_Ok {E = Fault} made x c.2)
      (triple (word_texts line) text (decimal b.0) (decimal c.0) (count_read 3 a.1) first one.0 two.0, one.1, two.1)

  pub two_again : (text : List ℕ) (m n : ℕ) → word_texts line ≡ text ∷ decimal m ∷ decimal n ∷ [] → m ≤ 999999 → n ≤ 999999 → two_in line ≡ Ok (m, n)
  unfolding two_in
  two_again text m n h few few' =
      rw (count_again 3 (ap length h), number_again 1 m (ap (λ ts. slice_get ts 1) h) few, number_again 2 n (ap (λ ts. slice_get ts 2) h) few') refl

  -- ---- the header

  guard_ok : (t : Bool) (fault : Fault) → ◌≡◌ {A = Result (Unit {0}) Fault} (cond t (Ok tt) (Err fault)) (Ok tt) → t ≡ true
  guard_ok true fault h = refl
  guard_ok false fault h = absurd cc

  pub header_read : (text : List ℕ) → slice_get (word_texts line) 0 ≡ Some text → header_in line ≡ Ok tt → word_texts line ≡ text ∷ codes "1" ∷ []
  unfolding header_in
  header_read text first h =
      let a = bind_ok (exact_words 2 line) (λ _. word_in line 1 >>= λ version. cond (bytes_eq version.text (codes "1")) (Ok tt) (Err (at_word fault_kinds.Version version))) tt h in
      let b = bind_ok (word_in line 1) (λ version. cond (bytes_eq version.text (codes "1")) (Ok tt) (Err (at_word fault_kinds.Version version))) tt a.2 in
      let one : b.0.text ≡ codes "1" = (bytes_eq-Decides b.0.text (codes "1")).0 (guard_ok (bytes_eq b.0.text (codes "1")) (at_word fault_kinds.Version b.0) b.2) in
      pair (word_texts line) text (codes "1") (count_read 2 a.1) first (text_read 1 b.0 b.1 ∙ ap (λ (t : List ℕ). Some t) one)

  pub header_again : (text : List ℕ) → word_texts line ≡ text ∷ codes "1" ∷ [] → header_in line ≡ Ok tt
  unfolding header_in
  header_again text h =
      let version = text_again 1 (codes "1") (ap (λ ts. slice_get ts 1) h) in
      rw (count_again 2 (ap length h), version.1, ap (λ (t : List ℕ). bytes_eq t (codes "1")) version.2) refl

  -- ---- a line of one word

  pub word_read : (text : List ℕ) → slice_get (word_texts line) 0 ≡ Some text → exact_words 1 line ≡ Ok tt → word_texts line ≡ text ∷ []
  word_read text first h = only (word_texts line) text (count_read 1 h) first

  pub word_again : (text : List ℕ) → word_texts line ≡ text ∷ [] → exact_words 1 line ≡ Ok tt
  word_again text h = count_again 1 (ap length h)
