-- Laws of the words of a line with their places.
use Rattle.std.proofs.Common.{◌≡◌, ℕ, ◌+◌, true, false, inl, inr, List, [], ◌∷◌, ◌++◌, length, map, take, drop, ◌-◌, ◌≤◌, suc, refl, sym, ◌∙◌, ap, add-zero, arith}
use Rattle.std.specs.List.{list_all, list_any, onto_first, All}
use Rattle.std.proofs.lemmas.Bool.{cases_Bool, and_parts, or_parts, cond-true, cond-false, false≢true}
use Rattle.std.proofs.lemmas.List.Elements.{All-nil, All-cons, All-head, All-tail, All-weaker, All-same}
use Rattle.nego_base.specs.declared.line.Word.{Word}
use Rattle.nego_base.specs.Lines.{is_blank, is_word_end, words}
use Rattle.nego_base.specs.Scan.{word_at, onto_word, words_at, StandsIn}
use Rattle.nego_base.proofs.LineLaws.{HasNoBlank}

-- blanks move the words behind them
pub words_at_blank : (number column : ℕ) (blanks rest : List ℕ) → list_all is_blank blanks ≡ true → words_at number column (blanks ++ rest) ≡ words_at number (column + length blanks) rest
unfolding words_at
words_at_blank number column [] rest h = ap (λ k. words_at number k rest) (sym (add-zero column))
words_at_blank number column (b ∷ bs) rest h =
    let parts = and_parts (is_blank b) (list_all is_blank bs) h in
    let moved : column + 1 + length bs ≡ column + length (b ∷ bs) = omega arith in
    cond-true _ _ _ parts.0 ∙ (words_at_blank number (column + 1) bs rest parts.1 ∙ ap (λ k. words_at number k rest) moved)

-- bytes without a blank are one word, where no word goes on behind them
pub words_at_word : (number column b : ℕ) (bs rest : List ℕ) → HasNoBlank (b ∷ bs) → is_word_end rest ≡ true →
    words_at number column ((b ∷ bs) ++ rest) ≡ word_at number column (b ∷ bs) ∷ words_at number (column + length (b ∷ bs)) rest
unfolding words_at
words_at_word number column b [] rest h e = cond-false _ _ _ (or_parts (is_blank b) false h).0 ∙ cond-true _ _ _ e
words_at_word number column b (c ∷ cs) rest h e =
    let parts = or_parts (is_blank b) (list_any is_blank (c ∷ cs)) h in
    let next = or_parts (is_blank c) (list_any is_blank cs) parts.1 in
    let moved : column + 1 + length (c ∷ cs) ≡ column + length (b ∷ c ∷ cs) = omega arith in
    cond-false _ _ _ parts.0 ∙ (cond-false _ _ _ next.0
    ∙ (ap (onto_word number column b) (words_at_word number (column + 1) c cs rest parts.1 e)
    ∙ ap (λ k. word_at number column (b ∷ c ∷ cs) ∷ words_at number k rest) moved))

texts_onto : (number column b : ℕ) (ws : List Word) → map (λ w. w.text) (onto_word number column b ws) ≡ onto_first b (map (λ w. w.text) ws)
texts_onto number column b [] = refl
texts_onto number column b (w ∷ ws) = refl

-- the words with their places are the words
pub texts_at : (number column : ℕ) (bytes : List ℕ) → map (λ w. w.text) (words_at number column bytes) ≡ words bytes
unfolding words_at
texts_at number column [] = refl
texts_at number column (b ∷ bs) =
    let more = texts_at number (column + 1) bs in
    let texts : List Word → List (List ℕ) = map (λ w. w.text) in
    elim (cases_Bool (is_blank b)) [
      | inl blank ↦ ap texts (cond-true _ _ _ blank) ∙ (more ∙ sym (cond-true _ _ _ blank))
      | inr word ↦ elim (cases_Bool (is_word_end bs)) [
        | inl ends ↦ ap texts (cond-false _ _ _ word ∙ cond-true _ _ _ ends) ∙ (ap (λ ws. (b ∷ []) ∷ ws) more ∙ sym (cond-false _ _ _ word ∙ cond-true _ _ _ ends))
        | inr goes_on ↦ ap texts (cond-false _ _ _ word ∙ cond-false _ _ _ goes_on)
            ∙ (texts_onto number column b (words_at number (column + 1) bs) ∙ (ap (onto_first b) more ∙ sym (cond-false _ _ _ word ∙ cond-false _ _ _ goes_on)))
      ]
    ]

stands_later : (number column b : ℕ) (bs : List ℕ) (word : Word) → StandsIn number (column + 1) bs word → StandsIn number column (b ∷ bs) word
stands_later number column b bs word h =
    let from = h.from in
    let within = h.within in
    let one : word.column - column ≡ suc (word.column - (column + 1)) = omega arith in
    record { line = h.line; from = omega arith; there = ap (λ k. take (length word.text) (drop k (b ∷ bs))) one ∙ h.there; within = omega arith }

stands_first : (number column b : ℕ) (bs text : List ℕ) → take (length text) bs ≡ text → length text ≤ length bs → StandsIn number column (b ∷ bs) (word_at number column (b ∷ text))
stands_first number column b bs text h short =
    let none : column - column ≡ 0 = omega arith in
    record { line = refl; from = omega arith; there = ap (λ k. take (length (b ∷ text)) (drop k (b ∷ bs))) none ∙ ap (λ t. b ∷ t) h; within = omega arith }

column_onto : (number column b : ℕ) (ws : List Word) (w : Word) (more : List Word) → onto_word number column b ws ≡ w ∷ more → w.column ≡ column
column_onto number column b [] w more h = let e : word_at number column (b ∷ []) ≡ w = cc in sym (ap (λ v. v.column) e)
column_onto number column b (v ∷ vs) w more h = let e : word_at number column (b ∷ v.text) ≡ w = cc in sym (ap (λ u. u.column) e)

-- where a word begins, the first word has this column
pub first_column : (number column : ℕ) (bytes : List ℕ) (w : Word) (more : List Word) → is_word_end bytes ≡ false → words_at number column bytes ≡ w ∷ more → w.column ≡ column
unfolding words_at
first_column number column [] w more begins h = absurd (false≢true (sym begins))
first_column number column (b ∷ bs) w more begins h = elim (cases_Bool (is_word_end bs)) [
  | inl ends ↦
      let e : word_at number column (b ∷ []) ∷ words_at number (column + 1) bs ≡ w ∷ more = sym (cond-false _ _ _ begins ∙ cond-true _ _ _ ends) ∙ h in
      let first : word_at number column (b ∷ []) ≡ w = cc in
      sym (ap (λ v. v.column) first)
  | inr goes_on ↦ column_onto number column b (words_at number (column + 1) bs) w more (sym (cond-false _ _ _ begins ∙ cond-false _ _ _ goes_on) ∙ h)
]

stand_onto : (number column b : ℕ) (bs : List ℕ) (ws : List Word) → ((w : Word) (more : List Word) → ws ≡ w ∷ more → w.column ≡ column + 1) → All (StandsIn number (column + 1) bs) ws → All (StandsIn number column (b ∷ bs)) (onto_word number column b ws)
stand_onto number column b bs [] first stand =
    let Here : Word → Type 0 = StandsIn number column (b ∷ bs) in
    All-cons Here (word_at number column (b ∷ [])) [] (stands_first number column b bs [] refl (omega arith)) (All-nil Here)
stand_onto number column b bs (w ∷ ws) first stand =
    let Here : Word → Type 0 = StandsIn number column (b ∷ bs) in
    let Later : Word → Type 0 = StandsIn number (column + 1) bs in
    let head : Later w = All-head Later w ws stand in
    let at : w.column - (column + 1) ≡ 0 = (let e = first w ws refl in omega arith) in
    let there : take (length w.text) bs ≡ w.text = sym (ap (λ k. take (length w.text) (drop k bs)) at) ∙ head.there in
    All-cons Here (word_at number column (b ∷ w.text)) ws (stands_first number column b bs w.text there (let e = first w ws refl in let within = head.within in omega arith))
    (All-weaker Later Here (stands_later number column b bs) ws (All-tail Later w ws stand))

-- each word of a line stands at its column
pub words_stand : (number column : ℕ) (bytes : List ℕ) → All (StandsIn number column bytes) (words_at number column bytes)
unfolding words_at
words_stand number column [] = All-nil (StandsIn number column [])
words_stand number column (b ∷ bs) =
    let Here : Word → Type 0 = StandsIn number column (b ∷ bs) in
    let Later : Word → Type 0 = StandsIn number (column + 1) bs in
    let stand = words_stand number (column + 1) bs in
    let behind : All Here (words_at number (column + 1) bs) = All-weaker Later Here (stands_later number column b bs) (words_at number (column + 1) bs) stand in
    elim (cases_Bool (is_blank b)) [
      | inl blank ↦ All-same Here _ _ (cond-true _ _ _ blank) behind
      | inr word ↦ elim (cases_Bool (is_word_end bs)) [
        | inl ends ↦ All-same Here _ _ (cond-false _ _ _ word ∙ cond-true _ _ _ ends)
            (All-cons Here (word_at number column (b ∷ [])) (words_at number (column + 1) bs) (stands_first number column b bs [] refl (omega arith)) behind)
        | inr goes_on ↦ All-same Here _ _ (cond-false _ _ _ word ∙ cond-false _ _ _ goes_on)
            (stand_onto number column b bs (words_at number (column + 1) bs) (λ w more e. first_column number (column + 1) bs w more goes_on e) stand)
      ]
    ]
