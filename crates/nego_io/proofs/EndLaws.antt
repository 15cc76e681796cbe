-- When the one word of some bytes is `end`.
use Rattle.std.proofs.Common.{◌≡◌, ℕ, true, false, inl, inr, List, [], ◌∷◌, ◌++◌, length, eqb, refl, sym, ◌∙◌, ap, arith}
use Rattle.std.specs.Prelude.{bytes_eq, codes}
use Rattle.std.specs.List.{list_all}
use Rattle.std.specs.Cmp.Lexicographic.{pointwise}
use Rattle.std.proofs.lemmas.Bool.{cases_Bool, cond-false, false≢true, false_from_ne_true, and_parts, eq-eqb, ne_eqb}
use Rattle.std.proofs.lemmas.List.{append-nil, append_cancel_left}
use Rattle.std.proofs.lemmas.Slice.Eq.{slice_eq-Decides, bytes_eq-Decides}
use Rattle.nego_base.specs.Lines.{is_blank, is_line_end, is_word_end, without_end, words}
use Rattle.nego_base.proofs.LineLaws.{words_blank, words_word, words_none, words_cut}
use Rattle.nego_io.specs.Part.{is_end, is_end_line}

-- a test that is true has this one word
pub is_end-true : (bytes : List ℕ) → is_end bytes ≡ true → words bytes ≡ codes "end" ∷ []
is_end-true bytes h = (slice_eq-Decides bytes_eq-Decides (words bytes) (codes "end" ∷ []) (is_end bytes) refl).0 h

end_of_blanks : (rest : List ℕ) → list_all is_blank rest ≡ true → is_word_end rest ≡ true
end_of_blanks [] h = refl
end_of_blanks (b ∷ bs) h = (and_parts _ _ h).0

pub no_words : (blanks : List ℕ) → list_all is_blank blanks ≡ true → words blanks ≡ []
no_words blanks h = ap words (sym (append-nil blanks)) ∙ words_blank blanks [] h

-- what begins with `end` is that word alone where only blanks follow
end_first : (rest : List ℕ) → is_end (codes "end" ++ rest) ≡ list_all is_blank rest
end_first rest = elim (cases_Bool (list_all is_blank rest)) [
  | inl blank ↦
      let all : words (codes "end" ++ rest) ≡ codes "end" ∷ [] = words_word 101 (110 ∷ 100 ∷ []) rest refl (end_of_blanks rest blank) ∙ ap (λ ws. codes "end" ∷ ws) (no_words rest blank) in
      ap (λ ws. pointwise bytes_eq ws (codes "end" ∷ [])) all ∙ sym blank
  | inr more ↦ false_from_ne_true _ (λ h. more_follows rest more (is_end-true (codes "end" ++ rest) h)) ∙ sym more
]
  where
    more_follows : (rest : List ℕ) → list_all is_blank rest ≡ false → words (codes "end" ++ rest) ≡ codes "end" ∷ [] → ⊥
    more_follows rest more h =
        let next = words_cut 101 (110 ∷ 100 ∷ rest) refl in
        let cut = next.1.1 in
        let first : next.0 ≡ codes "end" = (let e = cut.first in cc) in
        let none : words next.1.0 ≡ [] = (let e = cut.first in cc) in
        let same : rest ≡ next.1.0 = append_cancel_left (codes "end") rest next.1.0 (cut.joined ∙ ap (λ t. t ++ next.1.0) first) in
        false≢true (sym more ∙ words_none rest (ap words same ∙ none))

-- the bytes, of which the words from the first on are those of `text`
pub is_end_text : (bytes text rest : List ℕ) → words text ≡ words bytes → text ≡ codes "end" ++ rest → is_end bytes ≡ list_all is_blank rest
is_end_text bytes text rest same begins = ap (λ ws. pointwise bytes_eq ws (codes "end" ∷ [])) (sym same ∙ ap words begins) ∙ end_first rest

-- a text that begins with a word, but not with `end`
pub not_end_text : (bytes text : List ℕ) → words text ≡ words bytes → is_word_end text ≡ eqb (length text) 0 → ((rest : List ℕ) → text ≡ codes "end" ++ rest → ⊥) → is_end bytes ≡ false
not_end_text bytes [] same begins apart = ap (λ ws. pointwise bytes_eq ws (codes "end" ∷ [])) (sym same)
not_end_text bytes (b ∷ bs) same begins apart = false_from_ne_true _ (λ h.
    let next = words_cut b bs (begins ∙ ne_eqb (length (b ∷ bs)) 0 (λ e. omega arith)) in
    let cut = next.1.1 in
    let all = is_end-true bytes h in
    let first : next.0 ≡ codes "end" = (let e = cut.first in cc) in
    apart next.1.0 (cut.joined ∙ ap (λ t. t ++ next.1.0) first))

-- a line that begins with another word's first byte is no end line
pub other_line : (b : ℕ) (bs : List ℕ) → is_line_end (b ∷ bs) ≡ false → is_blank b ≡ false → eqb b 101 ≡ false → is_end_line (b ∷ bs) ≡ false
other_line b bs goes_on solid other =
    let text = b ∷ without_end bs in
    let begins : is_word_end text ≡ eqb (length text) 0 = solid ∙ sym (ne_eqb (length text) 0 (λ e. omega arith)) in
    ap is_end (cond-false _ _ _ goes_on)
    ∙ not_end_text text text refl begins (λ rest e. let first : b ≡ 101 = cc in false≢true (sym other ∙ eq-eqb b 101 first))
