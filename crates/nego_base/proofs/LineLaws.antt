-- Laws of the lines and words of a text.
use Rattle.std.proofs.Common.{◌≡◌, ℕ, ◌+◌, ◌<◌, true, false, ◌⊎◌, inl, inr, List, [], ◌∷◌, ◌++◌, length, refl, sym, ◌∙◌, ap, arith}
use Rattle.std.specs.List.{concat, list_any, list_all, onto_first}
use Rattle.std.proofs.lemmas.Bool.{cases_Bool, or_parts, or_from, or_cases, and_parts, and_from, cond-true, cond-false, eqb-true, false_from_ne_true}
use Rattle.std.proofs.lemmas.List.{append-nil, length-append, same_from_push}
use Rattle.std.proofs.lemmas.Slice.Eq.{bytes_eq-Decides}
use Rattle.nego_base.specs.Lines.{lines, words, is_newline, is_blank, is_word_end, is_line_end, without_end}

-- no newline stands in the bytes
abbrev pub HasNoNewline : List ℕ → Type 0
HasNoNewline bytes = list_any is_newline bytes ≡ false

-- the first line of a text that goes on with `rest`: it ends with its only newline, or it ends with the text
abbrev pub IsLineBefore : List ℕ → List ℕ → Type 0
IsLineBefore line rest =
    ((body : List ℕ) × HasNoNewline body × (line ≡ body ++ 10 ∷ [])) ⊎ (HasNoNewline line × (rest ≡ []))

concat-onto_first : (b : ℕ) (xs : List (List ℕ)) → concat (onto_first b xs) ≡ b ∷ concat xs
concat-onto_first b [] = refl
concat-onto_first b (x ∷ xs) = refl

-- the lines, joined, are the text
pub concat-lines : (text : List ℕ) → concat (lines text) ≡ text
concat-lines [] = refl
concat-lines (b ∷ bs) = elim (cases_Bool (is_newline b)) [
  | inl h ↦ ap concat (cond-true _ _ _ h) ∙ ap (λ t. b ∷ t) (concat-lines bs)
  | inr h ↦ ap concat (cond-false _ _ _ h) ∙ (concat-onto_first b (lines bs) ∙ ap (λ t. b ∷ t) (concat-lines bs))
]

begins : (b : ℕ) (xs : List (List ℕ)) → (more : List ℕ) × ((others : List (List ℕ)) × (onto_first b xs ≡ (b ∷ more) ∷ others))
begins b [] = ([], ([], refl))
begins b (x ∷ xs) = (x, (xs, refl))

-- a line with its newline comes before the lines of what follows
pub lines_whole : (body rest : List ℕ) → HasNoNewline body → lines ((body ++ 10 ∷ []) ++ rest) ≡ (body ++ 10 ∷ []) ∷ lines rest
lines_whole [] rest h = refl
lines_whole (b ∷ bs) rest h =
    let parts = or_parts (is_newline b) (list_any is_newline bs) h in
    cond-false _ _ _ parts.0 ∙ ap (onto_first b) (lines_whole bs rest parts.1)

-- a text that begins with bytes without a newline, and goes on, begins with a line that has them and the next
pub lines_begin : (bytes : List ℕ) (c : ℕ) (rest : List ℕ) → HasNoNewline bytes →
    (more : List ℕ) × ((others : List (List ℕ)) × (lines (bytes ++ c ∷ rest) ≡ (bytes ++ c ∷ more) ∷ others))
lines_begin [] c rest free = elim (cases_Bool (is_newline c)) [
  | inl h ↦ ([], (lines rest, cond-true _ _ _ h))
  | inr h ↦ let first = begins c (lines rest) in (first.0, (first.1.0, cond-false _ _ _ h ∙ first.1.1))
]
lines_begin (b ∷ bs) c rest free =
    let parts = or_parts (is_newline b) (list_any is_newline bs) free in
    let next = lines_begin bs c rest parts.1 in
    (next.0, (next.1.0, cond-false _ _ _ parts.0 ∙ ap (onto_first b) next.1.1))

-- a text without a newline is one line
pub lines_last : (b : ℕ) (bs : List ℕ) → HasNoNewline (b ∷ bs) → lines (b ∷ bs) ≡ (b ∷ bs) ∷ []
lines_last b [] h = cond-false _ _ _ (or_parts (is_newline b) false h).0
lines_last b (c ∷ cs) h =
    let parts = or_parts (is_newline b) (list_any is_newline (c ∷ cs)) h in
    cond-false _ _ _ parts.0 ∙ ap (onto_first b) (lines_last c cs parts.1)

-- the list isn't empty
abbrev pub IsFilled : List ℕ → Type 0
IsFilled xs = (x : ℕ) × ((more : List ℕ) × (xs ≡ x ∷ more))

-- a text that isn't empty is its first line and the rest
pub record IsCut (text line rest : List ℕ) : Type 0 where
  pub joined : text ≡ line ++ rest
  pub first : lines text ≡ line ∷ lines rest
  pub is_line : IsLineBefore line rest
  pub filled : IsFilled line

cut_more : (b c : ℕ) (cs line rest : List ℕ) → is_newline b ≡ false → IsCut (c ∷ cs) line rest → IsCut (b ∷ c ∷ cs) (b ∷ line) rest
cut_more b c cs line rest h cut = record {
  joined = ap (λ t. b ∷ t) cut.joined;
  first = cond-false _ _ _ h ∙ ap (onto_first b) cut.first;
  is_line = elim cut.is_line [
    | inl whole ↦ inl (b ∷ whole.0, or_from _ _ h whole.1, ap (λ t. b ∷ t) whole.2)
    | inr last ↦ inr (or_from _ _ h last.0, last.1)
  ];
  filled = (b, (line, refl));
}

pub lines_cut : (b : ℕ) (bs : List ℕ) → (line : List ℕ) × ((rest : List ℕ) × IsCut (b ∷ bs) line rest)
lines_cut b [] = elim (cases_Bool (is_newline b)) [
  | inl h ↦ (b ∷ [], ([], record { joined = refl; first = cond-true _ _ _ h; is_line = inl ([], refl, ap (λ n. n ∷ []) (eqb-true b 10 h)); filled = (b, ([], refl)) }))
  | inr h ↦ (b ∷ [], ([], record { joined = refl; first = cond-false _ _ _ h; is_line = inr (or_from _ _ h refl, refl); filled = (b, ([], refl)) }))
]
lines_cut b (c ∷ cs) =
    let next = lines_cut c cs in
    elim (cases_Bool (is_newline b)) [
      | inl h ↦ (b ∷ [], (c ∷ cs, record { joined = refl; first = cond-true _ _ _ h; is_line = inl ([], refl, ap (λ n. n ∷ []) (eqb-true b 10 h)); filled = (b, ([], refl)) }))
      | inr h ↦ (b ∷ next.0, (next.1.0, cut_more b c cs next.0 next.1.0 h next.1.1))
    ]

nil_left : (xs ys : List (List ℕ)) → xs ++ ys ≡ [] → xs ≡ []
nil_left [] ys h = refl
nil_left (x ∷ xs) ys h = cc

last_before : (line : List ℕ) (xs : List (List ℕ)) → IsFilled line → HasNoNewline line → xs ≡ [] → lines (line ++ concat xs) ≡ line ∷ xs
last_before [] xs filled free none = (let e = filled.1.1 in cc)
last_before (b ∷ bs) xs filled free none = rw none (ap lines (append-nil (b ∷ bs)) ∙ lines_last b bs free)

-- the first line, before lines of the rest
line_before : (line rest : List ℕ) (xs back : List (List ℕ)) → IsFilled line → IsLineBefore line rest → lines rest ≡ xs ++ back → lines (concat xs) ≡ xs → lines (line ++ concat xs) ≡ line ∷ xs
line_before line rest xs back filled is_line more below = elim is_line [
  | inl whole ↦ rw whole.2 (lines_whole whole.0 (concat xs) whole.1 ∙ ap (λ ls. (whole.0 ++ 10 ∷ []) ∷ ls) below)
  | inr last ↦ last_before line xs filled last.0 (nil_left xs back (sym more ∙ ap lines last.1))
]

-- the lines of a text, parted anywhere, are the lines of its two parts
pub whole_lines : (text : List ℕ) (front back : List (List ℕ)) → lines text ≡ front ++ back → (lines (concat front) ≡ front) × (lines (concat back) ≡ back)
whole_lines text [] back h = (refl, ap lines (sym (ap concat h) ∙ concat-lines text) ∙ h)
whole_lines [] (x ∷ xs) back h = cc
whole_lines (b ∷ bs) (x ∷ xs) back h =
    let next = lines_cut b bs in
    let cut = next.1.1 in
    let same : x ≡ next.0 = (let e = cut.first in cc) in
    let more : lines next.1.0 ≡ xs ++ back = (let e = cut.first in cc) in
    let rest = whole_lines next.1.0 xs back more in
    (rw same (line_before next.0 next.1.0 xs back cut.filled cut.is_line more rest.0), rest.1)

lines_filled : (bs : List ℕ) → (line : List ℕ) × ((more : List (List ℕ)) × (lines (bs ++ 10 ∷ []) ≡ line ∷ more))
lines_filled [] = (10 ∷ [], ([], refl))
lines_filled (c ∷ cs) = let cut = lines_cut c (cs ++ 10 ∷ []) in (cut.0, (lines cut.1.0, cut.1.1.first))

line_goes_on : (b : ℕ) (bs : List ℕ) (more : List (List ℕ)) → onto_first b (lines (bs ++ 10 ∷ []) ++ more) ≡ onto_first b (lines (bs ++ 10 ∷ [])) ++ more
line_goes_on b bs more =
    let filled = lines_filled bs in
    ap (λ ls. onto_first b (ls ++ more)) filled.1.1 ∙ sym (ap (λ ls. onto_first b ls ++ more) filled.1.1)

-- behind a newline, the lines of a text are those before and those behind
pub lines_append : (body rest : List ℕ) → lines ((body ++ 10 ∷ []) ++ rest) ≡ lines (body ++ 10 ∷ []) ++ lines rest
lines_append [] rest = refl
lines_append (b ∷ bs) rest =
    let next : lines ((bs ++ 10 ∷ []) ++ rest) ≡ lines (bs ++ 10 ∷ []) ++ lines rest = lines_append bs rest in
    elim (cases_Bool (is_newline b)) [
      | inl h ↦ cond-true _ _ _ h ∙ (ap (λ ls. (b ∷ []) ∷ ls) next ∙ sym (ap (λ ls. ls ++ lines rest) (cond-true _ _ _ h)))
      | inr h ↦ cond-false _ _ _ h ∙ (ap (onto_first b) next ∙ (line_goes_on b bs (lines rest) ∙ sym (ap (λ ls. ls ++ lines rest) (cond-false _ _ _ h))))
    ]

-- no blank stands in the bytes
abbrev pub HasNoBlank : List ℕ → Type 0
HasNoBlank bytes = list_any is_blank bytes ≡ false

-- blanks at the front change no word
pub words_blank : (blanks rest : List ℕ) → list_all is_blank blanks ≡ true → words (blanks ++ rest) ≡ words rest
words_blank [] rest h = refl
words_blank (b ∷ bs) rest h =
    let parts = and_parts (is_blank b) (list_all is_blank bs) h in
    cond-true _ _ _ parts.0 ∙ words_blank bs rest parts.1

-- bytes without a blank are one word, where no word goes on behind them
pub words_word : (b : ℕ) (bs rest : List ℕ) → HasNoBlank (b ∷ bs) → is_word_end rest ≡ true → words ((b ∷ bs) ++ rest) ≡ (b ∷ bs) ∷ words rest
words_word b [] rest h e = cond-false _ _ _ (or_parts (is_blank b) false h).0 ∙ cond-true _ _ _ e
words_word b (c ∷ cs) rest h e =
    let parts = or_parts (is_blank b) (list_any is_blank (c ∷ cs)) h in
    let next = or_parts (is_blank c) (list_any is_blank cs) parts.1 in
    cond-false _ _ _ parts.0 ∙ (cond-false _ _ _ next.0 ∙ ap (onto_first b) (words_word c cs rest parts.1 e))

-- a text that begins with no blank is its first word and the rest
pub record IsWordCut (text word rest : List ℕ) : Type 0 where
  pub joined : text ≡ word ++ rest
  pub first : words text ≡ word ∷ words rest
  pub ends : is_word_end rest ≡ true
  pub is_word : HasNoBlank word

pub words_cut : (b : ℕ) (bs : List ℕ) → is_blank b ≡ false → (word : List ℕ) × ((rest : List ℕ) × IsWordCut (b ∷ bs) word rest)
words_cut b [] h = (b ∷ [], ([], record { joined = refl; first = cond-false _ _ _ h; ends = refl; is_word = or_from _ _ h refl }))
words_cut b (c ∷ cs) h = elim (cases_Bool (is_blank c)) [
  | inl blank ↦ (b ∷ [], (c ∷ cs, record { joined = refl; first = cond-false _ _ _ h ∙ cond-true _ _ _ blank; ends = blank; is_word = or_from _ _ h refl }))
  | inr no_blank ↦
      let next = words_cut c cs no_blank in
      let cut = next.1.1 in (
        b ∷ next.0,
        (
          next.1.0,
          record {
            joined = ap (λ t. b ∷ t) cut.joined;
            first = cond-false _ _ _ h ∙ (cond-false _ _ _ no_blank ∙ ap (onto_first b) cut.first);
            ends = cut.ends;
            is_word = or_from _ _ h cut.is_word;
          },
        ),
      )
]

-- a text with no word is blank
pub words_none : (text : List ℕ) → words text ≡ [] → list_all is_blank text ≡ true
words_none [] h = refl
words_none (b ∷ bs) h = elim (cases_Bool (is_blank b)) [
  | inl blank ↦ and_from _ _ blank (words_none bs (sym (cond-true _ _ _ blank) ∙ h))
  | inr no_blank ↦ let cut = words_cut b bs no_blank in let e = cut.1.1.first in cc
]

onto_first_append : (b c : ℕ) (cs : List ℕ) (more : List (List ℕ)) → is_blank c ≡ false → onto_first b (words (c ∷ cs) ++ more) ≡ onto_first b (words (c ∷ cs)) ++ more
onto_first_append b c cs more goes_on =
    let cut = (words_cut c cs goes_on).1.1 in
    ap (λ ws. onto_first b (ws ++ more)) cut.first ∙ sym (ap (λ ws. onto_first b ws ++ more) cut.first)

-- where no word goes on, the words of a text are those before and those behind
pub words_append : (front back : List ℕ) → is_word_end back ≡ true → words (front ++ back) ≡ words front ++ words back
words_append [] back e = refl
words_append (b ∷ []) back e = elim (cases_Bool (is_blank b)) [
  | inl blank ↦ cond-true _ _ _ blank ∙ sym (ap (λ ws. ws ++ words back) (cond-true _ _ _ blank))
  | inr no_blank ↦ cond-false _ _ _ no_blank ∙ (cond-true _ _ _ e ∙ sym (ap (λ ws. ws ++ words back) (cond-false _ _ _ no_blank)))
]
words_append (b ∷ c ∷ cs) back e =
    let next : words ((c ∷ cs) ++ back) ≡ words (c ∷ cs) ++ words back = words_append (c ∷ cs) back e in
    elim (cases_Bool (is_blank b)) [
      | inl blank ↦ cond-true _ _ _ blank ∙ (next ∙ sym (ap (λ ws. ws ++ words back) (cond-true _ _ _ blank)))
      | inr no_blank ↦ elim (cases_Bool (is_blank c)) [
        | inl blank ↦ cond-false _ _ _ no_blank ∙ (cond-true _ _ _ blank ∙ (ap (λ ws. (b ∷ []) ∷ ws) next ∙ sym (ap (λ ws. ws ++ words back) (cond-false _ _ _ no_blank ∙ cond-true _ _ _ blank))))
        | inr goes_on ↦ cond-false _ _ _ no_blank ∙ (cond-false _ _ _ goes_on ∙ (ap (onto_first b) next ∙ (onto_first_append b c cs (words back) goes_on ∙ sym (ap (λ ws. ws ++ words back) (cond-false _ _ _ no_blank ∙ cond-false _ _ _ goes_on)))))
      ]
    ]

-- what a line end is
line_end_is : (bs : List ℕ) → is_line_end bs ≡ true → (bs ≡ 10 ∷ []) ⊎ (bs ≡ 13 ∷ 10 ∷ [])
line_end_is bs h = elim (or_cases _ _ h) [
  | inl e ↦ inl ((bytes_eq-Decides bs (10 ∷ [])).0 e)
  | inr e ↦ inr ((bytes_eq-Decides bs (13 ∷ 10 ∷ [])).0 e)
]

long_line : (bs : List ℕ) → 2 < length bs → is_line_end bs ≡ false
long_line bs h = false_from_ne_true _ (λ ends. elim (line_end_is bs ends) [
  | inl e ↦ let l : length bs ≡ 1 = ap length e in omega arith
  | inr e ↦ let l : length bs ≡ 2 = ap length e in omega arith
])

-- a line loses its newline and the carriage return before it
pub without_end_both : (body : List ℕ) → without_end ((body ++ 13 ∷ []) ++ 10 ∷ []) ≡ body
without_end_both [] = refl
without_end_both (c ∷ cs) =
    let all = (cs ++ 13 ∷ []) ++ 10 ∷ [] in
    let size : length all ≡ length cs + 2 = omega (arith, length-append cs (13 ∷ []), length-append (cs ++ 13 ∷ []) (10 ∷ [])) in
    let no_end : is_line_end (c ∷ all) ≡ false = long_line (c ∷ all) (omega arith) in
    cond-false _ _ _ no_end ∙ ap (λ t. c ∷ t) (without_end_both cs)

-- and its newline alone where no carriage return stands before it
pub without_end_newline : (body : List ℕ) → ((front : List ℕ) → body ≡ front ++ 13 ∷ [] → ⊥) → without_end (body ++ 10 ∷ []) ≡ body
without_end_newline [] none = refl
without_end_newline (c ∷ cs) none =
    let all = c ∷ (cs ++ 10 ∷ []) in
    let no_end : is_line_end all ≡ false = false_from_ne_true _ (λ ends. elim (line_end_is all ends) [
      | inl e ↦ let l : length all ≡ 1 = ap length e in omega (arith, length-append cs (10 ∷ []))
      | inr e ↦ none [] (same_from_push (c ∷ cs) (13 ∷ []) 10 10 e).0
    ]) in
    cond-false _ _ _ no_end ∙ ap (λ t. c ∷ t) (without_end_newline cs (λ front e. none (c ∷ front) (ap (λ t. c ∷ t) e)))

-- a line without a newline at its end stays
pub without_end_none : (line : List ℕ) → ((front : List ℕ) → line ≡ front ++ 10 ∷ [] → ⊥) → without_end line ≡ line
without_end_none [] none = refl
without_end_none (c ∷ cs) none =
    let no_end : is_line_end (c ∷ cs) ≡ false = false_from_ne_true _ (λ ends. elim (line_end_is (c ∷ cs) ends) [
      | inl e ↦ none [] e
      | inr e ↦ none (13 ∷ []) e
    ]) in
    cond-false _ _ _ no_end ∙ ap (λ t. c ∷ t) (without_end_none cs (λ front e. none (c ∷ front) (ap (λ t. c ∷ t) e)))
