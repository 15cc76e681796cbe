-- For how many bytes a part goes on at least.
use Rattle.std.proofs.Common.{◌≡◌, ℕ, ◌+◌, ◌<◌, ◌≤◌, true, false, inl, inr, List, [], ◌∷◌, ◌++◌, length, take, drop, get_or, Some, option_map, eqb, sym, ◌∙◌, ap, subst, append_assoc, zero-le, arith}
use Rattle.std.specs.Prelude.{bytes_eq, codes}
use Rattle.std.specs.List.{concat, list_any}
use Rattle.std.proofs.lemmas.Bool.{cases_Bool, cond-true, cond-false, or_parts, or_from, not-true, false_from_ne_true, false≢true, eq-eqb}
use Rattle.std.proofs.lemmas.Slice.Eq.{bytes_eq-Decides}
use Rattle.std.proofs.lemmas.List.{length-append, length-take-le, take-append-drop, take_all, take_more}
use Rattle.std.proofs.lemmas.Option.{none-some, same_Some}
use Rattle.nego_base.specs.Lines.{lines, words, is_newline, is_blank, is_line_end, without_end}
use Rattle.nego_base.proofs.LineLaws.{HasNoNewline, lines_begin, words_cut}
use Rattle.nego_base.proofs.OptionLaws.{map_some}
use Rattle.nego_io.specs.Part.{is_end_line, up_to_end, part_of}
use Rattle.nego_io.specs.Front.{IsOpen, IsClosed, Reaches, begins_other}
use Rattle.nego_io.proofs.EndLaws.{is_end-true, other_line}
use Rattle.nego_io.proofs.FrontLaws.{part_beyond, part_beyond_by}

-- bytes whose only word is `end` have at least its three
word_long : (bytes : List ℕ) → words bytes ≡ codes "end" ∷ [] → 3 ≤ length bytes
word_long [] h = absurd cc
word_long (b ∷ bs) h = elim (cases_Bool (is_blank b)) [
  | inl blank ↦ let more = word_long bs (sym (cond-true _ _ _ blank) ∙ h) in omega arith
  | inr solid ↦
      let next = words_cut b bs solid in
      let cut = next.1.1 in
      let first : next.0 ≡ codes "end" = (let e = cut.first in cc) in
      let three : length next.0 ≡ 3 = ap length first in
      omega (arith, ap length cut.joined, length-append next.0 next.1.0, three)
]

without_end_short : (line : List ℕ) → length (without_end line) ≤ length line
without_end_short [] = zero-le
without_end_short (b ∷ bs) = elim (cases_Bool (is_line_end (b ∷ bs))) [
  | inl ends ↦ omega (arith, ap length (cond-true _ [] (b ∷ without_end bs) ends))
  | inr goes_on ↦ omega (arith, ap length (cond-false _ [] (b ∷ without_end bs) goes_on), without_end_short bs)
]

-- an end line has at least the three bytes of its word
end_line_long : (line : List ℕ) → is_end_line line ≡ true → 3 ≤ length line
end_line_long line ends =
    let word = word_long (without_end line) (is_end-true (without_end line) ends) in
    omega (arith, word, without_end_short line)

-- and so have lines up to an end line
found_long : (ls found : List (List ℕ)) → up_to_end ls ≡ Some found → 3 ≤ length (concat found)
found_long [] found h = absurd (none-some found h)
found_long (line ∷ rest) found h = elim (cases_Bool (is_end_line line)) [
  | inl ends ↦
      let last = same_Some (line ∷ []) found (sym (cond-true _ (Some (line ∷ [])) (option_map (λ more. line ∷ more) (up_to_end rest)) ends) ∙ h) in
      let size : length (line ++ []) ≡ length (concat found) = ap (λ f. length (concat f)) last in
      omega (arith, size, end_line_long line ends, length-append line [])
  | inr goes_on ↦
      let e = sym (cond-false _ (Some (line ∷ [])) (option_map (λ more. line ∷ more) (up_to_end rest)) goes_on) ∙ h in
      let more = map_some (λ more. line ∷ more) (up_to_end rest) found e in
      let size : length (line ++ concat more.0) ≡ length (concat found) = ap (λ f. length (concat f)) more.2 in
      omega (arith, size, found_long rest more.0 more.1, length-append line (concat more.0))
]

-- bytes that begin otherwise are others
differs : (b c : ℕ) (bs cs : List ℕ) → eqb b c ≡ false → bytes_eq (b ∷ bs) (c ∷ cs) ≡ false
differs b c bs cs other = false_from_ne_true _ (λ e.
    let same = (bytes_eq-Decides (b ∷ bs) (c ∷ cs)).0 e in
    let first : b ≡ c = cc in
    false≢true (sym other ∙ eq-eqb b c first))

-- a line that begins with such a byte is no end line
other_byte : (b : ℕ) (bs : List ℕ) → begins_other b ≡ true → is_end_line (b ∷ bs) ≡ false
other_byte b bs other =
    let parts = or_parts (is_blank b) _ (not-true _ other) in
    let next = or_parts (is_newline b) _ parts.1 in
    let last = or_parts (eqb b 13) (eqb b 101) next.1 in
    let goes_on : is_line_end (b ∷ bs) ≡ false = or_from _ _ (differs b 10 bs [] next.0) (differs b 13 bs (10 ∷ []) last.0) in
    other_line b bs goes_on parts.0 last.1

-- behind a line that is no end line, a newline and the word `end` are still to come
other_long : (b : ℕ) (bs : List ℕ) (c : ℕ) (rest part : List ℕ) → HasNoNewline (b ∷ bs) → begins_other b ≡ true → part_of ((b ∷ bs) ++ c ∷ rest) ≡ Some part → length (b ∷ bs) + 4 ≤ length part
unfolding part_of
other_long b bs c rest part free other h =
    let begin = lines_begin (b ∷ bs) c rest free in
    let more = bs ++ c ∷ begin.0 in
    let others = begin.1.0 in
    let found = map_some concat (up_to_end (lines ((b ∷ bs) ++ c ∷ rest))) part h in
    let all : up_to_end ((b ∷ more) ∷ others) ≡ Some found.0 = sym (ap up_to_end begin.1.1) ∙ found.1 in
    let goes_on = cond-false _ (Some ((b ∷ more) ∷ [])) (option_map (λ ls. (b ∷ more) ∷ ls) (up_to_end others)) (other_byte b more other) in
    let next = map_some (λ ls. (b ∷ more) ∷ ls) (up_to_end others) found.0 (sym goes_on ∙ all) in
    let size : length part ≡ length ((b ∷ more) ++ concat next.0) = ap length (sym found.2 ∙ ap concat (sym next.2)) in
    omega (arith, size, length-append (b ∷ more) (concat next.0), length-append bs (c ∷ begin.0), found_long others next.0 next.1)

-- the part goes on for one byte where any more come
pub reaches_one : (bytes : List ℕ) (start count : ℕ) → IsOpen bytes start count → Reaches bytes 1
reaches_one bytes start count before c rest part h = part_beyond bytes start count c rest part before h

-- the present line begins as no end line does
pub reaches_more : (bytes line : List ℕ) (start count : ℕ) → IsOpen bytes start count → line ≡ drop start bytes → 1 ≤ length line → begins_other (get_or line 0 0) ≡ true → Reaches bytes 4
reaches_more bytes [] start count before is filled other = absurd (omega arith)
reaches_more bytes (b ∷ bs) start count before is filled other = λ c rest part h.
    let free : HasNoNewline (b ∷ bs) = ap (list_any is_newline) is ∙ before.unfinished in
    let IsLong : List ℕ → Type 0 = λ line. (found : List ℕ) → part_of (line ++ c ∷ rest) ≡ Some found → length line + 4 ≤ length found in
    part_beyond_by bytes start count c rest part 4 before (subst IsLong is (λ found e. other_long b bs c rest found free other e)) h

-- fewer bytes are within reach, too
pub reaches_less : (bytes : List ℕ) (few n : ℕ) → few ≤ n → Reaches bytes n → Reaches bytes few
reaches_less bytes few n less reach c rest part h = omega (arith, less, reach c rest part h)

-- a part that ends within the bytes that were within reach ends with the last of them
pub closed_last : (bytes next before new : List ℕ) (i : ℕ) → Reaches bytes (length next) → i < length next → before ≡ bytes ++ take i next → new ≡ before ++ get_or next i 0 ∷ [] → IsClosed new → new ≡ bytes ++ next
closed_last bytes [] before new i reach within begins is closed = absurd (omega arith)
closed_last bytes (b ∷ bs) before new i reach within begins is closed =
    let next = b ∷ bs in
    let front = take (i + 1) next in
    let rest = drop (i + 1) next in
    let put : new ≡ bytes ++ front = is ∙ (ap (λ t. t ++ get_or next i 0 ∷ []) begins ∙ (append_assoc bytes (take i next) (get_or next i 0 ∷ []) ∙ ap (λ t. bytes ++ t) (sym (take_more next i 0 within)))) in
    let all : new ++ rest ≡ bytes ++ next = ap (λ t. t ++ rest) put ∙ (append_assoc bytes front rest ∙ ap (λ t. bytes ++ t) (take-append-drop (i + 1) next)) in
    let longer : length bytes + length next ≤ length new = reach b bs new (ap part_of (sym all) ∙ closed rest) in
    let size : length front ≡ i + 1 = length-take-le (i + 1) next (omega arith) in
    put ∙ ap (λ t. bytes ++ t) (take_all (i + 1) next (omega (arith, longer, ap length put, length-append bytes front, size)))
