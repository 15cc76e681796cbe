-- The first end line of some lines, and what an input holds by it.
use Rattle.std.proofs.Common.{◌≡◌, ℕ, ◌+◌, ◌<◌, ◌≤◌, true, false, leb, inl, inr, List, [], ◌∷◌, ◌++◌, length, drop, Option, Some, None, option_map, refl, sym, ◌∙◌, ap, append_assoc, arith}
use Rattle.std.specs.List.{concat, list_any}
use Rattle.std.specs.Option.{option_map_or}
use Rattle.std.proofs.lemmas.Bool.{cases_Bool, false≢true, or_parts, or_from, or_left, or_right, cond-true, cond-false, leb-true, leb-false, le-leb, lt-leb}
use Rattle.std.proofs.lemmas.List.{append-nil, length-append, drop_at}
use Rattle.std.proofs.lemmas.List.Folds.{concat-append, list_any-append}
use Rattle.nego_base.specs.Lines.{lines}
use Rattle.nego_base.proofs.LineLaws.{concat-lines, lines_append, whole_lines}
use Rattle.nego_base.proofs.OptionLaws.{map_some, map_none}
use Rattle.nego_io.specs.Part.{is_end_line, up_to_end, part_of, newlines, reading, ended, unended, Whole, PastLimit, Unended}
use Rattle.nego_io.specs.Laws.{IsPart, IsPastLimit, IsUnended, ClosedPartsStand, PartsAreFound, PastLimitIsFound, UnendedIsFound}
use Rattle.nego_io.proofs.ReadingLaws.{reading_part}

-- the lines that were found begin these; their last is an end line, and no other is
record IsFound (ls found : List (List ℕ)) : Type 0 where
  front : List (List ℕ)
  last : List ℕ
  back : List (List ℕ)
  found_is : found ≡ front ++ last ∷ []
  all : ls ≡ found ++ back
  none : list_any is_end_line front ≡ false
  ends : is_end_line last ≡ true

up_to_end-true : (line : List ℕ) (rest : List (List ℕ)) → is_end_line line ≡ true → up_to_end (line ∷ rest) ≡ Some (line ∷ [])
up_to_end-true line rest ends = cond-true _ _ _ ends

up_to_end-false : (line : List ℕ) (rest : List (List ℕ)) → is_end_line line ≡ false → up_to_end (line ∷ rest) ≡ option_map (λ more. line ∷ more) (up_to_end rest)
up_to_end-false line rest goes_on = cond-false _ _ _ goes_on

found_behind : (line : List ℕ) (rest found more : List (List ℕ)) → is_end_line line ≡ false → line ∷ more ≡ found → IsFound rest more → IsFound (line ∷ rest) found
found_behind line rest found more goes_on same next = record {
  front = line ∷ next.front;
  last = next.last;
  back = next.back;
  found_is = sym same ∙ ap (λ t. line ∷ t) next.found_is;
  all = ap (λ t. line ∷ t) next.all ∙ ap (λ t. t ++ next.back) same;
  none = or_from _ _ goes_on next.none;
  ends = next.ends;
}

found_is : (ls found : List (List ℕ)) → up_to_end ls ≡ Some found → IsFound ls found
found_is [] found h = cc
found_is (line ∷ rest) found h = elim (cases_Bool (is_end_line line)) [
  | inl ends ↦
      let same : line ∷ [] ≡ found = (let e = sym (up_to_end-true line rest ends) ∙ h in cc) in
      record { front = []; last = line; back = rest; found_is = sym same; all = ap (λ t. t ++ rest) same; none = refl; ends = ends }
  | inr goes_on ↦
      let next = map_some (λ more. line ∷ more) (up_to_end rest) found (sym (up_to_end-false line rest goes_on) ∙ h) in
      found_behind line rest found next.0 goes_on next.2 (found_is rest next.0 next.1)
]

none_is : (ls : List (List ℕ)) → up_to_end ls ≡ None → list_any is_end_line ls ≡ false
none_is [] h = refl
none_is (line ∷ rest) h = elim (cases_Bool (is_end_line line)) [
  | inl ends ↦ (let e = sym (up_to_end-true line rest ends) ∙ h in cc)
  | inr goes_on ↦ or_from _ _ goes_on (none_is rest (map_none (λ more. line ∷ more) (up_to_end rest) (sym (up_to_end-false line rest goes_on) ∙ h)))
]

found_of : (front : List (List ℕ)) (last : List ℕ) (back : List (List ℕ)) → list_any is_end_line front ≡ false → is_end_line last ≡ true → up_to_end ((front ++ last ∷ []) ++ back) ≡ Some (front ++ last ∷ [])
found_of [] last back none ends = up_to_end-true last back ends
found_of (line ∷ more) last back none ends =
    let parts = or_parts (is_end_line line) (list_any is_end_line more) none in
    up_to_end-false line ((more ++ last ∷ []) ++ back) parts.0 ∙ ap (option_map (λ found. line ∷ found)) (found_of more last back parts.1 ends)

none_of : (ls : List (List ℕ)) → list_any is_end_line ls ≡ false → up_to_end ls ≡ None
none_of [] none = refl
none_of (line ∷ rest) none =
    let parts = or_parts (is_end_line line) (list_any is_end_line rest) none in
    up_to_end-false line rest parts.0 ∙ ap (option_map (λ found. line ∷ found)) (none_of rest parts.1)

-- the lines up to the first end line are no longer than those up to another
least : (front : List (List ℕ)) (line : List ℕ) (back found : List (List ℕ)) → is_end_line line ≡ true → up_to_end ((front ++ line ∷ []) ++ back) ≡ Some found → length (concat found) ≤ length (concat (front ++ line ∷ []))
least [] line back found ends h =
    let same : line ∷ [] ≡ found = (let e = sym (up_to_end-true line back ends) ∙ h in cc) in
    let size = ap (λ t. length (concat t)) same in
    omega (arith, size)
least (first ∷ more) line back found ends h = elim (cases_Bool (is_end_line first)) [
  | inl here ↦
      let same : first ∷ [] ≡ found = (let e = sym (up_to_end-true first ((more ++ line ∷ []) ++ back) here) ∙ h in cc) in
      let size : length (concat found) ≡ length (first ++ []) = ap (λ t. length (concat t)) (sym same) in
      omega (arith, size, length-append first [], length-append first (concat (more ++ line ∷ [])))
  | inr goes_on ↦
      let rest = (more ++ line ∷ []) ++ back in
      let next = map_some (λ t. first ∷ t) (up_to_end rest) found (sym (up_to_end-false first rest goes_on) ∙ h) in
      let size : length (concat found) ≡ length (first ++ concat next.0) = ap (λ t. length (concat t)) (sym next.2) in
      omega (arith, size, length-append first (concat next.0), length-append first (concat (more ++ line ∷ [])), least more line back next.0 ends next.1)
]

-- the part of an input whose lines hold such lines
part_is : (input part : List ℕ) → part_of input ≡ Some part → (found : List (List ℕ)) × ((concat found ≡ part) × IsFound (lines input) found × (up_to_end (lines input) ≡ Some found))
unfolding part_of
part_is input part h =
    let found = map_some concat (up_to_end (lines input)) part h in
    (found.0, (found.2, found_is (lines input) found.0 found.1, found.1))

part_none : (input : List ℕ) → part_of input ≡ None → list_any is_end_line (lines input) ≡ false
unfolding part_of
part_none input h = none_is (lines input) (map_none concat (up_to_end (lines input)) h)

part_from : (input : List ℕ) (found : List (List ℕ)) → up_to_end (lines input) ≡ Some found → part_of input ≡ Some (concat found)
unfolding part_of
part_from input found h = ap (option_map concat) h

none_from : (input : List ℕ) → list_any is_end_line (lines input) ≡ false → part_of input ≡ None
unfolding part_of
none_from input h = ap (option_map concat) (none_of (lines input) h)

-- what is answered of an input, by its part
answered : (limit : ℕ) (input : List ℕ) (o : Option (List ℕ)) → part_of input ≡ o → reading limit input ≡ option_map_or (ended limit input) o (unended limit input)
unfolding reading
answered limit input o h = ap (λ p. option_map_or (ended limit input) p (unended limit input)) h

within_part : (limit : ℕ) (input found part left : List ℕ) → ended limit input found ≡ Whole part left → (found ≡ part) × (length found ≤ limit) × (drop (length found) input ≡ left)
within_part limit input found part left h = elim (cases_Bool (leb (length found) limit)) [
  | inl fits ↦ (let e = sym (cond-true _ (Whole found (drop (length found) input)) PastLimit fits) ∙ h in (cc, leb-true _ _ fits, cc))
  | inr long ↦ (let e = sym (cond-false _ (Whole found (drop (length found) input)) PastLimit long) ∙ h in cc)
]

past_part : (limit : ℕ) (input found : List ℕ) → ended limit input found ≡ PastLimit → limit < length found
past_part limit input found h = elim (cases_Bool (leb (length found) limit)) [
  | inl fits ↦ (let e = sym (cond-true _ (Whole found (drop (length found) input)) PastLimit fits) ∙ h in cc)
  | inr long ↦ leb-false _ _ long
]

no_line : (limit : ℕ) (input found : List ℕ) (line : ℕ) → ended limit input found ≡ Unended line → ⊥
no_line limit input found line h = elim (cases_Bool (leb (length found) limit)) [
  | inl fits ↦ (let e = sym (cond-true _ (Whole found (drop (length found) input)) PastLimit fits) ∙ h in cc)
  | inr long ↦ (let e = sym (cond-false _ (Whole found (drop (length found) input)) PastLimit long) ∙ h in cc)
]

no_part : (limit : ℕ) (input part left : List ℕ) → unended limit input ≡ Whole part left → ⊥
no_part limit input part left h = elim (cases_Bool (leb (length input) limit)) [
  | inl fits ↦ (let e = sym (cond-true _ (Unended (1 + newlines input)) PastLimit fits) ∙ h in cc)
  | inr long ↦ (let e = sym (cond-false _ (Unended (1 + newlines input)) PastLimit long) ∙ h in cc)
]

past_all : (limit : ℕ) (input : List ℕ) → unended limit input ≡ PastLimit → limit < length input
past_all limit input h = elim (cases_Bool (leb (length input) limit)) [
  | inl fits ↦ (let e = sym (cond-true _ (Unended (1 + newlines input)) PastLimit fits) ∙ h in cc)
  | inr long ↦ leb-false _ _ long
]

line_missing : (limit : ℕ) (input : List ℕ) (line : ℕ) → unended limit input ≡ Unended line → (length input ≤ limit) × (line ≡ 1 + newlines input)
line_missing limit input line h = elim (cases_Bool (leb (length input) limit)) [
  | inl fits ↦ (let e = sym (cond-true _ (Unended (1 + newlines input)) PastLimit fits) ∙ h in (leb-true _ _ fits, cc))
  | inr long ↦ (let e = sym (cond-false _ (Unended (1 + newlines input)) PastLimit long) ∙ h in cc)
]

-- an input is the part found in it, and its other lines
input_is : (input : List ℕ) (found : List (List ℕ)) (here : IsFound (lines input) found) → input ≡ concat found ++ concat here.back
input_is input found here = sym (concat-lines input) ∙ (ap concat here.all ∙ concat-append found here.back)

is_part : (limit : ℕ) (input part left : List ℕ) (found : List (List ℕ)) → concat found ≡ part → IsFound (lines input) found → length part ≤ limit → drop (length part) input ≡ left → IsPart limit input part left
is_part limit input part left found same here fits rest =
    let input_as : input ≡ part ++ concat here.back = input_is input found here ∙ ap (λ t. t ++ concat here.back) same in
    let left_as : left ≡ concat here.back = sym rest ∙ (ap (drop (length part)) input_as ∙ drop_at part (concat here.back) (length part) refl) in
    let both = whole_lines input found here.back here.all in
    let part_lines : lines part ≡ found = ap lines (sym same) ∙ both.0 in
    record {
      joined = input_as ∙ ap (λ t. part ++ t) (sym left_as);
      fits = fits;
      whole = here.all ∙ (ap (λ t. t ++ here.back) (sym part_lines) ∙ ap (λ t. lines part ++ t) (sym (ap lines left_as ∙ both.1)));
      ends = (here.front, (here.last, (part_lines ∙ here.found_is, here.none, here.ends)));
    }

whole_by : (limit : ℕ) (input part left : List ℕ) (o : Option (List ℕ)) → part_of input ≡ o → option_map_or (ended limit input) o (unended limit input) ≡ Whole part left → (part_of input ≡ Some part) × (length part ≤ limit) × (drop (length part) input ≡ left)
whole_by limit input part left None is h = absurd (no_part limit input part left h)
whole_by limit input part left (Some mine) is h =
    let within = within_part limit input mine part left h in
    (is ∙ ap Some within.0, omega (arith, within.1, ap length within.0), ap (λ p. drop (length p) input) (sym within.0) ∙ within.2)

-- the part that was read is the input's, and within the limit
pub whole_is : (limit : ℕ) (input part left : List ℕ) → reading limit input ≡ Whole part left → (part_of input ≡ Some part) × (length part ≤ limit) × (drop (length part) input ≡ left)
whole_is limit input part left h = whole_by limit input part left (part_of input) refl (sym (answered limit input (part_of input) refl) ∙ h)

is_part_of : (limit : ℕ) (input part left : List ℕ) → reading limit input ≡ Whole part left → IsPart limit input part left
is_part_of limit input part left h =
    let whole = whole_is limit input part left h in
    let found = part_is input part whole.0 in
    is_part limit input part left found.0 found.1.0 found.1.1 whole.1 whole.2

part_found : (limit : ℕ) (input part left : List ℕ) → IsPart limit input part left → reading limit input ≡ Whole part left
part_found limit input part left is =
    let front = is.ends.0 in
    let last = is.ends.1.0 in
    let ends = is.ends.1.1 in
    let all : lines input ≡ (front ++ last ∷ []) ++ lines left = is.whole ∙ ap (λ t. t ++ lines left) ends.0 in
    let found = part_from input (front ++ last ∷ []) (ap up_to_end all ∙ found_of front last (lines left) ends.1 ends.2) in
    let mine : part_of input ≡ Some part = found ∙ ap Some (ap concat (sym ends.0) ∙ concat-lines part) in
    reading_part limit input part mine is.fits ∙ ap (Whole part) (ap (drop (length part)) is.joined ∙ drop_at part left (length part) refl)

-- an end line among the lines is found
end_among : (front : List (List ℕ)) (line : List ℕ) (back : List (List ℕ)) → is_end_line line ≡ true → list_any is_end_line ((front ++ line ∷ []) ++ back) ≡ true
end_among front line back ends =
    list_any-append is_end_line (front ++ line ∷ []) back ∙ or_left _ _ (list_any-append is_end_line front (line ∷ []) ∙ or_right _ _ (or_left _ _ ends))

-- a text that ends at its only end line is the part, whatever follows
pub closed_parts_stand : ClosedPartsStand
closed_parts_stand text rest closed =
    let last = closed.body ++ 10 ∷ [] in
    let found = closed.front ++ last ∷ [] in
    let whole : concat found ≡ text = ap concat (sym closed.split) ∙ concat-lines text in
    let before = concat closed.front ++ closed.body in
    let text_is : text ≡ before ++ 10 ∷ [] = sym whole ∙ (concat-append closed.front (last ∷ []) ∙ (ap (λ t. concat closed.front ++ t) (append-nil last) ∙ sym (append_assoc (concat closed.front) closed.body (10 ∷ [])))) in
    let behind : lines (text ++ rest) ≡ lines text ++ lines rest = rw text_is (lines_append before rest) in
    let all : lines (text ++ rest) ≡ found ++ lines rest = behind ∙ ap (λ ls. ls ++ lines rest) closed.split in
    part_from (text ++ rest) found (ap up_to_end all ∙ found_of closed.front last (lines rest) closed.none closed.ends) ∙ ap Some whole

is_past_by : (limit : ℕ) (input : List ℕ) (o : Option (List ℕ)) → part_of input ≡ o → option_map_or (ended limit input) o (unended limit input) ≡ PastLimit → IsPastLimit limit input
is_past_by limit input None is h = record {
  long = past_all limit input h;
  none = λ front line back all ends. absurd (false≢true (sym (part_none input is) ∙ (ap (list_any is_end_line) all ∙ end_among front line back ends)));
}
is_past_by limit input (Some mine) is h =
    let longer = past_part limit input mine h in
    let found = part_is input mine is in
    let input_as = input_is input found.0 found.1.1 in
    let size : length mine ≡ length (concat found.0) = ap length (sym found.1.0) in
    record {
      long = omega (arith, longer, size, ap length input_as, length-append (concat found.0) (concat found.1.1.back));
      none = λ front line back all ends. omega (arith, longer, size, least front line back found.0 ends (sym (ap up_to_end all) ∙ found.1.2));
    }

is_unended_by : (limit : ℕ) (input : List ℕ) (line : ℕ) (o : Option (List ℕ)) → part_of input ≡ o → option_map_or (ended limit input) o (unended limit input) ≡ Unended line → IsUnended limit input line
is_unended_by limit input line None is h =
    let found = line_missing limit input line h in
    record { fits = found.0; none = part_none input is; counted = found.1 }
is_unended_by limit input line (Some mine) is h = absurd (no_line limit input mine line h)

past_found_by : (limit : ℕ) (input : List ℕ) (o : Option (List ℕ)) → part_of input ≡ o → IsPastLimit limit input → option_map_or (ended limit input) o (unended limit input) ≡ PastLimit
past_found_by limit input None is past = cond-false _ _ _ (lt-leb _ _ past.long)
past_found_by limit input (Some mine) is past =
    let found = part_is input mine is in
    let here = found.1.1 in
    let longer = past.none here.front here.last here.back (here.all ∙ ap (λ t. t ++ here.back) here.found_is) here.ends in
    let long : limit < length mine = omega (arith, longer, ap (λ t. length (concat t)) here.found_is, ap length found.1.0) in
    cond-false _ _ _ (lt-leb _ _ long)

unended_found : (limit : ℕ) (input : List ℕ) (line : ℕ) → IsUnended limit input line → reading limit input ≡ Unended line
unended_found limit input line is =
    answered limit input None (none_from input is.none) ∙ (cond-true _ _ _ (le-leb _ _ is.fits) ∙ ap Unended (sym is.counted))

pub parts_are_found : PartsAreFound
parts_are_found limit input part left =
    (is_part_of limit input part left, part_found limit input part left)

pub past_limit_is_found : PastLimitIsFound
past_limit_is_found limit input = (
  λ h. is_past_by limit input (part_of input) refl (sym (answered limit input (part_of input) refl) ∙ h),
  λ past. answered limit input (part_of input) refl ∙ past_found_by limit input (part_of input) refl past,
)

pub unended_is_found : UnendedIsFound
unended_is_found limit input line =
    (λ h. is_unended_by limit input line (part_of input) refl (sym (answered limit input (part_of input) refl) ∙ h), unended_found limit input line)
