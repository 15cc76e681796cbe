-- The first fault of a text is one of its lines and bytes, and a text without a fault has sound lines.
use Rattle.std.proofs.Common.{◌≡◌, ℕ, ◌+◌, ◌<◌, ◌≤◌, Bool, true, not, ◌||◌, ltb, min, nat_le, Some, None, Option, inl, inr, ◌↔◌, List, [], ◌∷◌, length, take, subst, refl, sym, ◌∙◌, ap, arith}
use Rattle.std.specs.List.{list_all, position}
use Rattle.std.specs.Option.{option_or, option_map_or}
use Rattle.std.proofs.lemmas.Bool.{cases_Bool, and_parts, and_from, or_left, or_right, or_cases, cond-true, cond-false, leb-true, le-leb, ltb-true, le-ltb, not-true, not_from_true, false≢true}
use Rattle.std.proofs.lemmas.List.{get_or-take, take-take, take_all, length-take}
use Rattle.std.proofs.lemmas.Option.{same_Some, none-some}
use Rattle.nego_base.specs.declared.fault.Fault.{Fault}
use Rattle.nego_base.specs.declared.fault.FaultKind.TheVariants as kinds
use Rattle.nego_base.specs.Lines.{lines, without_end}
use Rattle.nego_base.specs.Scan.{is_comment, may_stand, bad_byte, fault_at, long_fault, line_fault, faults_from, scan_fault}
use Rattle.nego_base.specs.Sound.{is_sound_line, IsBadByte, IsLineFault, IsFirstFault}
use Rattle.nego_base.proofs.Cases.{guard}
use Rattle.nego_base.proofs.Cuts.{none_fails}
use Rattle.nego_base.proofs.NameLaws.{none_where_all}
use Rattle.nego_base.proofs.Places.{IsFirst, first_place, no_place, place_none}
use Rattle.nego_base.proofs.ScanLaws.{short_line}
use Rattle.nego_base.proofs.OptionLaws.{or_none}

abbrev off : ℕ → Bool
off b = not (may_stand b)

-- the bad byte of a line
bad_byte_is : (line : List ℕ) (i : ℕ) → bad_byte line ≡ Some i → IsBadByte line (i + 1)
bad_byte_is line i h = elim (cases_Bool (is_comment line)) [
  | inl comment ↦ absurd (none-some i (sym (cond-true _ _ _ comment) ∙ h))
  | inr other ↦
      let first : IsFirst off (take 1024 line) i = first_place off (take 1024 line) i (sym (cond-false _ _ _ other) ∙ h) in
      let inside = first.within in
      let size : length (take 1024 line) ≡ min 1024 (length line) = length-take 1024 line in
      let low : i < 1024 = omega arith in
      record {
        place = i;
        is = refl;
        within = low;
        there = omega arith;
        no_comment = other;
        before = ap (list_all may_stand) (sym (take-take i 1024 line (omega arith))) ∙ none_fails may_stand (take i (take 1024 line)) first.before;
        off = ap may_stand (sym (get_or-take 1024 line i 0 low)) ∙ not-true _ first.there;
      }
]

-- where a line has none, its bytes within the most may stand, or it is a comment
no_bad_byte : (line : List ℕ) → bad_byte line ≡ None → (is_comment line || list_all may_stand (take 1024 line)) ≡ true
no_bad_byte line h = elim (cases_Bool (is_comment line)) [
  | inl comment ↦ or_left _ _ comment
  | inr other ↦ or_right _ _ (none_fails may_stand (take 1024 line) (no_place off (take 1024 line) (sym (cond-false _ _ _ other) ∙ h)))
]

-- the fault of a line
pub line_fault_is : (number : ℕ) (line : List ℕ) (fault : Fault) → line_fault number line ≡ Some fault → (fault.line ≡ number) × IsLineFault fault.kind line fault.column
unfolding line_fault
line_fault_is number line fault h = by_byte (bad_byte line) refl h
  where
    at : (found : Fault) → (found.line ≡ number) × IsLineFault found.kind line found.column → found ≡ fault → (fault.line ≡ number) × IsLineFault fault.kind line fault.column
    at found here same = (let P : Fault → Type 0 = λ f. (f.line ≡ number) × IsLineFault f.kind line f.column in subst P same here)

    by_byte : (o : Option ℕ) → (bad_byte line ≡ o) → option_map_or (λ i. Some (fault_at number (i + 1) kinds.Byte)) o (long_fault number line) ≡ Some fault → (fault.line ≡ number) × IsLineFault fault.kind line fault.column
    by_byte (Some i) is h = at (fault_at number (i + 1) kinds.Byte) (refl, bad_byte_is line i is) (same_Some _ _ h)
    by_byte None is h = (let long = guard (ltb 1024 (length line)) (Some (fault_at number 1025 kinds.Line)) fault h in
        at (fault_at number 1025 kinds.Line) (refl, record { is = refl; long = ltb-true 1024 (length line) long.0; before = no_bad_byte line is }) (same_Some _ _ long.1))

-- a line without a fault is sound
pub sound_line : (number : ℕ) (line : List ℕ) → line_fault number (without_end line) ≡ None → is_sound_line line ≡ true
unfolding line_fault
sound_line number line h =
    let body = without_end line in
    let short : length body ≤ 1024 = short_line number body h in
    let none : bad_byte body ≡ None = by_byte (bad_byte body) h in
    and_from _ _ (le-leb (length body) 1024 short) (ap (λ bs. is_comment body || list_all may_stand bs) (sym (take_all 1024 body short)) ∙ no_bad_byte body none)
  where
    by_byte : (o : Option ℕ) → option_map_or (λ i. Some (fault_at number (i + 1) kinds.Byte)) o (long_fault number (without_end line)) ≡ None → o ≡ None
    by_byte None h = refl
    by_byte (Some i) h = cc

no_byte : (body : List ℕ) → length body ≤ 1024 → (is_comment body || list_all may_stand body) ≡ true → bad_byte body ≡ None
no_byte body short passes =
    let front : list_all may_stand body ≡ true → position off (take 1024 body) ≡ None = λ all. ap (position off) (take_all 1024 body short) ∙ place_none off body (none_where_all may_stand off (λ b may. not_from_true _ may) body all) in
    elim (cases_Bool (is_comment body)) [
      | inl comment ↦ cond-true _ _ _ comment
      | inr other ↦ elim (or_cases (is_comment body) (list_all may_stand body) passes) [
        | inl comment ↦ absurd (false≢true (sym other ∙ comment))
        | inr all ↦ cond-false _ _ _ other ∙ front all
      ]
    ]

-- and a sound line has none
pub line_fault-sound : (number : ℕ) (line : List ℕ) → is_sound_line line ≡ true → line_fault number (without_end line) ≡ None
unfolding line_fault
line_fault-sound number line h =
    let body = without_end line in
    let parts = and_parts (nat_le (length body) 1024) (is_comment body || list_all may_stand body) h in
    let short : length body ≤ 1024 = leb-true (length body) 1024 parts.0 in
    ap (λ o. option_map_or (λ i. Some (fault_at number (i + 1) kinds.Byte)) o (long_fault number body)) (no_byte body short parts.1)
    ∙ cond-false _ _ _ (le-ltb 1024 (length body) short)

sound_from : (number : ℕ) (text : List (List ℕ)) → (faults_from number text ≡ None) ↔ (list_all is_sound_line text ≡ true)
unfolding faults_from
sound_from number [] = (λ _. refl, λ _. refl)
sound_from number (line ∷ rest) =
    let more = sound_from (number + 1) rest in (
      λ h. let none = or_none (line_fault number (without_end line)) (faults_from (number + 1) rest) h in and_from _ _ (sound_line number line none.0) (more.0 none.1),
      λ h.
          let parts = and_parts (is_sound_line line) (list_all is_sound_line rest) h in
          ap (λ o. option_or o (faults_from (number + 1) rest)) (line_fault-sound number line parts.0) ∙ more.1 parts.1,
    )

-- a text has no fault exactly where its lines are sound
pub sound_texts : (bytes : List ℕ) → (scan_fault bytes ≡ None) ↔ (list_all is_sound_line (lines bytes) ≡ true)
unfolding scan_fault
sound_texts bytes = sound_from 1 (lines bytes)

first_later : (number : ℕ) (line : List ℕ) (rest : List (List ℕ)) (fault : Fault) → IsFirstFault rest (number + 1) fault → is_sound_line line ≡ true → IsFirstFault (line ∷ rest) number fault
first_later number line rest fault first sound = record {
  front = line ∷ first.front;
  line = first.line;
  back = first.back;
  whole = ap (λ ls. line ∷ ls) first.whole;
  earlier = and_from _ _ sound first.earlier;
  line_is = (let at = first.line_is in omega arith);
  here = first.here;
}

first_step : (number : ℕ) (line : List ℕ) (rest : List (List ℕ)) (fault : Fault) (o more : Option Fault) → line_fault number (without_end line) ≡ o → (more ≡ Some fault → IsFirstFault rest (number + 1) fault) → option_or o more ≡ Some fault → IsFirstFault (line ∷ rest) number fault
first_step number line rest fault None more is below h = first_later number line rest fault (below h) (sound_line number line is)
first_step number line rest fault (Some found) more is below h =
    let at = line_fault_is number (without_end line) fault (is ∙ h) in
    record { front = []; line = line; back = rest; whole = refl; earlier = refl; line_is = (let e = at.0 in omega arith); here = at.1 }

first_from : (number : ℕ) (text : List (List ℕ)) (fault : Fault) → faults_from number text ≡ Some fault → IsFirstFault text number fault
unfolding faults_from
first_from number [] fault h = cc
first_from number (line ∷ rest) fault h =
    first_step number line rest fault (line_fault number (without_end line)) (faults_from (number + 1) rest) refl (λ below. first_from (number + 1) rest fault below) h

-- the fault of a text is the first of its lines and bytes
pub first_fault_is : (bytes : List ℕ) (fault : Fault) → scan_fault bytes ≡ Some fault → IsFirstFault (lines bytes) 1 fault
unfolding scan_fault
first_fault_is bytes fault h = first_from 1 (lines bytes) fault h
