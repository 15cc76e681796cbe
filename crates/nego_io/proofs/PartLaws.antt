-- Laws of the part that an input begins with.
use Rattle.std.proofs.Common.{◌≡◌, ℕ, ◌<◌, Bool, true, false, cond, inl, inr, List, [], ◌∷◌, ◌++◌, length, Option, Some, None, option_map, refl, sym, ◌∙◌, ap, arith}
use Rattle.std.specs.List.{concat}
use Rattle.std.proofs.lemmas.Bool.{cases_Bool, cond-true, cond-false}
use Rattle.std.proofs.lemmas.List.{append-nil, length-append}
use Rattle.nego_base.specs.Lines.{lines}
use Rattle.nego_base.proofs.LineLaws.{HasNoNewline, lines_whole, lines_last, lines_begin}
use Rattle.nego_base.proofs.OptionLaws.{map_some}
use Rattle.nego_io.specs.Part.{is_end_line, up_to_end, part_of}

joined_behind : (line : List ℕ) (found : Option (List (List ℕ))) → option_map concat (option_map (λ more. line ∷ more) found) ≡ option_map (λ part. line ++ part) (option_map concat found)
joined_behind line None = refl
joined_behind line (Some found) = refl

joined_first : (line : List ℕ) (ends : Bool) (found : Option (List (List ℕ))) → option_map concat (cond ends (Some (line ∷ [])) (option_map (λ more. line ∷ more) found)) ≡ cond ends (Some line) (option_map (λ part. line ++ part) (option_map concat found))
joined_first line true found = ap Some (append-nil line)
joined_first line false found = joined_behind line found

-- the part that begins with a whole line is that line, or goes on behind it
pub part_whole : (body rest : List ℕ) → HasNoNewline body →
    part_of ((body ++ 10 ∷ []) ++ rest) ≡ cond (is_end_line (body ++ 10 ∷ [])) (Some (body ++ 10 ∷ [])) (option_map (λ part. (body ++ 10 ∷ []) ++ part) (part_of rest))
unfolding part_of
part_whole body rest free =
    ap (λ ls. option_map concat (up_to_end ls)) (lines_whole body rest free) ∙ joined_first (body ++ 10 ∷ []) (is_end_line (body ++ 10 ∷ [])) (up_to_end (lines rest))

-- the part of a text with no newline
pub part_last : (bytes : List ℕ) → HasNoNewline bytes → part_of bytes ≡ cond (is_end_line bytes) (Some bytes) None
unfolding part_of
part_last [] free = refl
part_last (b ∷ bs) free =
    ap (λ ls. option_map concat (up_to_end ls)) (lines_last b bs free) ∙ joined_first (b ∷ bs) (is_end_line (b ∷ bs)) None

-- what is found among lines begins with the first of them
pub found_first : (line : List ℕ) (others found : List (List ℕ)) → up_to_end (line ∷ others) ≡ Some found → (more : List (List ℕ)) × (found ≡ line ∷ more)
found_first line others found h = elim (cases_Bool (is_end_line line)) [
  | inl ends ↦ ([], (let e = sym (cond-true _ (Some (line ∷ [])) (option_map (λ more. line ∷ more) (up_to_end others)) ends) ∙ h in cc))
  | inr goes_on ↦
      let e = sym (cond-false _ (Some (line ∷ [])) (option_map (λ more. line ∷ more) (up_to_end others)) goes_on) ∙ h in
      let found_more = map_some (λ more. line ∷ more) (up_to_end others) found e in
      (found_more.0, sym found_more.2)
]

-- a part that begins with bytes without a newline, and with more, is longer than these
pub part_long : (bytes : List ℕ) (c : ℕ) (rest part : List ℕ) → HasNoNewline bytes → part_of (bytes ++ c ∷ rest) ≡ Some part → length bytes < length part
unfolding part_of
part_long bytes c rest part free h =
    let begin = lines_begin bytes c rest free in
    let first = bytes ++ c ∷ begin.0 in
    let found = map_some concat (up_to_end (lines (bytes ++ c ∷ rest))) part h in
    let more = found_first first begin.1.0 found.0 (sym (ap up_to_end begin.1.1) ∙ found.1) in
    let size : length part ≡ length (first ++ concat more.0) = ap length (sym found.2 ∙ ap concat more.1) in
    omega (arith, size, length-append first (concat more.0), length-append bytes (c ∷ begin.0))
