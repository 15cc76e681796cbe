-- What is left of an input behind what is taken of it for a part.
use Rattle.std.proofs.Common.{◌≡◌, ℕ, ◌+◌, ◌-◌, ◌≤◌, List, [], ◌∷◌, ◌++◌, length, take, drop, Some, Result, Ok, Err, refl, sym, ◌∙◌, ap, subst, append_assoc, arith}
use Rattle.std.proofs.Math.Seq.{drop-append-add}
use Rattle.std.proofs.lemmas.List.{append-nil, length-append, length-drop, take-append-drop, drop_at, drop-append-le}
use Rattle.std.proofs.lemmas.Option.{cond_some}
use Rattle.nego_io.specs.Part.{is_end_line, part_of, Reading, reading, Whole, PastLimit, Unended, behind, left_over}
use Rattle.nego_io.specs.Front.{IsOpen, Reaches}
use Rattle.nego_io.specs.Answer.{Answers, TakesWithin, TakesUpTo}
use Rattle.nego_io.specs.declared.part.Part.{Part}
use Rattle.nego_io.specs.declared.part.ReadAnswer.{ReadAnswer}
use Rattle.nego_io.specs.declared.part.ReadAnswer.TheVariants.{ReadFault, TooLong, NoEnd, Memory}
use Rattle.nego_io.proofs.FrontLaws.{part_here, part_beyond}
use Rattle.nego_io.proofs.FoundLaws.{whole_is, parts_are_found, unended_is_found}

-- What was taken is no longer than the part, whatever follows.
abbrev pub FitsParts : List ℕ → Type 0
FitsParts taken = (now part : List ℕ) → part_of (taken ++ now) ≡ Some part → length taken ≤ length part

-- what was read of a part that has not come to its end
pub open_fits : (bytes : List ℕ) (start lines : ℕ) → IsOpen bytes start lines → FitsParts bytes
open_fits bytes start lines before [] part found =
    let here = sym (part_here bytes start lines before) ∙ (ap part_of (sym (append-nil bytes)) ∙ found) in
    omega (arith, ap length (cond_some (is_end_line (drop start bytes)) bytes part here).1)
open_fits bytes start lines before (c ∷ rest) part found = omega (arith, part_beyond bytes start lines c rest part before found)

-- and more bytes, for which the part goes on
pub next_fits : (bytes : List ℕ) (start lines : ℕ) (next : List ℕ) (n : ℕ) → IsOpen bytes start lines → Reaches bytes n → length next ≤ n → FitsParts (bytes ++ next)
next_fits bytes start lines [] n before reach few now part found =
    let same = append-nil bytes in
    omega (arith, ap length same, open_fits bytes start lines before now part (ap (λ t. part_of (t ++ now)) (sym same) ∙ found))
next_fits bytes start lines (b ∷ bs) n before reach few now part found =
    let longer = reach b (bs ++ now) part (ap part_of (sym (append_assoc bytes (b ∷ bs) now)) ∙ found) in
    omega (arith, longer, length-append bytes (b ∷ bs))

-- what is behind a part is behind what fits it
left_from : (limit : ℕ) (taken now : List ℕ) (r : Reading) → FitsParts taken → length taken ≤ limit + 1 → reading limit (taken ++ now) ≡ r → (more : List ℕ) × (now ≡ more ++ left_over limit (taken ++ now) r)
left_from limit taken now (Whole part left) fits size is =
    let longer = fits now part (whole_is limit (taken ++ now) part left is).0 in
    let joined = ((parts_are_found limit (taken ++ now) part left).0 is).joined in
    (drop (length taken) part, sym (drop_at taken now (length taken) refl) ∙ (ap (drop (length taken)) joined ∙ drop-append-le (length taken) part left longer))
left_from limit taken now PastLimit fits size is =
    let n = limit + 1 - length taken in
    let all : limit + 1 ≡ length taken + n = omega arith in
    let rest : drop (limit + 1) (taken ++ now) ≡ drop n now = ap (λ k. drop k (taken ++ now)) all ∙ drop-append-add taken now n in
    (take n now, sym (take-append-drop n now) ∙ ap (λ t. take n now ++ t) (sym rest))
left_from limit taken now (Unended line) fits size is = (now, sym (append-nil now))

-- what was taken and fits is within the part
pub within : (limit : ℕ) (taken before now : List ℕ) → FitsParts taken → length taken ≤ limit + 1 → before ≡ taken ++ now → TakesWithin limit before now
within limit taken before now fits size is =
    let P : List ℕ → Type 0 = λ t. TakesWithin limit t now in
    let left = left_from limit taken now (reading limit (taken ++ now)) fits size refl in
    subst P (sym is) (record { front = taken; more = left.0; taken = refl; kept = left.1 })

-- how much of an input is not behind a part
not_behind : (limit : ℕ) (input : List ℕ) (r : Reading) → reading limit input ≡ r → length input ≤ limit + 1 + length (left_over limit input r)
not_behind limit input (Whole part left) is =
    let part_is = (parts_are_found limit input part left).0 is in
    omega (arith, part_is.fits, ap length part_is.joined, length-append part left)
not_behind limit input PastLimit is = omega (arith, length-drop (limit + 1) input)
not_behind limit input (Unended line) is = omega (arith, ((unended_is_found limit input line).0 is).fits)

-- at most one byte more than a part may have is taken
pub within_limit : (limit : ℕ) (before now : List ℕ) → TakesWithin limit before now → TakesUpTo (limit + 1) before now
within_limit limit before now takes =
    let all = not_behind limit before (reading limit before) refl in
    let back = left_over limit before (reading limit before) in
    (takes.front, (takes.taken, omega (arith, all, ap length takes.taken, length-append takes.front now, ap length takes.kept, length-append takes.more back)))

behind_is : (limit : ℕ) (input : List ℕ) (r : Reading) → reading limit input ≡ r → behind limit input ≡ left_over limit input r
behind_is limit input r is = ap (left_over limit input) is

-- a part was taken
pub part_within : (limit : ℕ) (before part now : List ℕ) → before ≡ part ++ now → reading limit before ≡ Whole part now → TakesWithin limit before now
part_within limit before part now all is = record { front = part; more = []; taken = all; kept = sym (behind_is limit before (Whole part now) is) }

-- one byte more than a part may have was taken
pub past_within : (limit : ℕ) (before now : List ℕ) → reading limit before ≡ PastLimit → now ≡ drop (limit + 1) before → TakesWithin limit before now
past_within limit before now is rest =
    let front = take (limit + 1) before in
    record { front = front; more = []; taken = sym (take-append-drop (limit + 1) before) ∙ ap (λ t. front ++ t) (sym rest); kept = rest ∙ sym (behind_is limit before PastLimit is) }

-- all was taken, and it has no end
pub unended_within : (limit : ℕ) (before now : List ℕ) (line : ℕ) → reading limit before ≡ Unended line → now ≡ [] → TakesWithin limit before now
unended_within limit before now line is none =
    record { front = before; more = []; taken = sym (append-nil before) ∙ ap (λ t. before ++ t) (sym none); kept = none ∙ sym (behind_is limit before (Unended line) is) }

-- whatever is answered, nothing of what is behind a part is taken
pub answers_within : (limit : ℕ) (result : Result Part ReadAnswer) (before now : List ℕ) → Answers limit result before now → TakesWithin limit before now
answers_within limit (Ok part) before now h = part_within limit before part.bytes now h.0 h.1
answers_within limit (Err ReadFault) before now h = h
answers_within limit (Err TooLong) before now h = past_within limit before now h.0 h.1
answers_within limit (Err (NoEnd line)) before now h = unended_within limit before now line h.0 h.1
answers_within limit (Err Memory) before now h = h
