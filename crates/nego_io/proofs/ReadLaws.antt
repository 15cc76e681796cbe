-- What the answers of `read_part` say, from what was taken piece by piece.
use Rattle.std.proofs.Common.{◌≡◌, ℕ, ◌+◌, ◌≤◌, List, [], ◌++◌, length, drop, Option, Some, None, Result, Ok, Err, IfOk, OnErr, sym, ◌∙◌, ap, arith}
use Rattle.std.proofs.lemmas.List.{append-nil, length-append, drop_at}
use Rattle.nego_io.specs.Outside.{WhereTold, Takes}
use Rattle.nego_io.specs.Part.{part_of, newlines, reading, Whole, PastLimit}
use Rattle.nego_io.specs.Front.{IsOpen, IsClosed}
use Rattle.nego_io.specs.Answer.{Answers, TakesWithin}
use Rattle.nego_io.specs.declared.part.Part.{Part}
use Rattle.nego_io.specs.declared.part.ReadAnswer.{ReadAnswer}
use Rattle.nego_io.specs.declared.part.ReadAnswer.TheVariants.{NoEnd}
use Rattle.nego_io.proofs.BehindLaws.{FitsParts, open_fits, within}
use Rattle.nego_io.proofs.OutsideLaws.{told_so, told_then, told_both, takes_then}
use Rattle.nego_io.proofs.ReadingLaws.{reading_closed, reading_all, reading_none, reading_past}

-- What was taken: the bytes of a part that has not come to its end.
pub record HasTaken (old now : Option (List ℕ)) (bytes : List ℕ) (start lines limit first last : ℕ) : Type 0 where
  pub told : Takes bytes old now
  pub unended : IsOpen bytes start lines
  pub fits : length bytes ≤ limit
  pub stayed : last ≡ first

-- These bytes were taken, which are no longer than a part.
taken_within : (limit : ℕ) (bytes : List ℕ) (old new : Option (List ℕ)) → FitsParts bytes → length bytes ≤ limit + 1 → Takes bytes old new → WhereTold old new (TakesWithin limit)
taken_within limit bytes old new fits size = told_so (λ before now. before ≡ bytes ++ now) (TakesWithin limit) old new (λ before now e. within limit bytes before now fits size e)

-- A call failed after these bytes.
pub taken_then_failed : (limit : ℕ) (bytes : List ℕ) (start lines : ℕ) (old mid new : Option (List ℕ)) → IsOpen bytes start lines → length bytes ≤ limit → Takes bytes old mid → Takes [] mid new → WhereTold old new (TakesWithin limit)
taken_then_failed limit bytes start lines old mid new before size first second =
    let all : Takes bytes old new = rw (append-nil bytes) at (takes_then bytes [] old mid new first second) in
    taken_within limit bytes old new (open_fits bytes start lines before) (omega arith) all

-- There was no memory for the bytes after these.
pub taken_then_starved : (limit : ℕ) (bytes next : List ℕ) (old mid new : Option (List ℕ)) → FitsParts (bytes ++ next) → length bytes + length next ≤ limit + 1 → Takes bytes old mid → Takes next mid new → WhereTold old new (TakesWithin limit)
taken_then_starved limit bytes next old mid new fits size first second =
    taken_within limit (bytes ++ next) old new fits (omega (arith, length-append bytes next)) (takes_then bytes next old mid new first second)

-- These bytes are a part, and all of them were taken.
pub taken_part : (limit : ℕ) (part : Part) (old new : Option (List ℕ)) → IsClosed part.bytes → length part.bytes ≤ limit → Takes part.bytes old new → WhereTold old new (Answers limit (Ok part))
taken_part limit part old new closed fits =
    told_so (λ before now. before ≡ part.bytes ++ now) (Answers limit (Ok part)) old new (λ before now e. (e, ap (reading limit) e ∙ reading_closed limit part.bytes now closed fits))

-- The input ended after these bytes.
pub taken_all : (bytes : List ℕ) (old mid new : Option (List ℕ)) → Takes bytes old mid → Takes [] mid new → WhereTold mid new (λ before _. before ≡ []) → WhereTold old new (λ before now. (before ≡ bytes) × (now ≡ []))
taken_all bytes old mid new first second end =
    let ended = told_both (λ at now. at ≡ [] ++ now) (λ at _. at ≡ []) (λ at now. (at ≡ []) × (now ≡ [])) mid new (λ at now e f. (f, sym e ∙ f)) second end in
    told_then (λ before at. before ≡ bytes ++ at) (λ at now. (at ≡ []) × (now ≡ [])) (λ before now. (before ≡ bytes) × (now ≡ [])) old mid new
    (λ before at now e f. (e ∙ (ap (λ t. bytes ++ t) f.0 ∙ append-nil bytes), f.1)) first ended

-- What the bytes are that are all, by what was answered of them.
abbrev pub IsAnswerOf : List ℕ → Result Part ReadAnswer → Type 0
IsAnswerOf bytes (Ok part) = (part.bytes ≡ bytes) × (part_of bytes ≡ Some bytes)
IsAnswerOf bytes (Err e) = (part_of bytes ≡ None) × (e ≡ NoEnd (1 + newlines bytes))

pub answer_of : (bytes : List ℕ) (r : Result Part ReadAnswer) → IfOk r (λ part. (part.bytes ≡ bytes) × (part_of bytes ≡ Some bytes)) →
    OnErr r ((part_of bytes ≡ None) × (r ≡ Err (NoEnd (1 + newlines bytes)))) → IsAnswerOf bytes r
answer_of bytes (Ok part) ok err = ok
answer_of bytes (Err e) ok err = (err.0, (let same = err.1 in cc))

all_there : (before now bytes mine : List ℕ) → before ≡ bytes → now ≡ [] → mine ≡ bytes → before ≡ mine ++ now
all_there before now bytes mine e none same = e ∙ (sym same ∙ (sym (append-nil mine) ∙ ap (λ t. mine ++ t) (sym none)))

pub answers_all : (limit : ℕ) (bytes : List ℕ) (r : Result Part ReadAnswer) (old new : Option (List ℕ)) → IsAnswerOf bytes r → length bytes ≤ limit →
    WhereTold old new (λ before now. (before ≡ bytes) × (now ≡ [])) → WhereTold old new (Answers limit r)
answers_all limit bytes (Ok part) old new is fits all =
    told_so (λ before now. (before ≡ bytes) × (now ≡ [])) (Answers limit (Ok part)) old new
    (λ before now e. (all_there before now bytes part.bytes e.0 e.1 is.0, rw (e.0, e.1, is.0) (reading_all limit bytes is.1 fits))) all
answers_all limit bytes (Err e) old new is fits all =
    rw is.1 (told_so (λ before now. (before ≡ bytes) × (now ≡ [])) (Answers limit (Err (NoEnd (1 + newlines bytes)))) old new
    (λ before now e. (ap (reading limit) e.0 ∙ reading_none limit bytes is.0 fits, e.1)) all)

pub whole_all : (limit : ℕ) (bytes : List ℕ) (r : Result Part ReadAnswer) → IsAnswerOf bytes r → length bytes ≤ limit → IfOk r (λ part. reading limit part.bytes ≡ Whole part.bytes [])
whole_all limit bytes (Ok part) is fits = rw is.0 (reading_all limit bytes is.1 fits)
whole_all limit bytes (Err e) is fits = tt

-- One byte more than the limit came, and no part ended before the last of them.
pub taken_past : (limit : ℕ) (bytes next : List ℕ) (old mid new : Option (List ℕ)) → FitsParts (bytes ++ next) → length bytes + length next ≡ limit + 1 → Takes bytes old mid → Takes next mid new →
    WhereTold old new (λ before now. (reading limit before ≡ PastLimit) × (now ≡ drop (limit + 1) before))
taken_past limit bytes next old mid new fits size first second =
    let taken = bytes ++ next in
    let long : length taken ≡ limit + 1 = length-append bytes next ∙ size in
    told_so (λ before now. before ≡ taken ++ now) (λ before now. (reading limit before ≡ PastLimit) × (now ≡ drop (limit + 1) before)) old new
    (λ before now e. (
      ap (reading limit) e ∙ reading_past limit taken now (omega (arith, long)) (fits now),
      sym (ap (drop (limit + 1)) e ∙ drop_at taken now (limit + 1) long),
    )) (takes_then bytes next old mid new first second)
