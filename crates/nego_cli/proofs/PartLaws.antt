-- Parts that are read of an input, one behind the other.
use Rattle.std.proofs.Common.{◌≡◌, ◌∙◌, inl, inr, ℕ, zero, suc, ◌+◌, ◌≤◌, List, [], ◌∷◌, ◌++◌, length, Option, Some, None, refl, sym, ap, subst, arith, zero-add}
use Rattle.std.proofs.lemmas.List.{length-append}
use Rattle.nego_io.specs.Part.{behind}
use Rattle.nego_io.specs.Outside.{WhereTold}
use Rattle.nego_io.proofs.BehindLaws.{within}
use Rattle.nego_io.proofs.OutsideLaws.{told_so, told_then}
use Rattle.nego_cli.specs.Effect.{Effect, effect, HasFaulted}
use Rattle.nego_cli.specs.Parts.{Read, part_limit, read_at, reads_at, behind_parts, Reads, HasRead, TakesParts, TookParts}

-- ---- what is read

pub length_reads : (n : ℕ) (input : List ℕ) → length (reads_at n input) ≡ n
length_reads zero input = refl
length_reads (suc n) input = ap suc (length_reads n (behind part_limit input))

-- more parts are read behind the first
pub reads_more : (n k : ℕ) (input : List ℕ) → reads_at (n + k) input ≡ reads_at n input ++ reads_at k (behind_parts n input)
reads_more zero k input = ap (λ i. reads_at i input) (zero-add k)
reads_more (suc n) k input =
    let count : suc n + k ≡ suc (n + k) = omega arith in
    ap (λ i. reads_at i input) count ∙ ap (λ reads. read_at input ∷ reads) (reads_more n k (behind part_limit input))

behind_more : (n k : ℕ) (input : List ℕ) → behind_parts (n + k) input ≡ behind_parts k (behind_parts n input)
behind_more zero k input = ap (λ i. behind_parts i input) (zero-add k)
behind_more (suc n) k input =
    let count : suc n + k ≡ suc (n + k) = omega arith in
    ap (λ i. behind_parts i input) count ∙ behind_more n k (behind part_limit input)

-- ---- what is taken

takes_none : (n : ℕ) (input : List ℕ) → TakesParts n input input
takes_none zero input = refl
takes_none (suc n) input = inl (within part_limit [] input input (λ now part found. omega arith) (omega arith) refl)

-- Where nothing was taken, no more than some parts was.
pub took_none : (n : ℕ) (left : Option (List ℕ)) → WhereTold left left (TakesParts n)
took_none n None = tt
took_none n (Some input) = takes_none n input

takes_parts : (n k : ℕ) (input : List ℕ) → k ≤ n → TakesParts n input (behind_parts k input)
takes_parts n zero input few = takes_none n input
takes_parts zero (suc k) input few = let never : ⊥ = omega (arith, few) in absurd never
takes_parts (suc n) (suc k) input few = let less : k ≤ n = omega (arith, few) in inr (takes_parts n k (behind part_limit input) less)

-- With some parts read, no more than these were taken.
pub took_parts : (n : ℕ) (reads : List Read) (source : Effect) → length reads ≤ n → HasRead reads source → TookParts n source
took_parts n reads source few h =
    told_so (Reads reads) (TakesParts n) source.before source.after (λ input left is. subst (TakesParts n input) (sym is.1) (takes_parts n (length reads) input few)) h.1

-- Where no more than some parts were taken, no more than more were.
takes_more : (n m : ℕ) (input now : List ℕ) → n ≤ m → TakesParts n input now → TakesParts m input now
takes_more zero m input now few is = subst (TakesParts m input) is (takes_none m input)
takes_more (suc n) zero input now few h = let never : ⊥ = omega (arith, few) in absurd never
takes_more (suc n) (suc m) input now few (inl inside) = inl inside
takes_more (suc n) (suc m) input now few (inr further) = let less : n ≤ m = omega (arith, few) in inr (takes_more n m (behind part_limit input) now less further)

pub took_more : (n m : ℕ) (source : Effect) → n ≤ m → TookParts n source → TookParts m source
took_more n m source few h = told_so (TakesParts n) (TakesParts m) source.before source.after (λ input now. takes_more n m input now few) h

-- Where nothing was taken, no part was read.
pub read_none : {X : Type 0} (bytes : X → Option (List ℕ)) (faults : X → ℕ) (x : X) → HasRead [] (effect bytes faults x x)
read_none bytes faults x = (refl, none_read (bytes x))
  where
    none_read : (left : Option (List ℕ)) → WhereTold left left (Reads [])
    none_read None = tt
    none_read (Some input) = (refl, refl)

-- ---- a part behind others: for the commands that read a second part

read_behind : (first second : List Read) (input at now : List ℕ) → Reads first input at → Reads second at now → Reads (first ++ second) input now
read_behind first second input at now h k =
    let n = length first in
    let m = length second in
    let count : length (first ++ second) ≡ n + m = length-append first second in
    let there : second ≡ reads_at m (behind_parts n input) = k.0 ∙ ap (reads_at m) h.1 in
    let all : first ++ second ≡ reads_at n input ++ reads_at m (behind_parts n input) = ap (λ t. t ++ second) h.0 ∙ ap (λ t. reads_at n input ++ t) there in (
      all ∙ (sym (reads_more n m input) ∙ ap (λ i. reads_at i input) (sym count)),
      k.1 ∙ (ap (behind_parts m) h.1 ∙ (sym (behind_more n m input) ∙ ap (λ i. behind_parts i input) (sym count))),
    )

-- Some parts were read, and then more.
pub read_then : {X : Type 0} (bytes : X → Option (List ℕ)) (faults : X → ℕ) (old mid new : X) (first second : List Read) → HasRead first (effect bytes faults old mid) → HasRead second (effect bytes faults mid new) →
    HasRead (first ++ second) (effect bytes faults old new)
read_then bytes faults old mid new first second h k =
    (k.0 ∙ h.0, told_then (Reads first) (Reads second) (Reads (first ++ second)) (bytes old) (bytes mid) (bytes new) (read_behind first second) h.1 k.1)

take_behind : (n k : ℕ) (input now : List ℕ) → TakesParts n (behind_parts k input) now → TakesParts (k + n) input now
take_behind n zero input now h = subst (λ i. TakesParts i input now) (sym (zero-add n)) h
take_behind n (suc k) input now h =
    let count : suc (k + n) ≡ suc k + n = omega arith in
    subst (λ i. TakesParts i input now) count (inr (take_behind n k (behind part_limit input) now h))

-- Some parts were read, and then no more than some were taken.
pub took_then : {X : Type 0} (bytes : X → Option (List ℕ)) (faults : X → ℕ) (old mid new : X) (reads : List Read) (n : ℕ) → HasRead reads (effect bytes faults old mid) → TookParts n (effect bytes faults mid new) →
    TookParts (length reads + n) (effect bytes faults old new)
took_then bytes faults old mid new reads n h k =
    told_then (Reads reads) (TakesParts n) (TakesParts (length reads + n)) (bytes old) (bytes mid) (bytes new)
    (λ input at now is takes. take_behind n (length reads) input now (subst (λ t. TakesParts n t now) is.1 takes)) h.1 k

-- Some parts were read, and then a call failed.
pub failed_then : {X : Type 0} (bytes : X → Option (List ℕ)) (faults : X → ℕ) (old mid new : X) (reads : List Read) → HasRead reads (effect bytes faults old mid) → HasFaulted (effect bytes faults mid new) → HasFaulted (effect bytes faults old new)
failed_then bytes faults old mid new reads h k = let same : faults mid ≡ faults old = h.0 in omega (arith, same, k)
