-- What steps on a file leave of its slots.
use Rattle.std.proofs.Common.{◌≡◌, ◌≢◌, ℕ, zero, suc, ◌+◌, ◌-◌, ◌*◌, ◌<◌, ◌≤◌, ◌⊎◌, inl, inr, ⊎_elim, true, false, ◌==◌, nat_lt, eqb-true, eq-eqb, ltb-true, lt-ltb, List, [], ◌∷◌, ◌++◌, length, take, drop, refl, sym, ◌∙◌, ap, arith, Some, All, get_or, slice_get, append_assoc, length-append, length-take, length-drop, length-take-le, take-append-drop}
use Rattle.std.proofs.lemmas.Bool.{and_parts, and_from, cases_eq}
use Rattle.std.proofs.lemmas.List.{take_at, drop_at, drop_all, drop_more, take-append-le, take_all, drop-drop, take-take, ext_get_or, get_or-take, get_or-drop, append-nil}
use Rattle.std.proofs.lemmas.Option.{slice_get_within, get_or_from_slice_get}
use Rattle.std.proofs.lemmas.List.Elements.{All-nil, All-cons, All-head, All-tail, All-push}
use Rattle.nego_io.specs.Disks.{overwritten, Torn, Ragged}
use Rattle.agent_journal.specs.Slots.{begins_kept, records_within, Closes}

-- slots with open gates and these records
abbrev pub open_slots : List (List ℕ) → List ℕ
open_slots [] = []
open_slots (r ∷ rs) = 1 ∷ (r ++ open_slots rs)

-- A record has 127 bytes.
abbrev pub IsWhole : List ℕ → Type 0
IsWhole r = length r ≡ 127

pub length-open_slots : (rs : List (List ℕ)) → All IsWhole rs → length (open_slots rs) ≡ 128 * length rs
length-open_slots [] whole = refl
length-open_slots (r ∷ rs) whole =
    let here : length r ≡ 127 = All-head IsWhole r rs whole in
    let more = length-open_slots rs (All-tail IsWhole r rs whole) in
    let all : length (1 ∷ (r ++ open_slots rs)) ≡ suc (length r + length (open_slots rs)) = ap suc (length-append r (open_slots rs)) in
    omega (arith, here, more, all)

-- a file whose slots don't begin with one that counts keeps nothing
pub within-none : (most : ℕ) (file : List ℕ) → begins_kept file ≡ false → records_within most file ≡ []
unfolding records_within
within-none zero file none = refl
within-none (suc most) file none = rw none refl

pub within-some : (most : ℕ) (file : List ℕ) → begins_kept file ≡ true → records_within (suc most) file ≡ take 127 (drop 1 file) ∷ records_within most (drop 128 file)
unfolding records_within
within-some most file some = rw some refl

pub within-zero : (file : List ℕ) → records_within zero file ≡ []
unfolding records_within
within-zero file = refl

-- what it means to begin with a slot that counts
pub begins-parts : (file : List ℕ) → begins_kept file ≡ true → (get_or file 0 0 ≡ 1) × (128 < length file)
begins-parts file h =
    let p = and_parts (get_or file 0 0 == 1) (nat_lt 128 (length file)) h in
    (eqb-true (get_or file 0 0) 1 p.0, ltb-true 128 (length file) p.1)

pub begins-from : (file : List ℕ) → get_or file 0 0 ≡ 1 → 128 < length file → begins_kept file ≡ true
begins-from file first long = and_from (get_or file 0 0 == 1) (nat_lt 128 (length file)) (eq-eqb (get_or file 0 0) 1 first) (lt-ltb 128 (length file) long)

pub begins-not : (file : List ℕ) → (get_or file 0 0 ≢ 1) ⊎ (length file ≤ 128) → begins_kept file ≡ false
begins-not file why =
    elim (begins_kept file) as (λ b. (b ≡ true → ⊥) → b ≡ false) [ true ↦ λ h. absurd (h refl) | false ↦ λ h. refl ]
    (λ h. let p = begins-parts file h in ⊎_elim (λ other. other p.0) (λ short. omega (arith, short, p.1)) why)

-- The file is the slots of the records that it keeps, and a rest that keeps nothing more.
pub record Parts (most : ℕ) (file : List ℕ) : Type 0 where
  pub recs : List (List ℕ)
  pub rest : List ℕ
  pub are : records_within most file ≡ recs
  pub split : file ≡ open_slots recs ++ rest
  pub whole : All IsWhole recs
  pub few : length recs ≤ most
  pub behind : (recs ≡ []) ⊎ (0 < length rest)
  pub ends : records_within (most - length recs) rest ≡ []

-- a file that begins with a slot that counts is that slot, and the others
split-slot : (file : List ℕ) → get_or file 0 0 ≡ 1 → 128 < length file → file ≡ 1 ∷ (take 127 (drop 1 file) ++ drop 128 file)
split-slot [] first long = absurd (omega (arith, long))
split-slot (x ∷ xs) first long = ap (λ (y : ℕ). y ∷ xs) first ∙ ap (λ (ys : List ℕ). 1 ∷ ys) (sym (take-append-drop 127 xs))

parts-none : (most : ℕ) (file : List ℕ) → records_within most file ≡ [] → Parts most file
parts-none most file none = record {
  recs = [];
  rest = file;
  are = none;
  split = refl;
  whole = All-nil IsWhole;
  few = omega arith;
  behind = inl refl;
  ends = let same : most - 0 ≡ most = omega arith in rw same none;
}

parts-some : (most : ℕ) (file : List ℕ) → begins_kept file ≡ true → Parts most (drop 128 file) → Parts (suc most) file
parts-some most file some more =
    let p = begins-parts file some in
    let first : List ℕ = take 127 (drop 1 file) in
    record {
      recs = first ∷ more.recs;
      rest = more.rest;
      are = within-some most file some ∙ ap (λ (rs : List (List ℕ)). first ∷ rs) more.are;
      split =
          split-slot file p.0 p.1
          ∙ (ap (λ (xs : List ℕ). 1 ∷ (first ++ xs)) more.split ∙ ap (λ (xs : List ℕ). 1 ∷ xs) (sym (append_assoc first (open_slots more.recs) more.rest)));
      whole = All-cons IsWhole first more.recs (length-take-le 127 (drop 1 file) (let n = length-drop 1 file in omega (arith, n, p.1))) more.whole;
      few = omega (arith, more.few);
      behind = inr (⊎_elim (λ none.
          let is : drop 128 file ≡ more.rest = more.split ∙ ap (λ (rs : List (List ℕ)). open_slots rs ++ more.rest) none in
          let n = ap (λ (xs : List ℕ). length xs) is in
          omega (arith, n, length-drop 128 file, p.1)) (λ there. there) more.behind);
      ends = let same : suc most - length (first ∷ more.recs) ≡ most - length more.recs = omega arith in rw same more.ends;
    }

pub parts : (most : ℕ) (file : List ℕ) → Parts most file
parts zero file = parts-none zero file (within-zero file)
parts (suc most) file =
    elim (begins_kept file) as (λ b. begins_kept file ≡ b → Parts (suc most) file) [
      | true ↦ λ some. parts-some most file some (parts most (drop 128 file))
      | false ↦ λ none. parts-none (suc most) file (within-none (suc most) file none)
    ] refl

-- Slots of records, and a rest that keeps nothing more.
pub joined : (most : ℕ) (rs : List (List ℕ)) (rest : List ℕ) → All IsWhole rs → length rs ≤ most → (rs ≡ []) ⊎ (0 < length rest) →
    records_within most (open_slots rs ++ rest) ≡ rs ++ records_within (most - length rs) rest
joined most [] rest whole few behind = let same : most - 0 ≡ most = omega arith in rw same refl
joined zero (r ∷ rs) rest whole few behind = absurd (omega (arith, few))
joined (suc most) (r ∷ rs) rest whole few behind =
    let here : length r ≡ 127 = All-head IsWhole r rs whole in
    let there : 0 < length rest = ⊎_elim (λ none. absurd (cc none)) (λ h. h) behind in
    let more : List ℕ = open_slots rs ++ rest in
    let file : List ℕ = 1 ∷ (r ++ more) in
    let is : 1 ∷ ((r ++ open_slots rs) ++ rest) ≡ file = ap (λ (xs : List ℕ). 1 ∷ xs) (append_assoc r (open_slots rs) rest) in
    let long : 128 < length file =
    omega (arith, here, there, length-append r more, length-append (open_slots rs) rest) in
    let some : begins_kept file ≡ true = begins-from file refl long in
    let same : suc most - length (r ∷ rs) ≡ most - length rs = omega arith in
    ap (λ (xs : List ℕ). records_within (suc most) xs) is
    ∙ (within-some most file some
    ∙ (ap (λ (x : List ℕ). x ∷ records_within most (drop 127 (r ++ more))) (take_at r more 127 here)
    ∙ (ap (λ (xs : List ℕ). r ∷ records_within most xs) (drop_at r more 127 here)
    ∙ (ap (λ (xs : List (List ℕ)). r ∷ xs) (joined most rs rest (All-tail IsWhole r rs whole) (omega (arith, few)) (inr there))
    ∙ ap (λ (n : ℕ). r ∷ (rs ++ records_within n rest)) (sym same)))))

-- a gate that is closed already
pub closes-already : (at : ℕ) (file found : List ℕ) (n : ℕ) → take n found ≡ take (length found) (drop at file) → n ≢ 0 → n ≤ length found → get_or found 0 0 ≡ 0 → Closes at file file
closes-already at file found n is some within closed = record {
  closed = get-dropped at file (first-taken n found (drop at file) is some within closed);
  torn = record { stays = λ k there outside. refl; no_shorter = omega arith; no_longer = omega arith };
}
  where
    first-taken : (n : ℕ) (found rest : List ℕ) → take n found ≡ take (length found) rest → n ≢ 0 → n ≤ length found → get_or found 0 0 ≡ 0 → slice_get rest 0 ≡ Some 0
    first-taken n [] rest is some within closed = absurd (some (omega (arith, within)))
    first-taken zero (x ∷ xs) rest is some within closed = absurd (some refl)
    first-taken (suc n) (x ∷ xs) [] is some within closed = absurd (cc is)
    first-taken (suc n) (x ∷ xs) (y ∷ ys) is some within closed = let same : x ≡ y = ap (λ (l : List ℕ). get_or l 0 0) is in ap (λ (z : ℕ). Some z) (sym same ∙ closed)

    get-dropped : (at : ℕ) (file : List ℕ) → slice_get (drop at file) 0 ≡ Some 0 → slice_get file at ≡ Some 0
    get-dropped zero file h = h
    get-dropped (suc at) [] h = h
    get-dropped (suc at) (x ∷ xs) h = get-dropped at xs h

-- Written closed again, it is as it was.
pub closed-again : (at : ℕ) (file : List ℕ) → slice_get file at ≡ Some 0 → overwritten at (0 ∷ []) file ≡ file
closed-again at file closed =
    let byte : get_or file at 0 ≡ 0 = get_or_from_slice_get file at 0 0 closed in
    let rest : drop at file ≡ 0 ∷ drop (at + 1) file = drop_more file at 0 (slice_get_within file at 0 closed) ∙ ap (λ (x : ℕ). x ∷ drop (at + 1) file) byte in
    ap (λ (xs : List ℕ). take at file ++ xs) (sym rest) ∙ take-append-drop at file

-- A file that was cut behind a gate, once that is closed.
pub closed-end : (at : ℕ) (file : List ℕ) → overwritten at (0 ∷ []) (take (at + 1) file) ≡ take at file ++ 0 ∷ []
closed-end at file =
    ap (λ (xs : List ℕ). xs ++ 0 ∷ drop (at + 1) (take (at + 1) file)) (take-take at (at + 1) file (omega arith))
    ∙ ap (λ (xs : List ℕ). take at file ++ 0 ∷ xs) (drop_all (at + 1) (take (at + 1) file) (omega (arith, length-take (at + 1) file)))

-- A piece and then the byte before it are written as one piece.
pub overwritten-both : (at x : ℕ) (piece file : List ℕ) → at < length file → overwritten at (x ∷ []) (overwritten (at + 1) piece file) ≡ overwritten at (x ∷ piece) file
overwritten-both at x piece file there =
    let rest : List ℕ = piece ++ drop (at + 1 + length piece) file in
    let front : length (take (at + 1) file) ≡ at + 1 = length-take-le (at + 1) file (omega (arith, there)) in
    let before : take at (take (at + 1) file ++ rest) ≡ take at file =
    take-append-le at (take (at + 1) file) rest (omega (arith, front)) ∙ take-take at (at + 1) file (omega arith) in
    let behind : at + 1 + length piece ≡ at + length (x ∷ piece) = omega arith in
    ap (λ (xs : List ℕ). xs ++ x ∷ drop (at + 1) (take (at + 1) file ++ rest)) before
    ∙ (ap (λ (xs : List ℕ). take at file ++ x ∷ xs) (drop_at (take (at + 1) file) rest (at + 1) front)
    ∙ ap (λ (n : ℕ). take at file ++ x ∷ (piece ++ drop n file)) behind)

-- A rest with the same first byte that isn't longer keeps nothing either.
rest-ends : (most : ℕ) (rest other : List ℕ) → records_within most rest ≡ [] → get_or other 0 0 ≡ get_or rest 0 0 → length other ≤ length rest → records_within most other ≡ []
rest-ends zero rest other none same short = within-zero other
rest-ends (suc most) rest other none same short =
    within-none (suc most) other
    (elim (begins_kept other) as (λ b. (b ≡ true → ⊥) → b ≡ false) [ true ↦ λ h. absurd (h refl) | false ↦ λ h. refl ]
    (λ some.
    let p = begins-parts other some in
    let begins : begins_kept rest ≡ true = begins-from rest (sym same ∙ p.0) (omega (arith, p.1, short)) in
    cc (sym (within-some most rest begins) ∙ none)))

module _ (most : ℕ) (file : List ℕ) (p : Parts most file) where
  pub place-rest : length (open_slots p.recs) ≡ 128 * length p.recs
  place-rest = length-open_slots p.recs p.whole

  pub length-file : length file ≡ 128 * length p.recs + length p.rest
  length-file = ap (λ (xs : List ℕ). length xs) p.split ∙ (length-append (open_slots p.recs) p.rest ∙ ap (λ (n : ℕ). n + length p.rest) place-rest)

  pub front-file : take (128 * length p.recs) file ≡ open_slots p.recs
  front-file = ap (λ (xs : List ℕ). take (128 * length p.recs) xs) p.split ∙ take_at (open_slots p.recs) p.rest (128 * length p.recs) place-rest

  pub back-file : drop (128 * length p.recs) file ≡ p.rest
  back-file = ap (λ (xs : List ℕ). drop (128 * length p.recs) xs) p.split ∙ drop_at (open_slots p.recs) p.rest (128 * length p.recs) place-rest

  -- A file with the same slots keeps the same records where its rest keeps nothing more.
  pub keeps-same : (image : List ℕ) → take (128 * length p.recs) image ≡ open_slots p.recs → (p.recs ≡ []) ⊎ (0 < length (drop (128 * length p.recs) image)) →
      records_within (most - length p.recs) (drop (128 * length p.recs) image) ≡ [] → records_within most image ≡ records_within most file
  keeps-same image front behind none =
      let rest : List ℕ = drop (128 * length p.recs) image in
      let split : image ≡ open_slots p.recs ++ rest = sym (take-append-drop (128 * length p.recs) image) ∙ ap (λ (xs : List ℕ). xs ++ rest) front in
      ap (λ (xs : List ℕ). records_within most xs) split
      ∙ (joined most p.recs rest p.whole p.few behind ∙ (ap (λ (rs : List (List ℕ)). p.recs ++ rs) none ∙ (append-nil p.recs ∙ sym p.are)))

  -- what stands behind the next gate may go
  pub ragged-keeps : (image : List ℕ) → Ragged (128 * length p.recs + 1) file image → records_within most image ≡ records_within most file
  ragged-keeps image ragged =
      let m : ℕ = 128 * length p.recs in
      let shorter : m ≤ m + 1 = omega arith in
      let front : take m image ≡ open_slots p.recs =
      sym (take-take m (m + 1) image shorter) ∙ (ap (λ (xs : List ℕ). take m xs) ragged.front ∙ (take-take m (m + 1) file shorter ∙ front-file)) in
      let gate : get_or (drop m image) 0 0 ≡ get_or p.rest 0 0 =
      get_or-drop m image 0 0
      ∙ (sym (get_or-take (m + 1) image (m + 0) 0 (omega arith))
      ∙ (ap (λ (xs : List ℕ). get_or xs (m + 0) 0) ragged.front
      ∙ (get_or-take (m + 1) file (m + 0) 0 (omega arith) ∙ (sym (get_or-drop m file 0 0) ∙ ap (λ (xs : List ℕ). get_or xs 0 0) back-file)))) in
      let short : length (drop m image) ≤ length p.rest = omega (arith, length-drop m image, length-file, ragged.no_longer) in
      keeps-same image front
      (⊎_elim (λ none. inl none) (λ there. inr (
      let both = sym (length-take (m + 1) image) ∙ (ap (λ (xs : List ℕ). length xs) ragged.front ∙ length-take (m + 1) file) in
      omega (arith, both, there, length-file, length-drop m image))) p.behind)
      (rest-ends (most - length p.recs) p.rest (drop m image) p.ends gate short)

-- a write changes nothing before it
pub torn-front : (at count m : ℕ) (before image : List ℕ) → Torn at count before image → m ≤ at → m ≤ length before → take m image ≡ take m before
torn-front at count m before image torn below within =
    let of_image : length (take m image) ≡ m = length-take-le m image (omega (arith, within, torn.no_shorter)) in
    let of_before : length (take m before) ≡ m = length-take-le m before within in
    ext_get_or 0 (take m image) (take m before) (of_image ∙ sym of_before)
    (λ k there.
    let less : k < m = omega (arith, there, of_image) in
    get_or-take m image k 0 less ∙ (torn.stays k (omega (arith, less, within)) (inl (omega (arith, less, below))) ∙ sym (get_or-take m before k 0 less)))

-- nor behind it
pub torn-back : (at count : ℕ) (before image : List ℕ) → Torn at count before image → at + count ≤ length before → drop (at + count) image ≡ drop (at + count) before
torn-back at count before image torn within =
    let same : length image ≡ length before = omega (arith, within, torn.no_shorter, torn.no_longer) in
    ext_get_or 0 (drop (at + count) image) (drop (at + count) before)
    (length-drop (at + count) image ∙ (ap (λ (n : ℕ). n - (at + count)) same ∙ sym (length-drop (at + count) before)))
    (λ k there.
    let within : at + count + k < length before = omega (arith, there, length-drop (at + count) image, same) in
    get_or-drop (at + count) image k 0 ∙ (torn.stays (at + count + k) within (inr (omega arith)) ∙ sym (get_or-drop (at + count) before k 0)))

-- a file of slots and a closed gate, or of slots alone, whose next gate is being closed
pub torn-short : (most : ℕ) (file : List ℕ) (p : Parts most file) (image : List ℕ) → length file ≤ 128 * length p.recs + 1 → Torn (128 * length p.recs) 1 file image → records_within most image ≡ records_within most file
torn-short most file p image short torn =
    let m : ℕ = 128 * length p.recs in
    let within : m ≤ length file = omega (arith, length-file most file p) in
    keeps-same most file p image
    (torn-front m 1 m file image torn (omega arith) within ∙ front-file most file p)
    (⊎_elim (λ none. inl none) (λ there. inr (omega (arith, there, length-file most file p, torn.no_shorter, length-drop m image))) p.behind)
    (within-none (most - length p.recs) (drop m image) (begins-not (drop m image) (inr (omega (arith, length-drop m image, torn.no_longer, short)))))

-- a record is being written behind a closed gate
pub torn-behind : (most : ℕ) (file : List ℕ) (p : Parts most file) (count : ℕ) (image : List ℕ) → slice_get file (128 * length p.recs) ≡ Some 0 → Torn (128 * length p.recs + 1) count file image → records_within most image ≡ records_within most file
torn-behind most file p count image closed torn =
    let m : ℕ = 128 * length p.recs in
    let there : m < length file = slice_get_within file m 0 closed in
    let is_zero : get_or file m 0 ≡ 0 = get_or_from_slice_get file m 0 0 closed in
    let gate : get_or (drop m image) 0 0 ≡ 0 =
    get_or-drop m image 0 0
    ∙ (let place : m + 0 ≡ m = omega arith in ap (λ (k : ℕ). get_or image k 0) place ∙ (torn.stays m there (inl (omega arith)) ∙ is_zero)) in
    keeps-same most file p image
    (torn-front (m + 1) count m file image torn (omega arith) (omega (arith, there)) ∙ front-file most file p)
    (inr (omega (arith, there, torn.no_shorter, length-drop m image)))
    (within-none (most - length p.recs) (drop m image) (begins-not (drop m image) (inl (λ one. absurd (omega (arith, gate, one))))))

-- one more slot
pub open_slots-push : (rs : List (List ℕ)) (r back : List ℕ) → open_slots (rs ++ r ∷ []) ++ back ≡ open_slots rs ++ 1 ∷ (r ++ back)
open_slots-push [] r back = ap (λ (xs : List ℕ). 1 ∷ (xs ++ back)) (append-nil r)
open_slots-push (x ∷ rs) r back =
    ap (λ (xs : List ℕ). 1 ∷ xs)
    (append_assoc x (open_slots (rs ++ r ∷ [])) back ∙ (ap (λ (xs : List ℕ). x ++ xs) (open_slots-push rs r back) ∙ sym (append_assoc x (open_slots rs) (1 ∷ (r ++ back)))))

-- the byte behind a front
slice_get_at : (front : List ℕ) (x : ℕ) (back : List ℕ) (n : ℕ) → length front ≡ n → slice_get (front ++ x ∷ back) n ≡ Some x
slice_get_at [] x back zero is = refl
slice_get_at [] x back (suc n) is = absurd (omega (arith, is))
slice_get_at (y ∷ front) x back zero is = absurd (omega (arith, is))
slice_get_at (y ∷ front) x back (suc n) is = slice_get_at front x back n (omega (arith, is))

-- Slots of records, a gate, a record behind it, and a closed gate.
abbrev pub gated : List (List ℕ) → ℕ → List ℕ → List ℕ → List ℕ
gated rs gate r back = open_slots rs ++ gate ∷ (r ++ 0 ∷ back)

module _ (most : ℕ) (rs : List (List ℕ)) (r back : List ℕ) (whole : All IsWhole rs) (here : IsWhole r) (few : length rs < most) where
  -- with an open gate the record counts
  pub gated-open : records_within most (gated rs 1 r back) ≡ rs ++ r ∷ []
  gated-open =
      let all : All IsWhole (rs ++ r ∷ []) = All-push IsWhole rs r whole here in
      ap (λ (xs : List ℕ). records_within most xs) (sym (open_slots-push rs r (0 ∷ back)))
      ∙ (joined most (rs ++ r ∷ []) (0 ∷ back) all (omega (arith, few, length-append rs (r ∷ []))) (inr (omega arith))
      ∙ (ap (λ (more : List (List ℕ)). (rs ++ r ∷ []) ++ more) (within-none (most - length (rs ++ r ∷ [])) (0 ∷ back) (begins-not (0 ∷ back) (inl (λ e. absurd (omega (arith, e))))))
      ∙ append-nil (rs ++ r ∷ [])))

  -- and else it doesn't
  pub gated-shut : (gate : ℕ) → gate ≢ 1 → records_within most (gated rs gate r back) ≡ rs
  gated-shut gate shut =
      joined most rs (gate ∷ (r ++ 0 ∷ back)) whole (omega (arith, few)) (inr (omega arith))
      ∙ (ap (λ (more : List (List ℕ)). rs ++ more) (within-none (most - length rs) (gate ∷ (r ++ 0 ∷ back)) (begins-not (gate ∷ (r ++ 0 ∷ back)) (inl shut))) ∙ append-nil rs)

  pub place-gate : length (open_slots rs) ≡ 128 * length rs
  place-gate = length-open_slots rs whole

  -- while the gate is being opened, the record counts or it doesn't
  pub torn-gate : (image : List ℕ) → Torn (128 * length rs) 1 (gated rs 0 r back) image → (records_within most image ≡ rs) ⊎ (records_within most image ≡ rs ++ r ∷ [])
  torn-gate image torn =
      let m : ℕ = 128 * length rs in
      let file : List ℕ = gated rs 0 r back in
      let long : m + 1 ≤ length file = omega (arith, length-append (open_slots rs) (0 ∷ (r ++ 0 ∷ back)), place-gate) in
      let behind : length (drop m image) ≡ length image - m = length-drop m image in
      let front : take m image ≡ open_slots rs =
      torn-front m 1 m file image torn (omega arith) (omega (arith, long)) ∙ take_at (open_slots rs) (0 ∷ (r ++ 0 ∷ back)) m place-gate in
      let rest : drop (m + 1) image ≡ r ++ 0 ∷ back =
      torn-back m 1 file image torn long
      ∙ (sym (drop-drop 1 m file) ∙ ap (λ (xs : List ℕ). drop 1 xs) (drop_at (open_slots rs) (0 ∷ (r ++ 0 ∷ back)) m place-gate)) in
      let gate : drop m image ≡ get_or image m 0 ∷ drop (m + 1) image = drop_more image m 0 (omega (arith, long, torn.no_shorter)) in
      let is : image ≡ gated rs (get_or image m 0) r back =
      sym (take-append-drop m image)
      ∙ (ap (λ (xs : List ℕ). xs ++ drop m image) front
      ∙ (ap (λ (xs : List ℕ). open_slots rs ++ xs) gate ∙ ap (λ (xs : List ℕ). open_slots rs ++ get_or image m 0 ∷ xs) rest)) in
      elim (cases_eq (get_or image m 0) 1) [
        | inl one ↦ inr (ap (λ (xs : List ℕ). records_within most xs) (is ∙ ap (λ (n : ℕ). gated rs n r back) one) ∙ gated-open)
        | inr shut ↦ inl (ap (λ (xs : List ℕ). records_within most xs) is ∙ gated-shut (get_or image m 0) shut)
      ]

  -- the next gate is closed
  pub gated-next : slice_get (gated rs 1 r back) (128 * (length rs + 1)) ≡ Some 0
  gated-next =
      let place : length (open_slots (rs ++ r ∷ [])) ≡ 128 * (length rs + 1) =
      length-open_slots (rs ++ r ∷ []) (All-push IsWhole rs r whole here) ∙ ap (λ (n : ℕ). 128 * n) (length-append rs (r ∷ [])) in
      ap (λ (xs : List ℕ). slice_get xs (128 * (length rs + 1))) (sym (open_slots-push rs r (0 ∷ back)))
      ∙ slice_get_at (open_slots (rs ++ r ∷ [])) 0 back (128 * (length rs + 1)) place

-- the file once the record and a closed gate are written behind a closed one
pub written-record : (rs : List (List ℕ)) (rest r : List ℕ) (file : List ℕ) → All IsWhole rs → IsWhole r → file ≡ open_slots rs ++ 0 ∷ rest →
    overwritten (128 * length rs + 1) (r ++ 0 ∷ []) file ≡ gated rs 0 r (drop (128 * length rs + 1 + length (r ++ 0 ∷ [])) file)
written-record rs rest r file whole here is =
    let m : ℕ = 128 * length rs in
    let back : List ℕ = drop (m + 1 + length (r ++ 0 ∷ [])) file in
    let place : length (open_slots rs ++ 0 ∷ []) ≡ m + 1 = omega (arith, length-append (open_slots rs) (0 ∷ []), length-open_slots rs whole) in
    let front : take (m + 1) file ≡ open_slots rs ++ 0 ∷ [] =
    ap (λ (xs : List ℕ). take (m + 1) xs) (is ∙ sym (append_assoc (open_slots rs) (0 ∷ []) rest)) ∙ take_at (open_slots rs ++ 0 ∷ []) rest (m + 1) place in
    ap (λ (xs : List ℕ). xs ++ ((r ++ 0 ∷ []) ++ back)) front
    ∙ (append_assoc (open_slots rs) (0 ∷ []) ((r ++ 0 ∷ []) ++ back) ∙ ap (λ (xs : List ℕ). open_slots rs ++ 0 ∷ xs) (append_assoc r (0 ∷ []) back))

-- and once the gate is opened
pub written-gate : (rs : List (List ℕ)) (r back : List ℕ) → All IsWhole rs → overwritten (128 * length rs) (1 ∷ []) (gated rs 0 r back) ≡ gated rs 1 r back
written-gate rs r back whole =
    let m : ℕ = 128 * length rs in
    let file : List ℕ = gated rs 0 r back in
    let place : length (open_slots rs) ≡ m = length-open_slots rs whole in
    let rest : drop (m + 1) file ≡ r ++ 0 ∷ back = sym (drop-drop 1 m file) ∙ ap (λ (xs : List ℕ). drop 1 xs) (drop_at (open_slots rs) (0 ∷ (r ++ 0 ∷ back)) m place) in
    ap (λ (xs : List ℕ). xs ++ 1 ∷ drop (m + 1) file) (take_at (open_slots rs) (0 ∷ (r ++ 0 ∷ back)) m place)
    ∙ ap (λ (xs : List ℕ). open_slots rs ++ 1 ∷ xs) rest

-- What was read of a slot and one byte more: the slot counts by itself, and this is its record.
pub slot-read : (slot rest : List ℕ) (n : ℕ) → length slot ≡ 129 → take n slot ≡ take (length slot) rest → 129 ≤ n → get_or slot 0 0 ≡ 1 →
    (begins_kept rest ≡ true) × (take 127 (drop 1 slot) ≡ take 127 (drop 1 rest))
slot-read slot rest n long is all first =
    let whole : slot ≡ take 129 rest = sym (take_all n slot (omega (arith, long, all))) ∙ (is ∙ ap (λ (k : ℕ). take k rest) long) in
    let many : 129 ≤ length rest = let both = ap (λ (xs : List ℕ). length xs) whole in omega (arith, both, long, length-take 129 rest) in
    let gate : get_or rest 0 0 ≡ 1 = sym (get_or-take 129 rest 0 0 (omega arith)) ∙ (ap (λ (xs : List ℕ). get_or xs 0 0) (sym whole) ∙ first) in
    (begins-from rest gate (omega (arith, many)), ap (λ (xs : List ℕ). take 127 (drop 1 xs)) whole ∙ record-of rest)
  where
    record-of : (rest : List ℕ) → take 127 (drop 1 (take 129 rest)) ≡ take 127 (drop 1 rest)
    record-of [] = refl
    record-of (x ∷ rest) = take-take 127 128 rest (omega arith)
