-- A record is put behind those that a file keeps.
use Rattle.std.proofs.Common.{◌≡◌, ℕ, zero, suc, ◌+◌, ◌*◌, ◌<◌, ◌≤◌, ◌⊎◌, List, [], ◌∷◌, ◌++◌, length, drop, sym, ◌∙◌, ap, subst, arith, Some, All, slice_get, length-append, Result, Ok, Err, OnOk}
use Rattle.std.proofs.lemmas.Option.{same_Some}
use Rattle.nego_io.specs.Disks.{overwritten, Torn}
use Rattle.agent_journal.specs.Slots.{kept, IsClosed}
use Rattle.agent_journal.proofs.FileLaws.{open_slots, IsWhole, parts, torn-behind, torn-gate, gated, gated-open, gated-next, written-record, written-gate, length-open_slots}

-- A file that keeps so many records, and then has a closed gate.
pub record IsOpenEnded (file : List ℕ) (count : ℕ) : Type 0 where
  pub all : length (kept file) ≡ count
  pub whole : All IsWhole (kept file)
  pub closed : IsClosed count file
  pub rest : List ℕ
  pub split : file ≡ open_slots (kept file) ++ 0 ∷ rest

-- a rest that begins with a closed gate
rest-closed : (front rest : List ℕ) (n : ℕ) → length front ≡ n → slice_get (front ++ rest) n ≡ Some 0 → rest ≡ 0 ∷ drop 1 rest
rest-closed [] [] n is h = absurd (cc h)
rest-closed [] (x ∷ rest) zero is h = ap (λ (y : ℕ). y ∷ rest) (same_Some x 0 h)
rest-closed [] (x ∷ rest) (suc n) is h = absurd (omega (arith, is))
rest-closed (y ∷ front) rest zero is h = absurd (omega (arith, is))
rest-closed (y ∷ front) rest (suc n) is h = rest-closed front rest n (omega (arith, is)) h

pub open-ended : (file : List ℕ) (count : ℕ) → length (kept file) ≡ count → IsClosed count file → IsOpenEnded file count
open-ended file count all closed =
    let p = parts 10000 file in
    let many : length p.recs ≡ count = ap (λ (rs : List (List ℕ)). length rs) (sym p.are) ∙ all in
    let place : length (open_slots p.recs) ≡ 128 * count = length-open_slots p.recs p.whole ∙ ap (λ (n : ℕ). 128 * n) many in
    let rest_is : p.rest ≡ 0 ∷ drop 1 p.rest = rest-closed (open_slots p.recs) p.rest (128 * count) place (subst (λ (f : List ℕ). slice_get f (128 * count) ≡ Some 0) p.split closed) in
    record {
      all = all;
      whole = subst (λ (rs : List (List ℕ)). All IsWhole rs) (sym p.are) p.whole;
      closed = closed;
      rest = drop 1 p.rest;
      split = p.split ∙ (ap (λ (xs : List ℕ). open_slots p.recs ++ xs) rest_is ∙ ap (λ (rs : List (List ℕ)). open_slots rs ++ 0 ∷ drop 1 p.rest) (sym p.are));
    }

-- while the record is being written, the file keeps what it kept
pub put-first : (file : List ℕ) (count n : ℕ) (image : List ℕ) → IsOpenEnded file count → Torn (128 * count + 1) n file image → kept image ≡ kept file
put-first file count n image ready torn =
    let p = parts 10000 file in
    let many : count ≡ length p.recs = sym ready.all ∙ ap (λ (rs : List (List ℕ)). length rs) p.are in
    torn-behind 10000 file p n image
    (subst (λ (k : ℕ). slice_get file (128 * k) ≡ Some 0) many ready.closed)
    (subst (λ (k : ℕ). Torn (128 * k + 1) n file image) many torn)

-- what stands behind the gate once the record is written
pub put_back : List ℕ → ℕ → List ℕ → List ℕ
put_back file count r = drop (128 * length (kept file) + 1 + length (r ++ 0 ∷ [])) file

pub put-written : (file : List ℕ) (count : ℕ) (r : List ℕ) → IsOpenEnded file count → IsWhole r → overwritten (128 * count + 1) (r ++ 0 ∷ []) file ≡ gated (kept file) 0 r (put_back file count r)
unfolding put_back
put-written file count r ready here =
    ap (λ (k : ℕ). overwritten (128 * k + 1) (r ++ 0 ∷ []) file) (sym ready.all)
    ∙ written-record (kept file) ready.rest r file ready.whole here ready.split

-- while the gate is being opened, the file keeps the record or it doesn't
pub put-second : (file : List ℕ) (count : ℕ) (r image : List ℕ) → IsOpenEnded file count → IsWhole r → count < 10000 → Torn (128 * count) 1 (gated (kept file) 0 r (put_back file count r)) image →
    (kept image ≡ kept file) ⊎ (kept image ≡ kept file ++ r ∷ [])
put-second file count r image ready here few torn =
    torn-gate 10000 (kept file) r (put_back file count r) ready.whole here (omega (arith, few, ready.all)) image
    (subst (λ (k : ℕ). Torn (128 * k) 1 (gated (kept file) 0 r (put_back file count r)) image) (sym ready.all) torn)

-- once the gate is open, the file keeps the record, and its next gate is closed
pub put-opened : (file : List ℕ) (count : ℕ) (r : List ℕ) → IsOpenEnded file count → overwritten (128 * count) (1 ∷ []) (gated (kept file) 0 r (put_back file count r)) ≡ gated (kept file) 1 r (put_back file count r)
put-opened file count r ready =
    ap (λ (k : ℕ). overwritten (128 * k) (1 ∷ []) (gated (kept file) 0 r (put_back file count r))) (sym ready.all)
    ∙ written-gate (kept file) r (put_back file count r) ready.whole

pub put-kept : (file : List ℕ) (count : ℕ) (r : List ℕ) → IsOpenEnded file count → IsWhole r → count < 10000 → kept (gated (kept file) 1 r (put_back file count r)) ≡ kept file ++ r ∷ []
put-kept file count r ready here few = gated-open 10000 (kept file) r (put_back file count r) ready.whole here (omega (arith, few, ready.all))

pub put-closed : (file : List ℕ) (count : ℕ) (r : List ℕ) → IsOpenEnded file count → IsWhole r → count < 10000 → IsClosed (count + 1) (gated (kept file) 1 r (put_back file count r))
put-closed file count r ready here few =
    subst (λ (k : ℕ). IsClosed (k + 1) (gated (kept file) 1 r (put_back file count r))) ready.all
    (gated-next 10000 (kept file) r (put_back file count r) ready.whole here (omega (arith, few, ready.all)))

-- the gate is within the file
pub put-place : (file : List ℕ) (count : ℕ) (r : List ℕ) → IsOpenEnded file count → 128 * count ≤ length (gated (kept file) 0 r (put_back file count r))
put-place file count r ready =
    let all = length-append (open_slots (kept file)) (0 ∷ (r ++ 0 ∷ put_back file count r)) in
    omega (arith, all, length-open_slots (kept file) ready.whole, ready.all)

-- where both hold of an Ok, what follows from them does
pub on_ok : {T E : Type 0} {P Q R : Type 0} (r : Result T E) → (P → Q → R) → OnOk r P → OnOk r Q → OnOk r R
on_ok (Ok x) f p q = f p q
on_ok (Err e) f p q = tt
