-- The sets of passed atoms: each leaves out its outcome's atom and the last one.
use Rattle.std.proofs.Common.{◌≡◌, ◌≢◌, ℕ, ◌+◌, ◌-◌, ◌<◌, ◌≤◌, false, eqb, List, [], length, sym, subst, ap, ◌∙◌, arith, ne_eqb}
use Rattle.std.proofs.lemmas.Bool.{or_from, or_left}
use Rattle.nego_base.specs.Members.{is_in, with_member, united, IsRisingBelow}
use Rattle.nego_base.proofs.Members.{is_in-with, is_in-united, length-with, length-all_in, length-rising, all_in-members, with-rises, united-rises, empty-rises}
use Rattle.nego_expr.specs.Work.{WorkOutcome}

-- An outcome passed atoms that are below the count, each once, and are neither its own nor the last.
pub record HasPassed (count last : ℕ) (x : WorkOutcome) : Type 0 where
  pub set : IsRisingBelow count x.passed
  pub not_own : is_in x.atom x.passed ≡ false
  pub not_last : is_in last x.passed ≡ false

-- a number that isn't put in and is no member
is_in-with_other : (x y : ℕ) (xs : List ℕ) → y ≢ x → is_in x xs ≡ false → is_in x (with_member y xs) ≡ false
is_in-with_other x y xs other h = is_in-with x y xs ∙ or_from (eqb y x) (is_in x xs) (ne_eqb y x other) h

-- an outcome of an atom other than the last passed all atoms but two at most
pub passed_few : (count last : ℕ) (x : WorkOutcome) → HasPassed count last x → x.atom ≢ last → x.atom < count → last < count → length x.passed ≤ count - 2
passed_few count last x h other own there =
    let all = with-rises count last (with_member x.atom x.passed) there (with-rises count x.atom x.passed own h.set) in
    let most : length (with_member last (with_member x.atom x.passed)) + 0 ≤ count = length-rising 0 count (with_member last (with_member x.atom x.passed)) all.rising all.below (omega arith) in
    let one = length-with x.atom x.passed h.not_own in
    let two = length-with last (with_member x.atom x.passed) (is_in-with_other last x.atom x.passed other h.not_last) in
    omega (arith, most, one, two)

-- one atom more is passed
pub passed-with : (count last n : ℕ) (x new : WorkOutcome) → new.atom ≡ x.atom → new.passed ≡ with_member n x.passed → n < count → n ≢ x.atom → n ≢ last → HasPassed count last x → HasPassed count last new
passed-with count last n x new own made below other not_last h = record {
  set = subst (IsRisingBelow count) (sym made) (with-rises count n x.passed below h.set);
  not_own = ap (is_in new.atom) made ∙ (ap (λ m. is_in m (with_member n x.passed)) own ∙ is_in-with_other x.atom n x.passed other h.not_own);
  not_last = ap (is_in last) made ∙ is_in-with_other last n x.passed not_last h.not_last;
}

-- what either of two outcomes of one atom passed
pub passed-united : (count last : ℕ) (x y new : WorkOutcome) → new.atom ≡ x.atom → x.atom ≡ y.atom → new.passed ≡ united x.passed y.passed → HasPassed count last x → HasPassed count last y → HasPassed count last new
passed-united count last x y new own one made h k = record {
  set = subst (IsRisingBelow count) (sym made) (united-rises count x.passed y.passed h.set k.set);
  not_own = ap (is_in new.atom) made ∙ neither new.atom
      (ap (λ m. is_in m x.passed) own ∙ h.not_own) (ap (λ m. is_in m y.passed) (own ∙ one) ∙ k.not_own);
  not_last = ap (is_in last) made ∙ neither last h.not_last k.not_last;
}
  where
    neither : (m : ℕ) → is_in m x.passed ≡ false → is_in m y.passed ≡ false → is_in m (united x.passed y.passed) ≡ false
    neither m p q = is_in-united m x.passed y.passed ∙ or_from (is_in m x.passed) (is_in m y.passed) p q

-- a union is no smaller
pub length-united : (count : ℕ) (xs ys : List ℕ) → IsRisingBelow count xs → IsRisingBelow count ys → length xs ≤ length (united xs ys)
length-united count xs ys r s =
    length-all_in 0 xs (united xs ys) r.rising (united-rises count xs ys r s).rising
    (all_in-members xs (united xs ys) (λ m h. is_in-united m xs ys ∙ or_left (is_in m xs) (is_in m ys) h))

-- nothing is passed
pub passed-none : (count last : ℕ) (x : WorkOutcome) → x.passed ≡ [] → HasPassed count last x
passed-none count last x e = record {
  set = subst (IsRisingBelow count) (sym e) (empty-rises count);
  not_own = ap (is_in x.atom) e;
  not_last = ap (is_in last) e;
}
