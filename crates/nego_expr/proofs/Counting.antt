-- How often each number is in a list, after an edit of the list.
use Rattle.std.proofs.Common.{◌≡◌, ◌≢◌, ⊎_elim, ℕ, zero, suc, ◌+◌, ◌<◌, ◌≤◌, ◌==◌, ◌&&◌, IsTrue, not, cond, Bool, true, false, List, [], ◌∷◌, ◌++◌, length, replicate, slice_get, Some, refl, sym, subst, ap, ◌∙◌, arith, eq-eqb, ne_eqb, eqb-true}
use Rattle.std.specs.Prelude.{slice_index}
use Rattle.std.specs.List.{filter, remove}
use Rattle.std.proofs.lemmas.Bool.{cond-true, cond-false, cases_eq}
use Rattle.std.proofs.Math.ListN.{set}
use Rattle.std.proofs.lemmas.List.{get_or-set_same, get_or-set_other}
use Rattle.std.proofs.lemmas.List.Filters.{length-filter_both}
use Rattle.std.proofs.lemmas.Option.{same_Some, slice_get_within}
use Rattle.nego_base.specs.Members.{is_in, without_member}
use Rattle.nego_base.proofs.Members.{is_in-without}
use Rattle.nego_expr.specs.Counts.{AreCountsOf, AreOnes}

-- those of the numbers that are this one
abbrev pub equals : ℕ → List ℕ → List ℕ
equals m ns = filter (λ n. n == m) ns

-- they are no more than all
pub length-equals : (m : ℕ) (ns : List ℕ) → length (equals m ns) ≤ length ns
length-equals m ns = let both = length-filter_both (λ n. n == m) (λ n. not (n == m)) (λ n. refl) ns in omega (arith, both)

one_more : (a b k : ℕ) → a ≡ b + k → suc a ≡ suc b + k
one_more a b k h = omega (arith, h)

-- with one number more
length-more : (m n : ℕ) (ns : List ℕ) → length (equals m (ns ++ n ∷ [])) ≡ length (equals m ns) + cond (n == m) 1 0
length-more m n [] = go (n == m)
  where
    go : (b : Bool) → length (cond b (n ∷ []) []) ≡ 0 + cond b 1 0
    go true = refl
    go false = refl
length-more m n (k ∷ ns) = go (k == m) (length-more m n ns)
  where
    go : (b : Bool) → length (equals m (ns ++ n ∷ [])) ≡ length (equals m ns) + cond (n == m) 1 0 →
        length (cond b (k ∷ equals m (ns ++ n ∷ [])) (equals m (ns ++ n ∷ []))) ≡ length (cond b (k ∷ equals m ns) (equals m ns)) + cond (n == m) 1 0
    go true h = one_more (length (equals m (ns ++ n ∷ []))) (length (equals m ns)) (cond (n == m) 1 0) h
    go false h = h

-- without the number at a place
length-less : (m n i : ℕ) (ns : List ℕ) → slice_get ns i ≡ Some n → length (equals m ns) ≡ length (equals m (remove ns i)) + cond (n == m) 1 0
length-less m n i [] e = absurd (let l : i < 0 = slice_get_within [] i n e in omega (arith, l))
length-less m n zero (k ∷ ns) e = subst (λ q. length (equals m (k ∷ ns)) ≡ length (equals m ns) + cond (q == m) 1 0) (same_Some k n e) (go (k == m))
  where
    go : (b : Bool) → length (cond b (k ∷ equals m ns) (equals m ns)) ≡ length (equals m ns) + cond b 1 0
    go true = let more : suc (length (equals m ns)) ≡ length (equals m ns) + 1 = omega arith in more
    go false = let same : length (equals m ns) ≡ length (equals m ns) + 0 = omega arith in same
length-less m n (suc i) (k ∷ ns) e = go (k == m) (length-less m n i ns e)
  where
    go : (b : Bool) → length (equals m ns) ≡ length (equals m (remove ns i)) + cond (n == m) 1 0 →
        length (cond b (k ∷ equals m ns) (equals m ns)) ≡ length (cond b (k ∷ equals m (remove ns i)) (equals m (remove ns i))) + cond (n == m) 1 0
    go true h = one_more (length (equals m ns)) (length (equals m (remove ns i))) (cond (n == m) 1 0) h
    go false h = h

-- without a number everywhere
none_left : (m : ℕ) (ns : List ℕ) → length (equals m (without_member m ns)) ≡ 0
none_left m [] = refl
none_left m (k ∷ ns) = go (k == m) refl (none_left m ns)
  where
    go : (b : Bool) → (k == m) ≡ b → length (equals m (without_member m ns)) ≡ 0 → length (equals m (cond (not b) (k ∷ without_member m ns) (without_member m ns))) ≡ 0
    go true e h = h
    go false e h = ap (λ b. length (cond b (k ∷ equals m (without_member m ns)) (equals m (without_member m ns)))) e ∙ h

others_left : (m n : ℕ) → n ≢ m → (ns : List ℕ) → equals m (without_member n ns) ≡ equals m ns
others_left m n other [] = refl
others_left m n other (k ∷ ns) = go (k == n) refl (others_left m n other ns)
  where
    go : (b : Bool) → (k == n) ≡ b → equals m (without_member n ns) ≡ equals m ns →
        equals m (cond (not b) (k ∷ without_member n ns) (without_member n ns)) ≡ cond (k == m) (k ∷ equals m ns) (equals m ns)
    go true e h = h ∙ sym (cond-false (k == m) (k ∷ equals m ns) (equals m ns) (ne_eqb k m (λ q. other (sym (eqb-true k n e) ∙ q))))
    go false e h = ap (λ l. cond (k == m) (k ∷ l) l) h

length-without : (m n : ℕ) (ns : List ℕ) → length (equals m (without_member n ns)) ≡ cond (n == m) 0 (length (equals m ns))
length-without m n ns = ⊎_elim
    (λ e. ap (λ k. length (equals m (without_member k ns))) e ∙ (none_left m ns ∙ sym (cond-true (n == m) 0 (length (equals m ns)) (eq-eqb n m e))))
    (λ other. ap length (others_left m n other ns) ∙ sym (cond-false (n == m) 0 (length (equals m ns)) (ne_eqb n m other)))
    (cases_eq n m)

same_rest : (a b k : ℕ) → a + k ≡ b + k → a ≡ b
same_rest a b k h = omega (arith, h)

module _ (ns old new : List ℕ) (n : ℕ) (are : AreCountsOf ns old) where
  -- the counts with one more
  pub counts-add : ((m : ℕ) → slice_index new m ≡ slice_index old m + cond (n == m) 1 0) → AreCountsOf (ns ++ n ∷ []) new
  counts-add h m = h m ∙ (ap (λ k. k + cond (n == m) 1 0) (are m) ∙ sym (length-more m n ns))

  -- with one less
  pub counts-remove : (i : ℕ) → slice_get ns i ≡ Some n → ((m : ℕ) → slice_index old m ≡ slice_index new m + cond (n == m) 1 0) → AreCountsOf (remove ns i) new
  counts-remove i e h m = same_rest (slice_index new m) (length (equals m (remove ns i))) (cond (n == m) 1 0) (sym (h m) ∙ (are m ∙ length-less m n i ns e))

-- the atoms whose count is one, where one atom has another count
pub ones-set : (old : List ℕ) (n count : ℕ) (ones more : List ℕ) → n < length old → AreOnes old ones → ((m : ℕ) → is_in m more ≡ cond (n == m) (count == 1) (is_in m ones)) → AreOnes (set old n count) more
ones-set old n count ones more within are h m = h m ∙ ⊎_elim
    (λ e. cond-true (n == m) (count == 1) (is_in m ones) (eq-eqb n m e) ∙ ap (λ k. k == 1) (sym (ap (slice_index (set old n count)) (sym e) ∙ get_or-set_same old n count 0 within)))
    (λ other. cond-false (n == m) (count == 1) (is_in m ones) (ne_eqb n m other) ∙ (are m ∙ ap (λ k. k == 1) (sym (get_or-set_other old n m count 0 (λ e. other (sym e))))))
    (cases_eq n m)

-- a member counts for one, and the others for what they count without it
pub taken_one : (ns : List ℕ) (n m : ℕ) → IsTrue (is_in n ns) → cond (n == m) 1 0 + cond (is_in m (without_member n ns)) 1 0 ≡ cond (is_in m ns) 1 0
taken_one ns n m there = ⊎_elim
    (λ e.
    let one = cond-true {A = ℕ} (n == m) 1 0 (eq-eqb n m e) in
    let gone : is_in m (without_member n ns) ≡ false = is_in-without m n ns ∙ ap (λ b. not b && is_in m ns) (eq-eqb m n (sym e)) in
    let zero = cond-false {A = ℕ} (is_in m (without_member n ns)) 1 0 gone in
    let all = cond-true {A = ℕ} (is_in m ns) 1 0 (subst (λ k. IsTrue (is_in k ns)) e there) in
    omega (arith, one, zero, all))
    (λ other.
    let none = cond-false {A = ℕ} (n == m) 1 0 (ne_eqb n m other) in
    let same = ap {B = ℕ} (λ b. cond b 1 0) (is_in-without m n ns ∙ ap (λ b. not b && is_in m ns) (ne_eqb m n (λ q. other (sym q)))) in
    omega (arith, none, same))
    (cases_eq n m)

-- what stands at a place is counted
pub counted-there : (ns old : List ℕ) (n i : ℕ) → AreCountsOf ns old → slice_get ns i ≡ Some n → 0 < slice_index old n
counted-there ns old n i are e =
    let here : slice_index old n ≡ length (equals n ns) = are n in
    let one : length (equals n ns) ≡ length (equals n (remove ns i)) + 1 = length-less n n i ns e ∙ ap (λ k. length (equals n (remove ns i)) + k) (cond-true (n == n) 1 0 (eq-eqb n n refl)) in
    omega (arith, here, one)

-- a list of zeros counts nothing
pub zeros : (k m : ℕ) → slice_index (replicate k 0) m ≡ 0
zeros zero zero = refl
zeros zero (suc m) = refl
zeros (suc k) zero = refl
zeros (suc k) (suc m) = zeros k m
