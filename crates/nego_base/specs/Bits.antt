-- A word of bits as a rising list of numbers.
use Rattle.std.specs.Prelude.{◌≡◌, ℕ, ◌+◌, ◌*◌, ◌%◌, ◌^◌, ◌<◌, ◌≤◌, Bool, true, false, ◌==◌, if◌then◌else◌, List, [], ◌∷◌, ◌++◌, refl}
use Rattle.std.specs.List.{filter, range_with_len, sum_by}
use Rattle.std.specs.Int.{bit_at}
use Rattle.std.proofs.Common.{subst, add_comm, sym, ap, ◌∙◌, arith, ◌⊎◌, zero, suc, add-zero, zero-add, inl, inr}
use Rattle.std.proofs.lemmas.Bool.{cases_Bool, eqb-true, eqb-false}
use Rattle.std.proofs.lemmas.List.Elements.{filter-append}
use Rattle.std.proofs.lemmas.List.Sums.{sum_by-append}
use Rattle.std.proofs.lemmas.Nat.{mod-pow-add}
use Rattle.std.proofs.lemmas.Nat.Bits.{bit_at-lt}
use Rattle.std.proofs.Math.Nat.{mod-eq_of_lt}

-- the numbers below the width whose bit is set, rising
unfoldable pub members : ℕ → ℕ → List ℕ
members width bits = filter (λ k. bit_at bits k == 1) (range_with_len 0 width)

-- the word in which the bits of these numbers are set
unfoldable pub word_of : List ℕ → ℕ
word_of xs = sum_by (λ x. 2 ^ x) xs

-- the width is at most 64, and the word is below 2 to the width
pub record FitsWidth (width bits : ℕ) : Type 0 where
  pub narrow : width ≤ 64
  pub fits : bits < 2 ^ width

pub range-suc : (a n : ℕ) → range_with_len a (suc n) ≡ range_with_len a n ++ (a + n) ∷ []
range-suc a zero = rw (add-zero a) refl
range-suc a (suc n) =
    let e : a + 1 + n ≡ a + suc n = omega arith in
    ap (λ ns. a ∷ ns) (range-suc (a + 1) n ∙ rw e refl)

pub members-zero : (bits : ℕ) → members 0 bits ≡ []
unfolding members
members-zero bits = refl

pub members-suc : (width bits : ℕ) → members (suc width) bits ≡ members width bits ++ (if bit_at bits width == 1 then width ∷ [] else [])
unfolding members
members-suc width bits =
    let test : ℕ → Bool = λ k. bit_at bits k == 1 in
    ap (filter test) (range-suc 0 width ∙ ap (λ n. range_with_len 0 width ++ n ∷ []) (zero-add width)) ∙ filter-append test (range_with_len 0 width) (width ∷ [])

-- one more digit of a number
pub mod-suc_bit : (width n : ℕ) → n % 2 ^ suc width ≡ bit_at n width * 2 ^ width + n % 2 ^ width
mod-suc_bit width n =
    let P : ℕ → Type 0 = λ k. n % 2 ^ k ≡ bit_at n width * 2 ^ width + n % 2 ^ width in
    let one_more : 1 + width ≡ suc width = omega arith in
    subst P one_more (mod-pow-add n 1 width)

-- a bit as the word of the list that holds it where it is set
word_of-bit : (width bits : ℕ) → word_of (if bit_at bits width == 1 then width ∷ [] else []) ≡ bit_at bits width * 2 ^ width
unfolding word_of
word_of-bit width bits = by_bit (cases_Bool (bit_at bits width == 1))
  where
    by_bit : ((bit_at bits width == 1) ≡ true) ⊎ ((bit_at bits width == 1) ≡ false) → sum_by (λ x. 2 ^ x) (if bit_at bits width == 1 then width ∷ [] else []) ≡ bit_at bits width * 2 ^ width
    by_bit (inl e) = let q = eqb-true (bit_at bits width) 1 e in rw (e, q) (omega arith)
    by_bit (inr e) =
        let q : bit_at bits width ≡ 0 = omega (arith, bit_at-lt bits width, eqb-false (bit_at bits width) 1 e) in rw (e, q) (omega arith)

pub word_of-members_mod : (width bits : ℕ) → word_of (members width bits) ≡ bits % 2 ^ width
unfolding word_of members
word_of-members_mod zero bits = let h : bits % 1 < 1 = omega arith in omega arith
word_of-members_mod (suc width) bits =
    ap word_of (members-suc width bits)
    ∙ sum_by-append (λ x. 2 ^ x) (members width bits) (if bit_at bits width == 1 then width ∷ [] else [])
    ∙ ap (λ n. sum_by (λ x. 2 ^ x) (members width bits) + n) (word_of-bit width bits)
    ∙ add_comm (sum_by (λ x. 2 ^ x) (members width bits)) (bit_at bits width * 2 ^ width)
    ∙ ap (λ n. bit_at bits width * 2 ^ width + n) (word_of-members_mod width bits)
    ∙ sym (mod-suc_bit width bits)

pub word_of-members : (width bits : ℕ) → bits < 2 ^ width → word_of (members width bits) ≡ bits
word_of-members width bits h = word_of-members_mod width bits ∙ mod-eq_of_lt h

pub word_of-nil : word_of [] ≡ 0
unfolding word_of
word_of-nil = refl
