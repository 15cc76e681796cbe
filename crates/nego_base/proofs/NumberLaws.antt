-- A number is spelled in one way, which is how it is printed.
use Rattle.std.proofs.Common.{◌≡◌, ℕ, ◌^◌, ◌<◌, ◌≤◌, true, ◌&&◌, nat_le, Some, None, inl, inr, ◌↔◌, List, length, get_or, fold, sym, ◌∙◌, ap, arith, rules}
use Rattle.std.specs.Fmt.{decimal}
use Rattle.std.specs.List.{list_all}
use Rattle.std.proofs.lemmas.Bool.{and_parts, and_from, or_cases, or_left, or_right, leb-true, le-leb, cases_eq, cases_lt, eqb-true, eq-eqb, ne_eqb, not-true, not_from_false, cond-true}
use Rattle.std.proofs.Math.Nat.{pow-le-pow_right}
use Rattle.std.proofs.lemmas.Fmt.{digits_decimal, digits_value-decimal, decimal-digits_value, decimal_nonempty, length-decimal-le, first_decimal, decimal_digit}
use Rattle.std.proofs.lemmas.Str.Parse.{IsDigitsTest, FoldsDigits, IsNumeralModel, numerals_by_fold, digits_value_short}
use Rattle.std.proofs.lemmas.Option.{same_Some}
use Rattle.nego_base.specs.Number.{is_digit, is_numeral, onto_digit, value_of, number_of}
use Rattle.nego_base.proofs.Cases.{guard}

-- digits and their value, as std reads numbers
abbrev pub AreDigits : List ℕ → Type 0
AreDigits bytes = list_all is_digit bytes ≡ true

tells_digits : IsDigitsTest AreDigits
tells_digits = search rules

folds_digits : FoldsDigits (fold onto_digit)
folds_digits = search rules

pub digits_model : IsNumeralModel AreDigits value_of
digits_model = numerals_by_fold AreDigits tells_digits (fold onto_digit) folds_digits

-- what a numeral is
pub record IsNumeral (bytes : List ℕ) : Type 0 where
  pub filled : 0 < length bytes
  pub digits : AreDigits bytes
  pub leading : get_or bytes 0 0 ≡ 48 → length bytes ≡ 1

pub numeral_is : (bytes : List ℕ) → is_numeral bytes ≡ true → IsNumeral bytes
numeral_is bytes h =
    let outer = and_parts _ _ h in
    let inner = and_parts _ _ outer.0 in
    record {
      filled = (let f = leb-true 1 (length bytes) inner.0 in omega arith);
      digits = inner.1;
      leading = λ zero. elim (or_cases _ _ outer.1) [
        | inl one ↦ eqb-true _ 1 one
        | inr more ↦ (let e = not-true _ more in let same = eq-eqb (get_or bytes 0 0) 48 zero in cc)
      ];
    }

pub is_numeral-from : (bytes : List ℕ) → IsNumeral bytes → is_numeral bytes ≡ true
is_numeral-from bytes h =
    and_from _ _ (and_from _ _ (le-leb 1 (length bytes) (let f = h.filled in omega arith)) h.digits)
    (elim (cases_eq (get_or bytes 0 0) 48) [
      | inl zero ↦ or_left _ _ (eq-eqb _ 1 (h.leading zero))
      | inr other ↦ or_right _ _ (not_from_false _ (ne_eqb _ 48 other))
    ])

-- a numeral of at most k digits is the decimal of its value
pub numeral_decimal : (k : ℕ) (bytes : List ℕ) → k ≤ 19 → length bytes ≤ k → IsNumeral bytes → (bytes ≡ decimal (value_of bytes)) × (value_of bytes < 10 ^ k)
numeral_decimal k bytes few short h =
    let small : value_of bytes < 10 ^ k = digits_value_short digits_model bytes k h.digits short in
    let most : 10 ^ k ≤ 10 ^ 19 = pow-le-pow_right {n = 10} (omega arith) {i = k} {j = 19} few in
    (sym (decimal-digits_value digits_model bytes h.digits h.filled h.leading (omega (arith, most))), small)

-- and a decimal is a numeral of its number
pub decimal_numeral : (n : ℕ) → n < 2 ^ 64 → IsNumeral (decimal n)
decimal_numeral n h = record {
  filled = decimal_nonempty n h;
  digits = digits_decimal digits_model n h;
  leading = λ zero. elim (cases_lt 0 n) [
    | inl some ↦ absurd (let f = first_decimal n some h in omega arith)
    | inr none ↦ (let e : n ≡ 0 = omega arith in ap (λ m. length (decimal m)) e ∙ ap length (decimal_digit 0 (omega arith)))
  ];
}

pub value_of-decimal : (n : ℕ) → n < 2 ^ 64 → value_of (decimal n) ≡ n
value_of-decimal n h = digits_value-decimal digits_model n h

-- what a number's spelling is
pub number_is : (bytes : List ℕ) (n : ℕ) → number_of bytes ≡ Some n → (bytes ≡ decimal n) × (n ≤ 999999)
unfolding number_of
number_is bytes n h =
    let passed = guard (nat_le (length bytes) 6 && is_numeral bytes) (Some (value_of bytes)) n h in
    let parts = and_parts (nat_le (length bytes) 6) (is_numeral bytes) passed.0 in
    let same : value_of bytes ≡ n = same_Some (value_of bytes) n passed.1 in
    let spelled = numeral_decimal 6 bytes (omega arith) (leb-true (length bytes) 6 parts.0) (numeral_is bytes parts.1) in
    (spelled.0 ∙ ap decimal same, (let below : value_of bytes < 1000000 = spelled.1 in omega arith))

-- how a number is spelled
pub number_of-decimal : (n : ℕ) → n ≤ 999999 → number_of (decimal n) ≡ Some n
unfolding number_of
number_of-decimal n few =
    let fits : n < 2 ^ 64 = omega arith in
    let short : length (decimal n) ≤ 6 = length-decimal-le 6 n (omega arith) (omega arith) fits in
    cond-true _ (Some (value_of (decimal n))) None (and_from _ _ (le-leb (length (decimal n)) 6 short) (is_numeral-from (decimal n) (decimal_numeral n fits)))
    ∙ ap (λ m. Some m) (value_of-decimal n fits)

pub number_law : (bytes : List ℕ) (n : ℕ) → (number_of bytes ≡ Some n) ↔ ((bytes ≡ decimal n) × (n ≤ 999999))
number_law bytes n = (number_is bytes n, λ h. ap number_of h.0 ∙ number_of-decimal n h.1)
