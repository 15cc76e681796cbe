-- What words spell numbers, and what std's reader of numbers makes of them.
use Rattle.std.proofs.Common.{◌≡◌, ◌∙◌, ◌<◌, ◌≤◌, ◌^◌, ◌&&◌, ℕ, Bool, true, false, refl, sym, ap, rules, arith, List, length, Some, None, Result, Ok, Err, leb-true, le-leb}
use Rattle.std.specs.Prelude.{decimal, nat_le}
use Rattle.std.specs.Result.{result_ok}
use Rattle.std.specs.Str.Parse.{ParsesUnsigned, digits_value}
use Rattle.std.proofs.lemmas.Bool.{and_parts}
use Rattle.std.proofs.lemmas.Str.Parse.{IsNumeralModel, numerals_by_value, parse_digits}
use Rattle.std.proofs.lemmas.Fmt.{decimal-digits_value, digits_value-decimal}
use Rattle.nego_base.specs.Number.{is_numeral}
use Rattle.nego_base.proofs.Cases.{guard}
use Rattle.nego_base.proofs.NumberLaws.{AreDigits, numeral_is, is_numeral-from, decimal_numeral}
use Rattle.nego_cli.specs.Words.{NumberWordsAreDecimals, number_word}

own : IsNumeralModel AreDigits (digits_value 10)
own = numerals_by_value _ (search rules)

-- digits that std's reader refuses are those of a number past 64 bits
pub too_great : {E : Type 0} (most : ℕ) (word : List ℕ) (r : Result ℕ E) → most < 2 ^ 64 → is_numeral word ≡ true → ParsesUnsigned 64 10 word r
    → result_ok r ≡ None → number_word most word ≡ None
too_great most word (Ok n) fits h p e = cc
too_great most word (Err e) fits h p none =
    let d = numeral_is word h in
    let refused : ¬ ((0 < length word) × (digits_value 10 word < 2 ^ 64)) = parse_digits own 64 word (Err e) p d.digits in
    let past : nat_le (digits_value 10 word) most ≡ false = go (nat_le (digits_value 10 word) most) refl refused d.filled in
    rw (h, past) refl
  where
    go : (b : Bool) → nat_le (digits_value 10 word) most ≡ b → ¬ ((0 < length word) × (digits_value 10 word < 2 ^ 64)) → 0 < length word → nat_le (digits_value 10 word) most ≡ false
    go true f refused some = let least : digits_value 10 word ≤ most = leb-true _ _ f in absurd (refused (some, omega arith))
    go false f refused some = f

-- ---- the law

spelled : (most : ℕ) → most < 2 ^ 64 → (word : List ℕ) (n : ℕ) → number_word most word ≡ Some n → (word ≡ decimal n) × (n ≤ most)
spelled most fits word n h =
    let p = guard (is_numeral word && nat_le (digits_value 10 word) most) (Some (digits_value 10 word)) n h in
    let q = and_parts (is_numeral word) _ p.0 in
    let d = numeral_is word q.0 in
    let value : digits_value 10 word ≡ n = cc p.1 in
    let least : digits_value 10 word ≤ most = leb-true _ _ q.1 in
    (sym (decimal-digits_value own word d.digits d.filled d.leading (omega arith)) ∙ ap decimal value, omega arith)

read : (most : ℕ) → most < 2 ^ 64 → (word : List ℕ) (n : ℕ) → word ≡ decimal n → n ≤ most → number_word most word ≡ Some n
read most fits word n is least =
    let small : n < 2 ^ 64 = omega arith in
    let right : is_numeral (decimal n) ≡ true = is_numeral-from (decimal n) (decimal_numeral n small) in
    let value : digits_value 10 (decimal n) ≡ n = digits_value-decimal own n small in
    let within : nat_le n most ≡ true = le-leb n most least in
    rw (is, right, value, within) refl

pub number_words : NumberWordsAreDecimals
number_words most fits word n = (spelled most fits word n, λ p. read most fits word n p.0 p.1)
