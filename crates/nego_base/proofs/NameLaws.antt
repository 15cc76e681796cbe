-- What readers and printers need of names and of numbers: which bytes they have and which they have not.
use Rattle.std.proofs.Common.{◌||◌, ◌≡◌, ◌≢◌, ℕ, ◌^◌, ◌<◌, ◌≤◌, Bool, true, false, not, ◌==◌, Some, None, inl, inr, List, [], ◌∷◌, ◌++◌, length, get_or, refl, sym, ◌∙◌, ap, arith}
use Rattle.std.specs.Fmt.{decimal}
use Rattle.std.specs.List.{All, list_all, list_any, position}
use Rattle.std.proofs.lemmas.Bool.{and_parts, or_cases, or_from, leb-true, eqb-true, ne_eqb, not_from_false, not_from_true, false≢true, false_from_ne_true}
use Rattle.std.proofs.lemmas.List.Elements.{All-nil, All-cons}
use Rattle.nego_base.proofs.OptionLaws.{none_or_some}
use Rattle.nego_base.specs.Lines.{is_blank}
use Rattle.nego_base.specs.Name.{is_name, is_letter, is_name_byte}
use Rattle.nego_base.specs.Number.{is_digit, number_of}
use Rattle.nego_base.specs.Printed.{IsPrintableWord}
use Rattle.nego_base.proofs.LineLaws.{HasNoBlank}
use Rattle.nego_base.proofs.NumberLaws.{number_is, decimal_numeral}
use Rattle.nego_base.proofs.Places.{place_behind}

-- where each byte passes a test, none passes one that those fail
pub none_where_all : (test other : ℕ → Bool) → ((b : ℕ) → test b ≡ true → other b ≡ false) → (bytes : List ℕ) → list_all test bytes ≡ true → list_any other bytes ≡ false
none_where_all test other fails [] h = refl
none_where_all test other fails (b ∷ bs) h =
    let parts = and_parts (test b) (list_all test bs) h in
    or_from _ _ (fails b parts.0) (none_where_all test other fails bs parts.1)

-- where each byte passes a test, each is what those are
pub each_where_all : (test : ℕ → Bool) (P : ℕ → Type 0) → ((b : ℕ) → test b ≡ true → P b) → (bytes : List ℕ) → list_all test bytes ≡ true → All P bytes
each_where_all test P is [] h = All-nil P
each_where_all test P is (b ∷ bs) h =
    let parts = and_parts (test b) (list_all test bs) h in
    All-cons P b bs (is b parts.0) (each_where_all test P is bs parts.1)

-- a byte that passes the test isn't one that fails it
pub other_byte : (test : ℕ → Bool) (c : ℕ) → test c ≡ false → (b : ℕ) → test b ≡ true → (b == c) ≡ false
other_byte test c fails b passes = ne_eqb b c (λ same. false≢true (sym fails ∙ (sym (ap test same) ∙ passes)))

pub letter_is : (b : ℕ) → is_letter b ≡ true → (97 ≤ b) × (b ≤ 122)
letter_is b h = let parts = and_parts _ _ h in (leb-true 97 b parts.0, leb-true b 122 parts.1)

pub digit_is : (b : ℕ) → is_digit b ≡ true → (48 ≤ b) × (b ≤ 57)
digit_is b h = let parts = and_parts _ _ h in (leb-true 48 b parts.0, leb-true b 57 parts.1)

-- a byte of a name is within 0x30 to 0x7A
pub name_byte_is : (b : ℕ) → is_name_byte b ≡ true → (48 ≤ b) × (b ≤ 122)
name_byte_is b h = elim (or_cases (is_letter b || is_digit b) (b == 95) h) [
  | inl more ↦ elim (or_cases (is_letter b) (is_digit b) more) [
    | inl letter ↦ (let in_range = letter_is b letter in (omega arith, omega arith))
    | inr digit ↦ (let in_range = digit_is b digit in (omega arith, omega arith))
  ]
  | inr low ↦ (let e = eqb-true b 95 low in (omega arith, omega arith))
]

printed_no_blank : (b : ℕ) → 33 ≤ b → is_blank b ≡ false
printed_no_blank b low = or_from _ _ (ne_eqb b 32 (λ e. omega arith)) (ne_eqb b 9 (λ e. omega arith))

pub name_byte_no_blank : (b : ℕ) → is_name_byte b ≡ true → is_blank b ≡ false
name_byte_no_blank b h = let in_range = name_byte_is b h in printed_no_blank b (omega arith)

-- what a name is
pub record IsName (bytes : List ℕ) : Type 0 where
  pub filled : 0 < length bytes
  pub short : length bytes ≤ 24
  pub first : is_letter (get_or bytes 0 0) ≡ true
  pub bytes_are : list_all is_name_byte bytes ≡ true

pub name_is : (bytes : List ℕ) → is_name bytes ≡ true → IsName bytes
unfolding is_name
name_is bytes h =
    let all = and_parts _ _ h in
    let first = and_parts _ _ all.0 in
    let size = and_parts _ _ first.0 in
    record {
      filled = (let f = leb-true 1 (length bytes) size.0 in omega arith);
      short = leb-true (length bytes) 24 size.1;
      first = first.1;
      bytes_are = all.1;
    }

-- a name has no byte that no name has
pub name_has_no : (c : ℕ) → is_name_byte c ≡ false → (bytes : List ℕ) → is_name bytes ≡ true → list_any (λ b. b == c) bytes ≡ false
name_has_no c fails bytes h = none_where_all is_name_byte (λ b. b == c) (other_byte is_name_byte c fails) bytes (name_is bytes h).bytes_are

pub name_has_no_blank : (bytes : List ℕ) → is_name bytes ≡ true → HasNoBlank bytes
name_has_no_blank bytes h = none_where_all is_name_byte is_blank name_byte_no_blank bytes (name_is bytes h).bytes_are

-- a name is a word that can be printed
pub name_printable : (bytes : List ℕ) → is_name bytes ≡ true → IsPrintableWord bytes
name_printable bytes h =
    let name = name_is bytes h in
    record {
      filled = name.filled;
      bytes = each_where_all is_name_byte (λ b. (33 ≤ b) × (b ≤ 126)) (λ b is. let in_range = name_byte_is b is in (omega arith, omega arith)) bytes name.bytes_are;
    }

-- a name begins with a letter: with no digit, and not with `#`
pub name_begins : (bytes : List ℕ) → is_name bytes ≡ true → (is_digit (get_or bytes 0 0) ≡ false) × (get_or bytes 0 0 ≢ 35)
name_begins bytes h =
    let letter = letter_is (get_or bytes 0 0) (name_is bytes h).first in
    (false_from_ne_true _ (λ digit. let in_range = digit_is (get_or bytes 0 0) digit in omega arith), λ e. omega arith)

-- where a name ends, if a byte that no name has is behind it
pub name_end : (bytes : List ℕ) (c : ℕ) (rest : List ℕ) → is_name bytes ≡ true → is_name_byte c ≡ false → position (λ b. not (is_name_byte b)) (bytes ++ c ∷ rest) ≡ Some (length bytes)
name_end bytes c rest h fails =
    let name = name_is bytes h in
    place_behind (λ b. not (is_name_byte b)) bytes c rest
    (none_where_all is_name_byte (λ b. not (is_name_byte b)) (λ b is. not_from_true _ is) bytes name.bytes_are) (not_from_false _ fails)

-- a number's decimal has digits only
pub decimal_digits : (n : ℕ) → n < 2 ^ 64 → list_all is_digit (decimal n) ≡ true
decimal_digits n h = (decimal_numeral n h).digits

pub decimal_has_no : (c : ℕ) → is_digit c ≡ false → (n : ℕ) → n < 2 ^ 64 → list_any (λ b. b == c) (decimal n) ≡ false
decimal_has_no c fails n h = none_where_all is_digit (λ b. b == c) (other_byte is_digit c fails) (decimal n) (decimal_digits n h)

pub decimal_has_no_blank : (n : ℕ) → n < 2 ^ 64 → HasNoBlank (decimal n)
decimal_has_no_blank n h =
    none_where_all is_digit is_blank (λ b is. let in_range = digit_is b is in printed_no_blank b (omega arith)) (decimal n) (decimal_digits n h)

pub decimal_printable : (n : ℕ) → n < 2 ^ 64 → IsPrintableWord (decimal n)
decimal_printable n h = record {
  filled = (decimal_numeral n h).filled;
  bytes = each_where_all is_digit (λ b. (33 ≤ b) × (b ≤ 126)) (λ b is. let in_range = digit_is b is in (omega arith, omega arith)) (decimal n) (decimal_digits n h);
}

first_of_all : (test : ℕ → Bool) (bytes : List ℕ) → 0 < length bytes → list_all test bytes ≡ true → test (get_or bytes 0 0) ≡ true
first_of_all test [] filled h = absurd (omega arith)
first_of_all test (b ∷ bs) filled h = (and_parts (test b) (list_all test bs) h).0

pub decimal_begins : (n : ℕ) → n < 2 ^ 64 → (is_digit (get_or (decimal n) 0 0) ≡ true) × (get_or (decimal n) 0 0 ≢ 35)
decimal_begins n h =
    let first = first_of_all is_digit (decimal n) (decimal_numeral n h).filled (decimal_digits n h) in
    let in_range = digit_is (get_or (decimal n) 0 0) first in
    (first, λ e. omega arith)

-- no number is a name
pub decimal_no_name : (n : ℕ) → n < 2 ^ 64 → is_name (decimal n) ≡ false
decimal_no_name n h = false_from_ne_true _ (λ name. false≢true (sym (name_begins (decimal n) name).0 ∙ (decimal_begins n h).0))

pub number_no_name : (bytes : List ℕ) (n : ℕ) → number_of bytes ≡ Some n → is_name bytes ≡ false
number_no_name bytes n h = let spelled = number_is bytes n h in let few = spelled.1 in ap is_name spelled.0 ∙ decimal_no_name n (omega arith)

pub name_no_number : (bytes : List ℕ) → is_name bytes ≡ true → number_of bytes ≡ None
name_no_number bytes h = none_or_some (number_of bytes) (λ n is. false≢true (sym (number_no_name bytes n is) ∙ h))
