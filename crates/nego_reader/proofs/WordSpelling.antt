-- Words of case lines: what is read is spelled so, and what is spelled so is read.
use Rattle.std.proofs.Common.{◌≡◌, ℕ, ◌+◌, ◌≤◌, ◌<◌, ◌^◌, Bool, true, false, cond, not, ◌||◌, ◌==◌, List, [], ◌∷◌, ◌++◌, length, take, drop, Option, Some, None, Result, Ok, Err, ◌⊎◌, inl, inr, refl, sym, ap, subst, ◌∙◌, append_assoc, arith}
use Rattle.std.specs.Prelude.{position, unwrap_or, codes, decimal}
use Rattle.std.specs.List.{list_any, list_all}
use Rattle.std.specs.Option.{option_map_or}
use Rattle.std.specs.Str.{bytes_eq}
use Rattle.std.proofs.lemmas.Bool.{and_parts, and_from, or_left, or_right, cases_Bool, eqb-true, eq-eqb, false≢true, false_from_ne_true}
use Rattle.std.proofs.lemmas.List.{take_at, drop_at, take-append-drop, length-take-le, append-nil, take_all, drop_all}
use Rattle.std.proofs.lemmas.List.Quantifiers.{position-Some}
use Rattle.std.proofs.lemmas.List.Folds.{list_any-append}
use Rattle.std.proofs.lemmas.Option.{cond_some, same_Some}
use Rattle.std.proofs.lemmas.Slice.Eq.{bytes_eq-Decides}
use Rattle.nego_base.specs.LineGrammar.{IsNameWord, IsNumeral}
use Rattle.nego_base.specs.declared.op.Op.{Op}
use Rattle.nego_base.specs.declared.op.Op.TheVariants.{Eq, Ne, Lt, Le, Gt, Ge}
use Rattle.nego_base.specs.declared.fault.FaultKind.TheVariants as fault_kinds
use Rattle.nego_base.specs.declared.fault.Fault.{Fault}
use Rattle.nego_base.specs.declared.line.Word.{Word}
use Rattle.nego_base.specs.Grammar.{at_word}
use Rattle.nego_base.specs.Name.{is_name, is_name_byte, is_letter}
use Rattle.nego_base.specs.Number.{number_of, is_digit}
use Rattle.nego_base.specs.Results.{◌>>=◌}
use Rattle.nego_base.proofs.Cases.{bind_ok, same_Ok}
use Rattle.nego_base.proofs.NameLaws.{name_is, name_no_number, decimal_digits, decimal_has_no, none_where_all}
use Rattle.nego_base.proofs.NameLaws.{name_end as place_of_end}
use Rattle.nego_base.proofs.NumberLaws.{number_is, number_of-decimal, decimal_numeral}
use Rattle.nego_base.proofs.Places.{place_none, place_behind}
use Rattle.nego_base.proofs.OptionLaws.{none_or_some}
use Rattle.nego_base.proofs.BoolLaws.{not_true}
use Rattle.nego_reader.specs.declared.parsed.PTest.{PTest}
use Rattle.nego_reader.specs.declared.parsed.PRight.{PRight}
use Rattle.nego_reader.specs.declared.parsed.PRight.TheVariants as rights
use Rattle.nego_reader.specs.declared.parsed.PSet.{PSet}
use Rattle.nego_reader.specs.declared.parsed.PTerm.{PTerm}
use Rattle.nego_reader.specs.declared.parsed.PTerm.TheVariants as terms
use Rattle.nego_reader.specs.Spelling.{IsInside, op_text, SpellsRight, SpellsTest, SpellsSum, SpellsTerm, SpellsSet}
use Rattle.nego_reader.specs.Reading.{name_end, sign_end, piece, in_case, op_of, name_at, right_at, test_at, test_of, sum_of, sum_at, term_at, behind, set_of}

-- ---- steps

pub guard_ok : {A : Type 0} (t : Bool) (x y : A) (fault : Fault) → cond t (Ok x) (Err fault) ≡ Ok y → (t ≡ true) × (x ≡ y)
guard_ok true x y fault h = (refl, cc)
guard_ok false x y fault h = absurd cc

pub in_case_ok : {A : Type 0} (word : Word) (o : Option A) (x : A) → in_case word o ≡ Ok x → o ≡ Some x
in_case_ok word None x h = absurd cc
in_case_ok word (Some y) x h = cc

-- ---- names and numbers in a word

name_at_ok : (word : Word) (i : ℕ) (bytes : List ℕ) (name : Word) → name_at word i bytes ≡ Ok name → IsInside i bytes word name × IsNameWord name
unfolding name_at
name_at_ok word i bytes name h =
    let g = guard_ok (is_name bytes) (piece word i bytes) name (at_word fault_kinds.Case word) h in
    subst (λ (n : Word). IsInside i bytes word n × IsNameWord n) g.1 (record { text = refl; line = refl; column = refl }, g.0)

inside_is : (i : ℕ) (bytes : List ℕ) (outer word : Word) → IsInside i bytes outer word → piece outer i bytes ≡ word
inside_is i bytes outer word h = rw (← h.text, ← h.line, ← h.column) refl

name_at_again : (word : Word) (i : ℕ) (bytes : List ℕ) (name : Word) → IsInside i bytes word name → IsNameWord name → name_at word i bytes ≡ Ok name
unfolding name_at
name_at_again word i bytes name h named =
    let is : is_name bytes ≡ true = subst (λ (t : List ℕ). is_name t ≡ true) h.text named in
    rw is (ap (λ (n : Word). Ok n) (inside_is i bytes word name h))

end_within : (test : ℕ → Bool) (bytes : List ℕ) → unwrap_or (position test bytes) (length bytes) ≤ length bytes
end_within test bytes = by_place (position test bytes) refl
  where
    by_place : (o : Option ℕ) → position test bytes ≡ o → unwrap_or o (length bytes) ≤ length bytes
    by_place None h = omega arith
    by_place (Some n) h = let at = position-Some test bytes n 0 h in let below = at.0 in omega arith

name_end_within : (bytes : List ℕ) → name_end bytes ≤ length bytes
unfolding name_end
name_end_within bytes = end_within (λ b. not (is_name_byte b)) bytes

sign_end_within : (bytes : List ℕ) → sign_end bytes ≤ length bytes
unfolding sign_end
sign_end_within bytes = end_within is_name_byte bytes

-- where a name ends
name_end_at : (name : List ℕ) (c : ℕ) (rest : List ℕ) → is_name name ≡ true → is_name_byte c ≡ false → name_end (name ++ c ∷ rest) ≡ length name
unfolding name_end
name_end_at name c rest named other = rw (place_of_end name c rest named other) refl

name_end_all : (name : List ℕ) → is_name name ≡ true → name_end name ≡ length name
unfolding name_end
name_end_all name named =
    rw (place_none (λ b. not (is_name_byte b)) name (none_where_all is_name_byte (λ b. not (is_name_byte b)) (λ b h. not_true (is_name_byte b) h) name (name_is name named).bytes_are)) refl

-- ---- operators

pub same_bytes : (a b : List ℕ) → bytes_eq a b ≡ true → a ≡ b
same_bytes a b h = (bytes_eq-Decides a b).0 h

op_takes : (bytes : List ℕ) (op : Op) → op_of bytes ≡ Some op → bytes ≡ op_text op
unfolding op_of
op_takes bytes op h = by_text (bytes_eq bytes (codes "=")) (bytes_eq bytes (codes "!=")) (bytes_eq bytes (codes "<")) (bytes_eq bytes (codes "<=")) (bytes_eq bytes (codes ">")) (bytes_eq bytes (codes ">="))
    (same_bytes bytes (codes "=")) (same_bytes bytes (codes "!=")) (same_bytes bytes (codes "<")) (same_bytes bytes (codes "<=")) (same_bytes bytes (codes ">")) (same_bytes bytes (codes ">=")) h
  where
    P : Op → Type 0
    P o = bytes ≡ op_text o

    by_text : (a b c d e f : Bool) → (a ≡ true → bytes ≡ codes "=") → (b ≡ true → bytes ≡ codes "!=") → (c ≡ true → bytes ≡ codes "<") → (d ≡ true → bytes ≡ codes "<=") → (e ≡ true → bytes ≡ codes ">") → (f ≡ true → bytes ≡ codes ">=") →
        cond a (Some Eq) (cond b (Some Ne) (cond c (Some Lt) (cond d (Some Le) (cond e (Some Gt) (cond f (Some Ge) None))))) ≡ Some op → bytes ≡ op_text op
    by_text true b c d e f ha hb hc hd he hf h = subst (λ (o : Op). bytes ≡ op_text o) (same_Some Eq op h) (ha refl)
    by_text false true c d e f ha hb hc hd he hf h = subst (λ (o : Op). bytes ≡ op_text o) (same_Some Ne op h) (hb refl)
    by_text false false true d e f ha hb hc hd he hf h = subst (λ (o : Op). bytes ≡ op_text o) (same_Some Lt op h) (hc refl)
    by_text false false false true e f ha hb hc hd he hf h = subst (λ (o : Op). bytes ≡ op_text o) (same_Some Le op h) (hd refl)
    by_text false false false false true f ha hb hc hd he hf h = subst (λ (o : Op). bytes ≡ op_text o) (same_Some Gt op h) (he refl)
    by_text false false false false false true ha hb hc hd he hf h = subst (λ (o : Op). bytes ≡ op_text o) (same_Some Ge op h) (hf refl)
    by_text false false false false false false ha hb hc hd he hf h = absurd cc

op_again : (op : Op) → op_of (op_text op) ≡ Some op
unfolding op_of
op_again Eq = refl
op_again Ne = refl
op_again Lt = refl
op_again Le = refl
op_again Gt = refl
op_again Ge = refl

op_free : (op : Op) → list_any is_name_byte (op_text op) ≡ false
op_free Eq = refl
op_free Ne = refl
op_free Lt = refl
op_free Le = refl
op_free Gt = refl
op_free Ge = refl

-- a byte that may stand in a name ends an operator
sign_end_at : (op : Op) (b : ℕ) (rest : List ℕ) → is_name_byte b ≡ true → sign_end (op_text op ++ b ∷ rest) ≡ length (op_text op)
unfolding sign_end
sign_end_at op b rest h = rw (place_behind is_name_byte (op_text op) b rest (op_free op) h) refl

-- an operator ends a name
name_end_op : (name : List ℕ) (op : Op) (rest : List ℕ) → is_name name ≡ true → name_end (name ++ (op_text op ++ rest)) ≡ length name
name_end_op name Eq rest named = name_end_at name 61 rest named refl
name_end_op name Ne rest named = name_end_at name 33 (61 ∷ rest) named refl
name_end_op name Lt rest named = name_end_at name 60 rest named refl
name_end_op name Le rest named = name_end_at name 60 (61 ∷ rest) named refl
name_end_op name Gt rest named = name_end_at name 62 rest named refl
name_end_op name Ge rest named = name_end_at name 62 (61 ∷ rest) named refl

-- ---- right sides

-- what begins with a byte that may stand in a name
abbrev BeginsName : List ℕ → Type 0
BeginsName bytes = (b : ℕ) × (rest : List ℕ) × (bytes ≡ b ∷ rest) × (is_name_byte b ≡ true)

all_begin : (bytes : List ℕ) → 0 < length bytes → list_all is_name_byte bytes ≡ true → BeginsName bytes
all_begin [] filled h = absurd (omega arith)
all_begin (b ∷ bs) filled h = (b, bs, refl, (and_parts (is_name_byte b) (list_all is_name_byte bs) h).0)

name_begins : (bytes : List ℕ) → is_name bytes ≡ true → BeginsName bytes
name_begins bytes h = let name = name_is bytes h in all_begin bytes name.filled name.bytes_are

digit_in_name : (b : ℕ) → is_digit b ≡ true → is_name_byte b ≡ true
digit_in_name b h = or_left (is_letter b || is_digit b) (b == 95) (or_right (is_letter b) (is_digit b) h)

all_digits_in_name : (bytes : List ℕ) → list_all is_digit bytes ≡ true → list_all is_name_byte bytes ≡ true
all_digits_in_name [] h = refl
all_digits_in_name (b ∷ bs) h =
    let parts = and_parts (is_digit b) (list_all is_digit bs) h in and_from (is_name_byte b) (list_all is_name_byte bs) (digit_in_name b parts.0) (all_digits_in_name bs parts.1)

numeral_begins : (bytes : List ℕ) (n : ℕ) → IsNumeral bytes n → BeginsName bytes
numeral_begins bytes n h =
    let small : n < 2 ^ 64 = let below = h.1 in omega arith in
    subst BeginsName (sym h.0) (all_begin (decimal n) (decimal_numeral n small).filled (all_digits_in_name (decimal n) (decimal_digits n small)))

right_begins : (word : Word) (i : ℕ) (bytes : List ℕ) (right : PRight) → SpellsRight word i bytes right → BeginsName bytes
right_begins word i bytes (rights.Number n) h = numeral_begins bytes n h
right_begins word i bytes (rights.Name name) h = subst BeginsName h.0.text (name_begins name.text h.1)

number_again : (bytes : List ℕ) (n : ℕ) → IsNumeral bytes n → number_of bytes ≡ Some n
number_again bytes n h = ap number_of h.0 ∙ number_of-decimal n h.1

inside_no_number : (i : ℕ) (bytes : List ℕ) (word name : Word) → IsInside i bytes word name → IsNameWord name → number_of bytes ≡ None
inside_no_number i bytes word name h named = name_no_number bytes (subst (λ (t : List ℕ). is_name t ≡ true) h.text named)

right_takes : (word : Word) (i : ℕ) (bytes : List ℕ) (right : PRight) → right_at word i bytes ≡ Ok right → SpellsRight word i bytes right
unfolding right_at
right_takes word i bytes right h = by_number (number_of bytes) refl h
  where
    by_number : (o : Option ℕ) → number_of bytes ≡ o → ◌≡◌ {A = Result PRight Fault} (option_map_or (λ n. Ok (rights.Number n)) o (name_at word i bytes >>= λ name. Ok (rights.Name name))) (Ok right) → SpellsRight word i bytes right
    by_number (Some n) is h = subst (λ (r : PRight). SpellsRight word i bytes r) (same_Ok {E = Fault} (rights.Number n) right h) (number_is bytes n is)
    by_number None is h =
        let named = bind_ok (name_at word i bytes) (λ name. Ok (rights.Name name)) right h in
        subst (λ (r : PRight). SpellsRight word i bytes r) (same_Ok {E = Fault} (rights.Name named.0) right named.2) (name_at_ok word i bytes named.0 named.1)

right_again : (word : Word) (i : ℕ) (bytes : List ℕ) (right : PRight) → SpellsRight word i bytes right → right_at word i bytes ≡ Ok right
unfolding right_at
right_again word i bytes (rights.Number n) h = rw (number_again bytes n h) refl
right_again word i bytes (rights.Name name) h = rw (inside_no_number i bytes word name h.0 h.1, name_at_again word i bytes name h.0 h.1) refl

-- ---- comparisons

test_joined : (text left op bytes rest : List ℕ) → text ≡ left ++ rest → rest ≡ op ++ bytes → text ≡ left ++ op ++ bytes
test_joined text left op bytes rest e f = e ∙ (ap (λ (t : List ℕ). left ++ t) f ∙ sym (append_assoc left op bytes))

test_at_takes : (word : Word) (n m : ℕ) (test : PTest) → n ≤ length word.text → m ≤ length (drop n word.text) → test_at word n m ≡ Ok test → SpellsTest word test
unfolding test_at
test_at_takes word n m test front within h =
    let name = take n word.text in
    let behind_name = drop n word.text in
    let a = bind_ok (name_at word 0 name) (λ left. in_case word (op_of (take m behind_name)) >>= λ op. right_at word (n + m) (drop m behind_name) >>= λ right. Ok (record { left = left; op = op; right = right })) test h in
    let b = bind_ok (in_case word (op_of (take m behind_name))) (λ op. right_at word (n + m) (drop m behind_name) >>= λ right. Ok (record { left = a.0; op = op; right = right })) test a.2 in
    let c = bind_ok (right_at word (n + m) (drop m behind_name)) (λ right. Ok (record { left = a.0; op = b.0; right = right })) test b.2 in
    let left = name_at_ok word 0 name a.0 a.1 in
    let op : take m behind_name ≡ op_text b.0 = op_takes (take m behind_name) b.0 (in_case_ok word (op_of (take m behind_name)) b.0 b.1) in
    let right = right_takes word (n + m) (drop m behind_name) c.0 c.1 in
    let left_text : a.0.text ≡ name = left.0.text in
    let behind : behind_name ≡ op_text b.0 ++ drop m behind_name = sym (take-append-drop m behind_name) ∙ ap (λ (t : List ℕ). t ++ drop m behind_name) op in
    let all : word.text ≡ a.0.text ++ behind_name = sym (take-append-drop n word.text) ∙ ap (λ (t : List ℕ). t ++ behind_name) (sym left_text) in
    let size : n + m ≡ length a.0.text + length (op_text b.0) = let e = ap length left_text in let f = ap length op in let g = length-take-le n word.text front in let k = length-take-le m behind_name within in omega arith in
    let made : PTest = record { left = a.0; op = b.0; right = c.0 } in
    subst (λ (t : PTest). SpellsTest word t) (same_Ok {E = Fault} made test c.2) (record {
      right_bytes = drop m behind_name;
      parts = test_joined word.text a.0.text (op_text b.0) (drop m behind_name) behind_name all behind;
      left = record { text = refl; line = left.0.line; column = left.0.column };
      name = left.1;
      right = subst (λ (i : ℕ). SpellsRight word i (drop m behind_name) c.0) size right;
    })

pub test_takes : (word : Word) (test : PTest) → test_of word ≡ Ok test → SpellsTest word test
unfolding test_of
test_takes word test h = test_at_takes word (name_end word.text) (sign_end (drop (name_end word.text) word.text)) test (name_end_within word.text) (sign_end_within (drop (name_end word.text) word.text)) h

sign_end_right : (op : Op) (bytes : List ℕ) → BeginsName bytes → sign_end (op_text op ++ bytes) ≡ length (op_text op)
sign_end_right op bytes h = ap (λ (t : List ℕ). sign_end (op_text op ++ t)) h.2 ∙ sign_end_at op h.0 h.1 h.3

pub test_again : (word : Word) (test : PTest) → SpellsTest word test → test_of word ≡ Ok test
unfolding test_of test_at
test_again word test h =
    let text : word.text ≡ test.left.text ++ (op_text test.op ++ h.right_bytes) = h.parts ∙ append_assoc test.left.text (op_text test.op) h.right_bytes in
    let n : name_end word.text ≡ length test.left.text = ap name_end text ∙ name_end_op test.left.text test.op h.right_bytes h.name in
    let front : take (length test.left.text) word.text ≡ test.left.text = ap (take (length test.left.text)) text ∙ take_at test.left.text (op_text test.op ++ h.right_bytes) (length test.left.text) refl in
    let behind : drop (length test.left.text) word.text ≡ op_text test.op ++ h.right_bytes = ap (drop (length test.left.text)) text ∙ drop_at test.left.text (op_text test.op ++ h.right_bytes) (length test.left.text) refl in
    let m : sign_end (op_text test.op ++ h.right_bytes) ≡ length (op_text test.op) = sign_end_right test.op h.right_bytes (right_begins word (length test.left.text + length (op_text test.op)) h.right_bytes test.right h.right) in
    rw (n, behind, m, front, take_at (op_text test.op) h.right_bytes (length (op_text test.op)) refl, drop_at (op_text test.op) h.right_bytes (length (op_text test.op)) refl, name_at_again word 0 test.left.text test.left h.left h.name, op_again test.op, right_again word (length test.left.text + length (op_text test.op)) h.right_bytes test.right h.right) refl

-- ---- sums

plus_byte : is_name_byte 43 ≡ false
plus_byte = refl

minus_byte : is_name_byte 45 ≡ false
minus_byte = refl

sum_of_takes : (sign : ℕ) (word : Word) (i : ℕ) (bytes : List ℕ) (name : Word) (digits : List ℕ) (n : ℕ) → bytes ≡ name.text ++ sign ∷ digits → IsInside i name.text word name → IsNameWord name →
    number_of digits ≡ Some n → SpellsSum sign word i bytes name n
sum_of_takes sign word i bytes name digits n is inside named h = (digits, is, inside, named, number_is digits n h)

-- what stands behind a name
sum_takes_behind : (word : Word) (i : ℕ) (bytes rest : List ℕ) (name : Word) (term : PTerm) → bytes ≡ name.text ++ rest → IsInside i name.text word name → IsNameWord name →
    sum_of word name rest ≡ Ok term → SpellsTerm word i bytes term
unfolding sum_of
sum_takes_behind word i bytes [] name term is inside named h =
    let alone : bytes ≡ name.text = is ∙ append-nil name.text in
    subst (λ (t : PTerm). SpellsTerm word i bytes t) (same_Ok {E = Fault} (terms.Plus name 0) term h) (inl (subst (λ (b : List ℕ). IsInside i b word name) (sym alone) inside, named, refl))
sum_takes_behind word i bytes (sign ∷ digits) name term is inside named h =
    let a = bind_ok (in_case word (number_of digits)) (λ n. cond (sign == 43) (Ok (terms.Plus name n)) (cond (sign == 45) (Ok (terms.Minus name n)) (Err (at_word fault_kinds.Case word)))) term h in
    by_sign a.0 (in_case_ok word (number_of digits) a.0 a.1) (cases_Bool (sign == 43)) (cases_Bool (sign == 45)) a.2
  where
    by_sign : (n : ℕ) → number_of digits ≡ Some n → ((sign == 43) ≡ true) ⊎ ((sign == 43) ≡ false) → ((sign == 45) ≡ true) ⊎ ((sign == 45) ≡ false) →
        ◌≡◌ {A = Result PTerm Fault} (cond (sign == 43) (Ok (terms.Plus name n)) (cond (sign == 45) (Ok (terms.Minus name n)) (Err (at_word fault_kinds.Case word)))) (Ok term) → SpellsTerm word i bytes term
    by_sign n is_n (inl plus) minus h =
        let e : ◌≡◌ {A = Result PTerm Fault} (Ok (terms.Plus name n)) (Ok term) = rw plus at h in
        let spelled = sum_of_takes sign word i bytes name digits n is inside named is_n in
        subst (λ (t : PTerm). SpellsTerm word i bytes t) (same_Ok {E = Fault} (terms.Plus name n) term e) (inr (subst (λ (s : ℕ). SpellsSum s word i bytes name n) (eqb-true sign 43 plus) spelled))
    by_sign n is_n (inr no_plus) (inl minus) h =
        let e : ◌≡◌ {A = Result PTerm Fault} (Ok (terms.Minus name n)) (Ok term) = rw (no_plus, minus) at h in
        let spelled = sum_of_takes sign word i bytes name digits n is inside named is_n in
        subst (λ (t : PTerm). SpellsTerm word i bytes t) (same_Ok {E = Fault} (terms.Minus name n) term e) (subst (λ (s : ℕ). SpellsSum s word i bytes name n) (eqb-true sign 45 minus) spelled)
    by_sign n is_n (inr no_plus) (inr no_minus) h =
        let e : ◌≡◌ {A = Result PTerm Fault} (Err (at_word fault_kinds.Case word)) (Ok term) = rw (no_plus, no_minus) at h in absurd cc

sum_takes : (word : Word) (i : ℕ) (bytes : List ℕ) (term : PTerm) → sum_at word i bytes ≡ Ok term → SpellsTerm word i bytes term
unfolding sum_at
sum_takes word i bytes term h =
    let a = bind_ok (name_at word i (take (name_end bytes) bytes)) (λ name. sum_of word name (drop (name_end bytes) bytes)) term h in
    let name = name_at_ok word i (take (name_end bytes) bytes) a.0 a.1 in
    let text : a.0.text ≡ take (name_end bytes) bytes = name.0.text in
    let is : bytes ≡ a.0.text ++ drop (name_end bytes) bytes = sym (take-append-drop (name_end bytes) bytes) ∙ ap (λ (t : List ℕ). t ++ drop (name_end bytes) bytes) (sym text) in
    sum_takes_behind word i bytes (drop (name_end bytes) bytes) a.0 term is (record { text = refl; line = name.0.line; column = name.0.column }) name.1 a.2

-- a name alone is the name plus 0
alone_again : (word : Word) (i : ℕ) (bytes : List ℕ) (name : Word) → IsInside i bytes word name → IsNameWord name → sum_at word i bytes ≡ Ok (terms.Plus name 0)
unfolding sum_at sum_of
alone_again word i bytes name inside named =
    let is : is_name bytes ≡ true = subst (λ (t : List ℕ). is_name t ≡ true) inside.text named in
    rw (name_end_all bytes is, take_all (length bytes) bytes (omega arith), drop_all (length bytes) bytes (omega arith), name_at_again word i bytes name inside named) refl

signed_again : (sign : ℕ) (word : Word) (i : ℕ) (bytes : List ℕ) (name : Word) (n : ℕ) → is_name_byte sign ≡ false → (h : SpellsSum sign word i bytes name n) →
    sum_at word i bytes ≡ sum_of word name (sign ∷ h.0)
unfolding sum_at
signed_again sign word i bytes name n other h =
    let digits = h.0 in
    let e : name_end bytes ≡ length name.text = ap name_end h.1 ∙ name_end_at name.text sign digits h.3 other in
    let front : take (length name.text) bytes ≡ name.text = ap (take (length name.text)) h.1 ∙ take_at name.text (sign ∷ digits) (length name.text) refl in
    let behind : drop (length name.text) bytes ≡ sign ∷ digits = ap (drop (length name.text)) h.1 ∙ drop_at name.text (sign ∷ digits) (length name.text) refl in
    rw (e, front, behind, name_at_again word i name.text name h.2 h.3) refl

plus_again : (word : Word) (i : ℕ) (bytes : List ℕ) (name : Word) (n : ℕ) → SpellsSum 43 word i bytes name n → sum_at word i bytes ≡ Ok (terms.Plus name n)
unfolding sum_of
plus_again word i bytes name n h = signed_again 43 word i bytes name n plus_byte h ∙ rw (number_again h.0 n h.4) refl

minus_again : (word : Word) (i : ℕ) (bytes : List ℕ) (name : Word) (n : ℕ) → SpellsSum 45 word i bytes name n → sum_at word i bytes ≡ Ok (terms.Minus name n)
unfolding sum_of
minus_again word i bytes name n h = signed_again 45 word i bytes name n minus_byte h ∙ rw (number_again h.0 n h.4) refl

-- ---- what is assigned

no_star : (bytes : List ℕ) → (bytes ≡ codes "*" → ⊥) → bytes_eq bytes (codes "*") ≡ false
no_star bytes h = false_from_ne_true (bytes_eq bytes (codes "*")) (λ same. h (same_bytes bytes (codes "*") same))

star_no_name_byte : (b : ℕ) (rest : List ℕ) → b ∷ rest ≡ codes "*" → is_name_byte b ≡ true → ⊥
star_no_name_byte b rest e h = let head : b ≡ 42 = cc in false≢true (sym (ap is_name_byte head) ∙ h)

begins_no_star : (bytes : List ℕ) → BeginsName bytes → bytes_eq bytes (codes "*") ≡ false
begins_no_star bytes h = no_star bytes (λ e. star_no_name_byte h.0 h.1 (sym h.2 ∙ e) h.3)

begins_more : (front rest : List ℕ) → BeginsName front → BeginsName (front ++ rest)
begins_more front rest h = (h.0, h.1 ++ rest, ap (λ (t : List ℕ). t ++ rest) h.2, h.3)

-- no number has a sign
sign_no_number : (sign : ℕ) (front digits : List ℕ) → is_digit sign ≡ false → number_of (front ++ sign ∷ digits) ≡ None
sign_no_number sign front digits other = none_or_some (number_of (front ++ sign ∷ digits)) (λ n h. has_sign n (number_is (front ++ sign ∷ digits) n h))
  where
    has_sign : (n : ℕ) → (front ++ sign ∷ digits ≡ decimal n) × (n ≤ 999999) → ⊥
    has_sign n spelled =
        let few = spelled.1 in
        let none : list_any (λ b. b == sign) (front ++ sign ∷ digits) ≡ false = ap (list_any (λ b. b == sign)) spelled.0 ∙ decimal_has_no sign other n (omega arith) in
        let some : list_any (λ b. b == sign) (front ++ sign ∷ digits) ≡ true =
        list_any-append (λ b. b == sign) front (sign ∷ digits) ∙ or_right (list_any (λ b. b == sign) front) (list_any (λ b. b == sign) (sign ∷ digits)) (or_left (sign == sign) (list_any (λ b. b == sign) digits) (eq-eqb sign sign refl)) in
        false≢true (sym none ∙ some)

term_takes : (word : Word) (i : ℕ) (bytes : List ℕ) (term : PTerm) → term_at word i bytes ≡ Ok term → SpellsTerm word i bytes term
unfolding term_at
term_takes word i bytes term h = by_star (bytes_eq bytes (codes "*")) (same_bytes bytes (codes "*")) (number_of bytes) refl h
  where
    by_star : (t : Bool) → (t ≡ true → bytes ≡ codes "*") → (o : Option ℕ) → number_of bytes ≡ o →
        ◌≡◌ {A = Result PTerm Fault} (cond t (Ok terms.Any) (option_map_or (λ n. Ok (terms.Number n)) o (sum_at word i bytes))) (Ok term) → SpellsTerm word i bytes term
    by_star true star o is h = subst (λ (t : PTerm). SpellsTerm word i bytes t) (same_Ok {E = Fault} terms.Any term h) (star refl)
    by_star false star (Some n) is h = subst (λ (t : PTerm). SpellsTerm word i bytes t) (same_Ok {E = Fault} (terms.Number n) term h) (number_is bytes n is)
    by_star false star None is h = sum_takes word i bytes term h

term_again : (word : Word) (i : ℕ) (bytes : List ℕ) (term : PTerm) → SpellsTerm word i bytes term → term_at word i bytes ≡ Ok term
unfolding term_at
term_again word i bytes terms.Any h = rw h refl
term_again word i bytes (terms.Number n) h = rw (begins_no_star bytes (numeral_begins bytes n h), number_again bytes n h) refl
term_again word i bytes (terms.Plus name n) (inl (inside, named, zero_is)) =
    let begins : BeginsName bytes = subst BeginsName inside.text (name_begins name.text named) in
    rw (begins_no_star bytes begins, inside_no_number i bytes word name inside named) (alone_again word i bytes name inside named ∙ ap (λ (k : ℕ). Ok (terms.Plus name k)) (sym zero_is))
term_again word i bytes (terms.Plus name n) (inr h) =
    let begins : BeginsName bytes = subst BeginsName (sym h.1) (begins_more name.text (43 ∷ h.0) (name_begins name.text h.3)) in
    rw (begins_no_star bytes begins, ap number_of h.1 ∙ sign_no_number 43 name.text h.0 refl) (plus_again word i bytes name n h)
term_again word i bytes (terms.Minus name n) h =
    let begins : BeginsName bytes = subst BeginsName (sym h.1) (begins_more name.text (45 ∷ h.0) (name_begins name.text h.3)) in
    rw (begins_no_star bytes begins, ap number_of h.1 ∙ sign_no_number 45 name.text h.0 refl) (minus_again word i bytes name n h)

-- ---- assignments

behind_takes : (text bytes rest : List ℕ) → behind text bytes ≡ Some rest → bytes ≡ text ++ rest
unfolding behind
behind_takes text bytes rest e =
    let g = cond_some (bytes_eq (take (length text) bytes) text) (drop (length text) bytes) rest e in
    let front : take (length text) bytes ≡ text = same_bytes (take (length text) bytes) text g.0 in
    sym (take-append-drop (length text) bytes) ∙ (ap (λ (t : List ℕ). t ++ drop (length text) bytes) front ∙ ap (λ (t : List ℕ). text ++ t) g.1)

behind_again : (text rest : List ℕ) → behind text (text ++ rest) ≡ Some rest
unfolding behind
behind_again text rest =
    let same : bytes_eq text text ≡ true = (bytes_eq-Decides text text).1 refl in
    rw (take_at text rest (length text) refl, same, drop_at text rest (length text) refl) refl

pub set_takes : (word : Word) (set : PSet) → set_of word ≡ Ok set → SpellsSet word set
unfolding set_of
set_takes word set h =
    let n = name_end word.text in
    let a = bind_ok (name_at word 0 (take n word.text)) (λ agent. in_case word (behind (codes ":=") (drop n word.text)) >>= λ bytes. term_at word (n + 2) bytes >>= λ term. Ok (record { agent = agent; term = term })) set h in
    let b = bind_ok (in_case word (behind (codes ":=") (drop n word.text))) (λ bytes. term_at word (n + 2) bytes >>= λ term. Ok (record { agent = a.0; term = term })) set a.2 in
    let c = bind_ok (term_at word (n + 2) b.0) (λ term. Ok (record { agent = a.0; term = term })) set b.2 in
    let agent = name_at_ok word 0 (take n word.text) a.0 a.1 in
    let text : a.0.text ≡ take n word.text = agent.0.text in
    let sign : drop n word.text ≡ codes ":=" ++ b.0 = behind_takes (codes ":=") (drop n word.text) b.0 (in_case_ok word (behind (codes ":=") (drop n word.text)) b.0 b.1) in
    let all : word.text ≡ a.0.text ++ drop n word.text = sym (take-append-drop n word.text) ∙ ap (λ (t : List ℕ). t ++ drop n word.text) (sym text) in
    let size : n + 2 ≡ length a.0.text + 2 = let e = ap length text in let f = length-take-le n word.text (name_end_within word.text) in omega arith in
    let made : PSet = record { agent = a.0; term = c.0 } in
    subst (λ (s : PSet). SpellsSet word s) (same_Ok {E = Fault} made set c.2) (record {
      term_bytes = b.0;
      parts = test_joined word.text a.0.text (codes ":=") b.0 (drop n word.text) all sign;
      agent = record { text = refl; line = agent.0.line; column = agent.0.column };
      name = agent.1;
      term = subst (λ (i : ℕ). SpellsTerm word i b.0 c.0) size (term_takes word (n + 2) b.0 c.0 c.1);
    })

pub set_again : (word : Word) (set : PSet) → SpellsSet word set → set_of word ≡ Ok set
unfolding set_of
set_again word set h =
    let agent = set.agent.text in
    let text : word.text ≡ agent ++ (codes ":=" ++ h.term_bytes) = h.parts ∙ append_assoc agent (codes ":=") h.term_bytes in
    let n : name_end word.text ≡ length agent = ap name_end text ∙ name_end_at agent 58 (61 ∷ h.term_bytes) h.name refl in
    let front : take (length agent) word.text ≡ agent = ap (take (length agent)) text ∙ take_at agent (codes ":=" ++ h.term_bytes) (length agent) refl in
    let rest : drop (length agent) word.text ≡ codes ":=" ++ h.term_bytes = ap (drop (length agent)) text ∙ drop_at agent (codes ":=" ++ h.term_bytes) (length agent) refl in
    let sign : behind (codes ":=") (drop (length agent) word.text) ≡ Some h.term_bytes = ap (behind (codes ":=")) rest ∙ behind_again (codes ":=") h.term_bytes in
    rw (n, front, sign, name_at_again word 0 agent set.agent h.agent h.name, term_again word (length agent + 2) h.term_bytes set.term h.term) refl

-- ---- no such word is a colon

colon_no_name_byte : (b : ℕ) (rest : List ℕ) → b ∷ rest ≡ codes ":" → is_name_byte b ≡ true → ⊥
colon_no_name_byte b rest e h = let head : b ≡ 58 = cc in false≢true (sym (ap is_name_byte head) ∙ h)

begins_no_colon : (bytes : List ℕ) → BeginsName bytes → bytes_eq bytes (codes ":") ≡ false
begins_no_colon bytes h = false_from_ne_true (bytes_eq bytes (codes ":")) (λ same. colon_no_name_byte h.0 h.1 (sym h.2 ∙ same_bytes bytes (codes ":") same) h.3)

pub test_no_colon : (word : Word) (test : PTest) → SpellsTest word test → bytes_eq word.text (codes ":") ≡ false
test_no_colon word test h =
    begins_no_colon word.text (subst BeginsName (sym (h.parts ∙ append_assoc test.left.text (op_text test.op) h.right_bytes)) (begins_more test.left.text (op_text test.op ++ h.right_bytes) (name_begins test.left.text h.name)))

pub set_no_colon : (word : Word) (set : PSet) → SpellsSet word set → bytes_eq word.text (codes ":") ≡ false
set_no_colon word set h =
    begins_no_colon word.text (subst BeginsName (sym (h.parts ∙ append_assoc set.agent.text (codes ":=") h.term_bytes)) (begins_more set.agent.text (codes ":=" ++ h.term_bytes) (name_begins set.agent.text h.name)))
