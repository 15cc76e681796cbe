-- Laws of the parties' part of joint data: of its sizes, its values, and what cases that name parties alone relate.
use Rattle.std.proofs.Common.{◌≡◌, ⊎_elim, ℕ, zero, suc, ◌+◌, ◌<◌, ◌≤◌, ◌&&◌, ◌||◌, ◌==◌, nat_lt, Bool, true, false, List, [], ◌∷◌, length, take, slice_index, slice_index_or, get_or, Option, Some, None, IsTrue, refl, sym, subst, ap, ap₂, ◌∙◌, arith, eqb-true, eq-eqb, lt-ltb}
use Rattle.std.specs.Prelude.{nat_eq, replicate, ◌++◌, ◌-◌, if◌then◌else◌, not, find, Result, Ok, Err, IsOk}
use Rattle.std.specs.Result.{result_err}
use Rattle.std.proofs.lemmas.Option.{none-some}
use Rattle.std.specs.List.{All, list_any, range_with_len}
use Rattle.std.proofs.lemmas.Bool.{and_parts, and_from, cases_lt, cases_Bool, or_left, or_right, false≢true}
use Rattle.std.proofs.lemmas.List.{take_at, get_or_past, get_or-take, get_or_default, length-take-le, ext_get_or}
use Rattle.std.proofs.lemmas.List.FromFn.{fill_by_all, get_or-map-range_with_len, length-map-range_with_len}
use Rattle.std.proofs.lemmas.List.Elements.{All-nil, All-cons, All-head, All-tail, All-weaker}
use native.Mathlib.Nat.{mul-le-mul}
use Rattle.std.specs.Cmp.Lexicographic.{pointwise, bytes_decides}
use Rattle.nego_base.specs.Members.{is_in}
use Rattle.nego_base.proofs.BoolLaws.{same_tests, any_passes}
use Rattle.nego_base.proofs.Members.{All-member, all_at, all_from, is_in-range_zero}
use Rattle.nego_data.specs.declared.cases.Case.{Case}
use Rattle.nego_data.specs.declared.cases.Set.{Set}
use Rattle.nego_data.specs.declared.cases.Term.{Term}
use Rattle.nego_data.specs.Data.{data_count, split, joint}
use Rattle.nego_data.specs.Sizes.{AreSizes, AreBelow, tuple_of}
use Rattle.nego_data.specs.Cases.{term_for, covers, agent_follows, agents_follow, case_relates, relates, rows_of}
use Rattle.nego_data.specs.CaseForm.{NamesOnly, AreAmong, AssignsBelow, AllCovered, FitsSize, first_uncovered, term_agents}
use Rattle.nego_data.specs.BitRows.{is_set}
use Rattle.nego_data.specs.Covered.{AreThose}
use Rattle.nego_data.specs.Parts.{part_from, part_sizes, part_values, part_number, are_kept, widened, IsPart}
use Rattle.nego_data.specs.Tables.{IsTable, is_related, rows_by}
use Rattle.nego_data.proofs.Counts.{front-values, joint-front, joint-in_range}
use Rattle.nego_data.proofs.JointData.{same_data, length-split, split-below, split-joint}
use Rattle.nego_data.proofs.Tuples.{at-tuple_of, tuple_of-below}
use Rattle.nego_data.proofs.Assigned.{follow-at, follow_from, term_for-some}
use Rattle.nego_data.proofs.CaseRelations.{SameAt, covers-same, gives-same, term_for-stranger, case_relates-changes}
use Rattle.nego_data.proofs.Tables.{same_tables, length-rows_by, rows_by-table, rows_by-related, rows_of-relates}
use Rattle.nego_data.proofs.Additions.{table_of_cases}
use Rattle.nego_data.proofs.Uncovered.{tuple_covered, find-alike_within}

-- what succeeds where it answers no error
pub ok_from_none : {T E : Type 0} (r : Result T E) → result_err r ≡ None → IsOk r
ok_from_none (Ok x) h = refl
ok_from_none (Err e) h = absurd (none-some e (sym h))

-- ---- the sizes

length-part_from : (k : ℕ) (parties sizes : List ℕ) → length (part_from k parties sizes) ≡ length sizes
length-part_from k parties [] = refl
length-part_from k parties (size ∷ sizes) = ap suc (length-part_from (k + 1) parties sizes)

at-part_from : (k : ℕ) (parties sizes : List ℕ) (a : ℕ) → a < length sizes → slice_index (part_from k parties sizes) a ≡ (if is_in (k + a) parties then slice_index sizes a else 1)
at-part_from k parties [] a h = absurd (let no_more : ⊥ = omega (arith, h) in no_more)
at-part_from k parties (size ∷ sizes) zero h = let e : k ≡ k + 0 = omega arith in ap (λ m. if is_in m parties then size else 1) e
at-part_from k parties (size ∷ sizes) (suc a) h =
    let e : k + 1 + a ≡ k + suc a = omega arith in
    at-part_from (k + 1) parties sizes a (omega (arith, h)) ∙ ap (λ m. if is_in m parties then slice_index sizes a else 1) e

module _ (parties sizes : List ℕ) where
  pub length-part : length (part_sizes parties sizes) ≡ length sizes
  unfolding part_sizes
  length-part = length-part_from 0 parties sizes

  -- a party has its size, and everyone else size 1
  pub at-part : (a : ℕ) → a < length sizes → slice_index (part_sizes parties sizes) a ≡ (if is_in a parties then slice_index sizes a else 1)
  unfolding part_sizes
  at-part a h = let e : 0 + a ≡ a = omega arith in at-part_from 0 parties sizes a h ∙ ap (λ m. if is_in m parties then slice_index sizes a else 1) e

-- a list that has them so is that of these sizes
pub part_filled : (parties sizes xs : List ℕ) → length sizes ≤ length xs → ((a : ℕ) → a < length sizes → slice_index xs a ≡ (if is_in a parties then slice_index sizes a else 1)) →
    take (length sizes) xs ≡ part_sizes parties sizes
part_filled parties sizes xs long filled =
    let size = length-take-le (length sizes) xs long in
    ext_get_or 0 (take (length sizes) xs) (part_sizes parties sizes) (size ∙ sym (length-part parties sizes)) (λ a h.
    let below : a < length sizes = subst (λ n. a < n) size h in
    get_or-take (length sizes) xs a 0 below ∙ filled a below ∙ sym (at-part parties sizes a below))

-- there are no more values of the parties than of all
part_from-less : (k : ℕ) (parties sizes : List ℕ) → All (λ size. (0 < size) × (size ≤ 64)) sizes → data_count (part_from k parties sizes) ≤ data_count sizes
part_from-less k parties [] each = omega arith
part_from-less k parties (size ∷ sizes) each =
    let P : ℕ → Type 0 = λ s. (0 < s) × (s ≤ 64) in
    let here = All-head P size sizes each in
    mul-le-mul (less (is_in k parties) size here.0) (part_from-less (k + 1) parties sizes (All-tail P size sizes each))
  where
    less : (b : Bool) (size : ℕ) → 0 < size → (if b then size else 1) ≤ size
    less true size h = omega arith
    less false size h = omega (arith, h)

-- the parties' sizes are sizes
pub part-sizes : (parties sizes : List ℕ) → AreSizes sizes → AreSizes (part_sizes parties sizes)
unfolding part_sizes
part-sizes parties sizes ok = record {
  some_agent = let e = length-part parties sizes in let s = ok.some_agent in omega (arith, e, s);
  few_agents = let e = length-part parties sizes in let s = ok.few_agents in omega (arith, e, s);
  each = λ a d h. let below : a < length sizes = (let e = length-part parties sizes in omega (arith, e, h)) in bounds (is_in a parties) (slice_index sizes a) (get_or (part_sizes parties sizes) a d) (same a d h ∙ at-part parties sizes a below) (ok.each a 0 below);
  together = let l = part_from-less 0 parties sizes ok.each in let s = ok.together in omega (arith, l, s);
}
  where
    same : (a d : ℕ) → a < length (part_sizes parties sizes) → get_or (part_sizes parties sizes) a d ≡ slice_index (part_sizes parties sizes) a
    same a d h = get_or_default (part_sizes parties sizes) a d 0 h

    bounds : (b : Bool) (size part : ℕ) → part ≡ (if b then size else 1) → (0 < size) × (size ≤ 64) → (0 < part) × (part ≤ 64)
    bounds true size part e h = let l = h.0 in let m = h.1 in (omega (arith, e, l), omega (arith, e, m))
    bounds false size part e h = (omega (arith, e), omega (arith, e))

-- ---- the values

module _ (parties : List ℕ) where
  pub at-part_values : (values : List ℕ) (a : ℕ) → a < 16 → slice_index (part_values parties values) a ≡ (if is_in a parties then slice_index values a else 0)
  unfolding part_values
  at-part_values values a h = get_or-map-range_with_len (λ k. if is_in k parties then slice_index values k else 0) 0 16 a a 0 h (omega arith)

  pub length-part_values : (values : List ℕ) → length (part_values parties values) ≡ 16
  unfolding part_values
  length-part_values values = length-map-range_with_len (λ k. if is_in k parties then slice_index values k else 0) 0 16

  -- a list that has them so is that of these values
  pub values_filled : (values xs : List ℕ) → length xs ≡ 16 → ((a : ℕ) → a < 16 → slice_index xs a ≡ (if is_in a parties then slice_index values a else 0)) → xs ≡ part_values parties values
  unfolding part_values
  values_filled values xs long filled = fill_by_all (λ k. if is_in k parties then slice_index values k else 0) xs 16 0 long filled

-- ---- the parties' numbers

module _ (parties sizes : List ℕ) (ok : AreSizes sizes) where
  few : length sizes ≤ 16
  few = ok.few_agents

  -- the parties' values are below their sizes
  pub values-below : (values : List ℕ) → AreBelow sizes values → AreBelow (part_sizes parties sizes) (part_values parties values)
  values-below values below a h =
      let inside : a < length sizes = (let e = length-part parties sizes in omega (arith, e, h)) in
      let l = few in
      go (is_in a parties) (at-part_values parties values a (omega (arith, inside, l))) (at-part parties sizes a inside) (below a inside)
    where
      go : (b : Bool) → slice_index (part_values parties values) a ≡ (if b then slice_index values a else 0) → slice_index (part_sizes parties sizes) a ≡ (if b then slice_index sizes a else 1) →
          slice_index values a < slice_index sizes a → slice_index (part_values parties values) a < slice_index (part_sizes parties sizes) a
      go true e f l = omega (arith, e, f, l)
      go false e f l = omega (arith, e, f)

  -- of joint data
  pub tuple-below : (d : ℕ) → d < data_count sizes → AreBelow (part_sizes parties sizes) (part_values parties (tuple_of sizes d))
  tuple-below d h = values-below (tuple_of sizes d) (tuple_of-below sizes d h)

  pub number-below : (d : ℕ) → d < data_count sizes → part_number parties sizes d < data_count (part_sizes parties sizes)
  unfolding part_number
  number-below d h =
      joint-in_range (part_sizes parties sizes) (part_values parties (tuple_of sizes d))
      (let e = length-part parties sizes in let l = few in omega (arith, e, l, length-part_values parties (tuple_of sizes d))) (tuple-below d h)

  -- the values of the parties' number are theirs, and 0 for everyone else
  pub split-number : (d a : ℕ) → d < data_count sizes → a < length sizes → slice_index (split (part_sizes parties sizes) (part_number parties sizes d)) a ≡ (if is_in a parties then slice_index (split sizes d) a else 0)
  unfolding part_number
  split-number d a h k =
      let part = part_sizes parties sizes in
      let values = part_values parties (tuple_of sizes d) in
      let size = length-part parties sizes in
      let l = few in
      let long : length part ≤ length values = omega (arith, size, l, length-part_values parties (tuple_of sizes d)) in
      let are = front-values part values long (tuple-below d h) in
      ap (λ n. slice_index (split part n) a) (sym (joint-front part values))
      ∙ ap (λ xs. slice_index xs a) (split-joint part (take (length part) values) are)
      ∙ get_or-take (length part) values a 0 (omega (arith, size, k))
      ∙ at-part_values parties (tuple_of sizes d) a (omega (arith, k, l))
      ∙ ap (λ v. if is_in a parties then v else 0) (at-tuple_of sizes d a)

  -- parties have the same values in joint data and in their part
  pub same-part : (d : ℕ) → d < data_count sizes → SameAt parties (split sizes d) (split (part_sizes parties sizes) (part_number parties sizes d))
  same-part d h a party = ⊎_elim
      (λ k. sym (split-number d a h k ∙ ap (λ b. if b then slice_index (split sizes d) a else 0) party))
      (λ k. get_or_past (split sizes d) a 0 (subst (λ n. n ≤ a) (sym (length-split sizes d)) k)
      ∙ sym (get_or_past (split (part_sizes parties sizes) (part_number parties sizes d)) a 0 (subst (λ n. n ≤ a) (sym (length-split (part_sizes parties sizes) (part_number parties sizes d) ∙ length-part parties sizes)) k)))
      (cases_lt a (length sizes))

  -- who is kept
  pub kept-at : (d e : ℕ) → are_kept parties (tuple_of sizes d) (tuple_of sizes e) ≡ true → (a : ℕ) → a < length sizes → is_in a parties ≡ false → slice_index (split sizes d) a ≡ slice_index (split sizes e) a
  kept-at d e kept a h other =
      let l = few in
      let here = all_at (λ k. is_in k parties || slice_index (tuple_of sizes d) k == slice_index (tuple_of sizes e) k) (range_with_len 0 16) a kept (is_in-range_zero a 16 ∙ lt-ltb a 16 (omega (arith, h, l))) in
      sym (at-tuple_of sizes d a) ∙ eqb-true (slice_index (tuple_of sizes d) a) (slice_index (tuple_of sizes e) a) (sym (ap (λ b. b || slice_index (tuple_of sizes d) a == slice_index (tuple_of sizes e) a) other) ∙ here) ∙ at-tuple_of sizes e a

  pub kept-from : (d e : ℕ) → ((a : ℕ) → a < length sizes → is_in a parties ≡ false → slice_index (split sizes d) a ≡ slice_index (split sizes e) a) → are_kept parties (tuple_of sizes d) (tuple_of sizes e) ≡ true
  kept-from d e same = all_from (λ k. is_in k parties || slice_index (tuple_of sizes d) k == slice_index (tuple_of sizes e) k) (range_with_len 0 16) (λ a m. ⊎_elim
      (λ party. or_left (is_in a parties) (slice_index (tuple_of sizes d) a == slice_index (tuple_of sizes e) a) party)
      (λ other. or_right (is_in a parties) (slice_index (tuple_of sizes d) a == slice_index (tuple_of sizes e) a) (eq-eqb (slice_index (tuple_of sizes d) a) (slice_index (tuple_of sizes e) a)
      (at-tuple_of sizes d a ∙ ⊎_elim (λ k. same a k other) (λ k. past d a k ∙ sym (past e a k)) (cases_lt a (length sizes)) ∙ sym (at-tuple_of sizes e a))))
      (cases_Bool (is_in a parties)))
    where
      past : (d a : ℕ) → length sizes ≤ a → slice_index (split sizes d) a ≡ 0
      past d a k = get_or_past (split sizes d) a 0 (subst (λ n. n ≤ a) (sym (length-split sizes d)) k)

  -- ---- what cases relate

  module _ (case : Case) (names : NamesOnly parties case) (d e : ℕ) (h : d < data_count sizes) (k : e < data_count sizes) where
    abbrev part : List ℕ
    part = part_sizes parties sizes

    abbrev old : List ℕ
    old = split sizes d

    abbrev new : List ℕ
    new = split sizes e

    abbrev old' : List ℕ
    old' = split part (part_number parties sizes d)

    abbrev new' : List ℕ
    new' = split part (part_number parties sizes e)

    -- a party follows in joint data where it does in their part
    party-follows : (a : ℕ) → a < length sizes → IsTrue (is_in a parties) →
        agent_follows (term_for case.sets a) (slice_index sizes a) old (slice_index old a) (slice_index new a) ≡ agent_follows (term_for case.sets a) (slice_index part a) old' (slice_index old' a) (slice_index new' a)
    party-follows a l party =
        ap (λ size. agent_follows (term_for case.sets a) size old (slice_index old a) (slice_index new a)) (sym (at-part parties sizes a l ∙ ap (λ b. if b then slice_index sizes a else 1) party))
        ∙ ap₂ (agent_follows (term_for case.sets a) (slice_index part a) old) (same-part d h a party) (same-part e k a party)
        ∙ go (term_for case.sets a) refl
      where
        go : (o : Option Term) → term_for case.sets a ≡ o → agent_follows o (slice_index part a) old (slice_index old' a) (slice_index new' a) ≡ agent_follows o (slice_index part a) old' (slice_index old' a) (slice_index new' a)
        go None t = refl
        go (Some term) t =
            let s = term_for-some (λ set. AreAmong parties (set.agent.0 ∷ term_agents set.term)) case.sets a term names.sets t in
            gives-same parties term (slice_index part a) old old' (slice_index new' a)
            (subst (λ x. AreAmong parties (term_agents x)) s.3 (All-tail (λ x. IsTrue (is_in x parties)) s.0.agent.0 (term_agents s.0.term) s.1)) (same-part d h)

    -- a case relates joint data that it relates the parts of, where everyone else is kept
    related-from_part : are_kept parties (tuple_of sizes d) (tuple_of sizes e) ≡ true → IsTrue (case_relates part case old' new') → IsTrue (case_relates sizes case old new)
    related-from_part kept r =
        let parts = and_parts (covers case old') (agents_follow 0 part case.sets old' new') r in
        and_from (covers case old) (agents_follow 0 sizes case.sets old new)
        (covers-same parties case old' old names (λ a m. sym (same-part d h a m)) parts.0)
        (follow_from sizes case.sets old new (λ a l. ⊎_elim
        (λ party. party-follows a l party ∙ follow-at part case.sets old' new' parts.1 a (subst (λ n. a < n) (sym (length-part parties sizes)) l))
        (λ other.
        let none = term_for-stranger parties case a names (λ m. false≢true (sym other ∙ m)) in
        subst (λ o. IsTrue (agent_follows o (slice_index sizes a) old (slice_index old a) (slice_index new a))) (sym none)
        (eq-eqb (slice_index new a) (slice_index old a) (sym (kept-at d e kept a l other))))
        (cases_Bool (is_in a parties))))

    -- and the way back
    kept-from_related : IsTrue (case_relates sizes case old new) → are_kept parties (tuple_of sizes d) (tuple_of sizes e) ≡ true
    kept-from_related r = kept-from d e (λ a l other. case_relates-changes sizes parties case old new names r a l (λ m. false≢true (sym other ∙ m)))

    part-from_related : IsTrue (case_relates sizes case old new) → IsTrue (case_relates part case old' new')
    part-from_related r =
        let parts = and_parts (covers case old) (agents_follow 0 sizes case.sets old new) r in
        and_from (covers case old') (agents_follow 0 part case.sets old' new')
        (covers-same parties case old old' names (same-part d h) parts.0)
        (follow_from part case.sets old' new' (λ a m.
        let l : a < length sizes = subst (λ n. a < n) (length-part parties sizes) m in
        ⊎_elim
        (λ party. sym (party-follows a l party) ∙ follow-at sizes case.sets old new parts.1 a l)
        (λ other.
        let none = term_for-stranger parties case a names (λ m. false≢true (sym other ∙ m)) in
        let zero-old = split-number d a h l ∙ ap (λ b. if b then slice_index (split sizes d) a else 0) other in
        let zero-new = split-number e a k l ∙ ap (λ b. if b then slice_index (split sizes e) a else 0) other in
        subst (λ o. IsTrue (agent_follows o (slice_index part a) old' (slice_index old' a) (slice_index new' a))) (sym none)
        (eq-eqb (slice_index new' a) (slice_index old' a) (zero-new ∙ sym zero-old)))
        (cases_Bool (is_in a parties))))

    -- in one
    case_relates-part : case_relates sizes case old new ≡ (are_kept parties (tuple_of sizes d) (tuple_of sizes e) && case_relates part case old' new')
    case_relates-part = same_tests (case_relates sizes case old new) (are_kept parties (tuple_of sizes d) (tuple_of sizes e) && case_relates part case old' new')
        (λ r. and_from (are_kept parties (tuple_of sizes d) (tuple_of sizes e)) (case_relates part case old' new') (kept-from_related r) (part-from_related r))
        (λ r. let both = and_parts (are_kept parties (tuple_of sizes d) (tuple_of sizes e)) (case_relates part case old' new') r in related-from_part both.0 both.1)

  -- joint data are related where their parts are, and everyone else is kept
  module _ (d e : ℕ) (h : d < data_count sizes) (k : e < data_count sizes) where
    abbrev kept : Bool
    kept = are_kept parties (tuple_of sizes d) (tuple_of sizes e)

    abbrev in_whole : Case → Bool
    in_whole case = case_relates sizes case (split sizes d) (split sizes e)

    abbrev in_part : Case → Bool
    in_part case = case_relates (part_sizes parties sizes) case (split (part_sizes parties sizes) (part_number parties sizes d)) (split (part_sizes parties sizes) (part_number parties sizes e))

    some_relates : (cases : List Case) → All (NamesOnly parties) cases → list_any in_whole cases ≡ (kept && list_any in_part cases)
    some_relates [] names = never kept
      where
        never : (b : Bool) → false ≡ (b && false)
        never true = refl
        never false = refl
    some_relates (case ∷ cases) names =
        ap₂ ◌||◌ (case_as case (All-head (NamesOnly parties) case cases names)) (some_relates cases (All-tail (NamesOnly parties) case cases names))
        ∙ spread kept (in_part case) (list_any in_part cases)
      where
        case_as : (case : Case) → NamesOnly parties case → in_whole case ≡ (kept && in_part case)
        case_as case one = case_relates-part case one d e h k

        spread : (b s t : Bool) → ((b && s) || (b && t)) ≡ (b && (s || t))
        spread true s t = refl
        spread false s t = refl

    pub relates-part : (cases : List Case) → All (NamesOnly parties) cases →
        relates sizes cases d e ≡ (kept && relates (part_sizes parties sizes) cases (part_number parties sizes d) (part_number parties sizes e))
    relates-part cases names =
        inside (nat_lt d (data_count sizes)) (nat_lt e (data_count sizes)) (list_any in_whole cases) (lt-ltb d (data_count sizes) h) (lt-ltb e (data_count sizes) k)
        ∙ some_relates cases names
        ∙ ap (λ b. kept && b) (sym (inside (nat_lt (part_number parties sizes d) (data_count (part_sizes parties sizes))) (nat_lt (part_number parties sizes e) (data_count (part_sizes parties sizes))) (list_any in_part cases)
        (lt-ltb (part_number parties sizes d) (data_count (part_sizes parties sizes)) (number-below d h)) (lt-ltb (part_number parties sizes e) (data_count (part_sizes parties sizes)) (number-below e k))))
      where
        inside : (s t u : Bool) → s ≡ true → t ≡ true → (s && (t && u)) ≡ u
        inside s t u p q = rw (p, q) refl

-- the number of the parties' values in joint data, by sizes that are theirs
module _ (parties sizes part : List ℕ) (ok : AreSizes sizes) (part_is : part ≡ part_sizes parties sizes) (d : ℕ) (values : List ℕ) (is : values ≡ tuple_of sizes d) where
  pub part-fits : d < data_count sizes → AreBelow part (part_values parties values)
  part-fits h =
      subst (λ p. AreBelow p (part_values parties values)) (sym part_is)
      (subst (λ v. AreBelow (part_sizes parties sizes) (part_values parties v)) (sym is) (tuple-below parties sizes ok d h))

  pub part-numbered : (n : ℕ) → n ≡ joint part (part_values parties values) → n ≡ part_number parties sizes d
  unfolding part_number
  part-numbered n f = f ∙ ap (λ p. joint p (part_values parties values)) part_is ∙ ap (λ v. joint (part_sizes parties sizes) (part_values parties v)) is

-- ---- the table

-- the table of the cases is that of their rows over the parties' values
pub widened-rows : (parties sizes : List ℕ) (cases : List Case) → AreSizes sizes → All (NamesOnly parties) cases → widened parties sizes (rows_of (part_sizes parties sizes) cases) ≡ rows_of sizes cases
unfolding widened
widened-rows parties sizes cases ok names = table_of_cases sizes cases (rows_by (data_count sizes) test) (rows_by-table (data_count sizes) test) (λ d e h k.
    rows_by-related (data_count sizes) test d e h k
    ∙ ap (λ b. are_kept parties (tuple_of sizes d) (tuple_of sizes e) && b) (rows_of-relates (part_sizes parties sizes) cases (part_number parties sizes d) (part_number parties sizes e))
    ∙ sym (relates-part parties sizes ok d e h k cases names))
  where
    test : ℕ → ℕ → Bool
    test d e = are_kept parties (tuple_of sizes d) (tuple_of sizes e) && is_related (rows_of (part_sizes parties sizes) cases) (part_number parties sizes d) (part_number parties sizes e)

-- cases cover all joint data where they cover all of the parties'
pub covered-from_part : (parties sizes : List ℕ) (cases : List Case) → AreSizes sizes → All (NamesOnly parties) cases → AllCovered (part_sizes parties sizes) cases → AllCovered sizes cases
covered-from_part parties sizes cases ok names covered d h =
    any_passes (λ case. covers case (split (part_sizes parties sizes) (part_number parties sizes d))) (λ case. covers case (split sizes d)) cases
    (covered (part_number parties sizes d) (number-below parties sizes ok d h))
    (All-weaker (NamesOnly parties) (λ case. IsTrue (covers case (split (part_sizes parties sizes) (part_number parties sizes d))) → IsTrue (covers case (split sizes d)))
    (λ case one. covers-same parties case (split (part_sizes parties sizes) (part_number parties sizes d)) (split sizes d) one (λ a m. sym (same-part parties sizes ok d h a m))) cases names)

-- a case covers the parties' values in joint data where it covers these
covers-part : (parties sizes : List ℕ) → AreSizes sizes → (case : Case) → NamesOnly parties case → (d : ℕ) → d < data_count sizes →
    covers case (split (part_sizes parties sizes) (part_number parties sizes d)) ≡ covers case (split sizes d)
covers-part parties sizes ok case one d h = same_tests (covers case (split (part_sizes parties sizes) (part_number parties sizes d))) (covers case (split sizes d))
    (λ c. covers-same parties case (split (part_sizes parties sizes) (part_number parties sizes d)) (split sizes d) one (λ a m. sym (same-part parties sizes ok d h a m)) c)
    (λ c. covers-same parties case (split sizes d) (split (part_sizes parties sizes) (part_number parties sizes d)) one (same-part parties sizes ok d h) c)

-- and so do cases
some-covers_part : (parties sizes : List ℕ) → AreSizes sizes → (cases : List Case) → All (NamesOnly parties) cases → (d : ℕ) → d < data_count sizes →
    list_any (λ case. covers case (split (part_sizes parties sizes) (part_number parties sizes d))) cases ≡ list_any (λ case. covers case (split sizes d)) cases
some-covers_part parties sizes ok [] names d h = refl
some-covers_part parties sizes ok (case ∷ cases) names d h =
    ap₂ ◌||◌ (covers-part parties sizes ok case (All-head (NamesOnly parties) case cases names) d h) (some-covers_part parties sizes ok cases (All-tail (NamesOnly parties) case cases names) d h)

-- the least joint data whose parties' values no case covers are the least that no case covers
pub outside-uncovered : (parties sizes : List ℕ) (cases : List Case) (set : List ℕ) → AreSizes sizes → All (NamesOnly parties) cases →
    AreThose (part_sizes parties sizes) (λ values. list_any (λ case. covers case values) cases) set →
    find (λ d. not (is_set set (part_number parties sizes d))) (range_with_len 0 (data_count sizes)) ≡ first_uncovered sizes cases
outside-uncovered parties sizes cases set ok names those =
    find-alike_within (λ d. not (is_set set (part_number parties sizes d))) (λ d. not (list_any (λ case. covers case (split sizes d)) cases)) 0 (data_count sizes) (λ d k.
    let h : d < data_count sizes = omega (arith, k) in
    ap (λ b. not b) (those (part_number parties sizes d) (number-below parties sizes ok d h)
    ∙ tuple_covered (part_sizes parties sizes) cases (part_number parties sizes d)
    ∙ some-covers_part parties sizes ok cases names d h))

-- what is assigned to parties fits their sizes
pub fits-part : (parties sizes : List ℕ) (case : Case) → All (λ a. a < length sizes) parties → NamesOnly parties case → AssignsBelow sizes case → AssignsBelow (part_sizes parties sizes) case
fits-part parties sizes case below names fits = each case.sets names.sets fits
  where
    each : (sets : List Set) → All (λ set. AreAmong parties (set.agent.0 ∷ term_agents set.term)) sets → All (λ set. FitsSize set.term (slice_index sizes set.agent.0)) sets →
        All (λ set. FitsSize set.term (slice_index (part_sizes parties sizes) set.agent.0)) sets
    each [] n f = All-nil (λ set. FitsSize set.term (slice_index (part_sizes parties sizes) set.agent.0))
    each (set ∷ sets) n f =
        let party = All-head (λ a. IsTrue (is_in a parties)) set.agent.0 (term_agents set.term) (All-head (λ set. AreAmong parties (set.agent.0 ∷ term_agents set.term)) set sets n) in
        let inside = All-member (λ a. a < length sizes) set.agent.0 parties below party in
        let size = at-part parties sizes set.agent.0 inside ∙ ap (λ b. if b then slice_index sizes set.agent.0 else 1) party in
        All-cons (λ set. FitsSize set.term (slice_index (part_sizes parties sizes) set.agent.0)) set sets
        (subst (FitsSize set.term) (sym size) (All-head (λ set. FitsSize set.term (slice_index sizes set.agent.0)) set sets f))
        (each sets (All-tail (λ set. AreAmong parties (set.agent.0 ∷ term_agents set.term)) set sets n) (All-tail (λ set. FitsSize set.term (slice_index sizes set.agent.0)) set sets f))

-- a table of all joint data is one, and relates what the parts are related to, where everyone else is kept
module _ (parties sizes : List ℕ) (rows : List (List ℕ)) where
  abbrev test_of : ℕ → ℕ → Bool
  test_of d e = are_kept parties (tuple_of sizes d) (tuple_of sizes e) && is_related rows (part_number parties sizes d) (part_number parties sizes e)

  pub length-widened : length (widened parties sizes rows) ≡ data_count sizes
  unfolding widened
  length-widened = length-rows_by (data_count sizes) test_of

  pub widened-table : IsTable (length (widened parties sizes rows)) (widened parties sizes rows)
  unfolding widened
  widened-table = subst (λ n. IsTable n (widened parties sizes rows)) (sym length-widened) (rows_by-table (data_count sizes) test_of)

  pub widened-related : (d e : ℕ) → d < data_count sizes → e < data_count sizes → is_related (widened parties sizes rows) d e ≡ test_of d e
  unfolding widened
  widened-related d e h k = rows_by-related (data_count sizes) test_of d e h k

-- what a table that is kept so relates, by the parts of its data
module _ (parties sizes part : List ℕ) (rows table : List (List ℕ)) (is : IsPart parties sizes part rows) (seen : widened parties sizes rows ≡ table) where
  pub datum-below : (d : ℕ) → d < length table → d < data_count sizes
  datum-below d h = subst (λ n. d < n) (sym (ap length seen) ∙ length-widened parties sizes rows) h

  pub table-seen : IsTable (length table) table
  table-seen = let P : List (List ℕ) → Type 0 = λ t. IsTable (length t) t in subst P seen (widened-table parties sizes rows)

  -- the values of joint data have the parties' number
  pub values-fit : (d : ℕ) (values : List ℕ) → d < length table → values ≡ tuple_of sizes d → AreBelow part (part_values parties values)
  values-fit d values h e =
      subst (λ p. AreBelow p (part_values parties values)) (sym is.part_is)
      (subst (λ v. AreBelow (part_sizes parties sizes) (part_values parties v)) (sym e) (tuple-below parties sizes is.sizes d (datum-below d h)))

  pub number_is : (d n : ℕ) (values : List ℕ) → values ≡ tuple_of sizes d → n ≡ joint part (part_values parties values) → n ≡ part_number parties sizes d
  unfolding part_number
  number_is d n values e f = f ∙ ap (λ p. joint p (part_values parties values)) is.part_is ∙ ap (λ v. joint (part_sizes parties sizes) (part_values parties v)) e

  pub number-inside : (n : ℕ) → n < data_count part → n < length rows
  number-inside n h = subst (λ k. n < k) (sym is.rows.rows) h

  pub related-seen : (d e n m : ℕ) (old new : List ℕ) (kept : Bool) → d < length table → e < length table → old ≡ tuple_of sizes d → new ≡ tuple_of sizes e →
      n ≡ joint part (part_values parties old) → m ≡ joint part (part_values parties new) → kept ≡ are_kept parties old new →
      (kept && is_in m (slice_index_or rows n [])) ≡ is_in e (slice_index_or table d [])
  related-seen d e n m old new kept h k o w p q r =
      ap₂ (λ i j. kept && is_related rows i j) (number_is d n old o p) (number_is e m new w q)
      ∙ ap (λ b. b && is_related rows (part_number parties sizes d) (part_number parties sizes e)) (r ∙ ap₂ (are_kept parties) o w)
      ∙ sym (widened-related parties sizes rows d e (datum-below d h) (datum-below e k))
      ∙ ap (λ t. is_related t d e) seen

-- where nobody else has a choice, the table of the parties' values is that of all joint data
module _ (parties sizes : List ℕ) (ok : AreSizes sizes) (everyone : part_sizes parties sizes ≡ sizes) where
  -- who is no party has the value 0
  none-else : (d a : ℕ) → d < data_count sizes → a < length sizes → is_in a parties ≡ false → slice_index (split sizes d) a ≡ 0
  none-else d a h k other =
      let below = split-below sizes d a h k in
      let one : slice_index sizes a ≡ 1 = ap (λ xs. slice_index xs a) (sym everyone) ∙ at-part parties sizes a k ∙ ap (λ b. if b then slice_index sizes a else 1) other in
      omega (arith, below, one)

  number-everyone : (d : ℕ) → d < data_count sizes → part_number parties sizes d ≡ d
  number-everyone d h = same_data sizes (part_number parties sizes d) d (subst (λ p. part_number parties sizes d < data_count p) everyone (number-below parties sizes ok d h)) h (λ a k.
      ap (λ p. slice_index (split p (part_number parties sizes d)) a) (sym everyone) ∙ split-number parties sizes ok d a h k ∙ ⊎_elim
      (λ party. ap (λ b. if b then slice_index (split sizes d) a else 0) party)
      (λ other. ap (λ b. if b then slice_index (split sizes d) a else 0) other ∙ sym (none-else d a h k other))
      (cases_Bool (is_in a parties)))

  pub widened-everyone : (rows : List (List ℕ)) → IsTable (data_count sizes) rows → widened parties sizes rows ≡ rows
  widened-everyone rows table = same_tables (data_count sizes) (widened parties sizes rows) rows
      (subst (λ n. IsTable n (widened parties sizes rows)) (length-widened parties sizes rows) (widened-table parties sizes rows)) table (λ d e h k.
      widened-related parties sizes rows d e h k
      ∙ ap (λ b. b && is_related rows (part_number parties sizes d) (part_number parties sizes e)) (kept-from parties sizes ok d e (λ a l other. none-else d a h l other ∙ sym (none-else e a k l other)))
      ∙ ap₂ (is_related rows) (number-everyone d h) (number-everyone e k))

-- a table that is kept so is its rows, where nobody else has a choice
pub rows-of_everyone : (parties sizes own : List ℕ) (rows table : List (List ℕ)) → IsPart parties sizes own rows → widened parties sizes rows ≡ table → own ≡ sizes → rows ≡ table
rows-of_everyone parties sizes own rows table is seen everyone =
    sym (widened-everyone parties sizes is.sizes (sym is.part_is ∙ everyone) rows (subst (λ p. IsTable (data_count p) rows) everyone is.rows)) ∙ seen

-- sizes that are kept alike are the same
pub sizes_from_eq : (one two : List ℕ) →
    (length one == length two && (pointwise nat_eq (one ++ replicate (16 - length one) 0) (two ++ replicate (16 - length two) 0) && data_count one == data_count two)) ≡ true → one ≡ two
sizes_from_eq one two h =
    let parts = and_parts (length one == length two) (pointwise nat_eq (one ++ replicate (16 - length one) 0) (two ++ replicate (16 - length two) 0) && data_count one == data_count two) h in
    let lists = and_parts (pointwise nat_eq (one ++ replicate (16 - length one) 0) (two ++ replicate (16 - length two) 0)) (data_count one == data_count two) parts.1 in
    let same = (bytes_decides (one ++ replicate (16 - length one) 0) (two ++ replicate (16 - length two) 0)).0 lists.0 in
    let long = eqb-true (length one) (length two) parts.0 in
    sym (take_at one (replicate (16 - length one) 0) (length one) refl)
    ∙ ap (take (length one)) same
    ∙ ap (λ n. take n (two ++ replicate (16 - length two) 0)) long
    ∙ take_at two (replicate (16 - length two) 0) (length two) refl
