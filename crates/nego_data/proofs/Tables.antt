-- Laws of tables of joint data, and of the tables that tests and cases make.
use Rattle.std.proofs.Common.{◌≡◌, inl, inr, ℕ, ◌<◌, ◌≤◌, Bool, true, false, ◌&&◌, nat_lt, List, [], length, replicate, filter, slice_index_or, IsTrue, refl, sym, subst, ap, ◌∙◌, arith, ltb-true, lt-ltb}
use Rattle.std.proofs.lemmas.Bool.{and_parts, cases_lt}
use Rattle.std.proofs.lemmas.List.{get_or_past, get_or-replicate, length-replicate, ext_get_or}
use Rattle.std.proofs.lemmas.List.FromFn.{length-map-range_with_len, get_or-map-range_with_len}
use Rattle.std.proofs.lemmas.List.Elements.{All-from_get_or, All-nil, All-replicate}
use Rattle.std.specs.List.{All, list_any, range_with_len}
use Rattle.nego_base.specs.Members.{is_in, IsRising, IsRisingBelow}
use Rattle.nego_data.specs.declared.cases.Case.{Case}
use Rattle.nego_data.specs.Data.{data_count, split}
use Rattle.nego_data.specs.Tables.{IsTable, is_related, rows_by}
use Rattle.nego_data.specs.Cases.{relates, case_relates, rows_of}
use Rattle.nego_base.proofs.Members.{All-member, All-members, is_in-filter, is_in-range_zero, is_in_none, rises-filter, rises-range, same_below}
use Rattle.nego_base.proofs.BoolLaws.{same_tests}

-- a row of a table has joint data alone
pub row-on_data : (count : ℕ) (table : List (List ℕ)) (d e : ℕ) → IsTable count table → d < count → IsTrue (is_in e (slice_index_or table d [])) → e < count
row-on_data count table d e ok h k =
    All-member (λ x. x < count) e (slice_index_or table d []) (ok.on_data d [] (subst (λ n. d < n) (sym ok.rows) h)) k

-- a row of a table is a set of joint data
pub row-rises_below : (count : ℕ) (table : List (List ℕ)) (d : ℕ) → IsTable count table → d < count → IsRisingBelow count (slice_index_or table d [])
row-rises_below count table d ok h =
    let here : d < length table = subst (λ n. d < n) (sym ok.rows) h in
    record { rising = ok.rise d [] here; below = ok.on_data d [] here }

-- tables that relate the same are one
pub same_tables : (count : ℕ) (one two : List (List ℕ)) → IsTable count one → IsTable count two → ((d e : ℕ) → d < count → e < count → is_related one d e ≡ is_related two d e) → one ≡ two
same_tables count one two ok ok' same = ext_get_or [] one two (ok.rows ∙ sym ok'.rows) (λ d h.
    let below : d < count = subst (λ n. d < n) ok.rows h in
    same_below count (slice_index_or one d []) (slice_index_or two d []) (row-rises_below count one d ok below) (row-rises_below count two d ok' below) (λ e k. same d e below k))

-- empty rows are a table
pub empty-table : (count : ℕ) → IsTable count (replicate count [])
empty-table count = record {
  rows = length-replicate count [];
  rise = All-replicate IsRising count [] tt;
  on_data = All-replicate (All (λ e. e < count)) count [] (All-nil (λ e. e < count));
}

-- nothing is related in a table of empty rows
pub empty-related : (count d e : ℕ) → is_related (replicate count []) d e ≡ false
empty-related count d e = ap (is_in e) (row d)
  where
    row : (d : ℕ) → slice_index_or (replicate {A = List ℕ} count []) d [] ≡ []
    row d = elim (cases_lt d count) [
      | inl h ↦ get_or-replicate count d [] [] h
      | inr h ↦ get_or_past (replicate count []) d [] (subst (λ n. n ≤ d) (sym (length-replicate {A = List ℕ} count [])) h)
    ]

-- ---- a filter of a range

-- the numbers of a range that are in a set are the set
pub filter-members : (count : ℕ) (row : List ℕ) → IsRisingBelow count row → filter (λ e. is_in e row) (range_with_len 0 count) ≡ row
filter-members count row ok = same_below count kept row (record { rising = rises-filter (λ e. is_in e row) 0 (range_with_len 0 count) (rises-range 0 count); below = All-members (λ e. e < count) kept below }) ok same
  where
    kept : List ℕ
    kept = filter (λ e. is_in e row) (range_with_len 0 count)

    below : (e : ℕ) → is_in e kept ≡ true → e < count
    below e k =
        let found : (is_in e row && is_in e (range_with_len 0 count)) ≡ true = sym (is_in-filter (λ x. is_in x row) e (range_with_len 0 count)) ∙ k in
        ltb-true e count (sym (is_in-range_zero e count) ∙ (and_parts (is_in e row) (is_in e (range_with_len 0 count)) found).1)

    and_true : (b : Bool) → (b && true) ≡ b
    and_true true = refl
    and_true false = refl

    same : (e : ℕ) → e < count → is_in e kept ≡ is_in e row
    same e k = is_in-filter (λ x. is_in x row) e (range_with_len 0 count) ∙ ap (λ b. is_in e row && b) (is_in-range_zero e count ∙ lt-ltb e count k) ∙ and_true (is_in e row)

-- the joint data to which some are related are the row of these
pub filter-row : (table : List (List ℕ)) (d : ℕ) → IsTable (length table) table → d < length table → filter (λ e. is_related table d e) (range_with_len 0 (length table)) ≡ slice_index_or table d []
filter-row table d ok h = filter-members (length table) (slice_index_or table d []) (row-rises_below (length table) table d ok h)

-- ---- the table of a test

module _ (count : ℕ) (test : ℕ → ℕ → Bool) where
  -- the table of a test has a row for each joint data
  pub length-rows_by : length (rows_by count test) ≡ count
  length-rows_by = length-map-range_with_len (λ d. filter (test d) (range_with_len 0 count)) 0 count

  -- the row of joint data
  pub row-rows_by : (d : ℕ) → d < count → slice_index_or (rows_by count test) d [] ≡ filter (test d) (range_with_len 0 count)
  row-rows_by d h = get_or-map-range_with_len (λ c. filter (test c) (range_with_len 0 count)) 0 count d d [] h (omega arith)

  -- the table of a test relates the joint data that pass it
  pub rows_by-related : (d e : ℕ) → d < count → e < count → is_related (rows_by count test) d e ≡ test d e
  rows_by-related d e h k =
      ap (is_in e) (row-rows_by d h)
      ∙ is_in-filter (test d) e (range_with_len 0 count)
      ∙ ap (λ b. test d e && b) (is_in-range_zero e count ∙ lt-ltb e count k)
      ∙ and_true (test d e)
    where
      and_true : (b : Bool) → (b && true) ≡ b
      and_true true = refl
      and_true false = refl

  -- the table of a test is a table
  pub rows_by-table : IsTable count (rows_by count test)
  rows_by-table = record {
    rows = length-rows_by;
    rise = All-from_get_or IsRising (rows_by count test) [] (λ d h. subst IsRising (sym (row-rows_by d (at d h))) (rises-filter (test d) 0 (range_with_len 0 count) (rises-range 0 count)));
    on_data = All-from_get_or (All (λ e. e < count)) (rows_by count test) [] (λ d h.
        All-members (λ e. e < count) (slice_index_or (rows_by count test) d []) (λ e k. below d e (at d h) k));
  }
    where
      at : (d : ℕ) → d < length (rows_by count test) → d < count
      at d h = subst (λ n. d < n) length-rows_by h

      below : (d e : ℕ) → d < count → is_related (rows_by count test) d e ≡ true → e < count
      below d e h k =
          let found : (test d e && is_in e (range_with_len 0 count)) ≡ true = sym (ap (is_in e) (row-rows_by d h) ∙ is_in-filter (test d) e (range_with_len 0 count)) ∙ k in
          ltb-true e count (sym (is_in-range_zero e count) ∙ (and_parts (test d e) (is_in e (range_with_len 0 count)) found).1)

-- ---- the table of cases

-- what cases relate are joint data
pub relates-on_data : (sizes : List ℕ) (cases : List Case) (d e : ℕ) → IsTrue (relates sizes cases d e) →
    (d < data_count sizes) × (e < data_count sizes) × IsTrue (list_any (λ case. case_relates sizes case (split sizes d) (split sizes e)) cases)
relates-on_data sizes cases d e h =
    let some_case = list_any (λ case. case_relates sizes case (split sizes d) (split sizes e)) cases in
    let p = and_parts (nat_lt d (data_count sizes)) (nat_lt e (data_count sizes) && some_case) h in
    let q = and_parts (nat_lt e (data_count sizes)) some_case p.1 in
    (ltb-true d (data_count sizes) p.0, ltb-true e (data_count sizes) q.0, q.1)

-- the table of cases is a table
pub rows_of-table : (sizes : List ℕ) (cases : List Case) → IsTable (data_count sizes) (rows_of sizes cases)
unfolding rows_of
rows_of-table sizes cases = rows_by-table (data_count sizes) (relates sizes cases)

-- the table of cases relates what the cases do
pub rows_of-relates : (sizes : List ℕ) (cases : List Case) (d e : ℕ) → is_in e (slice_index_or (rows_of sizes cases) d []) ≡ relates sizes cases d e
unfolding rows_of
rows_of-relates sizes cases d e = same_tests (is_related (rows_by count (relates sizes cases)) d e) (relates sizes cases d e)
    (λ k. elim (cases_lt d count) [
      | inl h ↦ sym (rows_by-related count (relates sizes cases) d e h (row-on_data count (rows_by count (relates sizes cases)) d e (rows_by-table count (relates sizes cases)) h k)) ∙ k
      | inr h ↦ absurd (is_in_none e (slice_index_or (rows_by count (relates sizes cases)) d []) (past h) k)
    ])
    (λ k. let below = relates-on_data sizes cases d e k in rows_by-related count (relates sizes cases) d e below.0 below.1 ∙ k)
  where
    count : ℕ
    count = data_count sizes

    past : count ≤ d → slice_index_or (rows_by count (relates sizes cases)) d [] ≡ []
    past h = get_or_past (rows_by count (relates sizes cases)) d [] (subst (λ n. n ≤ d) (sym (length-rows_by count (relates sizes cases))) h)
