-- Laws of rows that are kept.
use Rattle.std.proofs.Common.{◌≡◌, ℕ, zero, suc, ◌+◌, ◌-◌, ◌<◌, ◌≤◌, not, ◌==◌, List, [], ◌∷◌, ◌++◌, length, map, replicate, set, slice_index_or, slice_get, Option, Some, None, is_some, inl, inr, refl, sym, ap, ◌∙◌, arith, eq-eqb}
use Rattle.std.specs.List.{All}
use Rattle.std.proofs.lemmas.Bool.{cases_eq, ne_eqb}
use Rattle.std.proofs.lemmas.Option.{none-some, slice_get-get_or}
use Rattle.std.proofs.lemmas.List.{map-set, get_or-map, length-set, length-append, length-map}
use Rattle.std.proofs.lemmas.List.Elements.{All-set, All-head, All-tail}
use Rattle.nego_base.proofs.ListLaws.{map-replicate}
use Rattle.nego_eval.specs.Kept.{numbered_row, rows_by_place, AreNumbered, open_places}
use Rattle.nego_eval.proofs.Counts.{count_by-set_fewer}

-- as many places are seen as there are
pub length-by_place : (rows : List (List ℕ)) (places : List ℕ) → length (rows_by_place rows places) ≡ length places
unfolding rows_by_place
length-by_place rows places = length-map places (numbered_row rows)

-- the row at a place
pub row_at_place : (rows : List (List ℕ)) (places : List ℕ) (place : ℕ) → place < length places → slice_index_or (rows_by_place rows places) place None ≡ numbered_row rows (slice_index_or places place 0)
unfolding rows_by_place
row_at_place rows places place h = get_or-map (numbered_row rows) places place 0 None h

-- a number other than 0 has its row
pub numbered_some : (rows : List (List ℕ)) (n : ℕ) → (n ≡ 0 → ⊥) → numbered_row rows n ≡ slice_get rows (n - 1)
numbered_some rows n h = rw (ne_eqb n 0 h) refl

-- a number of a row that is none is 0
pub number_none : (rows : List (List ℕ)) (n : ℕ) → n ≤ length rows → numbered_row rows n ≡ None → n ≡ 0
number_none rows n h none = elim (cases_eq n 0) [
  | inl e ↦ e
  | inr other ↦ absurd (none-some (slice_index_or rows (n - 1) []) (sym (sym (numbered_some rows n other) ∙ none) ∙ slice_get-get_or rows (n - 1) [] (omega arith)))
]

-- no place has a row at first
pub none_by_place : (places : ℕ) → rows_by_place [] (replicate places 0) ≡ replicate places None
unfolding rows_by_place
none_by_place places = map-replicate (numbered_row []) places 0

-- the last of the rows
last_row : (rows : List (List ℕ)) (row : List ℕ) → slice_get (rows ++ row ∷ []) (length rows) ≡ Some row
last_row [] row = refl
last_row (x ∷ rows) row = last_row rows row

-- one more row changes no other
older_row : (rows : List (List ℕ)) (row : List ℕ) (k : ℕ) → k < length rows → slice_get (rows ++ row ∷ []) k ≡ slice_get rows k
older_row [] row k h = absurd (omega arith)
older_row (x ∷ rows) row zero h = refl
older_row (x ∷ rows) row (suc k) h = older_row rows row k (omega (arith, h))

older_number : (rows : List (List ℕ)) (row : List ℕ) (n : ℕ) → n ≤ length rows → numbered_row (rows ++ row ∷ []) n ≡ numbered_row rows n
older_number rows row n h = elim (cases_eq n 0) [
  | inl e ↦ rw e refl
  | inr other ↦ numbered_some (rows ++ row ∷ []) n other ∙ older_row rows row (n - 1) (omega arith) ∙ sym (numbered_some rows n other)
]

older_numbers : (rows : List (List ℕ)) (row : List ℕ) (places : List ℕ) → All (λ n. n ≤ length rows) places → map (numbered_row (rows ++ row ∷ [])) places ≡ map (numbered_row rows) places
older_numbers rows row [] known = refl
older_numbers rows row (n ∷ places) known =
    let P : ℕ → Type 0 = λ n. n ≤ length rows in
    ap (λ r. r ∷ map (numbered_row (rows ++ row ∷ [])) places) (older_number rows row n (All-head P n places known))
    ∙ ap (λ rs. numbered_row rows n ∷ rs) (older_numbers rows row places (All-tail P n places known))

-- one more row, at its place
pub kept_by_place : (rows : List (List ℕ)) (places : List ℕ) (place : ℕ) (row : List ℕ) → All (λ n. n ≤ length rows) places →
    rows_by_place (rows ++ row ∷ []) (set places place (length rows + 1)) ≡ set (rows_by_place rows places) place (Some row)
unfolding rows_by_place
kept_by_place rows places place row known =
    map-set (numbered_row (rows ++ row ∷ [])) places place (length rows + 1)
    ∙ ap (λ r. set (map (numbered_row (rows ++ row ∷ [])) places) place r) newest
    ∙ ap (λ rs. set rs place (Some row)) (older_numbers rows row places known)
  where
    newest : numbered_row (rows ++ row ∷ []) (length rows + 1) ≡ Some row
    newest =
        let back : length rows + 1 - 1 ≡ length rows = omega arith in
        numbered_some (rows ++ row ∷ []) (length rows + 1) (λ e. absurd (omega arith)) ∙ ap (slice_get (rows ++ row ∷ [])) back ∙ last_row rows row

-- a vacant place has the number 0
pub vacant_number : (rows : List (List ℕ)) (places : List ℕ) (place : ℕ) → AreNumbered rows places → place < length places → slice_index_or (rows_by_place rows places) place None ≡ None → slice_index_or places place 0 ≡ 0
vacant_number rows places place ok h none = number_none rows (slice_index_or places place 0) (ok.known place 0 h) (sym (row_at_place rows places place h) ∙ none)

-- there is room for one more number
pub room_for_number : (rows : List (List ℕ)) (places : List ℕ) (place : ℕ) → AreNumbered rows places → place < length places → slice_index_or places place 0 ≡ 0 → length rows < length places
room_for_number rows places place ok h zero_there =
    let one = count_by-set_fewer (λ n. n == 0) places place 1 0 h (eq-eqb (slice_index_or places place 0) 0 zero_there) refl in
    omega (arith, one, ok.enough)

-- one more row that has its number at its place
pub still_numbered : (rows : List (List ℕ)) (places : List ℕ) (place : ℕ) (row : List ℕ) → AreNumbered rows places → place < length places → slice_index_or places place 0 ≡ 0 →
    AreNumbered (rows ++ row ∷ []) (set places place (length rows + 1))
still_numbered rows places place row ok h zero_there =
    let more = length-append rows (row ∷ []) in
    let fewer = count_by-set_fewer (λ n. n == 0) places place (length rows + 1) 0 h (eq-eqb (slice_index_or places place 0) 0 zero_there) (ne_eqb (length rows + 1) 0 (λ e. absurd (omega arith))) in
    let as_many = length-set places place (length rows + 1) in
    record {
      known = All-set (λ n. n ≤ length (rows ++ row ∷ [])) places place (length rows + 1) (omega (arith, more)) (λ k d q. let old = ok.known k d q in omega (arith, more, old));
      enough = omega (arith, more, fewer, as_many, ok.enough);
      few = omega (arith, as_many, ok.few);
    }

-- a place that gets a row is open no more
pub keep-fewer_open : (kept : List (Option (List ℕ))) (place : ℕ) (row : List ℕ) → place < length kept → slice_index_or kept place None ≡ None → open_places (set kept place (Some row)) < open_places kept
unfolding open_places
keep-fewer_open kept place row h none =
    let fewer = count_by-set_fewer (λ r. not (is_some r)) kept place (Some row) None h (ap (λ r. not (is_some r)) none) refl in
    omega (arith, fewer)
