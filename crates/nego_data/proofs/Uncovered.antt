-- Which joint data some case covers, and the least that none covers.
use Rattle.std.proofs.Common.{◌≡◌, ◌≢◌, ℕ, zero, suc, ◌+◌, ◌<◌, Bool, not, cond, ◌||◌, List, [], ◌∷◌, slice_index_or, Option, Some, None, Err, refl, sym, subst, ap, ap₂, ◌∙◌, arith}
use Rattle.std.proofs.lemmas.Bool.{false≢true}
use Rattle.std.proofs.lemmas.List.Elements.{All-from_get_or}
use Rattle.std.specs.List.{All, find, list_any, range_with_len}
use Rattle.nego_base.proofs.BoolLaws.{not_true, not_not}
use Rattle.nego_base.proofs.Firsts.{found_in_range, none_found, none_in_range}
use Rattle.nego_base.proofs.Members.{is_in_none}
use Rattle.nego_data.specs.declared.cases.Case.{Case}
use Rattle.nego_data.specs.Data.{data_count, split}
use Rattle.nego_data.specs.Sizes.{tuple_of}
use Rattle.nego_data.specs.Cases.{covers, rows_of}
use Rattle.nego_data.specs.CaseForm.{AssignsBelow, AllCovered, IsFirstUncovered, HasTableFault, fault_of, first_uncovered, named_uncovered}
use Rattle.nego_data.proofs.Tuples.{at-tuple_of}
use Rattle.nego_data.proofs.Tables.{rows_of-table}
use Rattle.nego_data.proofs.Additions.{covers-same_values}
use Rattle.nego_data.proofs.CaseRelations.{rows_of-some}

-- the tuple of joint data is covered where these are
pub tuple_covered : (sizes : List ℕ) (cases : List Case) (d : ℕ) → list_any (λ case. covers case (tuple_of sizes d)) cases ≡ list_any (λ case. covers case (split sizes d)) cases
tuple_covered sizes [] d = refl
tuple_covered sizes (case ∷ cases) d = ap₂ ◌||◌ (covers-same_values (tuple_of sizes d) (split sizes d) (at-tuple_of sizes d) case) (tuple_covered sizes cases d)

-- tests that agree find the same
find-alike : (one two : ℕ → Bool) → ((d : ℕ) → one d ≡ two d) → (xs : List ℕ) → find one xs ≡ find two xs
find-alike one two same [] = refl
find-alike one two same (x ∷ xs) = ap₂ (λ b rest. cond b (Some x) rest) (same x) (find-alike one two same xs)

module _ (sizes : List ℕ) (cases : List Case) where
  abbrev fails : ℕ → Bool
  fails d = not (list_any (λ case. covers case (split sizes d)) cases)

  -- the first joint data whose tuple no case covers
  pub first-tuple : find (λ d. not (list_any (λ case. covers case (tuple_of sizes d)) cases)) (range_with_len 0 (data_count sizes)) ≡ first_uncovered sizes cases
  first-tuple = find-alike (λ d. not (list_any (λ case. covers case (tuple_of sizes d)) cases)) fails (λ d. ap (λ b. not b) (tuple_covered sizes cases d)) (range_with_len 0 (data_count sizes))

  -- the first uncovered joint data are the least that no case covers
  pub first-uncovered : (d : ℕ) → first_uncovered sizes cases ≡ Some d → IsFirstUncovered sizes cases d
  first-uncovered d h =
      let found = found_in_range fails 0 (data_count sizes) d h in record {
        below = omega (arith, found.1);
        uncovered = λ k. false≢true (sym (not_true (list_any (λ case. covers case (split sizes d)) cases) k) ∙ found.2);
        least = λ e l. not_not (list_any (λ case. covers case (split sizes e)) cases) (found.3 e (omega arith) l);
      }

  -- all are covered where there are none
  pub none-uncovered : first_uncovered sizes cases ≡ None → AllCovered sizes cases
  none-uncovered h d l = not_not (list_any (λ case. covers case (split sizes d)) cases) (none_found fails 0 (data_count sizes) h d (omega arith) (omega (arith, l)))

  -- and the way back
  pub covered-none : AllCovered sizes cases → first_uncovered sizes cases ≡ None
  covered-none h = none_in_range fails 0 (data_count sizes) (λ d l k. not_true (list_any (λ case. covers case (split sizes d)) cases) (h d (omega (arith, k))))

  -- no row is empty where all are covered and the cases' numbers fit
  pub rows_of-total : All (AssignsBelow sizes) cases → AllCovered sizes cases → All (λ row. row ≢ []) (rows_of sizes cases)
  rows_of-total fits covered = All-from_get_or (λ row. row ≢ []) (rows_of sizes cases) [] (λ d h.
      let below : d < data_count sizes = subst (λ n. d < n) (rows_of-table sizes cases).rows h in
      let k = rows_of-some sizes cases d below fits (covered d below) in
      λ e. is_in_none k.0 (slice_index_or (rows_of sizes cases) d []) e k.1)

-- ---- the fault that tells it

-- a fault that is told by joint data names them
pub fault-named : (T : Type 0) (o : Option ℕ) → named_uncovered {T = T} (Err (fault_of o)) ≡ o
fault-named T None = refl
fault-named T (Some d) = refl

-- and is so
pub fault-is : (sizes : List ℕ) (cases : List Case) (o : Option ℕ) → o ≡ first_uncovered sizes cases → HasTableFault sizes cases (fault_of o)
fault-is sizes cases None e = none-uncovered sizes cases (sym e)
fault-is sizes cases (Some d) e = first-uncovered sizes cases d (sym e)

-- tests that agree on a range find the same there
pub find-alike_within : (one two : ℕ → Bool) (k n : ℕ) → ((d : ℕ) → d < k + n → one d ≡ two d) → find one (range_with_len k n) ≡ find two (range_with_len k n)
find-alike_within one two k zero same = refl
find-alike_within one two k (suc n) same = ap₂ (λ b rest. cond b (Some k) rest) (same k (omega arith)) (find-alike_within one two (k + 1) n (λ d h. same d (omega (arith, h))))
