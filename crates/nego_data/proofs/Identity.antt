-- Cases that cover all joint data and leave them as they are.
use Rattle.std.proofs.Common.{◌≡◌, ℕ, ◌<◌, Bool, true, false, not, ◌||◌, ◌==◌, List, [], ◌∷◌, length, slice_index, refl, sym, subst, ap, ap₂, ◌∙◌, eqb-true, eq-eqb, lt-ltb}
use Rattle.std.proofs.lemmas.Bool.{and_parts, false≢true, or_left}
use Rattle.std.specs.List.{list_any, list_all}
use Rattle.nego_base.proofs.BoolLaws.{same_tests}
use Rattle.nego_base.proofs.ScanLaws.{no_item}
use Rattle.nego_data.specs.declared.cases.Case.{Case}
use Rattle.nego_data.specs.Data.{data_count, split}
use Rattle.nego_data.specs.Cases.{agents_follow, test_holds, covers, case_relates, relates}
use Rattle.nego_data.specs.CaseForm.{AllCovered}
use Rattle.nego_data.specs.Covered.{keeps_all, keep_all}
use Rattle.nego_data.proofs.Assigned.{follow-at, follow_from}
use Rattle.nego_data.proofs.JointData.{same_data}

module _ (sizes : List ℕ) (d e : ℕ) (h : d < data_count sizes) (k : e < data_count sizes) where
  -- where nobody is assigned anything, all keep their values
  kept : agents_follow 0 sizes [] (split sizes d) (split sizes e) ≡ (d == e)
  kept = same_tests (agents_follow 0 sizes [] (split sizes d) (split sizes e)) (d == e) there back
    where
      there : agents_follow 0 sizes [] (split sizes d) (split sizes e) ≡ true → (d == e) ≡ true
      there follow = eq-eqb d e (same_data sizes d e h k (λ a l.
          sym (eqb-true (slice_index (split sizes e) a) (slice_index (split sizes d) a) (follow-at sizes [] (split sizes d) (split sizes e) follow a l))))

      back : (d == e) ≡ true → agents_follow 0 sizes [] (split sizes d) (split sizes e) ≡ true
      back same = subst (λ n. agents_follow 0 sizes [] (split sizes d) (split sizes n) ≡ true) (eqb-true d e same)
          (follow_from sizes [] (split sizes d) (split sizes d) (λ a l. eq-eqb (slice_index (split sizes d) a) (slice_index (split sizes d) a) refl))

  -- such a case relates joint data to themselves
  one_keeps : (case : Case) → keeps_all case ≡ true → case_relates sizes case (split sizes d) (split sizes e) ≡ (d == e)
  one_keeps case all =
      let parts = and_parts (length case.tests == 0) (length case.sets == 0) all in
      ap₂ (λ tests sets. case_relates sizes (record { tests = tests; sets = sets }) (split sizes d) (split sizes e)) (no_item case.tests parts.0) (no_item case.sets parts.1) ∙ kept

  -- and so do more of them
  some_keep : (case : Case) (cases : List Case) → list_all keeps_all (case ∷ cases) ≡ true → list_any (λ x. case_relates sizes x (split sizes d) (split sizes e)) (case ∷ cases) ≡ (d == e)
  some_keep case [] all =
      let parts = and_parts (keeps_all case) true all in
      ap (λ b. b || false) (one_keeps case parts.0) ∙ alone (d == e)
    where
      alone : (b : Bool) → (b || false) ≡ b
      alone true = refl
      alone false = refl
  some_keep case (next ∷ cases) all =
      let parts = and_parts (keeps_all case) (list_all keeps_all (next ∷ cases)) all in
      ap₂ ◌||◌ (one_keeps case parts.0) (some_keep next cases parts.1) ∙ twice (d == e)
    where
      twice : (b : Bool) → (b || b) ≡ b
      twice true = refl
      twice false = refl

  pub relates_to_itself : (cases : List Case) → keep_all cases ≡ true → (d == e) ≡ relates sizes cases d e
  relates_to_itself [] all = absurd (false≢true all)
  relates_to_itself (case ∷ cases) all =
      let parts = and_parts (not (length (case ∷ cases) == 0)) (list_all keeps_all (case ∷ cases)) all in
      rw (lt-ltb d (data_count sizes) h, lt-ltb e (data_count sizes) k) (sym (some_keep case cases parts.1))

-- such cases cover all joint data
pub keep_all-covers : (sizes : List ℕ) (cases : List Case) → keep_all cases ≡ true → AllCovered sizes cases
keep_all-covers sizes [] all d h = absurd (false≢true all)
keep_all-covers sizes (case ∷ cases) all d h =
    let parts = and_parts (not (length (case ∷ cases) == 0)) (list_all keeps_all (case ∷ cases)) all in
    let first = and_parts (keeps_all case) (list_all keeps_all cases) parts.1 in
    let none = no_item case.tests (and_parts (length case.tests == 0) (length case.sets == 0) first.0).0 in
    or_left (covers case (split sizes d)) (list_any (λ x. covers x (split sizes d)) cases) (ap (λ tests. list_all (λ test. test_holds test (split sizes d)) tests) none)
