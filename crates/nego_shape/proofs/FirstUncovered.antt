-- The first joint data that an outcome's cases leave uncovered.
use Rattle.std.proofs.Common.{◌≡◌, ℕ, Bool, true, false, not, List, [], ◌∷◌, Some, find, refl, ap, ◌∙◌, arith}
use Rattle.std.specs.List.{list_any, filter, range_with_len}
use Rattle.std.specs.Option.{option_map}
use Rattle.nego_base.proofs.BoolLaws.{not_true}
use Rattle.nego_base.proofs.Firsts.{first_in_range}
use Rattle.nego_data.specs.Cases.{covers}
use Rattle.nego_data.specs.CaseForm.{IsFirstUncovered}
use Rattle.nego_data.specs.Data.{data_count, split}
use Rattle.nego_reader.specs.declared.parsed.POut.{POut}
use Rattle.nego_reader.specs.Content.{Content, out_content}
use Rattle.nego_shape.specs.declared.fault.ShapeKind.TheVariants as kinds
use Rattle.nego_shape.specs.Faults.{Spot, spot, uncovered, first_of}
use Rattle.nego_shape.specs.Naming.{sizes_in, cases_in}
use Rattle.nego_shape.proofs.Numbered.{head, head-map}

pub head-filter : {A : Type 0} (test : A → Bool) (xs : List A) → head (filter test xs) ≡ find test xs
head-filter test [] = refl
head-filter {A} test (x ∷ xs) = by_test (test x) refl (head-filter test xs)
  where
    by_test : (b : Bool) → test x ≡ b → head (filter test xs) ≡ find test xs → head (filter test (x ∷ xs)) ≡ find test (x ∷ xs)
    by_test true h rest = rw h refl
    by_test false h rest = rw h rest

module _ (c : Content) (o : ℕ) (out : POut) where
  pub told_uncovered : (d : ℕ) → IsFirstUncovered (sizes_in c) (cases_in c (out_content out)) d → first_of (uncovered c o out) ≡ Some (record { line = out.name.line; kind = kinds.NotTotal (record { 0 = o }) d })
  told_uncovered d h =
      ap (option_map (λ (s : Spot). s.fault))
      (head-map (λ e. spot out.name.line e (kinds.NotTotal (record { 0 = o }) e)) (filter fails (range_with_len 0 (data_count (sizes_in c))))
      ∙ ap (option_map (λ e. spot out.name.line e (kinds.NotTotal (record { 0 = o }) e)))
      (head-filter fails (range_with_len 0 (data_count (sizes_in c)))
      ∙ first_in_range fails 0 (data_count (sizes_in c)) d (omega arith) (omega (arith, h.below))
      (λ e low l. not_true (list_any (λ case. covers case (split (sizes_in c) e)) (cases_in c (out_content out))) (h.least e l))
      (not_from (list_any (λ case. covers case (split (sizes_in c) d)) (cases_in c (out_content out))) h.uncovered)))
    where
      fails : ℕ → Bool
      fails e = not (list_any (λ case. covers case (split (sizes_in c) e)) (cases_in c (out_content out)))

      not_from : (b : Bool) → (b ≡ true → ⊥) → not b ≡ true
      not_from false k = refl
      not_from true k = absurd (k refl)
