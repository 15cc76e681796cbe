-- The edits of a merge, one after the other, give its effect.
use Rattle.std.proofs.Common.{◌≡◌, ◌≢◌, ℕ, List, [], ◌∷◌, ◌++◌, length, Some, option_map, ap, ap₂, ◌∙◌}
use Rattle.std.proofs.lemmas.Option.{same_Some}
use Rattle.nego_base.specs.Members.{united}
use Rattle.nego_model.specs.Expression.{Join}
use Rattle.nego_expr.specs.Work.{WorkOutcome, PlainWork, outcome_at}
use Rattle.nego_expr.specs.Edits.{with_outcome, without_outcome}
use Rattle.nego_expr.specs.Use.{merged}
use Rattle.nego_expr.proofs.WorkEdits.{found-without_other}

module _ (work : PlainWork) (x y : WorkOutcome) (first : outcome_at work x.number ≡ Some x) (apart : x.number ≢ y.number) (added dropped : PlainWork)
    (adds : added ≡ record work { nodes = work.nodes ++ Join x.node y.node ∷ [] }) (drops : dropped ≡ record added { outcomes = without_outcome y.number added.outcomes }) where
  abbrev drop_second : PlainWork → PlainWork
  drop_second w = record w { outcomes = without_outcome y.number w.outcomes }

  without : dropped ≡ record work { nodes = work.nodes ++ Join x.node y.node ∷ []; outcomes = without_outcome y.number work.outcomes }
  without = drops ∙ ap drop_second adds

  -- the first is still found where the second is gone
  pub first_left : outcome_at dropped x.number ≡ Some x
  first_left = ap (λ w. outcome_at w x.number) without ∙ (found-without_other y.number work.outcomes x.number apart ∙ first)

  pub merged_by_edits : (new : PlainWork) (node : ℕ) (passed : List ℕ) → node ≡ length work.nodes → passed ≡ united x.passed y.passed →
      Some new ≡ option_map (λ z. record dropped { outcomes = with_outcome (record z { targets = x.targets; node = node; passed = passed }) dropped.outcomes }) (outcome_at dropped x.number) → new ≡ merged work x y
  merged_by_edits new node passed n p sets =
      same_Some new (set dropped node passed) (sets ∙ ap (option_map (λ z. record dropped { outcomes = with_outcome (record z { targets = x.targets; node = node; passed = passed }) dropped.outcomes })) first_left)
      ∙ (ap (λ w. set w node passed) without ∙ ap₂ (set (record work { nodes = work.nodes ++ Join x.node y.node ∷ []; outcomes = without_outcome y.number work.outcomes })) n p)
    where
      set : PlainWork → ℕ → List ℕ → PlainWork
      set w i ps = record w { outcomes = with_outcome (record x { node = i; passed = ps }) w.outcomes }
