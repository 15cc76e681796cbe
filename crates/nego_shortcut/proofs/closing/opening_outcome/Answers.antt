use Rattle.std.proofs.Common.{◌≡◌, ◌==◌, Bor, Option, Some, None, option_map, refl, List, ap, ap₂, ◌∙◌}
use Rattle.std.specs.List.{find}
use Rattle.std.specs.Option.{option_copied}
use Rattle.nego_expr.specs.declared.outcome.Outcome.{Outcome}
use Rattle.nego_expr.specs.Work.{WorkOutcome}
use Rattle.nego_expr.specs.WorkView.{plain_outcome}
use Rattle.nego_expr.proofs.Places.{find-seen}
use Rattle.nego_shortcut.proofs.closing.opening_outcome.Goals as goal

-- a lent item is seen as the item
lent : (r : Option (Bor Outcome)) → option_map (λ x. plain_outcome x.now) r ≡ option_map plain_outcome (option_copied r)
lent None = refl
lent (Some x) = refl

pub returns : goal.returns
returns c =
    lent c.first_of.result
    ∙ (ap (option_map plain_outcome) c.first_of.ensures
    ∙ (find-seen plain_outcome (λ x. x.atom == c.first.result.0) c.outcomes.result.now
    ∙ ap₂ (λ (zs : List WorkOutcome) n. find (λ x. x.atom == n) zs) c.outcomes.ensures c.first.ensures))
