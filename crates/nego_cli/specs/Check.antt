-- What `check` does with a diagram.
use Rattle.std.specs.Prelude.{◌≡◌, ℕ, List, Option, MatchOption}
use Rattle.nego_model.specs.Negotiation.{IsDeterministic}
use Rattle.nego_model.specs.Diagram.{PlainDiagram, negotiation_of}
use Rattle.nego_model.specs.Undetermined.{IsFirstUndetermined}
use Rattle.nego_shape.specs.Answers.{OrderHolds}
use Rattle.nego_shape.specs.declared.answer.Order.{Order}
use Rattle.nego_cli.specs.declared.status.Status.{Status}
use Rattle.nego_cli.specs.declared.status.Status.TheVariants.{Done}
use Rattle.nego_cli.specs.Parts.{Read}
use Rattle.nego_cli.specs.Turn.{Turn, OnlyTells}
use Rattle.nego_cli.specs.FormText.{form_text}

-- It takes every diagram.
abbrev pub CheckTurn : PlainDiagram → List Read → Turn → Type 0
CheckTurn d reads turn = OnlyTells reads turn

-- The text tells the form of the diagram: its counts, whether it is deterministic, else where it first isn't, and the
-- order of its atoms, else the cycle that is found.
pub record IsFormOf (d : PlainDiagram) (text : List ℕ) : Type 0 where
  pub choice : Option (ℕ × ℕ)
  pub order : Order
  pub choice_is : MatchOption choice (IsDeterministic (negotiation_of d)) (λ pair. IsFirstUndetermined d pair.0 pair.1)
  pub order_is : OrderHolds (negotiation_of d) order
  pub printed : text ≡ form_text d choice order

-- It tells the form.
abbrev pub CheckText : PlainDiagram → List Read → Status → List ℕ → Type 0
CheckText d reads status text = (status ≡ Done) × IsFormOf d text
