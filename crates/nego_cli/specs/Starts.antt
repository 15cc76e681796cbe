-- The joint data with which the agents of a diagram start, by the values in the words of a call.
use Rattle.std.specs.Prelude.{◌≡◌, ◌≢◌, ◌⊎◌, ℕ, ◌<◌, ◌≤◌, List, length, slice_index, Result, Ok, Err}
use Rattle.nego_data.specs.Data.{joint}
use Rattle.nego_data.specs.Sizes.{AreBelow}
use Rattle.nego_model.specs.Negotiation.{IsDeterministic}
use Rattle.nego_model.specs.Diagram.{PlainDiagram, negotiation_of}
use Rattle.nego_cli.specs.declared.failure.StartFault.{StartFault}
use Rattle.nego_cli.specs.declared.failure.StartFault.TheVariants.{StartCount, StartTooLarge}
use Rattle.nego_cli.specs.declared.failure.Refusal.{Refusal}
use Rattle.nego_cli.specs.declared.failure.Refusal.TheVariants.{NoStart}
use Rattle.nego_cli.specs.Reduce.{IsUndetermined}

-- The agent's value isn't below its size, and that of each agent before it is.
pub record IsFirstPast (d : PlainDiagram) (values : List ℕ) (a : ℕ) : Type 0 where
  pub there : a < length d.agents
  pub past : slice_index d.sizes a ≤ slice_index values a
  pub before : (b : ℕ) → b < a → slice_index values b < slice_index d.sizes b

-- Values that are one for each agent, and each below its agent's size, are this joint data; else they aren't one for each
-- agent, or they are, and this is the first agent whose value isn't below its size.
abbrev pub StartsAt : PlainDiagram → List ℕ → Result ℕ StartFault → Type 0
StartsAt d values (Ok start) = (length values ≡ length d.agents) × AreBelow d.sizes values × (start ≡ joint d.sizes values)
StartsAt d values (Err (StartCount given)) = (length values ≢ length d.agents) × (given ≡ length values)
StartsAt d values (Err (StartTooLarge a)) = (length values ≡ length d.agents) × IsFirstPast d values a.0

-- The diagram is deterministic, and its agents can start with the values.
abbrev pub CanStart : PlainDiagram → List ℕ → Type 0
CanStart d values = IsDeterministic (negotiation_of d) × ((start : ℕ) × StartsAt d values (Ok start))

-- Why they can't: the diagram isn't deterministic; or it is, and the values are no start of its agents.
abbrev pub CannotStart : PlainDiagram → List ℕ → Refusal → Type 0
CannotStart d values why =
    IsUndetermined d why ⊎ (IsDeterministic (negotiation_of d) × ((fault : StartFault) × (why ≡ NoStart d fault) × StartsAt d values (Err fault)))
