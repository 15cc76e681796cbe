-- What `run` does with a diagram and a schedule behind it.
use Rattle.std.specs.Prelude.{◌≡◌, ◌⊎◌, ℕ, List, [], length, map, Ok, Err}
use Rattle.nego_model.specs.Negotiation.{IsDeterministic}
use Rattle.nego_model.specs.Diagram.{PlainDiagram, negotiation_of}
use Rattle.agent_core.specs.Agreement.{AgreeWith}
use Rattle.agent_core.specs.Worlds.{PlainWorld, PlainEvent, first_world, plays}
use Rattle.agent_core.specs.Consistency.{IsConsistent}
use Rattle.agent_core.specs.Finished.{FinishesComplete}
use Rattle.nego_world.specs.declared.answers.StepWhy.{StepWhy}
use Rattle.nego_world.specs.Stepping.{plain_why}
use Rattle.world_text.specs.ScheduleTable.{SpellsSchedule}
use Rattle.world_text.specs.ReportText.{report_text}
use Rattle.nego_cli.specs.declared.failure.Refusal.{Refusal}
use Rattle.nego_cli.specs.declared.failure.Refusal.TheVariants.{NoStep}
use Rattle.nego_cli.specs.declared.status.Status.{Status}
use Rattle.nego_cli.specs.declared.status.Status.TheVariants.{Done}
use Rattle.nego_cli.specs.Parts.{Read}
use Rattle.nego_cli.specs.Turn.{Turn, Refuses, TurnHere, TurnOver, TextOver}
use Rattle.nego_cli.specs.Loading.{IsNoSchedule}
use Rattle.nego_cli.specs.Starts.{StartsAt, CannotStart}

-- A command from a start refuses a diagram that isn't deterministic, and values that are no start of its agents, and else
-- does this from the start with what it reads behind the diagram.
abbrev pub TurnFromStart : PlainDiagram → List ℕ → (ℕ → List Read → Turn → Type 0) → List Read → Turn → Type 0
TurnFromStart d values does reads turn =
    ((why : Refusal) × (turn ≡ Refuses why) × (reads ≡ []) × CannotStart d values why) ⊎ (IsDeterministic (negotiation_of d) × ((start : ℕ) × StartsAt d values (Ok start) × does start reads turn))

-- It tells this from the start, of what is read behind the diagram.
abbrev pub TextFromStart : PlainDiagram → List ℕ → (ℕ → List Read → Status → List ℕ → Type 0) → List Read → Status → List ℕ → Type 0
TextFromStart d values tells reads status text = (start : ℕ) × StartsAt d values (Ok start) × tells start reads status text

-- No event is refused, from the start on.
abbrev pub CanPlay : PlainDiagram → ℕ → List (ℕ × PlainEvent) → Type 0
CanPlay d start lines = (world : PlainWorld) × (plays d (first_world d start) lines ≡ Ok world)

-- The event of this line is the first that is refused, for this.
abbrev pub CannotPlay : PlainDiagram → ℕ → List (ℕ × PlainEvent) → Refusal → Type 0
CannotPlay d start lines why = (line : ℕ) × (step : StepWhy) × (why ≡ NoStep d line step) × (plays d (first_world d start) lines ≡ Err (line, plain_why step))

-- It takes each schedule of which no event is refused.
abbrev pub ScheduleTurn : PlainDiagram → ℕ → List (ℕ × PlainEvent) → List Read → Turn → Type 0
ScheduleTurn d start lines = TurnHere (CanPlay d start lines) (CannotPlay d start lines)

-- It takes each deterministic diagram whose agents can start with the values, and reads a schedule behind it.
abbrev pub RunTurn : List ℕ → PlainDiagram → List Read → Turn → Type 0
RunTurn values d = TurnFromStart d values (λ start. TurnOver (SpellsSchedule d) (IsNoSchedule d) (ScheduleTurn d start))

-- The law of every schedule: what holds of the world that events leave from the start on, whatever was lost, repeated, late
-- or stopped. It is consistent. Its history is a run of the diagram with its data, from the start on, and the agents'
-- journals agree with it. Where all agents are finished, this run is complete, its last outcome has a complete run that
-- joins the start to the last data, and each summary that tells the diagram relates these at this outcome.
pub record FollowsOneRun (d : PlainDiagram) (start : ℕ) (world : PlainWorld) : Type 0 where
  pub begins : world.start ≡ start
  pub consistent : IsConsistent d world
  pub agree : AgreeWith d start world.history (map (λ agent. agent.records) world.agents)
  pub finishes : FinishesComplete d world

-- The text is the report of the world that the events leave from the start on, and this world follows one run.
pub record IsRunText (d : PlainDiagram) (start : ℕ) (lines : List (ℕ × PlainEvent)) (status : Status) (text : List ℕ) : Type 0 where
  pub world : PlainWorld
  pub played : plays d (first_world d start) lines ≡ Ok world
  pub follows : FollowsOneRun d start world
  pub status_is : status ≡ Done
  pub printed : text ≡ report_text d world (length lines)

-- It tells the report.
abbrev pub ScheduleText : PlainDiagram → ℕ → List (ℕ × PlainEvent) → List Read → Status → List ℕ → Type 0
ScheduleText d start lines reads status text = IsRunText d start lines status text

abbrev pub RunText : List ℕ → PlainDiagram → List Read → Status → List ℕ → Type 0
RunText values d = TextFromStart d values (λ start. TextOver (SpellsSchedule d) (ScheduleText d start))
