-- What `run` promises of every schedule, over the bytes that it reads and writes.
use Rattle.std.specs.Prelude.{◌≡◌, ◌⊎◌, ℕ, List, [], ◌∷◌, ◌++◌, length, codes, Result, Ok, Err}
use Rattle.nego_io.specs.Outside.{WhereTold}
use Rattle.nego_model.specs.Negotiation.{IsDeterministic}
use Rattle.nego_model.specs.Diagram.{PlainDiagram, negotiation_of}
use Rattle.agent_core.specs.Worlds.{PlainWorld, PlainEvent, first_world, plays}
use Rattle.agent_core.specs.Worlds as worlds
use Rattle.world_text.specs.ScheduleTable.{SpellsSchedule}
use Rattle.world_text.specs.ReportText.{report_text}
use Rattle.nego_cli.specs.declared.status.Status.{Status}
use Rattle.nego_cli.specs.declared.status.Status.TheVariants.{Done, Refused}
use Rattle.nego_cli.specs.Effect.{Effect, Put}
use Rattle.nego_cli.specs.Parts.{ReadPart, reads_at, HasRead}
use Rattle.nego_cli.specs.Loading.{SpellsDiagram}
use Rattle.nego_cli.specs.Refusals.{step_refusal_words}
use Rattle.nego_cli.specs.Starts.{StartsAt}
use Rattle.nego_cli.specs.Headline.{IsHindered}
use Rattle.nego_cli.specs.Run.{FollowsOneRun}

-- What was taken from the source is two parts: the first spells a deterministic diagram, whose agents start with the
-- values, and the second a schedule for it. No event of it is refused, and what was put on `out` is the report of the world
-- that the events leave from this start on. Whatever they are, the law of every schedule holds of this world. Nothing was
-- put on `err`.
pub record SaysPlayed (values : List ℕ) (source out err : Effect) : Type 0 where
  pub part : List ℕ
  pub behind : List ℕ
  pub diagram : PlainDiagram
  pub start : ℕ
  pub lines : List (ℕ × PlainEvent)
  pub world : PlainWorld
  pub read : HasRead (ReadPart part ∷ ReadPart behind ∷ []) source
  pub spelled : SpellsDiagram part diagram
  pub determined : IsDeterministic (negotiation_of diagram)
  pub starts : StartsAt diagram values (Ok start)
  pub scheduled : SpellsSchedule diagram behind lines
  pub played : plays diagram (first_world diagram start) lines ≡ Ok world
  pub follows : FollowsOneRun diagram start world
  pub printed : Put (report_text diagram world (length lines)) out
  pub nothing : Put [] err

-- What is put out of a schedule: the report of the world that its events leave, with status 0; or, where an event is
-- refused, the line of the first such and why, with status 3.
abbrev pub IsPlayed : PlainDiagram → ℕ → Result PlainWorld (ℕ × worlds.Refusal) → Effect → Effect → Status → Type 0
IsPlayed d count (Ok world) out err status = (status ≡ Done) × Put (report_text d world count) out × Put [] err
IsPlayed d count (Err refused) out err status = (status ≡ Refused) × Put [] out × Put (codes "refused " ++ step_refusal_words d refused.0 refused.1 (codes "\n")) err

-- Status 0 says what holds of the world that the schedule leaves. And each schedule behind a deterministic diagram whose
-- agents can start with the values, with which the input begins, gets its report, or the line and the reason of its first
-- event that is refused, unless memory is wanted or a call of the outside fails.
pub record RunHeadline (values : List ℕ) (source out err : Effect) (status : Status) : Type 0 where
  pub played : status ≡ Done → SaysPlayed values source out err
  pub each : WhereTold source.before source.after (λ input _. (part behind : List ℕ) (d : PlainDiagram) (start : ℕ) (lines : List (ℕ × PlainEvent)) → reads_at 2 input ≡ ReadPart part ∷ ReadPart behind ∷ [] → SpellsDiagram part d →
      IsDeterministic (negotiation_of d) → StartsAt d values (Ok start) → SpellsSchedule d behind lines →
      IsHindered source out err status ⊎ IsPlayed d (length lines) (plays d (first_world d start) lines) out err status)
