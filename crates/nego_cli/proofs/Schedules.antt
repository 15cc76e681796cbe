-- What was read where a schedule was wanted.
use Rattle.std.proofs.Common.{◌≡◌, ◌∙◌, ℕ, List, sym, ap, subst}
use Rattle.nego_model.specs.Diagram.{PlainDiagram}
use Rattle.nego_model.specs.Limits.{HasNames}
use Rattle.agent_core.specs.Worlds.{PlainEvent}
use Rattle.world_text.specs.ScheduleTable.{SpellsSchedule}
use Rattle.world_text.proofs.Said.{spelled_sound, first_fault_once}
use Rattle.world_text.proofs.Spelled.{spelled_once}
use Rattle.nego_cli.specs.declared.failure.PartName.TheVariants as parts
use Rattle.nego_cli.specs.declared.failure.Refusal.{Refusal}
use Rattle.nego_cli.specs.declared.failure.Refusal.TheVariants as refusals
use Rattle.nego_cli.specs.Parts.{Read, ReadPart, ReadTooLong, ReadNoEnd}
use Rattle.nego_cli.specs.Loading.{HasNoSchedule, IsNoSchedule}
use Rattle.nego_cli.specs.Refusals.{IsNamed}
use Rattle.nego_cli.proofs.Loaded.{IsKind}

module _ (d : PlainDiagram) where
  -- what is named where there is no schedule is there
  no_schedule_named : (read : Read) (why : Refusal) → IsNoSchedule d read why → IsNamed why
  no_schedule_named (ReadPart text) why (fault, is, first) = subst IsNamed (sym is) tt
  no_schedule_named ReadTooLong why h = subst IsNamed (sym h) tt
  no_schedule_named (ReadNoEnd line) why h = subst IsNamed (sym h) tt

  module _ (names : HasNames d) where
    -- a text that has no schedule spells none
    no_schedule_not : (text : List ℕ) (why : Refusal) (items : List (ℕ × PlainEvent)) → HasNoSchedule d text why → SpellsSchedule d text items → ⊥
    no_schedule_not text why items (fault, is, first) spelled = spelled_sound d names text items fault spelled first

    -- the reason that what was read is no schedule is one
    no_schedule_once : (read : Read) (why other : Refusal) → IsNoSchedule d read why → IsNoSchedule d read other → why ≡ other
    no_schedule_once (ReadPart text) why other (fault, is, first) (fault', is', first') = is ∙ (ap (refusals.Off parts.Schedule) (first_fault_once d names text fault fault' first first') ∙ sym is')
    no_schedule_once ReadTooLong why other h k = h ∙ sym k
    no_schedule_once (ReadNoEnd line) why other h k = h ∙ sym k

    pub schedules : IsKind (SpellsSchedule d) (IsNoSchedule d)
    schedules = record { one_value = spelled_once d names; not_both = no_schedule_not; one_reason = no_schedule_once; named = no_schedule_named }
