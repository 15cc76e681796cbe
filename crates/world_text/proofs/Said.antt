-- What a text of a schedule spells, and its first fault.
use Rattle.std.proofs.Common.{◌≡◌, ℕ, List, Result, Ok, Err, None, IfOk, IfErr, inl, refl, sym, ◌∙◌}
use Rattle.nego_base.specs.declared.fault.Fault.{Fault}
use Rattle.nego_base.specs.declared.fault.ReadFaults.{ReadFaults}
use Rattle.nego_base.specs.declared.fault.ReadFaults.TheVariants as faults
use Rattle.nego_base.specs.declared.fault.ScanAnswer.{ScanAnswer}
use Rattle.nego_base.specs.declared.fault.ScanAnswer.TheVariants as scan_answers
use Rattle.nego_base.specs.declared.line.Line.{Line}
use Rattle.nego_base.specs.LineAnswers.{Gives}
use Rattle.nego_base.specs.LineGrammar.{missing_end}
use Rattle.nego_base.specs.Scan.{scan_fault, scanned, count_lines, ScanHasCause, read_fault_of}
use Rattle.nego_base.proofs.LineFaults.{fault_read, text_read, fault_or_text, fault_once}
use Rattle.nego_model.specs.Diagram.{PlainDiagram}
use Rattle.nego_model.specs.Limits.{HasNames}
use Rattle.agent_core.specs.Worlds.{PlainEvent}
use Rattle.nego_world.specs.declared.event.Schedule.{Schedule}
use Rattle.nego_world.specs.Events.{plain_lines}
use Rattle.world_text.specs.ScheduleText.{Row, rows_of}
use Rattle.world_text.specs.ScheduleTable.{Begin, schedule_lines, SpellsSchedule, IsFirstFault, ScheduleHasCause, SpellsNothing}
use Rattle.world_text.specs.ScheduleReading.{row_of, walk}
use Rattle.world_text.proofs.Saying.{reads}

module _ (diagram : PlainDiagram) where
  pub scan_caused : (answer : ScanAnswer) (bytes : List ℕ) → ScanHasCause answer bytes → ScheduleHasCause diagram (read_fault_of answer) bytes
  scan_caused (scan_answers.Off fault) bytes h = inl h
  scan_caused scan_answers.Memory bytes h = tt

  module _ (names : HasNames diagram) where
    -- a text with a first fault spells nothing
    pub spelled_sound : (bytes : List ℕ) (items : List (ℕ × PlainEvent)) (fault : Fault) → SpellsSchedule diagram bytes items → IsFirstFault diagram bytes fault → ⊥
    spelled_sound bytes items fault h k = fault_or_text (schedule_lines diagram) (row_of diagram) (reads diagram names) bytes (rows_of items) fault h k

    pub first_fault_once : (bytes : List ℕ) (one two : Fault) → IsFirstFault diagram bytes one → IsFirstFault diagram bytes two → one ≡ two
    first_fault_once = fault_once (schedule_lines diagram) (row_of diagram) (reads diagram names)

    pub is_unspelled : (result : Result Schedule ReadFaults) (bytes : List ℕ) → IfErr result (λ e. ScheduleHasCause diagram e bytes) → IfErr result (λ e. SpellsNothing diagram e bytes)
    is_unspelled (Ok s) bytes h = tt
    is_unspelled (Err faults.Memory) bytes h = tt
    is_unspelled (Err (faults.Off fault)) bytes h = λ items spelled. spelled_sound bytes items fault spelled h

    module _ (result : Result Schedule ReadFaults) (bytes : List ℕ) (lines lines' : List Line) (count : ℕ) (scans : scan_fault bytes ≡ None) (e : lines' ≡ scanned bytes) (f : count ≡ count_lines bytes) (g : lines ≡ lines') where
      -- what is read of the text's lines is what they say
      said_is : walk diagram (missing_end (count_lines bytes)) Begin (scanned bytes) ≡ walk diagram (missing_end count) Begin lines
      said_is = rw (← f, ← e, ← g) refl

      pub walk_caused : Gives (λ s. rows_of (plain_lines s)) result (walk diagram (missing_end count) Begin lines) → IfErr result (λ e. ScheduleHasCause diagram e bytes)
      walk_caused h = by_answer result h
        where
          by_answer : (r : Result Schedule ReadFaults) → Gives (λ s. rows_of (plain_lines s)) r (walk diagram (missing_end count) Begin lines) → IfErr r (λ e. ScheduleHasCause diagram e bytes)
          by_answer (Ok s) h = tt
          by_answer (Err faults.Memory) h = tt
          by_answer (Err (faults.Off fault)) h = fault_read (schedule_lines diagram) (row_of diagram) (reads diagram names) bytes fault scans (said_is ∙ h)

      pub walk_spelled : Gives (λ s. rows_of (plain_lines s)) result (walk diagram (missing_end count) Begin lines) → IfOk result (λ s. SpellsSchedule diagram bytes (plain_lines s))
      walk_spelled h = by_answer result h
        where
          by_answer : (r : Result Schedule ReadFaults) → Gives (λ s. rows_of (plain_lines s)) r (walk diagram (missing_end count) Begin lines) → IfOk r (λ s. SpellsSchedule diagram bytes (plain_lines s))
          by_answer (Ok s) h = text_read (schedule_lines diagram) (row_of diagram) (reads diagram names) bytes (rows_of (plain_lines s)) scans (said_is ∙ h)
          by_answer (Err e) h = tt
