-- What a text spells as a schedule: one list of events, not too many, and each of an agent of the diagram.
use Rattle.std.proofs.Common.{◌≡◌, ℕ, ◌+◌, ◌<◌, ◌≤◌, List, [], ◌∷◌, ◌++◌, length, map, refl, sym, ap, subst, ◌∙◌, arith}
use Rattle.std.proofs.lemmas.List.Elements.{All-nil, All-cons}
use Rattle.nego_base.specs.declared.fault.Fault.{Fault}
use Rattle.nego_base.specs.declared.line.Line.{Line}
use Rattle.nego_base.specs.LineGrammar.{Say}
use Rattle.nego_base.specs.Scan.{scanned}
use Rattle.nego_base.proofs.Cases.{same_Ok}
use Rattle.nego_base.proofs.LineFaults.{text_again}
use Rattle.nego_model.specs.Diagram.{PlainDiagram}
use Rattle.nego_model.specs.Limits.{HasNames}
use Rattle.agent_core.specs.Worlds.{PlainEvent, Tell, Give, Decide, Stop}
use Rattle.nego_world.specs.Events.{NamesAgent, NamesAgents}
use Rattle.world_text.specs.ScheduleText.{most_events, Row, HeaderRow, EventRow, EndRow, rows_of}
use Rattle.world_text.specs.ScheduleTable.{Begin, Behind, behind, event_kind, schedule_lines, SpellsSchedule}
use Rattle.world_text.specs.ScheduleReading.{row_of}
use Rattle.world_text.proofs.Saying.{reads}

-- ---- one list of events

-- the events in rows
abbrev events_in : List Row → List (ℕ × PlainEvent)
events_in [] = []
events_in (HeaderRow ∷ rows) = events_in rows
events_in (EventRow item ∷ rows) = item ∷ events_in rows
events_in (EndRow ∷ rows) = events_in rows

events_again : (items : List (ℕ × PlainEvent)) → events_in (map EventRow items ++ EndRow ∷ []) ≡ items
events_again [] = refl
events_again (item ∷ items) = ap (λ rest. item ∷ rest) (events_again items)

same_events : (one two : List (ℕ × PlainEvent)) → rows_of one ≡ rows_of two → one ≡ two
same_events one two h = sym (events_again one) ∙ (ap events_in h ∙ events_again two)

-- a text spells one schedule at most
pub spelled_once : (diagram : PlainDiagram) → HasNames diagram → (bytes : List ℕ) (one two : List (ℕ × PlainEvent)) → SpellsSchedule diagram bytes one → SpellsSchedule diagram bytes two → one ≡ two
spelled_once diagram names bytes one two h k =
    let read = text_again (schedule_lines diagram) (row_of diagram) (reads diagram names) bytes in
    same_events one two (same_Ok {E = Fault} (rows_of one) (rows_of two) (sym (read (rows_of one) h) ∙ read (rows_of two) k))

-- ---- what is known of the events

behind_event : (n : ℕ) (event : PlainEvent) → behind (Behind n) (event_kind event) ≡ Behind (n + 1)
behind_event n (Tell a) = refl
behind_event n (Give i ending) = refl
behind_event n (Decide a choice ending) = refl
behind_event n (Stop a) = refl

module _ (diagram : PlainDiagram) where
  -- What is known of events behind so many others.
  record AreKnown (n : ℕ) (items : List (ℕ × PlainEvent)) : Type 0 where
    pub few : n + length items ≤ most_events
    pub named : NamesAgents diagram items

  said_events : (lines : List Line) (n : ℕ) (items : List (ℕ × PlainEvent)) → n ≤ most_events → Say (schedule_lines diagram) (Behind n) lines (map EventRow items ++ EndRow ∷ []) → AreKnown n items
  said_events lines n [] few say = record { few = omega (arith, few); named = All-nil (λ item. NamesAgent diagram item.1) }
  said_events [] n (item ∷ items) few say = absurd say
  said_events (line ∷ lines) n (item ∷ items) few say =
      let room : n < most_events = say.1.1.room in
      let rest =
      said_events lines (n + 1) items (omega (arith, room))
      (subst (λ known. Say (schedule_lines diagram) known lines (map EventRow items ++ EndRow ∷ [])) (behind_event n item.1) say.2) in
      let few' : n + 1 + length items ≤ most_events = rest.few in
      record { few = omega (arith, few'); named = All-cons (λ item. NamesAgent diagram item.1) item items say.1.1.agent rest.named }

  said_rows : (lines : List Line) (items : List (ℕ × PlainEvent)) → Say (schedule_lines diagram) Begin lines (rows_of items) → AreKnown 0 items
  said_rows [] items say = absurd say
  said_rows (line ∷ lines) items say = said_events lines 0 items (omega arith) say.2

  pub spelled_named : (bytes : List ℕ) (items : List (ℕ × PlainEvent)) → SpellsSchedule diagram bytes items → NamesAgents diagram items
  spelled_named bytes items h = (said_rows (scanned bytes) items h.say).named

  pub spelled_few : (bytes : List ℕ) (items : List (ℕ × PlainEvent)) → SpellsSchedule diagram bytes items → length items ≤ most_events
  spelled_few bytes items h = let few = (said_rows (scanned bytes) items h.say).few in omega (arith, few)
