-- The lines of a schedule as a grammar: what each kind of line is asked, from left to right, and the first fault of a
-- text.
use Rattle.std.specs.Prelude.{◌≡◌, ℕ, ◌+◌, ◌<◌, List, [], ◌∷◌, ◌++◌, map, codes, ⊤}
use Rattle.std.specs.List.{Contains}
use Rattle.nego_base.specs.declared.fault.Fault.{Fault}
use Rattle.nego_base.specs.declared.fault.FaultKind.TheVariants as fault_kinds
use Rattle.nego_base.specs.declared.fault.ReadFaults.{ReadFaults}
use Rattle.nego_base.specs.declared.fault.ReadFaults.TheVariants as faults
use Rattle.nego_base.specs.declared.line.Word.{Word}
use Rattle.nego_base.specs.declared.line.Line.{Line}
use Rattle.nego_base.specs.LineGrammar.{LineGrammar, Demand, Words, Version, Name, Number, Own, word_number, IsFirstFaultOf, IsTextOf}
use Rattle.nego_model.specs.Diagram.{PlainDiagram}
use Rattle.agent_core.specs.Worlds.{PlainEvent, Tell, Give, Decide, Stop, Ending, GoesOn, StopsBefore, StopsAfter}
use Rattle.nego_world.specs.Events.{NamesAgent}
use Rattle.world_text.specs.ScheduleText.{give_word, decide_word, HasShortNumbers, most_events, Row, HeaderRow, EventRow, EndRow, row_words, rows_of}

-- the kinds of lines
pub data Kind : Type 0 where
  Header : Kind
  Tells : Kind
  Gives : Ending → Kind
  Decides : Ending → Kind
  Stops : Kind
  End : Kind

-- the first word of a line of the kind
abbrev pub keyword : Kind → List ℕ
keyword Header = codes "schedule"
keyword Tells = codes "tell"
keyword (Gives ending) = give_word ending
keyword (Decides ending) = decide_word ending
keyword Stops = codes "stop"
keyword End = codes "end"

-- of which kind the line of an event is
abbrev pub event_kind : PlainEvent → Kind
event_kind (Tell a) = Tells
event_kind (Give i ending) = Gives ending
event_kind (Decide a choice ending) = Decides ending
event_kind (Stop a) = Stops

abbrev pub kind_of : Row → Kind
kind_of HeaderRow = Header
kind_of (EventRow item) = event_kind item.1
kind_of EndRow = End

-- what is known at a line: nothing, so many events before it, or that the end is before it
pub data Known : Type 0 where
  Begin : Known
  Behind : ℕ → Known
  Over : Known

-- how many events there are before a line
abbrev pub events_before : Known → ℕ
events_before Begin = 0
events_before (Behind n) = n
events_before Over = 0

-- the kinds of lines that may stand behind the header and any events
abbrev pub kinds_behind : List Kind
kinds_behind = End ∷ Tells ∷ Stops ∷ Gives GoesOn ∷ Gives StopsBefore ∷ Gives StopsAfter ∷ Decides GoesOn ∷ Decides StopsBefore ∷ Decides StopsAfter ∷ []

-- the kinds of lines that may stand there
abbrev pub may_stand : Known → List Kind
may_stand Begin = Header ∷ []
may_stand (Behind n) = kinds_behind
may_stand Over = []

-- what is known behind a line of a kind
abbrev pub behind : Known → Kind → Known
behind known Header = Behind 0
behind known Tells = Behind (events_before known + 1)
behind known (Gives ending) = Behind (events_before known + 1)
behind known (Decides ending) = Behind (events_before known + 1)
behind known Stops = Behind (events_before known + 1)
behind known End = Over

-- What schedules alone ask: that behind so many events another may stand, and that an agent has the name.
pub data Asked : Type 0 where
  RoomBehind : ℕ → Asked
  AgentName : Asked

abbrev pub IsAsAsked : PlainDiagram → Asked → Word → Type 0
IsAsAsked diagram (RoomBehind n) word = n < most_events
IsAsAsked diagram AgentName word = Contains diagram.agents word.text

-- the line of an event has so many words, and there is room for the event
abbrev pub of_event : ℕ → Known → Line → List (Demand Asked)
of_event count known line = Words count ∷ map (Own (RoomBehind (events_before known)) fault_kinds.Many) (word_number 0 line)

-- the word at a place is a name, and an agent has it
abbrev pub of_agent : ℕ → Line → List (Demand Asked)
of_agent i line = map Name (word_number i line) ++ map (Own AgentName fault_kinds.Agent) (word_number i line)

-- what a line of each kind is asked
abbrev pub demands : Known → Kind → Line → List (Demand Asked)
demands known Header line = Words 2 ∷ map (Version (codes "1")) (word_number 1 line)
demands known Tells line = of_event 2 known line ++ of_agent 1 line
demands known (Gives ending) line = of_event 2 known line ++ map Number (word_number 1 line)
demands known (Decides ending) line = of_event 4 known line ++ (of_agent 1 line ++ (map Number (word_number 2 line) ++ map Number (word_number 3 line)))
demands known Stops line = of_event 2 known line ++ of_agent 1 line
demands known End line = Words 1 ∷ []

-- An event is that of a line behind so many others: the number is the line's, and there is room; its agent is one of the
-- diagram's, and its numbers are short.
pub record IsEventOf (diagram : PlainDiagram) (known : Known) (line : Line) (item : ℕ × PlainEvent) : Type 0 where
  pub number : item.0 ≡ line.number
  pub room : events_before known < most_events
  pub agent : NamesAgent diagram item.1
  pub numbers : HasShortNumbers item.1

-- what stands in a row beside its words is the line's
abbrev pub IsRowOf : PlainDiagram → Known → Line → Row → Type 0
IsRowOf diagram known line HeaderRow = ⊤
IsRowOf diagram known line (EventRow item) = IsEventOf diagram known line item
IsRowOf diagram known line EndRow = ⊤

-- The line says the row: its words are the row's.
abbrev pub Says : PlainDiagram → Known → Line → Row → Type 0
Says diagram known line row = (map (λ w. w.text) line.words ≡ row_words diagram row) × IsRowOf diagram known line row

-- The grammar of the schedules of a diagram.
abbrev pub schedule_lines : PlainDiagram → LineGrammar Known Kind Row Asked
schedule_lines diagram = record {
  begin = Begin;
  may_stand = may_stand;
  keyword = keyword;
  demands = demands;
  Is = IsAsAsked diagram;
  Says = Says diagram;
  kind_of = kind_of;
  behind = λ known kind row. behind known kind;
}

-- The text spells a schedule of these events, each with the number of its line.
abbrev pub SpellsSchedule : PlainDiagram → List ℕ → List (ℕ × PlainEvent) → Type 0
SpellsSchedule diagram bytes items = IsTextOf (schedule_lines diagram) bytes (rows_of items)

-- the fault is the first of the text
abbrev pub IsFirstFault : PlainDiagram → List ℕ → Fault → Type 0
IsFirstFault diagram bytes fault = IsFirstFaultOf (schedule_lines diagram) bytes fault

-- where an answer comes that isn't a schedule: the fault is the text's first; want of memory is free
abbrev pub ScheduleHasCause : PlainDiagram → ReadFaults → List ℕ → Type 0
ScheduleHasCause diagram faults.Memory bytes = ⊤
ScheduleHasCause diagram (faults.Off fault) bytes = IsFirstFault diagram bytes fault

-- a text that is off its grammar spells no schedule
abbrev pub SpellsNothing : PlainDiagram → ReadFaults → List ℕ → Type 0
SpellsNothing diagram faults.Memory bytes = ⊤
SpellsNothing diagram (faults.Off fault) bytes = (items : List (ℕ × PlainEvent)) → ¬ (SpellsSchedule diagram bytes items)
