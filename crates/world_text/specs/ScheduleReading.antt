-- What the lines of a schedule say, or their first fault: in a line its first word, then how many words there are, then
-- whether there is room for the event, then the words from left to right.
use Rattle.std.specs.Prelude.{ℕ, nat_lt, if◌then◌else◌, List, length, map, find, Option, Some, None, Result, Ok, Err, codes}
use Rattle.std.specs.List.{range_with_len}
use Rattle.std.specs.Option.{option_map_or}
use Rattle.std.specs.Str.{bytes_eq}
use Rattle.nego_base.specs.declared.fault.FaultKind.TheVariants as fault_kinds
use Rattle.nego_base.specs.declared.fault.Fault.{Fault}
use Rattle.nego_base.specs.declared.line.Word.{Word}
use Rattle.nego_base.specs.declared.line.Line.{Line}
use Rattle.nego_base.specs.Grammar.{at_word, exact_words, name_word, number_word}
use Rattle.nego_base.specs.LineWalk.{word_in, kind_of_line, walk_lines}
use Rattle.nego_base.specs.Results.{◌>>=◌}
use Rattle.nego_model.specs.Diagram.{PlainDiagram, agent_name}
use Rattle.agent_core.specs.declared.choice.Choice.{Choice}
use Rattle.agent_core.specs.Worlds.{PlainEvent, Tell, Give, Decide, Stop, GoesOn, StopsBefore, StopsAfter}
use Rattle.nego_world.specs.declared.event.Event.{Event}
use Rattle.nego_world.specs.declared.event.EventLine.{EventLine}
use Rattle.world_text.specs.declared.lines.LineKind.{LineKind}
use Rattle.world_text.specs.declared.lines.LineKind.TheVariants as line_kinds
use Rattle.nego_world.specs.Events.{plain_event}
use Rattle.world_text.specs.ScheduleText.{most_events, Row, HeaderRow, EventRow, EndRow}
use Rattle.world_text.specs.ScheduleTable.{Kind, Header, Tells, Gives, Decides, Stops, End, Known, Behind, events_before, schedule_lines}

-- the first agent of this name
unfoldable pub agent_named : PlainDiagram → List ℕ → Option ℕ
agent_named diagram name = find (λ a. bytes_eq (agent_name diagram a) name) (range_with_len 0 (length diagram.agents))

-- the agent that a word names
unfoldable pub agent_of : PlainDiagram → Word → Result ℕ Fault
agent_of diagram word = do
  named ← name_word word
  option_map_or (λ a. Ok a) (agent_named diagram word.text) (Err (at_word fault_kinds.Agent word))

-- the agent that the word at a place of a line names
unfoldable pub agent_at : PlainDiagram → ℕ → Line → Result ℕ Fault
agent_at diagram i line = do
  word ← word_in line i
  agent_of diagram word

-- the number at a place of a line
unfoldable pub number_at : ℕ → Line → Result ℕ Fault
number_at i line = do
  word ← word_in line i
  number_word word

-- that the line of an event behind n others has so many words, and that there is room for the event
unfoldable pub event_begins : ℕ → ℕ → Line → Result (Unit {0}) Fault
event_begins count n line = do
  counted ← exact_words count line
  first ← word_in line 0
  if nat_lt n most_events then Ok tt else Err (at_word fault_kinds.Many first)

-- the agent in the line of an event behind n others
unfoldable pub agent_in : PlainDiagram → ℕ → Line → Result ℕ Fault
agent_in diagram n line = do
  begun ← event_begins 2 n line
  agent_at diagram 1 line

-- the number in the line of an event behind n others
unfoldable pub number_in : ℕ → Line → Result ℕ Fault
number_in n line = do
  begun ← event_begins 2 n line
  number_at 1 line

-- the agent and the choice in the line of an event behind n others
unfoldable pub decision_in : PlainDiagram → ℕ → Line → Result (ℕ × Choice) Fault
decision_in diagram n line = do
  begun ← event_begins 4 n line
  a ← agent_at diagram 1 line
  outcome ← number_at 2 line
  pick ← number_at 3 line
  Ok (a, record { outcome = outcome; pick = pick })

-- that the first line is of version 1
unfoldable pub header_in : Line → Result (Unit {0}) Fault
header_in line = do
  counted ← exact_words 2 line
  version ← word_in line 1
  if bytes_eq version.text (codes "1") then Ok tt else Err (at_word fault_kinds.Version version)

-- an event in a line
abbrev pub event_row : Line → PlainEvent → Row
event_row line event = EventRow (line.number, event)

-- what a line of a kind says
unfoldable pub row_of : PlainDiagram → Known → Kind → Line → Result Row Fault
row_of diagram known Header line = header_in line >>= λ _. Ok HeaderRow
row_of diagram known Tells line = agent_in diagram (events_before known) line >>= λ a. Ok (event_row line (Tell a))
row_of diagram known (Gives ending) line = number_in (events_before known) line >>= λ i. Ok (event_row line (Give i ending))
row_of diagram known (Decides ending) line = decision_in diagram (events_before known) line >>= λ x. Ok (event_row line (Decide x.0 x.1 ending))
row_of diagram known Stops line = agent_in diagram (events_before known) line >>= λ a. Ok (event_row line (Stop a))
row_of diagram known End line = exact_words 1 line >>= λ _. Ok EndRow

-- what a line says
unfoldable pub row_in : PlainDiagram → Known → Line → Result Row Fault
row_in diagram known line = kind_of_line (schedule_lines diagram) (row_of diagram) known line >>= λ kind. row_of diagram known kind line

-- what the lines say; the fault `missing` is that of a text without its end
abbrev pub walk : PlainDiagram → Fault → Known → List Line → Result (List Row) Fault
walk diagram missing known lines = walk_lines (schedule_lines diagram) (row_of diagram) missing known lines

-- a kind of line behind the header
abbrev pub plain_kind : LineKind → Kind
plain_kind line_kinds.End = End
plain_kind line_kinds.Tell = Tells
plain_kind line_kinds.Stop = Stops
plain_kind line_kinds.Give = Gives GoesOn
plain_kind line_kinds.GiveLost = Gives StopsBefore
plain_kind line_kinds.GiveKept = Gives StopsAfter
plain_kind line_kinds.Decide = Decides GoesOn
plain_kind line_kinds.DecideLost = Decides StopsBefore
plain_kind line_kinds.DecideKept = Decides StopsAfter

-- what was read of a line behind the header, as a row: an event, or the end
abbrev pub said_in : Line → Option Event → Row
said_in line said = option_map_or (λ event. event_row line (plain_event event)) said EndRow

-- the events of lines, each with its line
abbrev pub plain_items : List EventLine → List (ℕ × PlainEvent)
plain_items events = map (λ item. (item.line, plain_event item.event)) events
