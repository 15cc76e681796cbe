-- The lines of a schedule: the words of each, and how a schedule is printed.
use Rattle.std.specs.Prelude.{ℕ, ◌≤◌, List, [], ◌∷◌, ◌++◌, map, codes, decimal, ⊤}
use Rattle.nego_base.specs.Printed.{printed}
use Rattle.nego_model.specs.Diagram.{PlainDiagram, agent_name}
use Rattle.agent_core.specs.Worlds.{PlainEvent, Tell, Give, Decide, Stop, Ending, GoesOn, StopsBefore, StopsAfter}

-- the first word where a message is given, by how the event ends
abbrev pub give_word : Ending → List ℕ
give_word GoesOn = codes "give"
give_word StopsBefore = codes "give_lost"
give_word StopsAfter = codes "give_kept"

-- the first word where an agent decides, by how the event ends
abbrev pub decide_word : Ending → List ℕ
decide_word GoesOn = codes "decide"
decide_word StopsBefore = codes "decide_lost"
decide_word StopsAfter = codes "decide_kept"

-- the words of an event
abbrev pub event_words : PlainDiagram → PlainEvent → List (List ℕ)
event_words diagram (Tell a) = codes "tell" ∷ agent_name diagram a ∷ []
event_words diagram (Give i ending) = give_word ending ∷ decimal i ∷ []
event_words diagram (Decide a choice ending) = decide_word ending ∷ agent_name diagram a ∷ decimal choice.outcome ∷ decimal choice.pick ∷ []
event_words diagram (Stop a) = codes "stop" ∷ agent_name diagram a ∷ []

-- Each number in the event has at most six digits.
abbrev pub HasShortNumbers : PlainEvent → Type 0
HasShortNumbers (Tell a) = ⊤
HasShortNumbers (Give i ending) = i ≤ 999999
HasShortNumbers (Decide a choice ending) = (choice.outcome ≤ 999999) × (choice.pick ≤ 999999)
HasShortNumbers (Stop a) = ⊤

-- the most events of a schedule
abbrev pub most_events : ℕ
most_events = 10000

-- the lines of a schedule: the header, the events, each with the number of its line, and the end
pub data Row : Type 0 where
  HeaderRow : Row
  EventRow : ℕ × PlainEvent → Row
  EndRow : Row

-- the lines of a schedule of these events
abbrev pub rows_of : List (ℕ × PlainEvent) → List Row
rows_of items = HeaderRow ∷ map EventRow items ++ EndRow ∷ []

-- the words of a line
abbrev pub row_words : PlainDiagram → Row → List (List ℕ)
row_words diagram HeaderRow = codes "schedule" ∷ codes "1" ∷ []
row_words diagram (EventRow item) = event_words diagram item.1
row_words diagram EndRow = codes "end" ∷ []

-- the text of a schedule of these events
unfoldable pub printed_schedule : PlainDiagram → List PlainEvent → List ℕ
printed_schedule diagram events = printed (row_words diagram HeaderRow ∷ map (event_words diagram) events ++ row_words diagram EndRow ∷ [])
