-- How the program's worlds and their parts are seen.
use Rattle.std.specs.Prelude.{ℕ, ◌+◌, ◌<◌, ◌≤◌, ◌^◌, List, [], ◌∷◌, length, map}
use Rattle.indexmap.specs.IndexSet.{spare}
use Rattle.nego_base.specs.declared.ids.AtomId.{AtomId}
use Rattle.nego_base.specs.declared.ids.OutcomeId.{OutcomeId}
use Rattle.nego_model.specs.Joining.{Entry}
use Rattle.agent_msg.specs.Messages.{message}
use Rattle.agent_core.specs.Worlds.{PlainWorld}
use Rattle.nego_world.specs.Roomy.{RoomyMessages, StartedEntries}
use Rattle.nego_world.specs.declared.messages.Messages.TheInside as messages
use Rattle.nego_world.specs.declared.history.History.TheInside as history
use Rattle.nego_world.specs.declared.world.World.TheInside as world

-- the messages, and for how many more there is room
abbrev pub roomy_messages : messages.Inside → RoomyMessages
roomy_messages s = record { messages = map message s.messages.keys; room = s.room }

-- There is the room that is counted, and there are few enough messages that 32 bits number them with those to come.
pub record IsKept (s : messages.Inside) : Type 0 where
  pub roomy : s.room ≤ spare s.messages
  pub few : length s.messages.keys + s.room < 2 ^ 32

-- occurrences with the joint data after each, as entries
abbrev pub entries_of : List (AtomId × OutcomeId) → List ℕ → List Entry
entries_of [] joints = []
entries_of (step ∷ steps) [] = []
entries_of (step ∷ steps) (joint ∷ joints) = record { step = (step.0.0, step.1.0); joint = joint } ∷ entries_of steps joints

-- the start, and the entries that the occurrences are
abbrev pub started_entries : history.Inside → StartedEntries
started_entries h = record { start = h.start; entries = entries_of h.steps h.joints }

-- the world that the fields are
abbrev pub plain_world : world.Inside → PlainWorld
plain_world w = record {
  start = w.history.start;
  agents = map (λ agent. agent.plain) w.agents;
  sent = w.sent.messages;
  history = w.history.entries;
}
