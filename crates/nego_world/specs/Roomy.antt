-- The parts of a world as the program keeps them.
use Rattle.std.specs.Prelude.{ℕ, List}
use Rattle.nego_model.specs.Joining.{Entry}
use Rattle.agent_msg.specs.Messages.{Message}

-- messages, and for how many more there is room
pub record RoomyMessages : Type 0 where
  pub messages : List Message
  pub room : ℕ

-- joint data at the start, and what was decided from there on
pub record StartedEntries : Type 0 where
  pub start : ℕ
  pub entries : List Entry
