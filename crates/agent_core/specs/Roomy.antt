-- An agent with room for more records.
use Rattle.std.specs.Prelude.{ℕ}
use Rattle.agent_core.specs.Agents.{PlainAgent}

-- an agent, and for how many more records there is room
pub record RoomyAgent : Type 0 where
  pub plain : PlainAgent
  pub spare : ℕ
