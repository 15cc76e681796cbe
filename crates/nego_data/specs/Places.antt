-- Where an agent's value stands among the values of joint data, and its size among the sizes: the one place where agents'
-- numbers index values.
use Rattle.std.specs.Prelude.{ℕ, List, slice_index}
use Rattle.nego_base.specs.declared.ids.AgentId.{AgentId}

-- the place of an agent's value
abbrev pub place_of : AgentId → ℕ
place_of a = a.0

-- the agent whose value stands at a place
abbrev pub owner_of : ℕ → ℕ
owner_of k = k

-- the agent's value among these, or its size among the sizes
abbrev pub value_of : AgentId → List ℕ → ℕ
value_of a values = slice_index values (place_of a)
