use Rattle.std.proofs.Common.{◌≡◌, ℕ, ◌<◌, false}
use Rattle.std.specs.Str.{bytes_eq}
use Rattle.nego_model.specs.Diagram.{agent_name}
use Rattle.world_text.proofs.lines.agent_named.Given as goal

-- no agent before has the name
abbrev pub invariant-loop-a : goal.invariant-loop-a
invariant-loop-a l = (e : ℕ) → e < l.a → bytes_eq (agent_name l.d e) l.name ≡ false
