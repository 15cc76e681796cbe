use Rattle.std.proofs.Common.{◌≡◌, ℕ, ◌<◌, ◌&&◌, not, false}
use Rattle.std.specs.Option.{is_some}
use Rattle.nego_base.specs.Members.{is_in}
use Rattle.agent_core.specs.Deciding.{known_of}
use Rattle.agent_core.proofs.agent.Agent.waits_for.Given as goal

-- none of the agents so far is a party of whom nothing is known
abbrev pub invariant-loop-p : goal.invariant-loop-p
invariant-loop-p l = (k : ℕ) → k < l.p → (is_in k l.parties && not (is_some (known_of l.d l.self.plain l.n.0 k))) ≡ false
