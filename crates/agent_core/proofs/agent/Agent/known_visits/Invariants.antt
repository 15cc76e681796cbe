use Rattle.std.proofs.Common.{◌≡◌, ℕ, ◌<◌, length, slice_index_or}
use Rattle.std.specs.Option.{option_map_or}
use Rattle.agent_core.specs.Deciding.{known_of}
use Rattle.agent_core.proofs.agent.Agent.known_visits.Given as goal

-- those of the agents so far are as they are known
abbrev pub invariant-loop-p : goal.invariant-loop-p
invariant-loop-p l = record {
  long : length l.visits ≡ 16;
  done : (k : ℕ) → k < l.p → slice_index_or l.visits k 0 ≡ option_map_or (λ ready. ready.visit) (known_of l.d l.self.plain l.n.0 k) 0;
}
