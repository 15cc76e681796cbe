use Rattle.std.proofs.Common.{◌≡◌, ℕ, ◌<◌, length, slice_index_or, None}
use Rattle.std.specs.Option.{option_map}
use Rattle.agent_msg.specs.Messages.{ready_message}
use Rattle.agent_core.specs.Deciding.{unless_from}
use Rattle.agent_core.proofs.deciding.held_without.Given as goal

-- of the slots so far those remain that are from others
abbrev pub invariant-loop-p : goal.invariant-loop-p
invariant-loop-p l = record {
  long : length l.left ≡ 16;
  done : (k : ℕ) → k < l.p → option_map ready_message (slice_index_or l.left k None) ≡ unless_from l.agents (option_map ready_message (slice_index_or l.held k None));
}
