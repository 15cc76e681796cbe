use Rattle.std.proofs.Common.{◌≡◌, ℕ, ◌<◌, length, slice_index_or}
use Rattle.agent_msg.specs.Records.{entry}
use Rattle.agent_core.specs.Agents.{shares_in}
use Rattle.nego_world.specs.Stepping.{value_after_in}
use Rattle.nego_world.proofs.history.values_after.Given as goal

-- those of the agents so far are as they are after the record
abbrev pub invariant-loop-a : goal.invariant-loop-a
invariant-loop-a l = record {
  long : length l.values ≡ 16;
  done : (k : ℕ) → k < l.a → slice_index_or l.values k 0 ≡ value_after_in l.d l.joint (shares_in (entry l.r)) k;
}
