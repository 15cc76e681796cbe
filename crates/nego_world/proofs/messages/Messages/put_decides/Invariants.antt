use Rattle.std.proofs.Common.{◌≡◌, ◌≤◌, length, fold}
use Rattle.nego_base.specs.Members.{IsRisingBelow}
use Rattle.agent_msg.specs.Records.{entry}
use Rattle.agent_core.specs.Deciding.{decides_of}
use Rattle.agent_core.specs.Worlds.{with_message}
use Rattle.nego_world.proofs.messages.Messages.put_decides.Given as goal

-- Behind those who are left the messages are as they are to be; there is room for the Decides of those.
abbrev pub invariant-loop-to : goal.invariant-loop-to
invariant-loop-to l = record {
  behind : fold with_message l.self.messages (decides_of l.from.0 l.left (entry l.r)) ≡ fold with_message l.initial.self.messages (decides_of l.from.0 l.initial.left (entry l.r));
  room : IsRisingBelow 16 l.left → length l.left ≤ l.self.room;
}

-- those who are left
abbrev pub decreases-loop-to : goal.decreases-loop-to
decreases-loop-to l = length l.left
