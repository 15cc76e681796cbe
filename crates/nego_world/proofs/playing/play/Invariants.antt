use Rattle.std.proofs.Common.{◌≡◌, ◌-◌, drop, length, map}
use Rattle.agent_core.specs.Worlds.{first_world, plays}
use Rattle.agent_core.specs.Consistency.{IsConsistent}
use Rattle.nego_world.specs.Events.{plain_line, plain_lines}
use Rattle.nego_world.proofs.Lines.{HasRoomFor}
use Rattle.nego_world.proofs.playing.play.Given as goal

-- From the world so far the lines that are left lead where all lines lead from the beginning. The world is consistent, and
-- each agent has room for the records of those lines.
abbrev pub invariant-loop-line : goal.invariant-loop-line
invariant-loop-line l = record {
  leads : plays l.d (first_world l.d l.start) (plain_lines l.schedule) ≡ plays l.d l.world (map plain_line (drop l.line-index l.line-items));
  consistent : IsConsistent l.d l.world;
  room : HasRoomFor (length l.line-items - l.line-index) l.world;
}
