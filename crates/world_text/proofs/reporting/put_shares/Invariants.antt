use Rattle.std.proofs.Common.{◌≡◌, ◌++◌, ◌<◌, map, length, All}
use Rattle.std.specs.List.{flat_map}
use Rattle.agent_msg.specs.Records.{share}
use Rattle.world_text.specs.ReportText.{share_words}
use Rattle.world_text.proofs.reporting.put_shares.Given as goal

abbrev pub invariant-loop-a : goal.invariant-loop-a
invariant-loop-a l =
    (l.text ++ flat_map (share_words l.d) (map (share l.visits l.afters) l.left) ≡ l.fn.text ++ flat_map (share_words l.d) (map (share l.visits l.afters) l.fn.parties)) × All (λ a. a < length l.d.agents) l.left

abbrev pub decreases-loop-a : goal.decreases-loop-a
decreases-loop-a l = length l.left
