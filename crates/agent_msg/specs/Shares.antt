-- The parties of a decision as the code keeps them.
use Rattle.std.specs.Prelude.{ℕ, List, map, slice_set}
use Rattle.nego_base.specs.Members.{with_member}
use Rattle.agent_msg.specs.Records.{Share, share}
use Rattle.agent_msg.specs.declared.shares.Shares.{Shares}

-- the parties' shares in rising order
abbrev pub shares_of : Shares → List Share
shares_of s = map (share s.visits s.afters) s.parties

-- with one more party
abbrev pub with_share : ℕ → ℕ → ℕ → Shares → Shares
with_share a visit after s =
    record { parties = with_member a s.parties; visits = slice_set s.visits a visit; afters = slice_set s.afters a after }
