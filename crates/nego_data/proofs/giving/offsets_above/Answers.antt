use Rattle.std.proofs.Common.{◌≡◌, [], rules}
use Rattle.nego_data.proofs.Counts.{data_count-pos}
use Rattle.nego_data.proofs.Offsets.{moved_offsets}
use Rattle.nego_data.proofs.NoOffsets.{no_offsets}
use Rattle.nego_data.proofs.giving.offsets_above.Goals as goal

pub returns-then-is_none-clause-above : goal.returns-then-is_none-clause-above
returns-then-is_none-clause-above c least e =
    let none : c.args.free ≡ [] = search rules in
    no_offsets c.args.sizes.now c.args.free least e c.requires.sizes.few_agents (data_count-pos c.args.sizes.now (λ k d l. (c.requires.sizes.each k d l).0)) none

pub returns-clause-above : goal.returns-clause-above
returns-clause-above c least e = moved_offsets c.args.sizes.now c.args.free c.offsets_once.result.words least e c.offsets_once.ensures.offsets
