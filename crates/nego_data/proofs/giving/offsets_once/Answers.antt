use Rattle.nego_data.specs.Makers.{HasOffsets}
use Rattle.nego_data.proofs.Assignments.{All-pushed}
use Rattle.nego_data.proofs.giving.offsets_once.Goals as goal

pub returns-then-len-lt-MOST_OFFSETS-clause-kept : goal.returns-then-len-lt-MOST_OFFSETS-clause-kept
returns-then-len-lt-MOST_OFFSETS-clause-kept c =
    All-pushed (HasOffsets c.args.sizes.now) c.push.result c.args.kept.now c.push.new.self (record { free = c.args.free; those = c.row_of_offsets-those.result }) c.push.ensures.ok c.push.ensures.err c.requires.kept c.row_of_offsets-those.ensures
