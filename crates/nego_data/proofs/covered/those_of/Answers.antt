use Rattle.nego_data.specs.Covered.{IsKnown}
use Rattle.nego_data.proofs.Assignments.{All-pushed}
use Rattle.nego_data.proofs.covered.those_of.Goals as goal

pub returns-then-len-lt-MOST_KNOWN-clause-known : goal.returns-then-len-lt-MOST_KNOWN-clause-known
returns-then-len-lt-MOST_KNOWN-clause-known c =
    All-pushed (IsKnown c.args.sizes.now) c.push.result c.args.known.now c.push.new.self (record { test = c.args.test.now; set = c.told-set.result }) c.push.ensures.ok c.push.ensures.err c.requires.known c.told-set.ensures
