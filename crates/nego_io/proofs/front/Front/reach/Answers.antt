use Rattle.std.proofs.Common.{sym, ◌∙◌}
use Rattle.nego_io.proofs.ReachLaws.{reaches_one, reaches_more}
use Rattle.nego_io.proofs.front.Front.reach.Goals as goal

pub returns-in_default-clause-within : goal.returns-in_default-clause-within
returns-in_default-clause-within c =
    let self = c.args.self.now in
    reaches_one self.bytes self.line_start self.lines c.requires.unended

pub returns-then-begins_other-clause-within : goal.returns-then-begins_other-clause-within
returns-then-begins_other-clause-within c =
    let self = c.args.self.now in
    reaches_more self.bytes c.line.result.now self.line_start self.lines c.requires.unended c.line.ensures c.in-len1-up.len_at_least (sym c.begins_other.ensures ∙ c.if-begins_other.true)

pub returns-else-begins_other-clause-within : goal.returns-else-begins_other-clause-within
returns-else-begins_other-clause-within c =
    let self = c.args.self.now in
    reaches_one self.bytes self.line_start self.lines c.requires.unended
