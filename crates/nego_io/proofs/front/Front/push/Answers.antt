use Rattle.std.proofs.Common.{sym, ◌∙◌, ap}
use Rattle.nego_io.specs.Part.{is_end_line}
use Rattle.nego_io.proofs.FrontLaws.{closed_at, open_at}
use Rattle.nego_io.proofs.front.Front.push.Goals as goal

pub returns-then-ends_part-clause-ends : goal.returns-then-ends_part-clause-ends
returns-then-ends_part-clause-ends c =
    let self = c.args.self.now in
    closed_at self.bytes c.push.new.self self.line_start self.lines c.args.byte c.requires.unended c.if-byte-ne10.false c.in_ok-push.ensures.ok
    (ap is_end_line (sym c.line.ensures) ∙ (sym c.ends_part.ensures ∙ c.if-ends_part.true))

pub returns-clause-ends : goal.returns-clause-ends
returns-clause-ends c =
    let self = c.args.self.now in
    rw c.len-self.ensures (open_at self.bytes c.push.new.self self.line_start self.lines c.args.byte c.requires.unended c.if-byte-ne10.false c.in_ok-push.ensures.ok
    (ap is_end_line (sym c.line.ensures) ∙ (sym c.ends_part.ensures ∙ c.if-ends_part.false)))
