use Rattle.std.proofs.Common.{◌≡◌, ◌++◌, sym, ◌∙◌}
use Rattle.nego_base.proofs.LineLaws.{HasNoNewline}
use Rattle.nego_io.specs.Front.{IsClosed}
use Rattle.nego_io.proofs.FrontLaws.{open_more}
use Rattle.nego_io.proofs.ReachLaws.{closed_last}
use Rattle.nego_io.proofs.front.Front.put.Goals as goal

pub returns-then-branch-clause-bytes : goal.returns-then-branch-clause-bytes
returns-then-branch-clause-bytes c =
    let closed : IsClosed c.push.new.self.bytes = rw c.if-branch.true at c.in_ok-push.ensures.ends in
    let before = c.loop-byte.self.bytes in
    closed_last c.args.self.now.bytes c.args.next.now before c.push.new.self.bytes c.loop-byte.byte-index c.requires.reach c.loop-byte-test.true c.loop-byte.invariant.bytes c.in_ok-push.ensures.bytes closed

pub returns-then-not-contains-clause-ends : goal.returns-then-not-contains-clause-ends
returns-then-not-contains-clause-ends c =
    let self = c.args.self.now in
    let next = c.args.next.now in
    let free : HasNoNewline next = sym c.contains.ensures.value ∙ c.if-not-contains.true in
    let put : c.extend_from_slice.new.self ≡ self.bytes ++ next = c.in_ok-extend_from_slice.ensures.ok in
    rw put (open_more self.bytes self.line_start self.lines next c.requires.unended free)
