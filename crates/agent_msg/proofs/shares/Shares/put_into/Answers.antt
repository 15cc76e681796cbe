use Rattle.std.proofs.Common.{rules, ◌≡◌, ◌≤◌, ◌+◌, ◌-◌, ℕ, ◌∙◌, ap, arith}
use Rattle.agent_msg.specs.Bytes.{low_byte}
use Rattle.agent_msg.proofs.ShareLaws.{putting-starts, putting-goes_on, putting-fits}
use Rattle.agent_msg.proofs.shares.Shares.put_into.Goals as goal

pub loop-a-init : goal.loop-a-init
loop-a-init c = putting-starts c.args.self.now c.args.bytes.now c.low.result (c.low.ensures ∙ ap (λ (n : ℕ). low_byte n) c.count.ensures.value)

pub slice_bounds-copy_from_slice-end : goal.slice_bounds-copy_from_slice-end
slice_bounds-copy_from_slice-end c =
    let room : c.loop-a.at + 4 ≤ 127 = putting-fits c.args.self.now c.args.bytes.now c.loop-a.left _ c.loop-a.at c.loop-a.bytes c.in-Some.a.0 c.loop-a.invariant c.in-Some.ensures.rest c.count.ensures.members in
    search rules

pub loop-a-preserved : goal.loop-a-preserved
loop-a-preserved c =
    let four : (c.loop-a.at + 4) - c.loop-a.at ≡ 4 = omega arith in
    rw (four, c.copy_from_slice.ensures.after, c.bytes_of.ensures, c.without-left.ensures.value)
    (putting-goes_on c.args.self.now c.args.bytes.now c.loop-a.left _ c.loop-a.at c.loop-a.bytes c.in-Some.a.0 c.loop-a.invariant c.in-Some.ensures.rest)
