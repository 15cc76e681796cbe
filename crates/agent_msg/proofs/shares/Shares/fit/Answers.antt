use Rattle.std.proofs.Common.{refl, ◌∙◌, arith}
use Rattle.std.proofs.lemmas.Bool.{false≢true}
use Rattle.agent_msg.proofs.ShareLaws.{testing-goes_on, testing-ends, testing-fails, shares-none}
use Rattle.agent_msg.proofs.shares.Shares.fit.Goals as goal
use Rattle.agent_msg.proofs.shares.Shares.fit.Goals.{then-self-a-ge10000-via-then-self-a-ge10000, then-self-a-ge10000-via-else-self-a-ge10000+then-self-a-ge64}

pub returns-then-self-a-ge10000 : goal.returns-then-self-a-ge10000
returns-then-self-a-ge10000 c =
    let fails = testing-fails c.args.self.now c.loop-a.left _ c.in-Some.a.0 c.loop-a.invariant c.in-Some.ensures.rest in (
      λ h. absurd (false≢true h),
      λ h. elim c.then-self-a-ge10000.branch [
        | then-self-a-ge10000-via-then-self-a-ge10000 w ↦ absurd (let f = (fails h.0).visit in omega (arith, f, w.if-self-a-ge10000.true))
        | then-self-a-ge10000-via-else-self-a-ge10000+then-self-a-ge64 w ↦ absurd (let f = (fails h.0).after in omega (arith, f, w.if-self-a-ge64.true))
      ],
    )

pub loop-a-preserved : goal.loop-a-preserved
loop-a-preserved c =
    rw (c.without-left.ensures.value)
    (testing-goes_on c.args.self.now c.loop-a.left _ c.in-Some.a.0 c.loop-a.invariant c.in-Some.ensures.rest (record { visit = c.if-self-a-ge10000.false; after = c.if-self-a-ge64.false }))

pub returns : goal.returns
returns c = (
  λ h. (
    testing-ends c.args.self.now c.loop-a.left c.loop-a.invariant c.in_default.ensures.value c.count.ensures.members,
    λ none. c.if-count-eq0.false (c.count.ensures.value ∙ shares-none c.args.self.now none),
  ),
  λ h. refl,
)
