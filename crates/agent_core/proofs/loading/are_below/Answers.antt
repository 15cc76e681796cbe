use Rattle.std.proofs.Common.{◌<◌, length, slice_index_or, refl, sym, ◌∙◌, arith, below_more}
use Rattle.std.proofs.lemmas.Bool.{false≢true}
use Rattle.nego_base.proofs.Members.{All-member, All-members}
use Rattle.agent_core.specs.Agents.{size_of}
use Rattle.agent_core.proofs.loading.are_below.Goals as goal

pub loop-p-init : goal.loop-p-init
loop-p-init c = λ k h. absurd (omega (arith, h))

pub loop-p-preserved : goal.loop-p-preserved
loop-p-preserved c = below_more _ _ c.loop-p.invariant (c.is_below.ensures.0 c.if-not-is_below.false)

pub returns-then-not-is_below : goal.returns-then-not-is_below
returns-then-not-is_below c = (
  λ h. absurd (false≢true h),
  λ all. absurd (false≢true (sym c.if-not-is_below.true ∙ c.is_below.ensures.1 (λ m. All-member (λ p. slice_index_or c.args.values.now p 0 < size_of c.args.d.now p) c.loop-p.p c.args.parties all m))),
)

pub returns : goal.returns
returns c = (
  λ _. All-members (λ p. slice_index_or c.args.values.now p 0 < size_of c.args.d.now p) c.args.parties (λ q m.
      let below : q < length c.args.d.now.agents = All-member (λ p. p < length c.args.d.now.agents) q c.args.parties c.requires m in
      c.loop-p.invariant q (omega (arith, below, c.loop-p-test.false, c.agents-p-end.ensures.value)) m),
  λ _. refl,
)
