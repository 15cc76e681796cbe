use Rattle.std.proofs.Common.{◌≡◌, ◌≢◌, ℕ, ◌<◌, length, false, slice_set, slice_index_or, refl, sym, ap, subst, ⊎_elim, ◌∙◌, arith, below_more, get_or-set_other, get_or-set_same}
use Rattle.std.proofs.lemmas.List.{length-set}
use Rattle.std.proofs.lemmas.Bool.{false≢true}
use Rattle.agent_msg.proofs.PartyLaws.{is_in-empty}
use Rattle.nego_base.specs.Members.{is_in}
use Rattle.nego_base.proofs.Members.{member_below}
use Rattle.agent_core.proofs.Valid.{same_or_not, get_or-alike}
use Rattle.agent_core.proofs.deciding.only.Goals as goal

pub loop-p-init : goal.loop-p-init
loop-p-init c = record { long = refl; done = λ k h. absurd (omega (arith, h)); others = λ k m. get_or-alike 16 k 0 }

pub loop-p-preserved : goal.loop-p-preserved
loop-p-preserved c = record {
  long = length-set c.loop-p.left c.loop-p.p c.one_of.result ∙ c.loop-p.invariant.long;
  done = below_more _ _
      (λ k h m. let ne : k ≢ c.loop-p.p = omega arith in get_or-set_other c.loop-p.left c.loop-p.p k c.one_of.result 0 ne ∙ c.loop-p.invariant.done k h m)
      (λ m. let lt : c.loop-p.p < length c.loop-p.left = omega (arith, c.loop-p.invariant.long, c.loop-p-test.true) in get_or-set_same c.loop-p.left c.loop-p.p c.one_of.result 0 lt ∙ c.one_of.ensures.member m);
  others = λ k m. ⊎_elim (λ same. here k m same) (λ differ. get_or-set_other c.loop-p.left c.loop-p.p k c.one_of.result 0 differ ∙ c.loop-p.invariant.others k m) (same_or_not k c.loop-p.p);
}
  where
    here : (k : ℕ) → is_in k c.args.agents ≡ false → k ≡ c.loop-p.p → slice_index_or (slice_set c.loop-p.left c.loop-p.p c.one_of.result) k 0 ≡ 0
    here k m same =
        let lt : c.loop-p.p < length c.loop-p.left = omega (arith, c.loop-p.invariant.long, c.loop-p-test.true) in
        ap (λ j. slice_index_or (slice_set c.loop-p.left c.loop-p.p c.one_of.result) j 0) same
        ∙ (get_or-set_same c.loop-p.left c.loop-p.p c.one_of.result 0 lt ∙ c.one_of.ensures.other (subst (λ j. is_in j c.args.agents ≡ false) same m))

pub returns-clause-members : goal.returns-clause-members
returns-clause-members c = λ p m. let below : p < 16 = member_below 16 p c.args.agents c.count.ensures.members m in c.loop-p.invariant.done p (omega (arith, below, c.loop-p-test.false)) m

pub returns-clause-others : goal.returns-clause-others
returns-clause-others c = c.loop-p.invariant.others

pub returns-then-count-eq0-clause-members : goal.returns-then-count-eq0-clause-members
returns-then-count-eq0-clause-members c = λ p m. absurd (false≢true (sym (is_in-empty p c.args.agents (sym c.count.ensures.value ∙ c.if-count-eq0.true)) ∙ m))

pub returns-then-count-eq0-clause-others : goal.returns-then-count-eq0-clause-others
returns-then-count-eq0-clause-others c = λ p m. get_or-alike 16 p 0
