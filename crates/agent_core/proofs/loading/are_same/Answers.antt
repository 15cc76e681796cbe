use Rattle.std.proofs.Common.{◌≡◌, true, sym, ◌∙◌, subst}
use Rattle.std.proofs.lemmas.Bool.{false≢true}
use Rattle.nego_base.specs.Members.{all_in}
use Rattle.nego_base.proofs.Members.{all_in-members, same_all_in}
use Rattle.agent_core.proofs.loading.are_same.Goals as goal

pub returns-then-within : goal.returns-then-within
returns-then-within c = (
  λ h. same_all_in 0 c.args.one c.args.other c.within.ensures.members.rising c.within.ensures.others.rising (sym c.within.ensures.value ∙ c.if-within.true) (sym c.within-then-within.ensures.value ∙ h),
  λ e. c.within-then-within.ensures.value ∙ subst (λ xs. all_in c.args.other xs ≡ true) (sym e) (all_in-members c.args.other c.args.other (λ x m. m)),
)

pub returns-else-within : goal.returns-else-within
returns-else-within c = (
  λ h. absurd (false≢true (sym c.if-within.false ∙ h)),
  λ e. c.within.ensures.value ∙ subst (λ xs. all_in c.args.one xs ≡ true) e (all_in-members c.args.one c.args.one (λ x m. m)),
)
