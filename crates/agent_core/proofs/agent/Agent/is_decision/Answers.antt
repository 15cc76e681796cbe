use Rattle.std.proofs.Common.{slice_index, IsTrue, sym, ap, subst, ◌∙◌, eqb-true}
use Rattle.std.proofs.lemmas.Bool.{false≢true}
use Rattle.nego_base.specs.Members.{is_in}
use Rattle.nego_base.proofs.BoolLaws.{not_not}
use Rattle.nego_model.specs.Diagram.{parties_of, leader_of}
use Rattle.agent_core.proofs.Decisions.{decision_of_parts, parts_of_decision}
use Rattle.agent_core.proofs.agent.Agent.is_decision.Goals as goal
use Rattle.agent_core.proofs.agent.Agent.is_decision.Goals.{then-not-are_same-via-then-not-are_same, then-not-are_same-via-else-not-are_same+then-visits-self}

pub returns-then-not-are_same : goal.returns-then-not-are_same
returns-then-not-are_same c =
    let d = c.args.d.now in
    let leader : IsTrue (is_in (leader_of d c.args.n.0) (parties_of d c.args.n.0)) = subst (λ a. IsTrue (is_in a (parties_of d c.args.n.0))) c.leader.ensures.value c.leader.ensures.party in (
      λ h. absurd (false≢true h),
      λ s.
          let parts = parts_of_decision d c.args.self.now.plain c.args.n.0 c.args.o.0 c.args.parties c.args.visits.now c.args.afters.now leader s in
          elim c.then-not-are_same.branch [
            | then-not-are_same-via-then-not-are_same w ↦ absurd (false≢true (sym w.if-not-are_same.true ∙ c.are_same.ensures.1 (parts.all ∙ sym c.parties.ensures.value)))
            | then-not-are_same-via-else-not-are_same+then-visits-self w ↦ absurd (w.if-visits-self.true (ap (λ s. slice_index c.args.visits.now s.plain.id) c.self.view_is ∙ (parts.visit ∙ sym w.visit.ensures)))
          ],
    )

pub returns : goal.returns
returns c =
    let d = c.args.d.now in
    let leader : IsTrue (is_in (leader_of d c.args.n.0) (parties_of d c.args.n.0)) = subst (λ a. IsTrue (is_in a (parties_of d c.args.n.0))) c.leader.ensures.value c.leader.ensures.party in
    let id = ap (λ s. s.plain.id) c.self.view_is in
    let next = c.is_next.ensures.0 c.if-not-is_next.false in (
      λ h. decision_of_parts d c.args.self.now.plain c.args.n.0 c.args.o.0 c.args.parties c.args.visits.now c.args.afters.now leader (record {
        at = next.0;
        outcome = next.1;
        leads = sym c.leader.ensures.value ∙ (eqb-true _ _ (not_not _ (sym c.ne.ensures ∙ c.if-ne.false)) ∙ id);
        all = c.are_same.ensures.0 c.if-not-are_same.false ∙ c.parties.ensures.value;
        visit = sym (ap (λ a. slice_index c.args.visits.now a) id) ∙ (c.if-visits-self.false ∙ c.visit.ensures);
        below = c.are_below.ensures.0 h;
      }),
      λ s. c.are_below.ensures.1 (parts_of_decision d c.args.self.now.plain c.args.n.0 c.args.o.0 c.args.parties c.args.visits.now c.args.afters.now leader s).below,
    )
