use Rattle.std.proofs.Common.{◌≡◌, ◌<◌, ℕ, length, map, slice_index, cond, Some, IsTrue, refl, sym, ap, subst, ◌∙◌, arith, eq-eqb}
use Rattle.std.specs.Option.{option_map_or}
use Rattle.nego_base.specs.Members.{is_in}
use Rattle.nego_base.proofs.Members.{All-member, All-members, some_member}
use Rattle.nego_data.specs.Data.{split}
use Rattle.nego_model.proofs.diagrams.Negotiations.{atom_from_below}
use Rattle.agent_core.specs.Acts.{own_ready}
use Rattle.agent_core.proofs.Open.{index-member, length_from_member}
use Rattle.nego_data.proofs.Tuples.{at-tuple_of}
use Rattle.nego_model.specs.Diagram.{parties_of, leader_of}
use Rattle.agent_msg.specs.Records.{Share, Decided, share}
use Rattle.agent_core.specs.Agents.{size_of}
use Rattle.agent_core.specs.Deciding.{value_in, held_for, known_of, known_joint, chosen_outcome, chosen_joint, share_at}
use Rattle.agent_core.proofs.Decisions.{map-members, may_decide, decision_of_parts}
use Rattle.agent_core.proofs.agent.Agent.decision.Goals as goal

pub returns-clause-value : goal.returns-clause-value
returns-clause-value c =
    let d = c.args.d.now in
    let agent = c.args.self.now.plain in
    let n = c.args.n.0 in
    let known = known_joint d agent n in
    let e = chosen_joint d n known c.args.c in
    let outcome = c.pick-picked.ensures.outcome ∙ ap (λ j. chosen_outcome d n j c.args.c) c.known_joint.ensures.value in
    let joint : c.pick-picked.result.joint ≡ e = c.pick-picked.ensures.joint ∙ ap (λ j. chosen_joint d n j c.args.c) c.known_joint.ensures.value in
    let each : (p : ℕ) → IsTrue (is_in p c.parties-parties.result) → share c.only.result c.only-2.result p ≡ share_at d agent n e p =
    λ p m.
    let below : p < length d.agents = All-member (λ a. a < length d.agents) p c.parties-parties.result c.parties-parties.ensures.in_range m in
    let visit = c.only.ensures.members p m ∙ c.known_visits.ensures p below in
    let after : slice_index c.only-2.result p ≡ value_in d e p = c.only-2.ensures.members p m ∙ (ap (λ xs. slice_index xs p) c.split.ensures.value ∙ (at-tuple_of c.sizes.result.now c.pick-picked.result.joint p ∙ (ap (λ s. slice_index (split s c.pick-picked.result.joint) p) c.sizes.ensures ∙ ap (λ j. value_in d j p) joint))) in
    ap {B = Share} (λ v. record { agent = p; visit = v; after = slice_index c.only-2.result p }) visit ∙ ap {B = Share} (λ v. record { agent = p; visit = option_map_or (λ ready. ready.visit) (known_of d agent n p) 0; after = v }) after in
    ap (λ o. Decided n o (map (share c.only.result c.only-2.result) c.parties-parties.result)) outcome
    ∙ (ap (λ ss. Decided n (chosen_outcome d n known c.args.c) ss) (map-members (share c.only.result c.only-2.result) (share_at d agent n e) c.parties-parties.result each)
    ∙ ap (λ ps. Decided n (chosen_outcome d n known c.args.c) (map (share_at d agent n e) ps)) c.parties-parties.ensures.value)

pub returns-clause-step : goal.returns-clause-step
returns-clause-step c =
    let d = c.args.d.now in
    let agent = c.args.self.now.plain in
    let n = c.args.n.0 in
    let may = may_decide d agent n c.requires.atom in
    let parties = c.parties-parties.result in
    let some = some_member parties c.parties-parties.ensures.some in
    let leader : IsTrue (is_in (leader_of d n) (parties_of d n)) = subst (λ ps. IsTrue (is_in (slice_index ps 0) ps)) c.parties-parties.ensures.value (index-member parties 0 (length_from_member some.0 parties some.1)) in
    let own : IsTrue (is_in agent.id parties) = subst (λ ps. IsTrue (is_in agent.id ps)) (sym c.parties-parties.ensures.value) (subst (λ a. IsTrue (is_in a (parties_of d n))) may.leads leader) in
    let known : option_map_or (λ ready. ready.visit) (known_of d agent n agent.id) 0 ≡ length agent.records =
    ap (λ b. option_map_or (λ ready. ready.visit) (cond b (Some (own_ready d agent n)) (held_for agent n agent.id)) 0) (eq-eqb agent.id agent.id refl) in
    decision_of_parts d agent n c.pick-picked.result.outcome.0 parties c.only.result c.only-2.result leader (record {
      at = may.at;
      outcome = (atom_from_below d n (c.requires.valid.place n may.at), c.pick-picked.ensures.own);
      leads = may.leads;
      all = c.parties-parties.ensures.value;
      visit = c.only.ensures.members agent.id own ∙ (c.known_visits.ensures agent.id c.requires.valid.known ∙ known);
      below = All-members (λ p. slice_index c.only-2.result p < size_of d p) parties (λ p m.
          let agent_below : p < length d.agents = All-member (λ a. a < length d.agents) p parties c.parties-parties.ensures.in_range m in
          let sized : p < length c.sizes.result.now = omega (arith, agent_below, ap length c.sizes.ensures, c.known_joint.ensures.diagram.sized) in
          subst (λ v. v < size_of d p) (sym (c.only-2.ensures.members p m)) (subst (λ xs. slice_index c.split.result p < slice_index xs p) c.sizes.ensures (c.split.ensures.in_range p sized)));
    })

pub returns-clause-tidy : goal.returns-clause-tidy
returns-clause-tidy c = record { visits_zero = c.only.ensures.others; afters_zero = c.only-2.ensures.others }
