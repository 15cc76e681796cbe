use Rattle.std.proofs.Common.{◌≡◌, ℕ, ◌<◌, not, true, length, sym, subst, ◌∙◌, arith, below_more}
use Rattle.std.specs.Option.{is_some}
use Rattle.nego_base.specs.Members.{is_in}
use Rattle.nego_base.proofs.BoolLaws.{not_both}
use Rattle.nego_base.proofs.Members.{All-member}
use Rattle.nego_model.specs.Diagram.{parties_of}
use Rattle.nego_model.proofs.diagrams.Negotiations.{atom_from_below}
use Rattle.agent_core.specs.Deciding.{known_of}
use Rattle.agent_core.proofs.Given.{both}
use Rattle.agent_core.proofs.Shares.{find-least, find-none}
use Rattle.agent_core.proofs.agent.Agent.waits_for.Goals as goal

pub loop-p-init : goal.loop-p-init
loop-p-init c = λ k h. absurd (omega (arith, h))

pub loop-p-preserved : goal.loop-p-preserved
loop-p-preserved c = below_more _ _ c.loop-p.invariant (sym c.is_unknown.ensures ∙ c.if-is_unknown.false)

pub returns-then-is_unknown : goal.returns-then-is_unknown
returns-then-is_unknown c =
    let parties = parties_of c.args.d.now c.args.n.0 in
    let test = λ (p : ℕ). not (is_some (known_of c.args.d.now c.args.self.now.plain c.args.n.0 p)) in
    let here = both (is_in c.loop-p.p c.parties-parties.result) (test c.loop-p.p) (sym c.is_unknown.ensures ∙ c.if-is_unknown.true) in
    let rises = c.agents-p-end.ensures.diagram.form.parties_rise c.args.n.0 (atom_from_below c.args.d.now c.args.n.0 c.requires) in
    sym (find-least test 0 c.loop-p.p parties rises (subst (λ xs. is_in c.loop-p.p xs ≡ true) c.parties-parties.ensures.value here.0) here.1 (λ q lt m.
    not_both (is_in q c.parties-parties.result) (test q) (c.loop-p.invariant q lt) (subst (λ xs. is_in q xs ≡ true) (sym c.parties-parties.ensures.value) m)))

pub returns : goal.returns
returns c =
    let parties = parties_of c.args.d.now c.args.n.0 in
    let test = λ (p : ℕ). not (is_some (known_of c.args.d.now c.args.self.now.plain c.args.n.0 p)) in
    sym (find-none test parties (λ q m.
    let own = subst (λ xs. is_in q xs ≡ true) (sym c.parties-parties.ensures.value) m in
    let below : q < length c.args.d.now.agents = All-member (λ a. a < length c.args.d.now.agents) q c.parties-parties.result c.parties-parties.ensures.in_range own in
    not_both (is_in q c.parties-parties.result) (test q) (c.loop-p.invariant q (omega (arith, below, c.loop-p-test.false, c.agents-p-end.ensures.value))) own))
