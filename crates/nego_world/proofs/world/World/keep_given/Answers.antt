use Rattle.std.proofs.Common.{◌<◌, map, length, slice_get, slice_set, refl, sym, ap, subst, ◌∙◌}
use Rattle.agent_msg.specs.Messages.{message}
use Rattle.agent_core.specs.Agents.{PlainAgent, nothing_held}
use Rattle.agent_core.specs.Acts.{taking}
use Rattle.agent_core.specs.Views.{plain_give}
use Rattle.agent_core.specs.Worlds.{PlainWorld, Give, StopsAfter, deed_by, ended}
use Rattle.nego_world.specs.Stepping.{HasStepFault}
use Rattle.nego_world.proofs.Acting.{fault-is, on-err, unchanged, taking-kept, place-seen, valid-seen, few-seen, addressee-seen, agents-with, agents-same, given-deed, given-enters, happened}
use Rattle.nego_world.proofs.world.World.keep_given.Goals as goal

pub index_mut-agent-requires : goal.index_mut-agent-requires
index_mut-agent-requires c =
    let d = c.args.d.now in
    let w = c.self.inside in
    let known = addressee-seen d w.history.start w.agents w.sent.messages w.history.entries c.requires.diagram c.requires.deterministic c.args.self.now c.self.view_is c.requires.consistent c.args.i (message c.in_ok-m.m) c.in_ok-m.ensures.ok in
    place-seen d w.history.start w.agents w.sent.messages w.history.entries c.requires.diagram c.requires.deterministic c.args.self.now c.self.view_is c.requires.consistent c.addressee-to.result.0 (subst (λ a. a < length d.agents) (sym c.addressee-to.ensures) known)

pub take-requires-clause-valid : goal.take-requires-clause-valid
take-requires-clause-valid c =
    let d = c.args.d.now in
    let w = c.self.inside in
    let known = addressee-seen d w.history.start w.agents w.sent.messages w.history.entries c.requires.diagram c.requires.deterministic c.args.self.now c.self.view_is c.requires.consistent c.args.i (message c.in_ok-m.m) c.in_ok-m.ensures.ok in
    valid-seen d w.history.start w.agents w.sent.messages w.history.entries c.requires.diagram c.requires.deterministic c.args.self.now c.self.view_is c.requires.consistent c.addressee-to.result.0 c.index_mut-agent.result.now (subst (λ a. a < length d.agents) (sym c.addressee-to.ensures) known) c.index_mut-agent.ensures.value

pub take-requires-clause-few : goal.take-requires-clause-few
take-requires-clause-few c =
    let w = c.self.inside in
    few-seen c.args.d.now w.history.start w.agents w.sent.messages w.history.entries c.requires.diagram c.requires.deterministic c.args.self.now c.self.view_is c.requires.consistent c.addressee-to.result.0 c.index_mut-agent.result.now c.requires.few c.index_mut-agent.ensures.value

pub returns-in_err-given-clause-unchanged : goal.returns-in_err-given-clause-unchanged
returns-in_err-given-clause-unchanged c =
    let w = c.self.inside in
    on-err _ c.from_residual-in_err-given.result (unchanged c.args.d.now w.history.start w.agents w.sent.messages w.history.entries c.args.self.now c.self.view_is w.history.start (map (λ agent. agent.plain) (slice_set w.agents c.addressee-to.result.0 c.take.new.agent)) w.sent.messages w.history.entries
    refl (agents-same c.args.d.now w.history.start w.agents w.sent.messages w.history.entries c.addressee-to.result.0 c.index_mut-agent.result.now c.take.new.agent c.index_mut-agent.ensures.value c.in_err-given.ensures.err) refl refl)

pub returns-in_err-m-clause-err : goal.returns-in_err-m-clause-err
returns-in_err-m-clause-err c = fault-is (HasStepFault c.args.d.now c.args.self.now (Give c.args.i StopsAfter)) c.from_residual.result c.in_err-m.field-0.0 c.from_residual.ensures.1 (c.in_err-m.ensures.err c.args.d.now StopsAfter)

pub returns-clause-ok : goal.returns-clause-ok
returns-clause-ok c =
    let d = c.args.d.now in
    let w = c.self.inside in
    let i = c.args.i in
    let to = c.addressee-to.result.0 in
    let m = message c.in_ok-m.m in
    let g = c.index_mut-agent.result.now in
    let what = plain_give c.in_ok-given.given in
    let there = ap (λ (x : PlainWorld). slice_get x.sent i) c.self.view_is ∙ c.in_ok-m.ensures.ok in
    let at = c.index_mut-agent.ensures.value in
    let answer = c.in_ok-given.ensures.answer in
    let act = taking g.plain m what in
    happened d w.history.start w.agents w.sent.messages w.history.entries c.args.self.now c.self.view_is (Give i StopsAfter) (deed_by to StopsAfter act) _
    w.history.start (map (λ agent. agent.plain) (slice_set w.agents to c.forget.new.self)) w.sent.messages w.history.entries
    (given-deed d w.history.start w.agents w.sent.messages w.history.entries i to m g what there c.addressee-to.ensures at answer StopsAfter) refl
    (agents-with d w.history.start w.agents w.sent.messages w.history.entries to g c.forget.new.self (ended StopsAfter act) at (c.forget.ensures.agent ∙ ap {B = PlainAgent} (λ x. record x { held = nothing_held }) c.in_ok-given.ensures.agent))
    refl (sym (given-enters d w.history.start w.agents w.sent.messages w.history.entries i to m g what there c.addressee-to.ensures at answer))
    refl (c.recorded.ensures.kept ∙ taking-kept g.plain m what) refl refl
    (c.recorded.ensures.tidy c.in_ok-given.ensures.tidy)
