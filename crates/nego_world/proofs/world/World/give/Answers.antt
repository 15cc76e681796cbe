use Rattle.std.proofs.Common.{◌<◌, map, fold, length, slice_get, slice_set, refl, sym, ap, subst, ◌∙◌}
use Rattle.std.specs.Option.{option_map, option_to_list}
use Rattle.agent_msg.specs.Messages.{DecideOf, message, decide_message}
use Rattle.agent_core.specs.Acts.{taking}
use Rattle.agent_core.specs.Views.{plain_give}
use Rattle.agent_core.specs.Worlds.{PlainWorld, Give, GoesOn, deed_by, with_message}
use Rattle.nego_world.specs.Stepping.{HasStepFault}
use Rattle.nego_world.proofs.Acting.{fault-is, on-err, unchanged, taking-kept, taking-sends, place-seen, valid-seen, few-seen, addressee-seen, agents-with, agents-same, given-deed, given-enters, given-again, happened}
use Rattle.nego_world.proofs.world.World.give.Goals as goal

pub index_mut-requires : goal.index_mut-requires
index_mut-requires c =
    let d = c.args.d.now in
    let w = c.self.inside in
    let known = addressee-seen d w.history.start w.agents w.sent.messages w.history.entries c.requires.diagram c.requires.deterministic c.args.self.now c.self.view_is c.requires.consistent c.args.i (message c.in_ok-m.m) c.in_ok-m.ensures.ok in
    place-seen d w.history.start w.agents w.sent.messages w.history.entries c.requires.diagram c.requires.deterministic c.args.self.now c.self.view_is c.requires.consistent c.addressee-to.result.0 (subst (λ a. a < length d.agents) (sym c.addressee-to.ensures) known)

pub take-requires-clause-valid : goal.take-requires-clause-valid
take-requires-clause-valid c =
    let d = c.args.d.now in
    let w = c.self.inside in
    let known = addressee-seen d w.history.start w.agents w.sent.messages w.history.entries c.requires.diagram c.requires.deterministic c.args.self.now c.self.view_is c.requires.consistent c.args.i (message c.in_ok-m.m) c.in_ok-m.ensures.ok in
    valid-seen d w.history.start w.agents w.sent.messages w.history.entries c.requires.diagram c.requires.deterministic c.args.self.now c.self.view_is c.requires.consistent c.addressee-to.result.0 c.index_mut.result.now (subst (λ a. a < length d.agents) (sym c.addressee-to.ensures) known) c.index_mut.ensures.value

pub take-requires-clause-few : goal.take-requires-clause-few
take-requires-clause-few c =
    let w = c.self.inside in
    few-seen c.args.d.now w.history.start w.agents w.sent.messages w.history.entries c.requires.diagram c.requires.deterministic c.args.self.now c.self.view_is c.requires.consistent c.addressee-to.result.0 c.index_mut.result.now c.requires.few c.index_mut.ensures.value

pub returns-in_err-given-clause-unchanged : goal.returns-in_err-given-clause-unchanged
returns-in_err-given-clause-unchanged c =
    let w = c.self.inside in
    on-err _ c.from_residual-in_err-given.result (unchanged c.args.d.now w.history.start w.agents w.sent.messages w.history.entries c.args.self.now c.self.view_is w.history.start (map (λ agent. agent.plain) (slice_set w.agents c.addressee-to.result.0 c.take.new.agent)) c.reserve.new.self.messages w.history.entries
    refl (agents-same c.args.d.now w.history.start w.agents w.sent.messages w.history.entries c.addressee-to.result.0 c.index_mut.result.now c.take.new.agent c.index_mut.ensures.value c.in_err-given.ensures.err) c.in_ok-reserve.ensures.messages refl)

pub returns-in_err-m-clause-err : goal.returns-in_err-m-clause-err
returns-in_err-m-clause-err c = fault-is (HasStepFault c.args.d.now c.args.self.now (Give c.args.i GoesOn)) c.from_residual.result c.in_err-m.field-0.0 c.from_residual.ensures.1 (c.in_err-m.ensures.err c.args.d.now GoesOn)

pub returns-clause-ok : goal.returns-clause-ok
returns-clause-ok c =
    let d = c.args.d.now in
    let w = c.self.inside in
    let i = c.args.i in
    let to = c.addressee-to.result.0 in
    let m = message c.in_ok-m.m in
    let g = c.index_mut.result.now in
    let what = plain_give c.in_ok-given.given in
    let there = ap (λ (x : PlainWorld). slice_get x.sent i) c.self.view_is ∙ c.in_ok-m.ensures.ok in
    let at = c.index_mut.ensures.value in
    let answer = c.in_ok-given.ensures.answer in
    happened d w.history.start w.agents w.sent.messages w.history.entries c.args.self.now c.self.view_is (Give i GoesOn) (deed_by to GoesOn (taking g.plain m what)) _
    w.history.start (map (λ agent. agent.plain) (slice_set w.agents to c.take.new.agent)) c.put_again.new.self.messages w.history.entries
    (given-deed d w.history.start w.agents w.sent.messages w.history.entries i to m g what there c.addressee-to.ensures at answer GoesOn) refl
    (agents-with d w.history.start w.agents w.sent.messages w.history.entries to g c.take.new.agent (taking g.plain m what) at c.in_ok-given.ensures.agent)
    (c.put_again.ensures.messages ∙ (ap (λ sent. fold with_message sent (map DecideOf (option_to_list (option_map decide_message c.decide_again-again.result)))) c.in_ok-reserve.ensures.messages
    ∙ (ap (λ o. fold with_message w.sent.messages (map DecideOf (option_to_list o))) c.decide_again-again.ensures ∙ ap (fold with_message w.sent.messages) (taking-sends g.plain m what))))
    (sym (given-enters d w.history.start w.agents w.sent.messages w.history.entries i to m g what there c.addressee-to.ensures at answer))
    refl (c.recorded.ensures.kept ∙ taking-kept g.plain m what) refl
    (c.decide_again-again.ensures ∙ given-again d w.history.start w.agents w.sent.messages w.history.entries i to m g what there c.addressee-to.ensures at answer)
    (c.recorded.ensures.tidy c.in_ok-given.ensures.tidy)
