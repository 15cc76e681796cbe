use Rattle.std.proofs.Common.{◌≡◌, ◌<◌, ◌≤◌, [], map, fold, length, slice_set, Ok, Some, refl, sym, ap, subst, ◌∙◌}
use Rattle.std.proofs.lemmas.List.Elements.{All-nil, All-cons}
use Rattle.nego_data.specs.Data.{data_count}
use Rattle.nego_model.specs.Joining.{joint_after}
use Rattle.agent_msg.specs.Records.{entry, IsTidy}
use Rattle.agent_core.specs.Agents.{IsValid, shares_in}
use Rattle.agent_core.specs.Acts.{after_act}
use Rattle.agent_core.specs.Deciding.{decides_of, deciding, decided, after_decision}
use Rattle.agent_core.specs.Worlds.{PlainWorld, Decide, GoesOn, agent_of, deed_by, entered, with_message}
use Rattle.nego_world.specs.Stepping.{HasStepFault}
use Rattle.nego_world.proofs.Acting.{agent-seen, fault-is, on-err, unchanged, place-seen, valid-seen, few-seen, id-seen, last-below, step-afters, deciding-is, sends-decided, decided-deed, agents-with, agents-same, happened}
use Rattle.nego_world.proofs.world.World.decide.Goals as goal

pub returns-in_err-r-clause-err : goal.returns-in_err-r-clause-err
returns-in_err-r-clause-err c = fault-is (HasStepFault c.args.d.now c.args.self.now (Decide c.args.a.0 c.args.c GoesOn)) c.from_residual.result c.in_err-r.field-0.0 c.from_residual.ensures.1 (c.in_err-r.ensures.err GoesOn)

pub index_mut-agent-requires : goal.index_mut-agent-requires
index_mut-agent-requires c =
    let w = c.self.inside in
    place-seen c.args.d.now w.history.start w.agents w.sent.messages w.history.entries c.requires.diagram c.requires.deterministic c.args.self.now c.self.view_is c.requires.consistent c.args.a.0 c.requires.known

pub enter-requires-clause-joint : goal.enter-requires-clause-joint
enter-requires-clause-joint c = subst (λ x. joint_after x.start x.history < data_count c.args.d.now.sizes) (sym c.self.view_is) (last-below c.args.d.now c.args.self.now c.requires.diagram c.requires.consistent)

pub enter-requires-clause-afters : goal.enter-requires-clause-afters
enter-requires-clause-afters c = step-afters c.args.d.now (agent_of c.args.d.now c.args.self.now c.args.a.0) (entry c.in_ok-r.r) c.in_ok-r.ensures.step

pub decide-requires-clause-valid : goal.decide-requires-clause-valid
decide-requires-clause-valid c =
    let w = c.self.inside in
    subst (λ x. IsValid c.args.d.now x) (sym c.in_ok-reserve.ensures.agent)
    (valid-seen c.args.d.now w.history.start w.agents w.sent.messages w.history.entries c.requires.diagram c.requires.deterministic c.args.self.now c.self.view_is c.requires.consistent c.args.a.0 c.index_mut-agent.result.now c.requires.known c.index_mut-agent.ensures.value)

pub decide-requires-clause-few : goal.decide-requires-clause-few
decide-requires-clause-few c =
    let w = c.self.inside in
    subst (λ x. length x.records ≤ 10000) (sym c.in_ok-reserve.ensures.agent)
    (few-seen c.args.d.now w.history.start w.agents w.sent.messages w.history.entries c.requires.diagram c.requires.deterministic c.args.self.now c.self.view_is c.requires.consistent c.args.a.0 c.index_mut-agent.result.now c.requires.few c.index_mut-agent.ensures.value)

pub returns-in_err-reserve-clause-unchanged : goal.returns-in_err-reserve-clause-unchanged
returns-in_err-reserve-clause-unchanged c =
    let w = c.self.inside in
    let a = c.args.a.0 in
    on-err _ c.from_residual-in_err-reserve.result
    (unchanged c.args.d.now w.history.start w.agents w.sent.messages w.history.entries c.args.self.now c.self.view_is w.history.start (map (λ agent. agent.plain) (slice_set w.agents a c.reserve.new.self)) w.sent.messages w.history.entries
    refl (agents-same c.args.d.now w.history.start w.agents w.sent.messages w.history.entries a c.index_mut-agent.result.now c.reserve.new.self c.index_mut-agent.ensures.value c.in_err-reserve.ensures.agent) refl refl)

pub returns-in_err-reserve-2-clause-unchanged : goal.returns-in_err-reserve-2-clause-unchanged
returns-in_err-reserve-2-clause-unchanged c =
    let w = c.self.inside in
    let a = c.args.a.0 in
    on-err _ c.from_residual-in_err-reserve-2.result
    (unchanged c.args.d.now w.history.start w.agents w.sent.messages w.history.entries c.args.self.now c.self.view_is w.history.start (map (λ agent. agent.plain) (slice_set w.agents a c.reserve.new.self)) c.reserve-2.new.self.messages w.history.entries
    refl (agents-same c.args.d.now w.history.start w.agents w.sent.messages w.history.entries a c.index_mut-agent.result.now c.reserve.new.self c.index_mut-agent.ensures.value c.in_ok-reserve.ensures.agent) c.in_err-reserve-2.ensures.messages refl)

pub returns-in_err-enter-clause-unchanged : goal.returns-in_err-enter-clause-unchanged
returns-in_err-enter-clause-unchanged c =
    let w = c.self.inside in
    let a = c.args.a.0 in
    on-err _ c.from_residual-in_err-enter.result
    (unchanged c.args.d.now w.history.start w.agents w.sent.messages w.history.entries c.args.self.now c.self.view_is c.enter.new.self.start (map (λ agent. agent.plain) (slice_set w.agents a c.reserve.new.self)) c.reserve-2.new.self.messages c.enter.new.self.entries
    c.in_err-enter.ensures.start (agents-same c.args.d.now w.history.start w.agents w.sent.messages w.history.entries a c.index_mut-agent.result.now c.reserve.new.self c.index_mut-agent.ensures.value c.in_ok-reserve.ensures.agent) c.in_ok-reserve-2.ensures.messages c.in_err-enter.ensures.err)

pub returns-clause-ok : goal.returns-clause-ok
returns-clause-ok c =
    let d = c.args.d.now in
    let w = c.self.inside in
    let a = c.args.a.0 in
    let choice = c.args.c in
    let g = c.index_mut-agent.result.now in
    let r = entry c.in_ok-r.r in
    let at = c.index_mut-agent.ensures.value in
    let here = agent-seen d w.history.start w.agents w.sent.messages w.history.entries a g at in
    let decides_so : decided d g.plain choice ≡ Ok (entry c.in_ok-r.r) = ap (λ x. decided d x choice) (sym here) ∙ (ap (λ (x : PlainWorld). decided d (agent_of d x a) choice) c.self.view_is ∙ c.in_ok-r.ensures.ok) in
    let is = deciding-is d g.plain choice r decides_so in
    let act = deciding d g.plain is.0 choice in
    let after : c.decide.new.self.plain ≡ after_act d g.plain (deciding d g.plain is.0 choice) = c.decide.ensures.agent ∙ (ap (λ x. after_decision d x choice) c.in_ok-reserve.ensures.agent ∙ is.3) in
    happened d w.history.start w.agents w.sent.messages w.history.entries c.args.self.now c.self.view_is (Decide a choice GoesOn) (deed_by a GoesOn act) _
    c.enter.new.self.start (map (λ agent. agent.plain) (slice_set w.agents a c.decide.new.self)) c.put_decides.new.self.messages c.enter.new.self.entries
    (decided-deed d w.history.start w.agents w.sent.messages w.history.entries a g choice GoesOn act at is.1) c.in_ok-enter.ensures.start
    (agents-with d w.history.start w.agents w.sent.messages w.history.entries a g c.decide.new.self act at after)
    (c.put_decides.ensures ∙ (ap (λ sent. fold with_message sent (decides_of a (map (λ s. s.agent) (shares_in r)) r)) c.in_ok-reserve-2.ensures.messages
    ∙ ap (fold with_message w.sent.messages) (sends-decided d g.plain a is.0 choice r (id-seen d w.history.start w.agents w.sent.messages w.history.entries c.requires.diagram c.requires.deterministic c.args.self.now c.self.view_is c.requires.consistent a g c.requires.known at) is.2)))
    (c.in_ok-enter.ensures.ok ∙ ap (entered d w.history.start w.history.entries) is.2)
    refl (ap (λ x. Some x) is.2) refl refl (All-cons IsTidy c.in_ok-r.r [] c.in_ok-r.ensures.tidy (All-nil IsTidy))
