use Rattle.std.proofs.Common.{◌≡◌, ◌+◌, ◌-◌, ◌≤◌, suc, drop, length, map, slice_index_or, sym, ap, subst, ◌∙◌, arith}
use Rattle.std.proofs.lemmas.List.{at_drop_all, length-map}
use Rattle.agent_core.specs.Worlds.{first_world, plays}
use Rattle.nego_world.specs.Events.{plain_event, plain_line, plain_lines, NamesAgents}
use Rattle.nego_world.specs.Stepping.{HasPlayFault}
use Rattle.nego_world.proofs.Acting.{fault-is}
use Rattle.nego_world.proofs.Finishing.{finishes-complete}
use Rattle.nego_world.proofs.Happening.{deed-allowed, plays-start}
use Rattle.nego_world.proofs.Lines.{HasRoomFor, no_line, at-line, named-line, line-goes, line-stops, room-after, first-room}
use Rattle.nego_world.proofs.playing.play.Goals as goal

pub loop-line-init : goal.loop-line-init
loop-line-init c =
    let d = c.args.d.now in
    let items = c.deref-line-items.result.now in
    let few : length items - 0 ≤ 10000 = omega (arith, c.requires.few, length-map c.args.schedule.now.events plain_line, ap length c.deref-line-items.ensures) in
    record {
      leads = ap (λ w. plays d w (plain_lines c.args.schedule.now)) (sym c.in_ok-world.ensures.world) ∙ ap (λ xs. plays d c.in_ok-world.world (map plain_line xs)) (sym c.deref-line-items.ensures);
      consistent = c.in_ok-world.ensures.consistent;
      room = subst (HasRoomFor (length items - 0)) (sym c.in_ok-world.ensures.world) (first-room d c.args.start (length items - 0) few);
    }

pub step_line-requires-clause-few : goal.step_line-requires-clause-few
step_line-requires-clause-few c = λ k agent lt. omega (arith, c.loop-line.invariant.room k agent lt)

pub step_line-requires-clause-known : goal.step_line-requires-clause-known
step_line-requires-clause-known c =
    named-line c.args.d.now c.deref-line-items.result.now c.loop-line.line-index (subst (λ xs. NamesAgents c.args.d.now (map plain_line xs)) (sym c.deref-line-items.ensures) c.requires.known) c.loop-line-test.true

pub returns-in_err-step_line-clause-err : goal.returns-in_err-step_line-clause-err
returns-in_err-step_line-clause-err c =
    let d = c.args.d.now in
    let items = c.deref-line-items.result.now in
    let i = c.loop-line.line-index in
    let lines = plain_lines c.args.schedule.now in
    fault-is (HasPlayFault d c.args.start lines) c.from_residual-in_err-step_line.result c.in_err-step_line.field-0.0 c.from_residual-in_err-step_line.ensures.1
    (line-stops d c.args.start lines c.loop-line.world (plain_line (slice_index_or items i no_line)) (map plain_line (drop (i + 1) items)) c.in_err-step_line.field-0.0
    (c.loop-line.invariant.leads ∙ at-line d c.loop-line.world items i c.loop-line-test.true) c.in_err-step_line.ensures.err)

pub loop-line-preserved : goal.loop-line-preserved
loop-line-preserved c =
    let d = c.args.d.now in
    let items = c.deref-line-items.result.now in
    let i = c.loop-line.line-index in
    let world = c.loop-line.world in
    let next = c.step_line.new.self in
    let item = slice_index_or items i no_line in
    let named = named-line d items i (subst (λ xs. NamesAgents d (map plain_line xs)) (sym c.deref-line-items.ensures) c.requires.known) c.loop-line-test.true in
    let left : length items - i ≡ suc (length items - (i + 1)) = omega (arith, c.loop-line-test.true) in
    record {
      leads = c.loop-line.invariant.leads ∙ (at-line d world items i c.loop-line-test.true ∙ line-goes d world next (plain_line item) (map plain_line (drop (i + 1) items)) c.in_ok-step_line.ensures.world);
      consistent = c.step_line.ensures.consistent;
      room = room-after d world (length items - (i + 1)) (subst (λ n. HasRoomFor n world) left c.loop-line.invariant.room) next (plain_event item.event)
          (λ deed done. let known = (deed-allowed d c.agents-agents.ensures.diagram c.requires.deterministic world c.loop-line.invariant.consistent (plain_event item.event) named deed done).known in
          omega (arith, known, c.loop-line.invariant.consistent.count))
          c.in_ok-step_line.ensures.world;
    }

pub returns-clause-world : goal.returns-clause-world
returns-clause-world c =
    c.loop-line.invariant.leads ∙ at_drop_all (λ xs. plays c.args.d.now c.loop-line.world (map plain_line xs)) c.deref-line-items.result.now c.loop-line.line-index (omega (arith, c.loop-line-test.false))

pub returns-clause-start : goal.returns-clause-start
returns-clause-start c = plays-start c.args.d.now (plain_lines c.args.schedule.now) (first_world c.args.d.now c.args.start) c.loop-line.world (returns-clause-world c)

pub returns-clause-finished : goal.returns-clause-finished
returns-clause-finished c = finishes-complete c.args.d.now c.agents-agents.ensures.diagram c.requires.deterministic c.loop-line.world c.loop-line.invariant.consistent
