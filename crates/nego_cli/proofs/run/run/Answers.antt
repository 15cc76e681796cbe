use Rattle.std.proofs.Common.{◌∙◌, Err, ap, sym, subst}
use Rattle.std.proofs.lemmas.Result.{err_from_is_err_and}
use Rattle.nego_world.specs.Events.{plain_lines}
use Rattle.world_text.specs.ScheduleTable.{SpellsSchedule}
use Rattle.nego_cli.specs.Effect.{effect}
use Rattle.nego_cli.specs.Loading.{HasNoValue, HasValue, IsNoSchedule}
use Rattle.nego_cli.specs.Dispatch.{IsAnswerBy}
use Rattle.nego_cli.specs.Turn.{TurnOver, TextOver}
use Rattle.nego_cli.specs.Run.{RunTurn, RunText, ScheduleTurn, ScheduleText}
use Rattle.nego_cli.proofs.AnswersBehind.{over_answer, over_none}
use Rattle.nego_cli.proofs.Playing.{started_answer, played_answer, played_same}
use Rattle.nego_cli.proofs.run.run.Goals as goal

pub returns-in_err-schedule-clause-found : goal.returns-in_err-schedule-clause-found
returns-in_err-schedule-clause-found g c =
    let d = c.args.d in
    let values = c.args.values.now in
    let start = c.in_ok-d.start in
    let source = effect g.S.Source.left g.S.Source.faults c.args.source.now c.load_schedule.new.source in
    let why = c.in_err-schedule.field-0.0 in
    let p = err_from_is_err_and c.from_residual-in_err-schedule.result c.from_residual-in_err-schedule.ensures.1 in
    let failed : HasNoValue (IsNoSchedule d) source why = subst (λ x. HasNoValue (IsNoSchedule x) source why) c.in_ok-d.ensures.same c.in_err-schedule.ensures.err in
    let answered : IsAnswerBy (RunTurn values d) (RunText values d) 1 source (Err why) =
    started_answer d values (λ start. TurnOver (SpellsSchedule d) (IsNoSchedule d) (ScheduleTurn d start)) (λ start. TextOver (SpellsSchedule d) (ScheduleText d start)) 1 source start (Err why)
    c.in_ok-d.ensures.deterministic c.in_ok-d.ensures.starts
    (over_none (SpellsSchedule d) (SpellsSchedule d) (IsNoSchedule d) (ScheduleTurn d start) (ScheduleText d start) 0 source why failed) in
    subst (IsAnswerBy (RunTurn values d) (RunText values d) 1 source) (sym (p.1 ∙ ap Err p.2)) answered

pub returns-clause-found : goal.returns-clause-found
returns-clause-found g c =
    let d = c.args.d in
    let lines = plain_lines c.in_ok-schedule.schedule in
    let loaded : HasValue (SpellsSchedule d) (effect g.S.Source.left g.S.Source.faults c.args.source.now c.load_schedule.new.source) lines =
    subst (λ x. HasValue (SpellsSchedule x) (effect g.S.Source.left g.S.Source.faults c.args.source.now c.load_schedule.new.source) lines) c.in_ok-d.ensures.same c.in_ok-schedule.ensures.ok in
    played_answer d c.args.values.now c.in_ok-d.start lines g.S.Source.left g.S.Source.faults c.args.source.now c.load_schedule.new.source c.played.result c.in_ok-d.ensures.deterministic c.in_ok-d.ensures.starts loaded
    (played_same c.in_ok-d.d d c.in_ok-d.start lines c.played.result c.in_ok-d.ensures.same c.played.ensures.turn c.played.ensures.ok c.played.ensures.err)
