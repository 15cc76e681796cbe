use Rattle.std.proofs.Common.{◌≤◌, length}
use Rattle.std.proofs.lemmas.Result.{IfOk-weaker}
use Rattle.nego_world.specs.Events.{plain_lines, NamesAgents}
use Rattle.world_text.specs.ScheduleText.{most_events}
use Rattle.world_text.specs.ScheduleTable.{SpellsSchedule}
use Rattle.world_text.proofs.Said.{walk_caused, walk_spelled, is_unspelled}
use Rattle.world_text.proofs.Spelled.{spelled_named, spelled_few}
use Rattle.world_text.proofs.reading.read_schedule.Goals as goal

pub returns-clause-spelled : goal.returns-clause-spelled
returns-clause-spelled c =
    walk_spelled c.args.d.now c.names_differ.ensures c.schedule.result c.args.bytes.now c.as_slice.result.now c.in_ok-text.text.lines c.in_ok-text.text.count c.in_ok-text.ensures.sound c.in_ok-text.ensures.lines c.in_ok-text.ensures.count c.as_slice.ensures c.schedule.ensures

pub returns-clause-fault : goal.returns-clause-fault
returns-clause-fault c =
    walk_caused c.args.d.now c.names_differ.ensures c.schedule.result c.args.bytes.now c.as_slice.result.now c.in_ok-text.text.lines c.in_ok-text.text.count c.in_ok-text.ensures.sound c.in_ok-text.ensures.lines c.in_ok-text.ensures.count c.as_slice.ensures c.schedule.ensures

pub returns-clause-unspelled : goal.returns-clause-unspelled
returns-clause-unspelled c =
    is_unspelled c.args.d.now c.names_differ.ensures c.schedule.result c.args.bytes.now
    (walk_caused c.args.d.now c.names_differ.ensures c.schedule.result c.args.bytes.now c.as_slice.result.now c.in_ok-text.text.lines c.in_ok-text.text.count c.in_ok-text.ensures.sound c.in_ok-text.ensures.lines c.in_ok-text.ensures.count c.as_slice.ensures c.schedule.ensures)

pub returns-clause-named : goal.returns-clause-named
returns-clause-named c =
    IfOk-weaker c.schedule.result (λ s. SpellsSchedule c.args.d.now c.args.bytes.now (plain_lines s)) (λ s. NamesAgents c.args.d.now (plain_lines s))
    (λ s h. spelled_named c.args.d.now c.args.bytes.now (plain_lines s) h) (returns-clause-spelled c)

pub returns-clause-few : goal.returns-clause-few
returns-clause-few c =
    IfOk-weaker c.schedule.result (λ s. SpellsSchedule c.args.d.now c.args.bytes.now (plain_lines s)) (λ s. length (plain_lines s) ≤ most_events)
    (λ s h. spelled_few c.args.d.now c.args.bytes.now (plain_lines s) h) (returns-clause-spelled c)
