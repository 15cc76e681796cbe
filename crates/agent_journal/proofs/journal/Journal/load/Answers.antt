use Rattle.nego_io.proofs.CallLaws.{calls-then}
use Rattle.std.proofs.lemmas.Result.{err_from_is_err_and}
use Rattle.agent_journal.proofs.LoadLaws.{load-fails}
use Rattle.agent_journal.proofs.journal.Journal.load.Goals as goal

pub returns-in_err-records-clause-calls : goal.returns-in_err-records-clause-calls
returns-in_err-records-clause-calls g c = calls-then c.args.i _ (g.D.Disks.told c.sync.new.self) _ c.sync.ensures.calls c.read_records.ensures.read.calls

pub returns-in_err-repair-clause-calls : goal.returns-in_err-repair-clause-calls
returns-in_err-repair-clause-calls g c =
    calls-then c.args.i _ (g.D.Disks.told c.read_records.new.disks) _
    (calls-then c.args.i _ (g.D.Disks.told c.sync.new.self) _ c.sync.ensures.calls c.read_records.ensures.read.calls) c.repair.ensures.calls

pub returns-clause-calls : goal.returns-clause-calls
returns-clause-calls g c =
    calls-then c.args.i _ (g.D.Disks.told c.read_records.new.disks) _
    (calls-then c.args.i _ (g.D.Disks.told c.sync.new.self) _ c.sync.ensures.calls c.read_records.ensures.read.calls) c.repair.ensures.calls

pub returns-in_err-records-clause-err : goal.returns-in_err-records-clause-err
returns-in_err-records-clause-err g c =
    let p = err_from_is_err_and c.from_residual-in_err-records.result c.from_residual-in_err-records.ensures.1 in
    rw (p.1, p.2)
    (load-fails c.args.i _ (g.D.Disks.told c.sync.new.self) (g.D.Disks.told c.read_records.new.disks)
    (record { read = record { content = c.in_ok-sync.ensures.content; images = c.sync.ensures.images; calls = c.sync.ensures.calls }; stayed = c.in_ok-sync.ensures.cause.stayed })
    _ c.in_err-records.ensures.err)
