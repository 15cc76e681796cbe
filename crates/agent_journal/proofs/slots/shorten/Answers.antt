use Rattle.nego_io.proofs.CallLaws.{calls-then}
use Rattle.agent_journal.proofs.slots.shorten.Goals as goal

pub returns-in_err-cut-clause-calls : goal.returns-in_err-cut-clause-calls
returns-in_err-cut-clause-calls g c = calls-then c.args.i _ (g.D.Disks.told c.len.new.self) _ c.len.ensures.read.calls c.cut.ensures.calls

pub returns-in_err-sync-clause-calls : goal.returns-in_err-sync-clause-calls
returns-in_err-sync-clause-calls g c =
    calls-then c.args.i _ (g.D.Disks.told c.cut.new.self) _
    (calls-then c.args.i _ (g.D.Disks.told c.len.new.self) _ c.len.ensures.read.calls c.cut.ensures.calls) c.sync.ensures.calls

pub returns-in_ok-sync-clause-calls : goal.returns-in_ok-sync-clause-calls
returns-in_ok-sync-clause-calls g c =
    calls-then c.args.i _ (g.D.Disks.told c.cut.new.self) _
    (calls-then c.args.i _ (g.D.Disks.told c.len.new.self) _ c.len.ensures.read.calls c.cut.ensures.calls) c.sync.ensures.calls
