use Rattle.nego_io.proofs.CallLaws.{calls-then}
use Rattle.agent_journal.proofs.slots.write_through.Goals as goal

pub returns-clause-calls : goal.returns-clause-calls
returns-clause-calls g c = calls-then c.args.i _ (g.D.Disks.told c.write_at.new.self) _ c.write_at.ensures.calls c.sync.ensures.calls
