use Rattle.agent_journal.proofs.LoadLaws.{IsLoading}
use Rattle.agent_journal.proofs.slots.read_records.Given as goal

abbrev pub invariant-loop-k : goal.invariant-loop-k
invariant-loop-k g l = IsLoading l.i (g.D.Disks.told l.fn.disks) (g.D.Disks.told l.disks) l.k l.records
