use Rattle.agent_msg.specs.Records.{entry}
use Rattle.agent_journal.proofs.GrowthLaws.{begins-then}
use Rattle.agent_journal.proofs.journal.Journal.append.Goals as goal

pub returns-in-Ok-clause-grows : goal.returns-in-Ok-clause-grows
returns-in-Ok-clause-grows g c = λ journal from.
    begins-then journal from c.args.i (g.D.Disks.told c.args.disks.now) (g.D.Disks.told c.put.new.disks) (entry c.args.r.now) c.put.ensures.calls c.requires.spelled
    (λ told. g.met.D.Disks.content_is_left c.args.disks.now c.args.i c.requires.disk told)
    c.put.ensures.images

pub returns-in-Err-clause-grows : goal.returns-in-Err-clause-grows
returns-in-Err-clause-grows g c = λ journal from.
    begins-then journal from c.args.i (g.D.Disks.told c.args.disks.now) (g.D.Disks.told c.put.new.disks) (entry c.args.r.now) c.put.ensures.calls c.requires.spelled
    (λ told. g.met.D.Disks.content_is_left c.args.disks.now c.args.i c.requires.disk told)
    c.put.ensures.images
