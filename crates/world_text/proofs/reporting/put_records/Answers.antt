use Rattle.agent_msg.specs.Records.{entry}
use Rattle.world_text.specs.Named.{IsNamedRecord}
use Rattle.world_text.proofs.Putting.{made_at}
use Rattle.world_text.proofs.reporting.put_records.Goals as goal

pub put_record-requires : goal.put_record-requires
put_record-requires c = made_at (IsNamedRecord c.args.d.now) entry c.args.records.now c.loop-r.r-index c.r-item.result c.requires c.loop-r-test.true c.r-item.is
