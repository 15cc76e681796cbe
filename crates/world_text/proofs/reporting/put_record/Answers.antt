use Rattle.std.proofs.Common.{subst}
use Rattle.agent_msg.specs.Records.{entry}
use Rattle.agent_msg.specs.declared.record.Record.{Record}
use Rattle.world_text.specs.Named.{IsNamedRecord}
use Rattle.world_text.proofs.Putting.{parties_named}
use Rattle.world_text.proofs.reporting.put_record.Goals as goal

pub put_shares-requires : goal.put_shares-requires
put_shares-requires c =
    let named = subst (λ (r : Record). IsNamedRecord c.args.d.now (entry r)) c.in-Decision.is c.requires in
    parties_named c.args.d.now c.in-Decision.visits c.in-Decision.afters c.in-Decision.parties named.1
