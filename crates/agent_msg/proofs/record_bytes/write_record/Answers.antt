use Rattle.std.proofs.Common.{◌∷◌, ◌++◌, refl}
use Rattle.agent_msg.specs.Bytes.{two_bytes}
use Rattle.agent_msg.proofs.record_bytes.write_record.Goals as goal

pub returns-in-Decision : goal.returns-in-Decision
returns-in-Decision c =
    rw (c.in-Decision.is)
    (c.put_into.ensures (2 ∷ (two_bytes c.in-Decision.atom.0 ++ two_bytes c.in-Decision.outcome.0)) refl c.headed-bytes.ensures)
