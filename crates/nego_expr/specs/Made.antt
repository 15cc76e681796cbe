-- The contract of a use of a rule.
use Rattle.std.specs.Prelude.{◌≡◌, ◌↔◌, ◌<◌, false, length, Result, Err, OnOk, OnErr, IsTrue}
use Rattle.nego_expr.specs.declared.uses.RuleFault.{RuleFault}
use Rattle.nego_expr.specs.declared.uses.RuleFault.TheVariants.{Guard, Nodes}
use Rattle.nego_expr.specs.Work.{PlainWork, IsWork}
use Rattle.nego_expr.specs.Use.{PlainUse, allows, after_use, most_nodes}
use Rattle.nego_expr.specs.Keeps.{Keeps}

-- What a call that makes a use of the old work answers, and the new work that it leaves. It is `Guard` exactly where the
-- old work doesn't allow the use, and `Nodes` exactly where it does and there would be too many nodes. The use is made
-- and keeps what the old work was, or the work stays as it was; it is a work at all events.
pub record IsMade (next : PlainUse) (old new : PlainWork) (result : Result (Unit {0}) RuleFault) : Type 0 where
  pub guard : (result ≡ Err Guard) ↔ (allows old next ≡ false)
  pub nodes : (result ≡ Err Nodes) ↔ (IsTrue (allows old next) × (most_nodes < length (after_use old next).nodes))
  pub made : OnOk result (new ≡ after_use old next)
  pub keeps : OnOk result (Keeps old new)
  pub err : OnErr result (new ≡ old)
  pub work : IsWork new
