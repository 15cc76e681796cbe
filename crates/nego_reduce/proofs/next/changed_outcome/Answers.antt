use Rattle.std.proofs.Common.{option_map, subst}
use Rattle.nego_reduce.specs.Changed.{MayOffer}
use Rattle.nego_reduce.proofs.AfterShortcut.{lent_alive, lent_known}
use Rattle.nego_reduce.proofs.next.changed_outcome.Goals as goal

pub returns-clause-alive : goal.returns-clause-alive
returns-clause-alive c = lent_alive c.args.w.now.plain c.in_ok-changed.field-0.0 c.outcome.result c.outcome.ensures

pub returns-clause-known : goal.returns-clause-known
returns-clause-known c =
    lent_known c.args.w.now.plain c.in_ok-changed.field-0.0 c.outcome.result c.outcome.ensures (subst (λ r. MayOffer c.args.w.now.plain (option_map (λ o. o.0) r)) c.in_ok-changed.was c.requires.known)
