use Rattle.std.proofs.Common.{◌∙◌, ap, sym}
use Rattle.nego_model.specs.Diagram.{negotiation_of}
use Rattle.nego_shape.specs.Answers.{numbers}
use Rattle.nego_shape.proofs.PlacedAtoms.{ArePlaced}
use Rattle.nego_shape.proofs.Forward.{forward_order, stuck_cyclic}
use Rattle.nego_shape.proofs.Walking.{walk_closes, walks_same, stuck_same}
use Rattle.nego_shape.proofs.Turning.{goes_round}
use Rattle.nego_shape.proofs.ordering.order.Goals as goal

pub returns-in-None : goal.returns-in-None
returns-in-None c =
    let nego = negotiation_of c.args.d.now in
    let order = numbers c.in_ok-order.field-0.order in
    let placed : ArePlaced nego order c.in_ok-order.field-0.atoms = record { least = c.in_ok-order.ensures.least; same = c.in_ok-order.ensures.same } in
    record { forward = forward_order nego order c.in_ok-order.field-0.atoms placed c.in-None.ensures.none; least = c.in_ok-order.ensures.least }

pub returns-in_ok-cycle-in-Some : goal.returns-in_ok-cycle-in-Some
returns-in_ok-cycle-in-Some c =
    let nego = negotiation_of c.args.d.now in
    let order = numbers c.in_ok-order.field-0.order in
    let atoms = c.in_ok-order.field-0.atoms in
    let closes = c.in_ok-cycle-in-Some.ensures in
    let again = c.in_ok-walk-in-Some.walk.again.0 in
    let same = c.in_ok-order.ensures.same in
    let parts = ap numbers (sym c.as_slice.ensures) ∙ closes.parts in
    let walked = walks_same nego atoms order closes.lead again closes.others same
    (walk_closes nego atoms (numbers c.in_ok-walk-in-Some.walk.atoms) again closes.lead closes.others parts c.in_ok-walk-in-Some.ensures.walk) in
    record {
      found = record {
        placed = order;
        least = c.in_ok-order.ensures.least;
        stuck = stuck_same nego atoms order same c.in_ok-order.ensures.stuck;
        lead = closes.lead;
        again = again;
        others = closes.others;
        walk = walked;
        turned = closes.turned;
      };
      goes_round = goes_round nego order closes.lead again closes.others (numbers c.in_ok-cycle-in-Some.cycle) walked closes.turned;
      cyclic = stuck_cyclic nego atoms c.in-Some.start.0 c.in_ok-order.ensures.stuck c.in-Some.ensures.some.left;
    }
