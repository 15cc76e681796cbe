use Rattle.nego_model.proofs.diagrams.Readers.{first_member, first_least}
use Rattle.nego_model.proofs.diagram.Diagram.leader.Goals as goal

pub returns-clause-party : goal.returns-clause-party
returns-clause-party c =
    let first = rw c.unwrap.ensures at c.least.ensures.value in
    rw (← c.parties.ensures.value) (first_member c.parties.result c.unwrap.result.0 first)

pub returns-clause-least : goal.returns-clause-least
returns-clause-least c =
    let first = rw c.unwrap.ensures at c.least.ensures.value in
    rw (← c.parties.ensures.value) (first_least c.parties.result c.unwrap.result.0 c.least.ensures.members.rising first)
