use Rattle.std.proofs.Common.{arith, sym, ap, ◌∙◌}
use Rattle.nego_base.proofs.Bits.{members-least, members-least_rest, members-none, members-rise, least_below}
use Rattle.nego_base.specs.Bits.{members}
use Rattle.nego_base.proofs.number_set.NumberSet.least.Goals as goal

pub returns-then-self-eq0-clause-value : goal.returns-then-self-eq0-clause-value
returns-then-self-eq0-clause-value g c = sym c.self.view_is ∙ ap (members g.row.WIDTH) c.if-self-eq0.true ∙ members-none g.row.WIDTH

pub returns-then-self-eq0-clause-members : goal.returns-then-self-eq0-clause-members
returns-then-self-eq0-clause-members g c = rw (← c.self.view_is) (members-rise g.row.WIDTH c.self.inside.bits)

pub returns-clause-value : goal.returns-clause-value
returns-clause-value g c = rw (← c.self.view_is) (members-least g.row.WIDTH c.self.inside.bits (omega arith) c.self.invariant)

pub returns-clause-rest : goal.returns-clause-rest
returns-clause-rest g c = rw (← c.self.view_is) (members-least_rest g.row.WIDTH c.self.inside.bits (omega arith) c.self.invariant)

pub returns-clause-bound : goal.returns-clause-bound
returns-clause-bound g c = least_below g.row.WIDTH c.self.inside.bits (omega arith) c.self.invariant

pub returns-clause-members : goal.returns-clause-members
returns-clause-members g c = rw (← c.self.view_is) (members-rise g.row.WIDTH c.self.inside.bits)
