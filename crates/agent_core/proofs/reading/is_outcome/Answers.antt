use Rattle.std.proofs.Common.{sym, ◌∙◌, arith}
use Rattle.agent_core.proofs.Numbers.{is_in-outcomes_past, is_in-outcomes_own}
use Rattle.agent_core.proofs.reading.is_outcome.Goals as goal

pub returns-then-o-outcomes-clause-value : goal.returns-then-o-outcomes-clause-value
returns-then-o-outcomes-clause-value c = sym (is_in-outcomes_past c.args.d.now c.args.n.0 c.args.o.0 (omega (arith, c.if-o-outcomes.true, c.outcomes.ensures.value)))

pub returns-clause-value : goal.returns-clause-value
returns-clause-value c = c.eq.ensures ∙ sym (is_in-outcomes_own c.args.d.now c.atom_of.result.0 c.args.n.0 c.args.o.0 c.atom_of.ensures.outcome)
