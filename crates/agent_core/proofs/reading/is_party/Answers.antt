use Rattle.std.proofs.Common.{◌≤◌, length, sym, arith}
use Rattle.agent_core.proofs.Numbers.{is_in-parties_past, is_in-parties_stranger}
use Rattle.agent_core.proofs.reading.is_party.Goals as goal
use Rattle.agent_core.proofs.reading.is_party.Goals.{then-n-atoms-via-then-n-atoms, then-n-atoms-via-else-n-atoms+then-p-agents}

pub returns-then-n-atoms-clause-value : goal.returns-then-n-atoms-clause-value
returns-then-n-atoms-clause-value c =
    elim c.then-n-atoms.branch [
      | then-n-atoms-via-then-n-atoms w ↦ let past : length c.args.d.now.atoms ≤ c.args.n.0 = omega (arith, w.if-n-atoms.true, c.atoms.ensures.value) in sym (is_in-parties_past c.args.d.now c.args.n.0 c.args.p.0 past)
      | then-n-atoms-via-else-n-atoms+then-p-agents w ↦ sym
          (is_in-parties_stranger c.args.d.now c.args.n.0 c.args.p.0 c.atoms.ensures.diagram (omega (arith, w.if-n-atoms.false, c.atoms.ensures.value)) (omega (arith, w.if-p-agents.true, w.agents.ensures.value)))
    ]
