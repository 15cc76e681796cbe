use Rattle.std.proofs.lemmas.Result.{err_from_is_err_and}
use Rattle.nego_base.specs.LineGrammar.{missing_end}
use Rattle.nego_reader.proofs.Whole.{header_fails, agents_fail, atoms_fail, ends_fail, whole}
use Rattle.nego_reader.proofs.pieces.diagram.Goals as goal

pub returns-in_err-rest : goal.returns-in_err-rest
returns-in_err-rest c =
    let p = err_from_is_err_and c.from_residual.result c.from_residual.ensures.1 in
    rw (p.1, p.2) (header_fails c.missing_end-missing.result (missing_end c.args.count) c.args.lines.now c.in_err-rest.field-0.0 c.missing_end-missing.ensures c.in_err-rest.ensures.rest)

pub returns-in_err-agents : goal.returns-in_err-agents
returns-in_err-agents c =
    let p = err_from_is_err_and c.from_residual-in_err-agents.result c.from_residual-in_err-agents.ensures.1 in
    rw (p.1, p.2) (agents_fail c.in_err-agents.field-0.0 c.missing_end-missing.result (missing_end c.args.count) c.args.lines.now c.in_ok-rest.rest.now c.missing_end-missing.ensures c.in_ok-rest.ensures.rest c.in_err-agents.ensures)

pub returns-in_err-atoms : goal.returns-in_err-atoms
returns-in_err-atoms c =
    let p = err_from_is_err_and c.from_residual-in_err-atoms.result c.from_residual-in_err-atoms.ensures.1 in
    rw (p.1, p.2) (atoms_fail c.in_err-atoms.field-0.0 c.missing_end-missing.result (missing_end c.args.count) c.args.lines.now c.in_ok-rest.rest.now c.in_ok-agents.rest.now c.in_ok-agents.agents c.missing_end-missing.ensures c.in_ok-rest.ensures.rest c.in_ok-agents.ensures c.in_err-atoms.ensures)

pub returns-in_err-first : goal.returns-in_err-first
returns-in_err-first c =
    let p = err_from_is_err_and c.from_residual-in_err-first.result c.from_residual-in_err-first.ensures.1 in
    rw (p.1, p.2) (ends_fail c.in_err-first.field-0.0 c.missing_end-missing.result (missing_end c.args.count) c.args.lines.now c.in_ok-rest.rest.now c.in_ok-agents.rest.now c.in_ok-atoms.rest.now c.in_ok-agents.agents c.in_ok-atoms.atoms c.missing_end-missing.ensures c.in_ok-rest.ensures.rest c.in_ok-agents.ensures c.in_ok-atoms.ensures c.in_err-first.ensures)

pub returns : goal.returns
returns c =
    whole c.missing_end-missing.result (missing_end c.args.count) c.args.lines.now c.in_ok-rest.rest.now c.in_ok-agents.rest.now c.in_ok-atoms.rest.now c.in_ok-agents.agents c.in_ok-atoms.atoms c.in_ok-first.first c.in_ok-first.last c.missing_end-missing.ensures c.in_ok-rest.ensures.rest c.in_ok-agents.ensures c.in_ok-atoms.ensures c.in_ok-first.ensures
