use Rattle.std.proofs.Common.{[], ◌∷◌, refl, map}
use Rattle.std.proofs.lemmas.Result.{err_from_is_err_and}
use Rattle.nego_reader.specs.Rows.{Agent, Atom, First, AgentRow}
use Rattle.nego_reader.specs.Reading.{agent_in}
use Rattle.nego_reader.proofs.RowKinds.{agent_line}
use Rattle.nego_reader.proofs.Walks.{more, stops, over}
use Rattle.nego_reader.proofs.pieces.agents.Goals as goal

pub returns-in_err-agent_in : goal.returns-in_err-agent_in
returns-in_err-agent_in c =
    let p = err_from_is_err_and c.from_residual.result c.from_residual.ensures.1 in
    rw (p.1, p.2) (stops AgentRow agent_in Agent (Atom ∷ First ∷ []) agent_line c.in_err-agent_in.field-0.0 c.args.lines.now (map AgentRow c.loop-line.agents) c.loop-line.rest.now c.in-Some.line.now c.in-Some.after.now c.in-Some.ensures.parts c.in-Some.ensures.found c.in_err-agent_in.ensures c.loop-line.invariant)

pub loop-line-preserved : goal.loop-line-preserved
loop-line-preserved c =
    rw c.in_ok-push.ensures.ok (more AgentRow agent_in Agent (Atom ∷ First ∷ []) agent_line refl c.args.lines.now c.loop-line.agents c.loop-line.rest.now c.in-Some.line.now c.in-Some.after.now c.in_ok-agent_in.field-0 c.in-Some.ensures.parts c.in-Some.ensures.found c.in_ok-agent_in.ensures c.in-Some.ensures.behind c.loop-line.invariant)

pub returns : goal.returns
returns c = over Agent Atom (First ∷ []) (Agent ∷ Atom ∷ First ∷ []) c.args.lines.now (map AgentRow c.loop-line.agents) c.loop-line.rest.now c.in_default.ensures.none c.loop-line.invariant
