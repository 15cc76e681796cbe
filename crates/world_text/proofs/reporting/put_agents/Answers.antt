use Rattle.std.proofs.Common.{◌≡◌, ◌+◌, ◌-◌, ◌++◌, length, sym, ap, subst, ◌∙◌, arith}
use Rattle.std.specs.List.{flat_map, range_with_len}
use Rattle.nego_world.proofs.Agents.{valid-each}
use Rattle.agent_core.specs.Agents.{PlainAgent, IsValid}
use Rattle.agent_core.specs.Worlds.{agent_of}
use Rattle.world_text.specs.ReportText.{agent_lines}
use Rattle.world_text.proofs.Names.{records_named}
use Rattle.world_text.proofs.Putting.{agent_is, line_more, range_next}
use Rattle.world_text.proofs.reporting.put_agents.Goals as goal

pub put_agent-requires-clause-valid : goal.put_agent-requires-clause-valid
put_agent-requires-clause-valid c =
    let d = c.args.d.now in
    subst (λ (agent : PlainAgent). IsValid d agent) (agent_is d c.args.w.now c.loop-a.a c.agent.result.now.plain c.agent.ensures)
    (valid-each d c.agents-a-end.ensures.diagram c.requires.deterministic c.args.w.now c.requires.consistent c.loop-a.a (omega (arith, c.loop-a-test.true, c.agents-a-end.ensures.value)))

pub put_agent-requires-clause-records : goal.put_agent-requires-clause-records
put_agent-requires-clause-records c =
    let d = c.args.d.now in
    records_named d c.agents-a-end.ensures.diagram c.agent.result.now.plain (subst (λ (agent : PlainAgent). IsValid d agent) (agent_is d c.args.w.now c.loop-a.a c.agent.result.now.plain c.agent.ensures)
    (valid-each d c.agents-a-end.ensures.diagram c.requires.deterministic c.args.w.now c.requires.consistent c.loop-a.a (omega (arith, c.loop-a-test.true, c.agents-a-end.ensures.value))))

pub loop-a-preserved : goal.loop-a-preserved
loop-a-preserved c =
    let d = c.args.d.now in
    let w = c.args.w.now in
    let n = length d.agents in
    let a = c.loop-a.a in
    let put : c.put_agent.new.text ≡ c.loop-a.text ++ agent_lines d a (agent_of d w a) =
    c.in_ok-put_agent.ensures ∙ ap (λ (agent : PlainAgent). c.loop-a.text ++ agent_lines d a agent) (sym (agent_is d w a c.agent.result.now.plain c.agent.ensures)) in
    line_more (λ a. agent_lines d a (agent_of d w a)) (range_with_len a (n - a)) (range_with_len (a + 1) (n - (a + 1))) a c.loop-a.text c.put_agent.new.text
    (c.args.text.now ++ flat_map (λ a. agent_lines d a (agent_of d w a)) (range_with_len 0 n)) (range_next a n (omega (arith, c.loop-a-test.true, c.agents-a-end.ensures.value))) put c.loop-a.invariant
