use Rattle.std.proofs.Common.{◌≡◌, [], map, ap, sym, subst, ◌∙◌}
use Rattle.agent_core.specs.Worlds.{PlainWorld, first_world}
use Rattle.agent_core.specs.Consistency.{IsConsistent}
use Rattle.nego_world.proofs.Beginning.{first-consistent}
use Rattle.nego_world.proofs.world.World.new.Goals as goal

pub returns-clause-consistent : goal.returns-clause-consistent
returns-clause-consistent c =
    let d = c.args.d.now in
    let start = c.args.start in
    let first = first_world d start in
    let same : ◌≡◌ {A = PlainWorld} (record { start = c.new-2.result.start; agents = map (λ agent. agent.plain) c.in_ok-agents.agents; sent = c.new.result.messages; history = c.new-2.result.entries }) (first_world d start) =
    ap {B = PlainWorld} (λ agents. record { start = c.new-2.result.start; agents = agents; sent = c.new.result.messages; history = c.new-2.result.entries }) c.in_ok-agents.ensures.agents
    ∙ (ap {B = PlainWorld} (λ sent. record { start = c.new-2.result.start; agents = first.agents; sent = sent; history = c.new-2.result.entries }) c.new.ensures
    ∙ (ap {B = PlainWorld} (λ entries. record { start = c.new-2.result.start; agents = first.agents; sent = []; history = entries }) c.new-2.ensures.entries
    ∙ ap {B = PlainWorld} (λ s. record { start = s; agents = first.agents; sent = []; history = [] }) c.new-2.ensures.start)) in
    subst (λ w. IsConsistent d w) (sym same) (first-consistent d start c.requires.start)
