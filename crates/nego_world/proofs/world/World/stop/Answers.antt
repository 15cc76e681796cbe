use Rattle.std.proofs.Common.{map, slice_set, refl}
use Rattle.std.proofs.lemmas.List.Elements.{All-nil}
use Rattle.agent_msg.specs.Records.{IsTidy}
use Rattle.agent_core.specs.Worlds.{Stop, GoesOn, deed_by, stopping}
use Rattle.nego_world.proofs.Acting.{agents-with, happened}
use Rattle.nego_world.proofs.world.World.stop.Goals as goal

pub returns : goal.returns
returns c = λ diagram.
    let w = c.self.inside in
    happened diagram w.history.start w.agents w.sent.messages w.history.entries c.args.self.now c.self.view_is (Stop c.args.a.0) (deed_by c.args.a.0 GoesOn stopping) _ w.history.start (map (λ agent. agent.plain) (slice_set w.agents c.args.a.0 c.forget.new.self)) w.sent.messages w.history.entries
    refl refl (agents-with diagram w.history.start w.agents w.sent.messages w.history.entries c.args.a.0 c.index_mut.result.now c.forget.new.self stopping c.index_mut.ensures.value c.forget.ensures.agent)
    refl refl refl refl refl refl (All-nil IsTidy)
