use Rattle.std.proofs.Common.{ap, ◌∙◌, rules, tests}
use Rattle.std.proofs.lemmas.Iterator.{YieldsList-from_slice}
use Rattle.std.proofs.lemmas.Iterator.Consumers.{YieldsList-from_filter, count_from_yields_List}
use Rattle.std.specs.Option.{is_none}
use Rattle.agent_core.specs.Roomy.{RoomyAgent}
use Rattle.nego_world.specs.Stepping.{finished_count}
use Rattle.nego_world.proofs.Entries.{count-plain}
use Rattle.nego_world.proofs.world.World.finished.Goals as goal

pub returns : goal.returns
returns c =
    let test = λ (g : RoomyAgent). is_none g.plain.at in
    count_from_yields_List c.filter.result c.count.result c.count.ensures.ran
    (YieldsList-from_filter _ test (YieldsList-from_slice c.self.inside.agents cc) c.filter.ensures.closure (λ x r q k. search (rules, tests)))
    ∙ (count-plain c.self.inside.agents ∙ ap finished_count c.self.view_is)
