use Rattle.std.proofs.Common.{map, fold, refl, sym, ap, ◌∙◌}
use Rattle.std.proofs.lemmas.List.Elements.{All-nil}
use Rattle.std.specs.Option.{option_map, option_to_list}
use Rattle.agent_msg.specs.Messages.{ReadyOf, ready_message}
use Rattle.agent_msg.specs.Records.{IsTidy}
use Rattle.agent_core.specs.Acts.{ready_of, telling}
use Rattle.agent_core.specs.Worlds.{Tell, GoesOn, agent_of, deed_by, with_message}
use Rattle.nego_world.proofs.Acting.{seen, agent-seen, valid-seen, agents-sending, happened}
use Rattle.nego_world.proofs.world.World.tell.Goals as goal

pub tell-ready-requires-clause-valid : goal.tell-ready-requires-clause-valid
tell-ready-requires-clause-valid c =
    let w = c.self.inside in
    valid-seen c.args.d.now w.history.start w.agents w.sent.messages w.history.entries c.requires.diagram c.requires.deterministic c.args.self.now c.self.view_is c.requires.consistent c.args.a.0 c.index.result.now c.requires.known c.index.ensures

pub returns-clause-ok : goal.returns-clause-ok
returns-clause-ok c =
    let d = c.args.d.now in
    let w = c.self.inside in
    let a = c.args.a.0 in
    let agent = agent_of d (seen d w.history.start w.agents w.sent.messages w.history.entries) a in
    let told = c.tell-ready.ensures ∙ ap (ready_of d) (sym (agent-seen d w.history.start w.agents w.sent.messages w.history.entries a c.index.result.now c.index.ensures)) in
    happened d w.history.start w.agents w.sent.messages w.history.entries c.args.self.now c.self.view_is (Tell a) (deed_by a GoesOn (telling d agent)) _ w.history.start (map (λ agent. agent.plain) w.agents) c.put_ready.new.self.messages w.history.entries
    refl refl (agents-sending d w.history.start w.agents w.sent.messages w.history.entries a (map ReadyOf (option_to_list (ready_of d agent))))
    (c.put_ready.ensures ∙ (ap (λ sent. fold with_message sent (map ReadyOf (option_to_list (option_map ready_message c.tell-ready.result)))) c.in_ok-reserve.ensures.messages ∙ ap (λ o. fold with_message w.sent.messages (map ReadyOf (option_to_list o))) told))
    refl refl refl told refl (All-nil IsTidy)
