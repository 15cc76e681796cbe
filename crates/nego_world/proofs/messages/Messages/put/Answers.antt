use Rattle.std.proofs.Common.{◌≡◌, map, IfOk, ◌∙◌, ap, subst}
use Rattle.indexmap.specs.IndexSet.{insert_key}
use Rattle.agent_msg.specs.Messages.{message}
use Rattle.agent_core.specs.Worlds.{with_message}
use Rattle.nego_world.proofs.Equal.{equal, put-plain}
use Rattle.nego_world.proofs.messages.Messages.put.Goals as goal

pub returns-clause-messages : goal.returns-clause-messages
returns-clause-messages c =
    let before = c.self.inside.messages.keys in
    let put = subst (λ r. IfOk r (λ _. c.insert.new.self.keys ≡ insert_key equal before c.args.m)) c.unwrap.ensures c.insert.ensures.keys in
    ap (map message) put ∙ (put-plain before c.args.m ∙ ap (λ w. with_message w.messages (message c.args.m)) c.self.view_is)
