use Rattle.std.proofs.Common.{Some, Ok, ap, ◌∙◌}
use Rattle.std.specs.Result.{result_ok}
use Rattle.nego_base.specs.Results.{◌>>=◌}
use Rattle.agent_core.specs.Deciding.{known_joint, reduced}
use Rattle.agent_core.proofs.agent.Agent.choice_of.Goals as goal

pub returns-in-Ok : goal.returns-in-Ok
returns-in-Ok c =
    let d = c.args.d.now in
    let agent = c.args.self.now.plain in
    ap (λ x. Some x) (c.pick.ensures.choice ∙ ap (λ j. reduced d c.in-Ok.n.0 j c.args.c) c.known_joint.ensures.value) ∙ ap (λ r. result_ok (r >>= λ n. Ok (reduced d n (known_joint d agent n) c.args.c))) c.in-Ok.ensures
