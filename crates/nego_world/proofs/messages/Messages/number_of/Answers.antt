use Rattle.std.proofs.Common.{IfNone, sym, ap, subst, ◌∙◌, slice_get}
use Rattle.std.specs.List.{Contains}
use Rattle.std.specs.Option.{is_some}
use Rattle.agent_msg.specs.Messages.{message}
use Rattle.nego_world.proofs.Equal.{number-there, number-absent}
use Rattle.nego_world.proofs.messages.Messages.number_of.Goals as goal

pub returns-clause-some : goal.returns-clause-some
returns-clause-some c = ap (λ w. slice_get w.messages c.in_ok-i.i) (sym c.self.view_is) ∙ number-there c.self.inside.messages.keys c.args.m.now c.in_ok-i.i (sym c.in_ok-i.ensures.index)

pub returns-in_err-i-clause-none : goal.returns-in_err-i-clause-none
returns-in_err-i-clause-none c =
    subst (λ o. IfNone o (¬ Contains c.args.self.now.messages (message c.args.m.now))) (sym c.from_residual.ensures)
    (subst (λ w. ¬ Contains w.messages (message c.args.m.now)) c.self.view_is (number-absent c.self.inside.messages.keys c.args.m.now (sym c.get_index_of.ensures.found ∙ ap is_some c.in_err-i.was)))
