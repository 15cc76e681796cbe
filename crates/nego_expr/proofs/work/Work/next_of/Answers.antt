use Rattle.std.proofs.Common.{◌<◌, ◌≤◌, map, option_map, refl, sym, ap, ◌∙◌, arith}
use Rattle.std.proofs.lemmas.List.Elements.{All-weaker}
use Rattle.nego_expr.specs.WorkView.{plain_outcome}
use Rattle.nego_expr.proofs.MembersOf.{members-bare, none-next, some-next, found_if}
use Rattle.nego_expr.proofs.work.Work.next_of.Goals as goal

pub next_of-requires : goal.next_of-requires
next_of-requires c = members-bare (map plain_outcome c.self.inside.outcomes.items) c.self.inside.members.items c.self.invariant.members c.args.n.0 c.args.from.0

pub returns-in_err-o-clause-value : goal.returns-in_err-o-clause-value
returns-in_err-o-clause-value c =
    let w = c.self.inside in
    ap (option_map (λ x. plain_outcome x.now)) c.from_residual.ensures
    ∙ rw (← c.self.view_is) (sym (none-next (map plain_outcome w.outcomes.items) w.members.items c.self.invariant.members c.args.n.0 c.args.from.0 c.in_err-o.ensures.none))

pub returns-clause-value : goal.returns-clause-value
returns-clause-value c =
    let w = c.self.inside in
    c.outcome.ensures
    ∙ rw (← c.self.view_is) (some-next (map plain_outcome w.outcomes.items) w.members.items c.self.invariant.members c.args.n.0 c.args.from.0 c.self.invariant.alive.rising c.in_ok-o.o.0 c.in_ok-o.ensures.found)

pub returns-clause-bound : goal.returns-clause-bound
returns-clause-bound c =
    let w = c.self.inside in
    let few : w.numbers ≤ 4294967295 = c.self.invariant.few_numbers in
    found_if (λ x. plain_outcome x.now) (λ x. x.number < 4294967295) (map plain_outcome w.outcomes.items) c.in_ok-o.o.0 c.outcome.result
    (c.outcome.ensures ∙ rw (← c.self.view_is) refl)
    (All-weaker (λ x. x.number < w.numbers) (λ x. x.number < 4294967295) (λ x h. let l : x.number < w.numbers = h in omega (arith, l, few)) (map plain_outcome w.outcomes.items) c.self.invariant.alive.used)
