use Rattle.std.proofs.Common.{sym, subst, ap, IsTrue, ◌∙◌}
use Rattle.nego_base.specs.Members.{is_in, difference}
use Rattle.nego_base.proofs.Members.{member_below}
use Rattle.nego_expr.specs.WorkView.{plain_outcome}
use Rattle.nego_shortcut.proofs.ShortShows.{shortcut_allowed}
use Rattle.nego_reduce.proofs.LeastEntry.{many_outcomes, passed_once, only_guard}
use Rattle.nego_reduce.proofs.shortcuts.takes_shortcut.Goals as goal

pub has-requires : goal.has-requires
has-requires g c = member_below 64 c.args.n.0 c.left.result c.difference.ensures.members (subst (λ ns. IsTrue (is_in c.args.n.0 ns)) (sym c.left.ensures) c.requires.left)

pub returns-then-count_of-ne1-clause-value : goal.returns-then-count_of-ne1-clause-value
returns-then-count_of-ne1-clause-value g c =
    sym (many_outcomes c.args.w.now.plain c.requires.work (plain_outcome c.args.x.now) c.requires.alive c.args.n.0 (λ e. c.if-count_of-ne1.true (c.count_of.ensures ∙ e)))

pub returns-then-not-has-clause-value : goal.returns-then-not-has-clause-value
returns-then-not-has-clause-value g c =
    let new = ap (λ ns. is_in c.args.n.0 (difference ns c.args.x.now.passed)) (sym c.left.ensures) ∙ (ap (is_in c.args.n.0) (sym c.difference.ensures.value) ∙ (sym c.has.ensures.value ∙ c.if-not-has.true)) in
    sym (passed_once c.args.w.now.plain c.requires.work (plain_outcome c.args.x.now) c.requires.alive c.args.n.0 c.requires.left new)

pub returns-clause-value : goal.returns-clause-value
returns-clause-value g c =
    let new = ap (λ ns. is_in c.args.n.0 (difference ns c.args.x.now.passed)) (sym c.left.ensures) ∙ (ap (is_in c.args.n.0) (sym c.difference.ensures.value) ∙ (sym c.has.ensures.value ∙ c.if-not-has.false)) in
    c.enters.ensures.value
    ∙ sym (shortcut_allowed c.args.w.now.plain c.args.x.now.number.0 c.args.n.0 (plain_outcome c.args.x.now) c.requires.alive)
    ∙ sym (only_guard c.args.w.now.plain c.requires.work (plain_outcome c.args.x.now) c.requires.alive c.args.n.0 (sym c.count_of.ensures ∙ c.if-count_of-ne1.false) new)
