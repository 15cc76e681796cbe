use Rattle.std.proofs.Common.{◌≡◌, ◌<◌, ◌≤◌, ℕ, ◌+◌, ◌∷◌, false, List, sym, subst, ap, ◌∙◌, arith}
use Rattle.nego_expr.specs.Work.{WorkOutcome, PlainWork}
use Rattle.nego_expr.specs.WorkView.{plain_outcome}
use Rattle.nego_shortcut.specs.Passing.{MayPass, passed_one}
use Rattle.nego_shortcut.proofs.Passed.{IsUpTo, next_of, may_pass_next, room_next, number_next, passed, up_to_end}
use Rattle.nego_shortcut.proofs.ShortWorks.{IsEntry, entry_from}
use Rattle.nego_shortcut.proofs.through.go_through.Goals as goal
use Rattle.nego_shortcut.proofs.through.go_through.Goals.{After-copy-y}

module _ (c : After-copy-y) where
  abbrev from : PlainWork
  from = c.args.w.now.plain

  abbrev x : WorkOutcome
  x = plain_outcome c.args.x.now

  abbrev n : ℕ
  n = c.args.n.0

  abbrev y : WorkOutcome
  y = plain_outcome c.in-Some.y.now

  entry : IsEntry from x n
  entry = entry_from from x n c.requires.alive c.requires.enters

  next : (rest : List WorkOutcome) × (c.loop-y.invariant.rest ≡ y ∷ rest)
  next = next_of from n x c.requires.work entry c.loop-y.from.0 c.loop-y.w.plain c.loop-y.is_first c.loop-y.w.spare_nodes c.loop-y.w.spare_outcomes c.loop-y.invariant y (sym c.in-Some.ensures.value)

  may_pass : MayPass c.loop-y.w.plain n x y
  may_pass = may_pass_next from n x c.requires.work entry c.loop-y.from.0 c.loop-y.w.plain c.loop-y.is_first c.loop-y.w.spare_nodes c.loop-y.w.spare_outcomes c.loop-y.invariant y next.0 next.1

  room : (0 < c.loop-y.w.spare_nodes) × (c.loop-y.is_first ≡ false → 0 < c.loop-y.w.spare_outcomes)
  room = room_next from n x c.requires.work entry c.loop-y.from.0 c.loop-y.w.plain c.loop-y.is_first c.loop-y.w.spare_nodes c.loop-y.w.spare_outcomes c.loop-y.invariant y next.0 next.1

  number : c.loop-y.from.0 ≤ y.number
  number = number_next from n x c.requires.work entry c.loop-y.from.0 c.loop-y.w.plain c.loop-y.is_first c.loop-y.w.spare_nodes c.loop-y.w.spare_outcomes c.loop-y.invariant y next.0 next.1

pub pass-requires-clause-pass : goal.pass-requires-clause-pass
pass-requires-clause-pass c =
    let b = (goal.at.pass-requires-clause-pass c).After-copy-y in
    subst (MayPass c.loop-y.w.plain c.args.n.0 (plain_outcome c.args.x.now)) (sym c.copy-y.ensures) (may_pass b)

pub pass-requires-clause-spare : goal.pass-requires-clause-spare
pass-requires-clause-spare c = (room (goal.at.pass-requires-clause-spare c).After-copy-y).0

pub pass-requires-clause-number : goal.pass-requires-clause-number
pass-requires-clause-number c = (room (goal.at.pass-requires-clause-number c).After-copy-y).1

pub loop-y-smaller : goal.loop-y-smaller
loop-y-smaller c =
    let b = (goal.at.loop-y-smaller c).After-copy-y in
    let same : c.copy-y.result.number.0 ≡ (y b).number = ap (λ (z : WorkOutcome). z.number) c.copy-y.ensures in
    let bound : (y b).number < 4294967295 = c.in-Some.ensures.bound in
    omega (arith, same, bound, number b)

pub loop-y-preserved : goal.loop-y-preserved
loop-y-preserved c =
    let b = (goal.at.loop-y-preserved c).After-copy-y in
    subst (λ (z : WorkOutcome). IsUpTo (from b) (n b) (x b) (z.number + 1) c.pass.new.w.plain false c.pass.new.w.spare_nodes c.pass.new.w.spare_outcomes) (sym c.copy-y.ensures)
    (subst (λ v. IsUpTo (from b) (n b) (x b) ((y b).number + 1) v false c.pass.new.w.spare_nodes c.pass.new.w.spare_outcomes)
    (sym (c.pass.ensures.plain ∙ ap (λ z. passed_one c.loop-y.w.plain (n b) (x b) z c.loop-y.is_first) c.copy-y.ensures))
    (passed (from b) (n b) (x b) c.requires.work (entry b) c.loop-y.from.0 c.loop-y.w.plain c.loop-y.is_first c.loop-y.w.spare_nodes c.loop-y.w.spare_outcomes c.loop-y.invariant (y b) (next b).0 (next b).1
    c.pass.new.w.spare_nodes c.pass.new.w.spare_outcomes c.pass.ensures.nodes c.pass.ensures.outcomes))

pub returns : goal.returns
returns c =
    let from = c.args.w.now.plain in
    let x = plain_outcome c.args.x.now in
    let n = c.args.n.0 in
    up_to_end from n x c.requires.work (entry_from from x n c.requires.alive c.requires.enters) c.loop-y.from.0 c.loop-y.w.plain c.loop-y.is_first c.loop-y.w.spare_nodes c.loop-y.w.spare_outcomes c.loop-y.invariant
    (sym c.in_default.ensures.value)
