use Rattle.std.proofs.Common.{◌≤◌, IsTrue, map, length, sym, subst, ap, ap₂, ◌∙◌, arith}
use Rattle.nego_base.specs.Members.{is_in}
use Rattle.nego_expr.specs.Work.{PlainWork, outcomes_at}
use Rattle.nego_expr.specs.Edits.{without_atom}
use Rattle.nego_shortcut.proofs.CloseKeeps.{finals-left, last_left}
use Rattle.nego_shortcut.proofs.closing.leave_last.Goals as goal

pub set_first-requires : goal.set_first-requires
set_first-requires c =
    let work = c.args.w.now.plain in
    let left : IsTrue (is_in work.last (map (λ atom. atom.number) (without_atom c.first-first.result.0 work).atoms)) =
    subst (λ n. IsTrue (is_in work.last (map (λ atom. atom.number) (without_atom n work).atoms))) (sym c.first-first.ensures) (last_left work c.requires.work c.requires.apart) in
    record { left = rw (c.drop_atom.ensures.plain, c.last-last.ensures) left }

pub then_each-requires-clause-spare : goal.then_each-requires-clause-spare
then_each-requires-clause-spare c =
    let work = c.args.w.now.plain in
    let first : PlainWork → PlainWork = λ w. record w { first = c.last-last.result.0 } in
    let same = ap₂ (λ (w : PlainWork) n. length (outcomes_at w n)) (c.set_first.ensures.plain ∙ ap first (c.drop_atom.ensures.plain ∙ ap (λ n. without_atom n work) c.first-first.ensures)) c.last-last.ensures in
    let left = ap length (finals-left work c.requires.apart) in
    let room : length (outcomes_at work work.last) ≤ c.args.w.now.spare_nodes = c.requires.spare in
    omega (arith, same, left, room, c.drop_atom.ensures.kept.0, c.set_first.ensures.kept.0)
