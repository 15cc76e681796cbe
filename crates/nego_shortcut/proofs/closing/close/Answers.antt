use Rattle.std.proofs.Common.{◌≡◌, ◌<◌, ◌+◌, ◌==◌, length, sym, ap, ◌∙◌}
use Rattle.std.proofs.lemmas.Result.{err_from_is_err_and}
use Rattle.nego_expr.specs.Work.{outcomes_at}
use Rattle.nego_expr.specs.Use.{Close, closed, after_use}
use Rattle.nego_expr.specs.WorkView.{plain_outcome}
use Rattle.nego_expr.proofs.MadeUses.{refused_room, made_use}
use Rattle.nego_expr.proofs.Searching.{find_all}
use Rattle.nego_shortcut.proofs.CloseKeeps.{Closes, closes_parts, closed-one, closes-one, nodes-closed, closing}
use Rattle.nego_shortcut.proofs.closing.close.Goals as goal
use Rattle.nego_shortcut.proofs.closing.close.Goals.{After-count_of}

-- what the guard says
parts : (c : After-count_of) → Closes c.args.w.now.plain (plain_outcome c.in-Some.x.now)
parts c =
    let work = c.args.w.now.plain in
    let x = plain_outcome c.in-Some.x.now in
    closes_parts work x c.in-Some.ensures.found (sym (closes-one work x c.in-Some.ensures.found) ∙ sym c.in-Some.ensures.allowed)

-- how many nodes there are after the use
nodes : (c : After-count_of) → length (after_use c.args.w.now.plain Close).nodes ≡ length c.args.w.now.plain.nodes + c.count_of.result
nodes c =
    let work = c.args.w.now.plain in
    let x = plain_outcome c.in-Some.x.now in
    ap (λ w. length w.nodes) (closed-one work x c.in-Some.ensures.found) ∙ (nodes-closed work x (parts c).apart ∙ ap (λ n. length work.nodes + n) (sym (c.count_of.ensures ∙ ap (λ n. length (outcomes_at work n)) c.last.ensures)))

pub returns-in_err-room : goal.returns-in_err-room
returns-in_err-room c =
    let p = err_from_is_err_and c.from_residual.result c.from_residual.ensures.1 in
    let b = (goal.at.returns-in_err-room c).After-count_of in
    rw (p.1, p.2) (refused_room Close c.args.w.now.plain c.room.new.self.plain c.count_of.result c.requires.work (sym c.in-Some.ensures.allowed) (nodes b)
    c.in_err-room.field-0.0 c.in_err-room.ensures.never c.in_err-room.ensures.nodes c.in_err-room.ensures.plain)

pub leave_last-requires-clause-there : goal.leave_last-requires-clause-there
leave_last-requires-clause-there c =
    let work = c.args.w.now.plain in
    rw c.in_ok-room.ensures.plain (find_all (λ z. z.node < length work.nodes) (λ z. z.atom == work.first) work.outcomes (plain_outcome c.in-Some.x.now) c.in-Some.ensures.found c.requires.work.nodes_there)

pub returns : goal.returns
returns c =
    let work = c.args.w.now.plain in
    let x = plain_outcome c.in-Some.x.now in
    let b = (goal.at.returns c).After-count_of in
    made_use Close work c.leave_last.new.w.plain c.count_of.result c.requires.work (sym c.in-Some.ensures.allowed) (nodes b) closing (λ l. let e = c.in_ok-room.ensures.nodes.1 l in cc)
    (c.leave_last.ensures ∙ (ap (λ w. closed w x) c.in_ok-room.ensures.plain ∙ sym (closed-one work x c.in-Some.ensures.found)))
