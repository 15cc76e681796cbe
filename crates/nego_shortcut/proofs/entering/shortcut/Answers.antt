use Rattle.std.proofs.Common.{◌≡◌, ◌+◌, length, Some, IsTrue, sym, ap, ◌∙◌}
use Rattle.std.proofs.lemmas.Result.{err_from_is_err_and}
use Rattle.nego_expr.specs.Work.{outcome_at}
use Rattle.nego_expr.specs.Use.{Shortcut, enters, entered, after_use}
use Rattle.nego_expr.specs.WorkView.{plain_outcome}
use Rattle.nego_expr.proofs.EditCalls.{found_itself, found_copy}
use Rattle.nego_expr.proofs.MadeUses.{refused_room, made_use}
use Rattle.nego_shortcut.proofs.ShortShows.{shortcut_is, shortcut_nodes, shortcut_allowed}
use Rattle.nego_shortcut.proofs.ShortcutKeeps.{shortcuts_keep}
use Rattle.nego_shortcut.proofs.entering.shortcut.Goals as goal
use Rattle.nego_shortcut.proofs.entering.shortcut.Goals.{After-count_of-count}

-- the copy is found
found : (c : After-count_of-count) → outcome_at c.args.w.now.plain c.args.o.0 ≡ Some (plain_outcome c.copy-x.result)
found c = c.in-Some.ensures.found ∙ ap Some (sym c.copy-x.ensures)

-- it enters the atom
entering : (c : After-count_of-count) → IsTrue (enters c.args.w.now.plain (plain_outcome c.copy-x.result) c.args.n.0)
entering c = sym (shortcut_allowed c.args.w.now.plain c.args.o.0 c.args.n.0 (plain_outcome c.copy-x.result) (found c)) ∙ sym c.in-Some.ensures.allowed

-- how many nodes there are after the use
nodes : (c : After-count_of-count) → length (after_use c.args.w.now.plain (Shortcut c.args.o.0 c.args.n.0)).nodes ≡ length c.args.w.now.plain.nodes + c.count_of-count.result
nodes c =
    let work = c.args.w.now.plain in
    let x = plain_outcome c.copy-x.result in
    ap (λ w. length w.nodes) (shortcut_is work c.args.o.0 c.args.n.0 x (found c))
    ∙ (shortcut_nodes work c.args.n.0 x c.requires.work (found_itself work c.args.o.0 x (found c)) (entering c) ∙ ap (λ n. length work.nodes + n) (sym c.count_of-count.ensures))

pub returns-in_err-room : goal.returns-in_err-room
returns-in_err-room c =
    let p = err_from_is_err_and c.from_residual.result c.from_residual.ensures.1 in
    let b = (goal.at.returns-in_err-room c).After-count_of-count in
    rw (p.1, p.2) (refused_room (Shortcut c.args.o.0 c.args.n.0) c.args.w.now.plain c.room.new.self.plain c.count_of-count.result c.requires.work (sym c.in-Some.ensures.allowed) (nodes b)
    c.in_err-room.field-0.0 c.in_err-room.ensures.never c.in_err-room.ensures.nodes c.in_err-room.ensures.plain)

pub enter-requires-clause-alive : goal.enter-requires-clause-alive
enter-requires-clause-alive c =
    found_copy c.args.w.now.plain c.room.new.self.plain c.args.o.0 (plain_outcome c.in-Some.x.now) (plain_outcome c.copy-x.result) c.in_ok-room.ensures.plain c.copy-x.ensures c.in-Some.ensures.found

pub enter-requires-clause-enters : goal.enter-requires-clause-enters
enter-requires-clause-enters c =
    rw c.in_ok-room.ensures.plain (entering (goal.at.enter-requires-clause-enters c).After-count_of-count)

pub returns : goal.returns
returns c =
    let work = c.args.w.now.plain in
    let b = (goal.at.returns c).After-count_of-count in
    made_use (Shortcut c.args.o.0 c.args.n.0) work c.enter.new.w.plain c.count_of-count.result c.requires.work (sym c.in-Some.ensures.allowed) (nodes b) (shortcuts_keep c.args.o.0 c.args.n.0) (λ l. let e = c.in_ok-room.ensures.nodes.1 l in cc)
    (c.enter.ensures ∙ (ap (λ w. entered w (plain_outcome c.copy-x.result) c.args.n.0) c.in_ok-room.ensures.plain ∙ sym (shortcut_is work c.args.o.0 c.args.n.0 (plain_outcome c.copy-x.result) (found b))))
