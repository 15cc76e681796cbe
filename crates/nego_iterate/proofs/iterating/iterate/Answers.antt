use Rattle.std.proofs.Common.{◌≡◌, ◌+◌, length, Some, sym, ap, ◌∙◌}
use Rattle.std.proofs.lemmas.Result.{err_from_is_err_and}
use Rattle.nego_expr.specs.Work.{outcome_at}
use Rattle.nego_expr.specs.Use.{Iterate, iterated, after_use}
use Rattle.nego_expr.specs.WorkView.{plain_outcome}
use Rattle.nego_expr.proofs.EditCalls.{found_itself, found_copy}
use Rattle.nego_expr.proofs.MadeUses.{refused_room, made_use}
use Rattle.nego_iterate.proofs.IterateKeeps.{iterating, iterated-one, nodes-iterated}
use Rattle.nego_iterate.proofs.iterating.iterate.Goals as goal
use Rattle.nego_iterate.proofs.iterating.iterate.Goals.{After-count_of}

-- the copy is found
found : (c : After-count_of) → outcome_at c.args.w.now.plain c.args.o.0 ≡ Some (plain_outcome c.copy-x.result)
found c = c.in-Some.ensures.found ∙ ap Some (sym c.copy-x.ensures)

-- how many nodes there are after the use
nodes : (c : After-count_of) → length (after_use c.args.w.now.plain (Iterate c.args.o.0)).nodes ≡ length c.args.w.now.plain.nodes + c.count_of.result
nodes c =
    let work = c.args.w.now.plain in
    let x = plain_outcome c.copy-x.result in
    ap (λ w. length w.nodes) (iterated-one work c.args.o.0 x (found c))
    ∙ (nodes-iterated work x c.requires.work (found_itself work c.args.o.0 x (found c)) ∙ ap (λ n. length work.nodes + n) (sym c.count_of.ensures))

pub returns-in_err-room : goal.returns-in_err-room
returns-in_err-room c =
    let p = err_from_is_err_and c.from_residual.result c.from_residual.ensures.1 in
    let b = (goal.at.returns-in_err-room c).After-count_of in
    rw (p.1, p.2) (refused_room (Iterate c.args.o.0) c.args.w.now.plain c.room.new.self.plain c.count_of.result c.requires.work (sym c.in-Some.ensures.allowed) (nodes b)
    c.in_err-room.field-0.0 c.in_err-room.ensures.never c.in_err-room.ensures.nodes c.in_err-room.ensures.plain)

pub put_before_others-requires-clause-alive : goal.put_before_others-requires-clause-alive
put_before_others-requires-clause-alive c =
    found_copy c.args.w.now.plain c.room.new.self.plain c.args.o.0 (plain_outcome c.in-Some.x.now) (plain_outcome c.copy-x.result) c.in_ok-room.ensures.plain c.copy-x.ensures c.in-Some.ensures.found

pub returns : goal.returns
returns c =
    let work = c.args.w.now.plain in
    let b = (goal.at.returns c).After-count_of in
    made_use (Iterate c.args.o.0) work c.put_before_others.new.w.plain c.count_of.result c.requires.work (sym c.in-Some.ensures.allowed) (nodes b) (iterating c.args.o.0) (λ l. let e = c.in_ok-room.ensures.nodes.1 l in cc)
    (c.put_before_others.ensures ∙ (ap (λ w. iterated w (plain_outcome c.copy-x.result)) c.in_ok-room.ensures.plain ∙ sym (iterated-one work c.args.o.0 (plain_outcome c.copy-x.result) (found b))))
