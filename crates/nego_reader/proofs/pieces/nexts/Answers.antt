use Rattle.std.proofs.Common.{[], ◌∷◌, refl, map}
use Rattle.std.proofs.lemmas.Result.{err_from_is_err_and}
use Rattle.nego_reader.specs.Rows.{Next, Out, Atom, First, NextRow}
use Rattle.nego_reader.specs.Reading.{next_in}
use Rattle.nego_reader.proofs.RowKinds.{next_line}
use Rattle.nego_reader.proofs.Walks.{more, stops, over}
use Rattle.nego_reader.proofs.pieces.nexts.Goals as goal

pub returns-in_err-next_in : goal.returns-in_err-next_in
returns-in_err-next_in c =
    let p = err_from_is_err_and c.from_residual.result c.from_residual.ensures.1 in
    rw (p.1, p.2) (stops NextRow next_in Next (Out ∷ Atom ∷ First ∷ []) next_line c.in_err-next_in.field-0.0 c.args.lines.now (map NextRow c.loop-line.nexts) c.loop-line.rest.now c.in-Some.line.now c.in-Some.after.now c.in-Some.ensures.parts c.in-Some.ensures.found c.in_err-next_in.ensures c.loop-line.invariant)

pub loop-line-preserved : goal.loop-line-preserved
loop-line-preserved c =
    rw c.in_ok-push.ensures.ok (more NextRow next_in Next (Out ∷ Atom ∷ First ∷ []) next_line refl c.args.lines.now c.loop-line.nexts c.loop-line.rest.now c.in-Some.line.now c.in-Some.after.now c.in_ok-next_in.field-0 c.in-Some.ensures.parts c.in-Some.ensures.found c.in_ok-next_in.ensures c.in-Some.ensures.behind c.loop-line.invariant)

pub returns : goal.returns
returns c = over Next Out (Atom ∷ First ∷ []) (Next ∷ Out ∷ Atom ∷ First ∷ []) c.args.lines.now (map NextRow c.loop-line.nexts) c.loop-line.rest.now c.in_default.ensures.none c.loop-line.invariant
