use Rattle.std.proofs.Common.{[], ◌∷◌, map}
use Rattle.std.proofs.lemmas.Result.{err_from_is_err_and}
use Rattle.nego_reader.specs.Rows.{Atom, Out, Case, Next, First, OutRow, CaseRow, NextRow, out_rows}
use Rattle.nego_reader.specs.Reading.{named_in}
use Rattle.nego_reader.proofs.RowKinds.{out_line}
use Rattle.nego_reader.proofs.Walks.{one, one_fails, then, then_fails}
use Rattle.nego_reader.proofs.pieces.outcome.Goals as goal

pub returns-in_err-name-clause-reads : goal.returns-in_err-name-clause-reads
returns-in_err-name-clause-reads c =
    let p = err_from_is_err_and c.from_residual.result c.from_residual.ensures.1 in
    rw (p.1, p.2) (one_fails OutRow named_in Out (Atom ∷ First ∷ []) out_line c.in_err-name.field-0.0 c.args.line.now c.args.after.now c.requires.begins c.in_err-name.ensures)

pub returns-in_err-cases-clause-reads : goal.returns-in_err-cases-clause-reads
returns-in_err-cases-clause-reads c =
    let p = err_from_is_err_and c.from_residual-in_err-cases.result c.from_residual-in_err-cases.ensures.1 in
    let first = one OutRow named_in Out (Atom ∷ First ∷ []) out_line c.args.line.now c.args.after.now c.in_ok-name.name c.requires.begins c.in_ok-name.ensures c.requires.behind in
    rw (p.1, p.2) (then_fails c.in_err-cases.field-0.0 (Out ∷ Atom ∷ First ∷ []) (c.args.line.now ∷ c.args.after.now) (OutRow c.in_ok-name.name ∷ []) (Case ∷ Next ∷ Out ∷ Atom ∷ First ∷ []) c.args.after.now first c.in_err-cases.ensures)

pub returns-in_err-nexts-clause-reads : goal.returns-in_err-nexts-clause-reads
returns-in_err-nexts-clause-reads c =
    let p = err_from_is_err_and c.from_residual-in_err-nexts.result c.from_residual-in_err-nexts.ensures.1 in
    let lines = c.args.line.now ∷ c.args.after.now in
    let first = one OutRow named_in Out (Atom ∷ First ∷ []) out_line c.args.line.now c.args.after.now c.in_ok-name.name c.requires.begins c.in_ok-name.ensures c.requires.behind in
    let second = then (Out ∷ Atom ∷ First ∷ []) lines (OutRow c.in_ok-name.name ∷ []) (Case ∷ Next ∷ Out ∷ Atom ∷ First ∷ []) c.args.after.now (map CaseRow c.in_ok-cases.cases) (Next ∷ Out ∷ Atom ∷ First ∷ []) c.in_ok-cases.rest.now first c.in_ok-cases.ensures in
    rw (p.1, p.2) (then_fails c.in_err-nexts.field-0.0 (Out ∷ Atom ∷ First ∷ []) lines (OutRow c.in_ok-name.name ∷ map CaseRow c.in_ok-cases.cases) (Next ∷ Out ∷ Atom ∷ First ∷ []) c.in_ok-cases.rest.now second c.in_err-nexts.ensures)

pub returns-clause-reads : goal.returns-clause-reads
unfolding out_rows
returns-clause-reads c =
    let lines = c.args.line.now ∷ c.args.after.now in
    let first = one OutRow named_in Out (Atom ∷ First ∷ []) out_line c.args.line.now c.args.after.now c.in_ok-name.name c.requires.begins c.in_ok-name.ensures c.requires.behind in
    let second = then (Out ∷ Atom ∷ First ∷ []) lines (OutRow c.in_ok-name.name ∷ []) (Case ∷ Next ∷ Out ∷ Atom ∷ First ∷ []) c.args.after.now (map CaseRow c.in_ok-cases.cases) (Next ∷ Out ∷ Atom ∷ First ∷ []) c.in_ok-cases.rest.now first c.in_ok-cases.ensures in
    then (Out ∷ Atom ∷ First ∷ []) lines (OutRow c.in_ok-name.name ∷ map CaseRow c.in_ok-cases.cases) (Next ∷ Out ∷ Atom ∷ First ∷ []) c.in_ok-cases.rest.now (map NextRow c.in_ok-nexts.nexts) (Out ∷ Atom ∷ First ∷ []) c.in_ok-nexts.rest.now second c.in_ok-nexts.ensures
