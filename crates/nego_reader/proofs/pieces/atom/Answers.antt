use Rattle.std.proofs.Common.{List, [], ◌∷◌}
use Rattle.std.specs.List.{flat_map}
use Rattle.std.proofs.lemmas.Result.{err_from_is_err_and}
use Rattle.nego_base.specs.declared.line.Word.{Word}
use Rattle.nego_reader.specs.Rows.{Atom, Out, First, out_rows, atom_rows}
use Rattle.nego_reader.specs.Reading.{names_in}
use Rattle.nego_reader.proofs.RowKinds.{atom_row, atom_line}
use Rattle.nego_reader.proofs.Walks.{one, one_fails, then, then_fails}
use Rattle.nego_reader.proofs.pieces.atom.Goals as goal

pub returns-in_err-name-clause-reads : goal.returns-in_err-name-clause-reads
returns-in_err-name-clause-reads c =
    let p = err_from_is_err_and c.from_residual.result c.from_residual.ensures.1 in
    rw (p.1, p.2) (one_fails atom_row (names_in 2) Atom (First ∷ []) atom_line c.in_err-name.field-0.0 c.args.line.now c.args.after.now c.requires.begins c.in_err-name.ensures)

pub returns-in_err-outs-clause-reads : goal.returns-in_err-outs-clause-reads
returns-in_err-outs-clause-reads c =
    let p = err_from_is_err_and c.from_residual-in_err-outs.result c.from_residual-in_err-outs.ensures.1 in
    let heading : Word × List Word = (c.in_ok-name.name, c.in_ok-name.parties) in
    let first = one atom_row (names_in 2) Atom (First ∷ []) atom_line c.args.line.now c.args.after.now heading c.requires.begins c.in_ok-name.ensures c.requires.behind in
    rw (p.1, p.2) (then_fails c.in_err-outs.field-0.0 (Atom ∷ First ∷ []) (c.args.line.now ∷ c.args.after.now) (atom_row heading ∷ []) (Out ∷ Atom ∷ First ∷ []) c.args.after.now first c.in_err-outs.ensures)

pub returns-clause-reads : goal.returns-clause-reads
unfolding atom_rows
returns-clause-reads c =
    let heading : Word × List Word = (c.in_ok-name.name, c.in_ok-name.parties) in
    let first = one atom_row (names_in 2) Atom (First ∷ []) atom_line c.args.line.now c.args.after.now heading c.requires.begins c.in_ok-name.ensures c.requires.behind in
    then (Atom ∷ First ∷ []) (c.args.line.now ∷ c.args.after.now) (atom_row heading ∷ []) (Out ∷ Atom ∷ First ∷ []) c.args.after.now (flat_map out_rows c.in_ok-outs.outs) (Atom ∷ First ∷ []) c.in_ok-outs.rest.now first c.in_ok-outs.ensures
