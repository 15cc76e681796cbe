use Rattle.std.proofs.Common.{◌≢◌, ◌∙◌, [], IsTrue, ℕ, List, Err, sym, subst, ap}
use Rattle.std.specs.List.{All}
use Rattle.nego_data.specs.Data.{data_count}
use Rattle.nego_data.specs.Locality.{ActsOn}
use Rattle.nego_data.specs.declared.making.TableFault.{TableFault}
use Rattle.nego_data.specs.Makers.{MakerState}
use Rattle.nego_data.specs.Tables.{IsTable, is_related}
use Rattle.nego_data.specs.Cases.{rows_of}
use Rattle.nego_data.specs.CaseForm.{HasTableFault, NamesOnly, first_uncovered, named_uncovered}
use Rattle.nego_data.specs.Parts.{part_sizes, widened}
use Rattle.nego_data.proofs.CaseRelations.{rows_of-acts}
use Rattle.nego_data.proofs.Tables.{rows_of-table}
use Rattle.nego_data.proofs.Makers.{seen-part, seen-sizes}
use Rattle.nego_data.proofs.PartLaws.{widened-rows, covered-from_part}
use Rattle.nego_data.proofs.Uncovered.{covered-none, rows_of-total, fault-named, fault-is}
use Rattle.nego_data.proofs.table_maker.TableMaker.table.Goals as goal

pub widened-requires : goal.widened-requires
widened-requires c =
    let is = c.self.invariant in
    let rows = c.in-Ok.ensures.rows ∙ ap (λ p. rows_of p c.args.cases.now) (sym (seen-part c.self.inside.parties c.self.inside.sizes c.self.inside.part c.self.inside.values c.self.inside.known c.self.inside.offsets is c.args.self.now (c.self.view_is ∙ c.part_rows.ensures.same))) in
    record {
      sizes = is.sizes;
      part_is = is.part_is;
      rows = subst (IsTable (data_count c.self.inside.part)) (sym rows) (rows_of-table c.self.inside.part c.args.cases.now);
    }

pub returns-in-Ok-clause-rows : goal.returns-in-Ok-clause-rows
returns-in-Ok-clause-rows c =
    let inside = c.self.inside in
    let maker = c.args.self.now in
    let seen = c.self.view_is ∙ c.part_rows.ensures.same in
    c.widened.ensures
    ∙ ap (widened inside.parties inside.sizes) c.in-Ok.ensures.rows
    ∙ ap (λ (m : MakerState). widened m.parties m.sizes (rows_of (part_sizes maker.parties maker.sizes) c.args.cases.now)) seen
    ∙ widened-rows maker.parties maker.sizes c.args.cases.now (seen-sizes inside.parties inside.sizes inside.part inside.values inside.known inside.offsets c.self.invariant maker seen) c.requires.named

pub returns-in-Ok-clause-table : goal.returns-in-Ok-clause-table
returns-in-Ok-clause-table c = subst (IsTable (data_count c.args.self.now.sizes)) (sym (returns-in-Ok-clause-rows c)) (rows_of-table c.args.self.now.sizes c.args.cases.now)

pub returns-in-Ok-clause-acts : goal.returns-in-Ok-clause-acts
returns-in-Ok-clause-acts c =
    subst (λ table. ActsOn c.args.self.now.sizes c.args.self.now.parties (λ d e. IsTrue (is_related table d e))) (sym (returns-in-Ok-clause-rows c))
    (rows_of-acts c.args.self.now.sizes c.args.self.now.parties c.args.cases.now c.requires.named)

pub returns-in-Ok-clause-covered : goal.returns-in-Ok-clause-covered
returns-in-Ok-clause-covered c =
    let inside = c.self.inside in
    covered-from_part c.args.self.now.parties c.args.self.now.sizes c.args.cases.now
    (seen-sizes inside.parties inside.sizes inside.part inside.values inside.known inside.offsets c.self.invariant c.args.self.now (c.self.view_is ∙ c.part_rows.ensures.same)) c.requires.named
    c.in-Ok.ensures.covered

pub returns-in-Ok-clause-uncovered : goal.returns-in-Ok-clause-uncovered
returns-in-Ok-clause-uncovered c = sym (covered-none c.args.self.now.sizes c.args.cases.now (returns-in-Ok-clause-covered c))

pub returns-in-Ok-clause-total : goal.returns-in-Ok-clause-total
returns-in-Ok-clause-total c =
    subst (All (λ row. row ≢ [])) (sym (returns-in-Ok-clause-rows c))
    (rows_of-total c.args.self.now.sizes c.args.cases.now c.requires.fits (returns-in-Ok-clause-covered c))

pub fault-requires-clause-named : goal.fault-requires-clause-named
fault-requires-clause-named c = subst (λ (m : MakerState). All (NamesOnly m.parties) c.args.cases.now) (sym c.part_rows.ensures.same) c.requires.named

pub returns-in-Err-clause-uncovered : goal.returns-in-Err-clause-uncovered
returns-in-Err-clause-uncovered c =
    ap (λ (why : TableFault). named_uncovered {T = List (List ℕ)} (Err why)) c.fault.ensures
    ∙ fault-named (List (List ℕ)) (first_uncovered c.part_rows.new.self.sizes c.args.cases.now)
    ∙ ap (λ (m : MakerState). first_uncovered m.sizes c.args.cases.now) c.part_rows.ensures.same

pub returns-in-Err-clause-err : goal.returns-in-Err-clause-err
returns-in-Err-clause-err c =
    subst (HasTableFault c.args.self.now.sizes c.args.cases.now) (sym c.fault.ensures)
    (fault-is c.args.self.now.sizes c.args.cases.now (first_uncovered c.part_rows.new.self.sizes c.args.cases.now) (ap (λ (m : MakerState). first_uncovered m.sizes c.args.cases.now) c.part_rows.ensures.same))
