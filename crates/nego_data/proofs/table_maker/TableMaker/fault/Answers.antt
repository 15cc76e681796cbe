use Rattle.std.proofs.Common.{◌∙◌, ap, not}
use Rattle.std.specs.List.{find, range_with_len}
use Rattle.nego_data.specs.BitRows.{is_set}
use Rattle.nego_data.specs.CaseForm.{fault_of, first_uncovered}
use Rattle.nego_data.specs.Data.{data_count}
use Rattle.nego_data.specs.Makers.{MakerState}
use Rattle.nego_data.specs.Parts.{part_number}
use Rattle.nego_data.proofs.Makers.{seen-tests, seen-sizes}
use Rattle.nego_data.proofs.PartLaws.{outside-uncovered}
use Rattle.nego_data.proofs.Uncovered.{first-tuple}
use Rattle.nego_data.proofs.table_maker.TableMaker.fault.Goals as goal

pub first_uncovered-requires : goal.first_uncovered-requires
first_uncovered-requires c =
    let inside = c.self.inside in
    seen-tests inside.parties inside.sizes inside.part inside.values inside.known inside.offsets c.self.invariant c.args.self.now c.self.view_is c.args.cases.now c.requires.named

pub returns-in-Covered : goal.returns-in-Covered
returns-in-Covered c =
    let inside = c.self.inside in
    let maker = c.args.self.now in
    let set = c.in-Covered.set.words in
    c.fault_of.ensures ∙ ap fault_of (c.first_outside.ensures
    ∙ ap (λ (m : MakerState). find (λ d. not (is_set set (part_number m.parties m.sizes d))) (range_with_len 0 (data_count m.sizes))) c.self.view_is
    ∙ outside-uncovered maker.parties maker.sizes c.args.cases.now set
    (seen-sizes inside.parties inside.sizes inside.part inside.values inside.known inside.offsets c.self.invariant maker c.self.view_is) c.requires.named (rw c.in-Covered.is at c.requires.told))

pub returns-in-Memory : goal.returns-in-Memory
returns-in-Memory c =
    c.fault_of-in-Memory.ensures
    ∙ ap fault_of (c.first_uncovered.ensures ∙ first-tuple c.self.inside.sizes c.args.cases.now ∙ ap (λ (m : MakerState). first_uncovered m.sizes c.args.cases.now) c.self.view_is)
