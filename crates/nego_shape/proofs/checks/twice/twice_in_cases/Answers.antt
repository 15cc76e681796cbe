use Rattle.std.proofs.Common.{List, slice_get, sym, ap, ◌∙◌}
use Rattle.std.specs.Option.{option_copied}
use Rattle.nego_base.specs.Firsts.{first_among}
use Rattle.nego_reader.specs.declared.parsed.PCase.{PCase}
use Rattle.nego_reader.specs.declared.parsed.PSet.{PSet}
use Rattle.nego_shape.specs.Faults.{repeated}
use Rattle.nego_shape.proofs.Numbered.{among_found}
use Rattle.nego_shape.proofs.checks.twice.twice_in_cases.Goals as goal

pub returns-in-Some : goal.returns-in-Some
returns-in-Some c =
    let find : PCase → _ = λ case. slice_get (repeated (λ (set : PSet). set.agent) case.sets) 0 in
    among_found find c.args.cases.now c.loop-case.case-index c.case-item.result c.in-Some.word.now (first_among find c.args.cases.now) c.loop-case-test.true c.case-item.is
    (ap (λ (sets : List PSet). slice_get (repeated (λ (set : PSet). set.agent) sets) 0) (sym c.as_slice.ensures) ∙ (sym c.repeated.ensures ∙ ap option_copied c.in-Some.is)) c.loop-case.invariant
