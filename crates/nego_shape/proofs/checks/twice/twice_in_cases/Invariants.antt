use Rattle.std.proofs.Common.{◌≡◌, drop, slice_get}
use Rattle.nego_base.specs.Firsts.{first_among}
use Rattle.nego_reader.specs.declared.parsed.PCase.{PCase}
use Rattle.nego_reader.specs.declared.parsed.PSet.{PSet}
use Rattle.nego_shape.specs.Faults.{repeated}
use Rattle.nego_shape.proofs.checks.twice.twice_in_cases.Given as goal

abbrev pub invariant-loop-case : goal.invariant-loop-case
invariant-loop-case l =
    let find : PCase → _ = λ case. slice_get (repeated (λ (set : PSet). set.agent) case.sets) 0 in
    first_among find (drop l.case-index l.cases) ≡ first_among find l.cases
