use Rattle.std.proofs.Common.{refl}
use Rattle.nego_shape.specs.Conditions.{conditions}
use Rattle.nego_shape.specs.Faults.{first_fault}
use Rattle.nego_shape.proofs.Stages.{either_way, never_both, one_fault}
use Rattle.nego_shape.proofs.laws.texts_have_the_shape_or_one_fault.Goals as goal

pub returns-clause-either : goal.returns-clause-either
returns-clause-either c p = either_way p (first_fault conditions p) refl

pub returns-clause-apart : goal.returns-clause-apart
returns-clause-apart c = never_both

pub returns-clause-once : goal.returns-clause-once
returns-clause-once c p one two rising = one_fault p rising one two
