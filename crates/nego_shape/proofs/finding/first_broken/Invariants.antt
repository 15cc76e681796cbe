use Rattle.std.proofs.Common.{◌≡◌, drop}
use Rattle.nego_base.specs.Firsts.{first_among}
use Rattle.nego_shape.specs.Faults.{faults, first_of}
use Rattle.nego_shape.specs.Rules.{condition_by}
use Rattle.nego_shape.proofs.finding.first_broken.Given as goal

abbrev pub invariant-loop-rule : goal.invariant-loop-rule
invariant-loop-rule l =
    first_among (λ rule. first_of (faults (condition_by rule) l.p)) (drop l.rule-index l.rules) ≡ first_among (λ rule. first_of (faults (condition_by rule) l.p)) l.rules
