use Rattle.std.proofs.Common.{◌≡◌, drop}
use Rattle.nego_base.specs.Firsts.{first_among}
use Rattle.nego_reader.specs.Content.{content_of}
use Rattle.nego_shape.specs.Faults.{first_of}
use Rattle.nego_shape.specs.Rules.{next_faults}
use Rattle.nego_shape.proofs.checks.outcomes.on_nexts.Given as goal

abbrev pub invariant-loop-i : goal.invariant-loop-i
invariant-loop-i l = first_among (λ next. first_of (next_faults l.rule (content_of l.p) l.n l.o next)) (drop l.i l.next-items) ≡ first_among (λ next. first_of (next_faults l.rule (content_of l.p) l.n l.o next)) l.out.nexts
