use Rattle.std.proofs.Common.{◌≡◌, ◌+◌, drop}
use Rattle.nego_base.specs.Firsts.{first_numbered}
use Rattle.nego_reader.specs.Content.{content_of}
use Rattle.nego_shape.specs.Faults.{first_of}
use Rattle.nego_shape.specs.Rules.{out_faults}
use Rattle.nego_shape.proofs.checks.outcomes.broken_from.Given as goal

abbrev pub invariant-loop-i : goal.invariant-loop-i
invariant-loop-i l =
    first_numbered (λ i out. first_of (out_faults l.rule (content_of l.p) l.n (l.start + i) out)) l.i (drop l.i l.atom.outs)
    ≡ first_numbered (λ i out. first_of (out_faults l.rule (content_of l.p) l.n (l.start + i) out)) 0 l.atom.outs
