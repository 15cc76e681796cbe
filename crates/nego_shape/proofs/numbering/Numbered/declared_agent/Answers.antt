use Rattle.std.proofs.Common.{length, ap, arith}
use Rattle.nego_reader.specs.Content.{content_of}
use Rattle.nego_shape.proofs.ShapedDiagrams.{agents-count}
use Rattle.nego_shape.proofs.numbering.Numbered.declared_agent.Goals as goal

pub number_of-n-requires : goal.number_of-n-requires
number_of-n-requires c =
    let long = ap length c.self.invariant.0 in
    let few = c.self.invariant.2 in
    let count = agents-count (content_of c.self.inside.text.now) in
    omega (arith, long, few, count)
