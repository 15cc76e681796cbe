use Rattle.std.proofs.Common.{◌≡◌, length, ap, ◌∙◌, arith}
use Rattle.nego_reader.specs.declared.parsed.Parsed.{Parsed}
use Rattle.nego_reader.specs.Content.{content_of}
use Rattle.nego_shape.specs.Naming.{place_of, atom_names}
use Rattle.nego_shape.proofs.ShapedDiagrams.{atoms-count}
use Rattle.nego_shape.proofs.numbering.Numbered.atom.Goals as goal

pub number_of-requires : goal.number_of-requires
number_of-requires c =
    let long = ap length c.self.invariant.1 in
    let few = c.self.invariant.3 in
    let count = atoms-count (content_of c.self.inside.text.now) in
    omega (arith, long, few, count)

pub returns : goal.returns
returns c =
    let same : c.self.inside.atoms.keys ≡ atom_names (content_of c.args.self.now) = c.self.invariant.1 ∙ ap (λ (p : Parsed). atom_names (content_of p)) c.self.view_is in
    c.number_of.ensures ∙ ap (place_of c.args.name.now.text) same
