use Rattle.std.proofs.Common.{◌∙◌, ap, sym}
use Rattle.std.specs.Option.{option_copied}
use Rattle.nego_cli.proofs.NamedPlaces.{atom_there, atom_nowhere}
use Rattle.nego_cli.proofs.shape_text.atom_name.Goals as goal

pub returns-in-Some : goal.returns-in-Some
returns-in-Some c = c.as_slice.ensures ∙ atom_there c.args.p.now c.args.n c.in-Some.atom.now (sym c.get.ensures ∙ ap option_copied c.in-Some.is)

pub returns-in-None : goal.returns-in-None
returns-in-None c = atom_nowhere c.args.p.now c.args.n (sym c.get.ensures ∙ ap option_copied c.in-None.is)
