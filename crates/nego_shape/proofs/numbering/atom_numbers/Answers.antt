use Rattle.nego_reader.specs.declared.parsed.PAtom.{PAtom}
use Rattle.nego_shape.proofs.Mentioned.{one_more_name}
use Rattle.nego_shape.proofs.numbering.atom_numbers.Goals as goal

pub loop-atom-preserved : goal.loop-atom-preserved
loop-atom-preserved c =
    one_more_name (λ (atom : PAtom). atom.name.text) c.args.atoms.now c.requires c.loop-atom.atom-index c.atom-item.result c.loop-atom-test.true c.atom-item.is c.loop-atom.names.keys c.add.new.names.keys c.loop-atom.invariant c.in_ok-add.ensures
