use Rattle.std.proofs.Common.{◌≡◌, drop, slice_get}
use Rattle.nego_reader.specs.declared.parsed.PAtom.{PAtom}
use Rattle.std.specs.List.{flat_map}
use Rattle.nego_shape.proofs.checks.counts.out_line.Given as goal

abbrev pub invariant-loop-atom : goal.invariant-loop-atom
invariant-loop-atom l = slice_get (flat_map (λ (atom : PAtom). atom.outs) (drop l.atom-index l.atoms)) l.left ≡ slice_get (flat_map (λ (atom : PAtom). atom.outs) l.atoms) l.place
