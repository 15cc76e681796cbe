use Rattle.std.proofs.Common.{◌≡◌, take, drop, slice_get}
use Rattle.nego_base.specs.Firsts.{first_numbered}
use Rattle.nego_shape.specs.Faults.{twice_in_atom}
use Rattle.nego_shape.proofs.checks.twice.twice_in_atoms.Given as goal

abbrev pub invariant-loop-n : goal.invariant-loop-n
invariant-loop-n l =
    first_numbered (λ i atom. slice_get (twice_in_atom (take i l.atoms) atom) 0) l.n (drop l.n l.atoms) ≡ first_numbered (λ i atom. slice_get (twice_in_atom (take i l.atoms) atom) 0) 0 l.atoms
