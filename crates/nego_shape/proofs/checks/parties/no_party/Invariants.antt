use Rattle.std.proofs.Common.{◌≡◌, ℕ, ◌==◌, List, length, drop}
use Rattle.nego_reader.specs.declared.parsed.PAtom.{PAtom}
use Rattle.nego_shape.specs.declared.fault.ShapeKind.TheVariants as kinds
use Rattle.nego_shape.specs.Faults.{Spot, spot_if, numbered, first_of}
use Rattle.nego_shape.proofs.checks.parties.no_party.Given as goal

abbrev bare : ℕ → PAtom → List Spot
bare n atom = spot_if (length atom.parties == 0) atom.name.line (kinds.NoParty (record { 0 = n }))

abbrev pub invariant-loop-n : goal.invariant-loop-n
invariant-loop-n l = first_of (numbered bare l.n (drop l.n l.atoms)) ≡ first_of (numbered bare 0 l.atoms)
