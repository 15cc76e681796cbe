-- The parts of a diagram, and the plain diagram that they are.
use Rattle.std.specs.Prelude.{◌≡◌, ℕ, length, map, take, slice_get, Some}
use Rattle.std.specs.List.{range_with_len}
use Rattle.nego_model.specs.declared.parts.AtomPart.{AtomPart}
use Rattle.nego_model.specs.declared.parts.OutcomePart.{OutcomePart}
use Rattle.nego_model.specs.declared.parts.Parts.{Parts}
use Rattle.nego_model.specs.Diagram.{PlainAtom, PlainOutcome, PlainDiagram, IsDiagram, outcomes_from}
use Rattle.nego_model.specs.Limits.{IsWithinLimits, HasNames, AreInOrder}

-- an atom, without the numbers of its outcomes
abbrev pub plain_atom : AtomPart → PlainAtom
plain_atom part = record { name = part.name; parties = part.parties }

-- an outcome, with a list of next atoms for each of so many agents
abbrev pub plain_outcome : ℕ → OutcomePart → PlainOutcome
plain_outcome agents part = record { name = part.name; atom = part.atom.0; nexts = take agents part.nexts; table = part.table }

-- the diagram that parts are
abbrev pub plain_of : Parts → PlainDiagram
plain_of parts = record {
  agents = parts.agents;
  sizes = parts.sizes;
  atoms = map plain_atom parts.atoms;
  outcomes = map (plain_outcome (length parts.agents)) parts.outcomes;
  first = parts.first.0;
  last = parts.last.0;
}

-- These are the parts of a diagram that the program takes, and each atom has the numbers of its outcomes.
pub record AreParts (parts : Parts) : Type 0 where
  pub diagram : IsDiagram (plain_of parts)
  pub limits : IsWithinLimits (plain_of parts)
  pub names : HasNames (plain_of parts)
  pub order : AreInOrder (plain_of parts).outcomes
  pub numbers : (n : ℕ) (atom : AtomPart) → slice_get parts.atoms n ≡ Some atom → range_with_len atom.start atom.count ≡ outcomes_from 0 (plain_of parts).outcomes n
