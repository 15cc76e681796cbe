-- The parts that are made of a text's content.
use Rattle.std.specs.Prelude.{ℕ, ◌+◌, List, [], ◌∷◌, length, map}
use Rattle.nego_model.specs.declared.parts.AtomPart.{AtomPart}
use Rattle.nego_reader.specs.declared.parsed.PAtom.{PAtom}
use Rattle.nego_reader.specs.declared.parsed.POut.{POut}
use Rattle.nego_reader.specs.declared.parsed.PNext.{PNext}
use Rattle.nego_reader.specs.Content.{Content, AtomContent, OutContent, case_content, texts}
use Rattle.nego_shape.specs.declared.numbers.NextNumbers.{NextNumbers}
use Rattle.nego_shape.specs.declared.numbers.OutNumbers.{OutNumbers}
use Rattle.nego_shape.specs.declared.numbers.AtomNumbers.{AtomNumbers}
use Rattle.nego_shape.specs.Conditions.{Holds, FewAgents, FewAtoms}
use Rattle.nego_shape.specs.Naming.{PlacedOut, place_of, atom_names, parties_in, case_in}
use Rattle.nego_shape.specs.Shaped.{AreNamedOnce, AreAllDeclared}

-- an outcome of atom n
abbrev pub placed_at : ℕ → OutContent → PlacedOut
placed_at n out = record { atom = n; out = out }

-- an atom whose outcomes have the numbers from `start` on
abbrev pub part_in : Content → ℕ → AtomContent → AtomPart
part_in c start atom = record { name = atom.name; parties = parties_in c atom.parties; start = start; count = length atom.outs }

-- atoms whose outcomes have the numbers from `start` on
abbrev pub parts_from : Content → ℕ → List AtomContent → List AtomPart
parts_from c start [] = []
parts_from c start (atom ∷ atoms) = part_in c start atom ∷ parts_from c (start + length atom.outs) atoms

-- The names can be numbered: those of agents and atoms are few, none stands twice, and all are declared.
pub record HasNumbers (c : Content) : Type 0 where
  pub few_agents : Holds FewAgents c
  pub few_atoms : Holds FewAtoms c
  pub named_once : AreNamedOnce c
  pub declared : AreAllDeclared c

-- a next line
abbrev pub next_numbers : Content → PNext → NextNumbers
next_numbers c next = record { atom = record { 0 = place_of next.atom.text (atom_names c) }; agents = parties_in c (texts next.agents) }

-- an outcome
abbrev pub out_numbers : Content → POut → OutNumbers
out_numbers c out = record { nexts = map (next_numbers c) out.nexts; cases = map (λ case. case_in c (case_content case)) out.cases }

-- an atom
abbrev pub atom_numbers : Content → PAtom → AtomNumbers
atom_numbers c atom = record { parties = parties_in c (texts atom.parties); outs = map (out_numbers c) atom.outs }
