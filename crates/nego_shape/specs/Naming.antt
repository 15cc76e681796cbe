-- Names as numbers: the places of declared names, and the diagram that a text's content is. A name that isn't declared
-- has the place behind all.
use Rattle.std.specs.Prelude.{ℕ, ◌+◌, Bool, ◌==◌, ◌&&◌, List, [], ◌∷◌, ◌++◌, length, map, filter, slice_get}
use Rattle.std.specs.List.{list_any, range_with_len, position_or_len}
use Rattle.std.specs.Option.{option_map_or}
use Rattle.std.specs.Str.{bytes_eq}
use Rattle.nego_base.specs.declared.ids.AgentId.{AgentId}
use Rattle.nego_base.specs.Members.{is_in}
use Rattle.nego_data.specs.declared.cases.Operand.{Operand}
use Rattle.nego_data.specs.declared.cases.Operand.TheVariants as operands
use Rattle.nego_data.specs.declared.cases.Term.{Term}
use Rattle.nego_data.specs.declared.cases.Term.TheVariants as terms
use Rattle.nego_data.specs.declared.cases.Test.{Test}
use Rattle.nego_data.specs.declared.cases.Set.{Set}
use Rattle.nego_data.specs.declared.cases.Case.{Case}
use Rattle.nego_data.specs.Cases.{rows_of}
use Rattle.nego_model.specs.Diagram.{PlainAtom, PlainOutcome, PlainDiagram}
use Rattle.nego_reader.specs.Content.{Content, AtomContent, OutContent, NextContent, CaseContent, TestContent, SetContent, RightContent, TermContent, Number, Name, AnyTerm, NumberTerm, PlusTerm, MinusTerm}

-- the place of the first equal name, from 0, and the count of names where there is none
abbrev pub place_of : List ℕ → List (List ℕ) → ℕ
place_of name names = position_or_len (λ other. bytes_eq other name) names

-- the places of these names
abbrev pub places_of : List (List ℕ) → List (List ℕ) → List ℕ
places_of names all = map (λ name. place_of name all) names

-- the names of the agents
abbrev pub agent_names : Content → List (List ℕ)
agent_names c = map (λ agent. agent.name) c.agents

-- the names of the atoms
abbrev pub atom_names : Content → List (List ℕ)
atom_names c = map (λ atom. atom.name) c.atoms

-- the sizes of the agents' data
abbrev pub sizes_in : Content → List ℕ
sizes_in c = map (λ agent. agent.size) c.agents

-- an outcome beside the number of its atom
pub record PlacedOut : Type 0 where
  pub atom : ℕ
  pub out : OutContent

-- the outcomes of atoms that are numbered from n on
abbrev pub outs_from : ℕ → List AtomContent → List PlacedOut
outs_from n [] = []
outs_from n (atom ∷ atoms) = map (λ out. record { atom = n; out = out }) atom.outs ++ outs_from (n + 1) atoms

-- all outcomes in the order of the text
abbrev pub all_outs : Content → List PlacedOut
all_outs c = outs_from 0 c.atoms

-- the rising list of the numbers of these agents
abbrev pub parties_in : Content → List (List ℕ) → List ℕ
parties_in c names = filter (λ a. is_in a (places_of names (agent_names c))) (range_with_len 0 (length c.agents))

-- the parties of atom n
abbrev pub parties_at : Content → ℕ → List ℕ
parties_at c n = option_map_or (λ atom. parties_in c atom.parties) (slice_get c.atoms n) []

-- whether agent a stands on the next line, which is one for atom n
abbrev pub leads_to : Content → ℕ → ℕ → NextContent → Bool
leads_to c a n next = (place_of next.atom (atom_names c) == n) && is_in a (places_of next.agents (agent_names c))

-- the rising list of the numbers of the atoms on whose next lines agent a stands
abbrev pub next_atoms : Content → OutContent → ℕ → List ℕ
next_atoms c out a = filter (λ n. list_any (leads_to c a n) out.nexts) (range_with_len 0 (length c.atoms))

-- the agent of this name
abbrev pub agent_in : Content → List ℕ → AgentId
agent_in c name = record { 0 = place_of name (agent_names c) }

-- the right side of a comparison, with agents' numbers
abbrev pub operand_in : Content → RightContent → Operand
operand_in c (Number n) = operands.Number n
operand_in c (Name name) = operands.Value (agent_in c name)

-- a comparison
abbrev pub test_in : Content → TestContent → Test
test_in c test = record { agent = agent_in c test.left; op = test.op; right = operand_in c test.right }

-- what is assigned
abbrev pub term_in : Content → TermContent → Term
term_in c AnyTerm = terms.Any
term_in c (NumberTerm n) = terms.Number n
term_in c (PlusTerm name n) = terms.Plus (agent_in c name) n
term_in c (MinusTerm name n) = terms.Minus (agent_in c name) n

-- an assignment
abbrev pub set_in : Content → SetContent → Set
set_in c set = record { agent = agent_in c set.agent; term = term_in c set.term }

-- a case
abbrev pub case_in : Content → CaseContent → Case
case_in c case = record { tests = map (test_in c) case.tests; sets = map (set_in c) case.sets }

-- the cases of an outcome, with agents' numbers
abbrev pub cases_in : Content → OutContent → List Case
cases_in c out = map (case_in c) out.cases

-- an atom of the diagram
abbrev pub atom_in : Content → AtomContent → PlainAtom
atom_in c atom = record { name = atom.name; parties = parties_in c atom.parties }

-- an outcome of the diagram
abbrev pub outcome_in : Content → PlacedOut → PlainOutcome
outcome_in c placed = record {
  name = placed.out.name;
  atom = placed.atom;
  nexts = map (next_atoms c placed.out) (range_with_len 0 (length c.agents));
  table = rows_of (sizes_in c) (cases_in c placed.out);
}

-- the diagram that the content is: agents, atoms and outcomes have the numbers of their order in the text
abbrev pub diagram_in : Content → PlainDiagram
diagram_in c = record {
  agents = agent_names c;
  sizes = sizes_in c;
  atoms = map (atom_in c) c.atoms;
  outcomes = map (outcome_in c) (all_outs c);
  first = place_of c.first (atom_names c);
  last = place_of c.last (atom_names c);
}
