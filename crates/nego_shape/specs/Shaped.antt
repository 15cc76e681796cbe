-- What the conditions of the shape of a diagram say of a text's content.
use Rattle.std.specs.Prelude.{◌≡◌, ◌≢◌, ℕ, ◌<◌, List, [], ◌∷◌, ◌++◌, length, map, filter, All, AllPairs, IsTrue}
use Rattle.std.specs.List.{flat_map, list_any}
use Rattle.std.specs.Str.{bytes_eq}
use Rattle.nego_base.specs.Members.{is_in}
use Rattle.nego_base.specs.Name.{is_name}
use Rattle.nego_data.specs.Data.{data_count}
use Rattle.nego_data.specs.CaseForm.{IsCovered}
use Rattle.nego_reader.specs.Content.{Content, OutContent, NextContent, CaseContent, TestContent, SetContent, RightContent, TermContent, Number, Name, AnyTerm, NumberTerm, PlusTerm, MinusTerm}
use Rattle.nego_shape.specs.Naming.{place_of, places_of, agent_names, atom_names, sizes_in, all_outs, parties_at, cases_in}

-- no name stands twice
abbrev pub AreDifferent : List (List ℕ) → Type 0
AreDifferent names = AllPairs (λ one two. one ≢ two) names

-- the name is one of these
abbrev pub IsDeclared : List (List ℕ) → List ℕ → Type 0
IsDeclared names name = place_of name names < length names

-- the agents that the right side of a comparison names
abbrev pub right_names : RightContent → List (List ℕ)
right_names (Number n) = []
right_names (Name name) = name ∷ []

-- the agents that a comparison names
abbrev pub test_names : TestContent → List (List ℕ)
test_names test = test.left ∷ right_names test.right

-- the agents that a term names
abbrev pub term_names : TermContent → List (List ℕ)
term_names AnyTerm = []
term_names (NumberTerm n) = []
term_names (PlusTerm name n) = name ∷ []
term_names (MinusTerm name n) = name ∷ []

-- the agents that an assignment names
abbrev pub set_names : SetContent → List (List ℕ)
set_names set = set.agent ∷ term_names set.term

-- the agents that a case names, from left to right
abbrev pub case_names : CaseContent → List (List ℕ)
case_names case = flat_map test_names case.tests ++ flat_map set_names case.sets

-- the agents that a case assigns
abbrev pub assigned_names : CaseContent → List (List ℕ)
assigned_names case = map (λ set. set.agent) case.sets

-- the agents on the next lines for this atom
abbrev pub sent_names : List NextContent → List ℕ → List (List ℕ)
sent_names nexts atom = flat_map (λ next. next.agents) (filter (λ next. bytes_eq next.atom atom) nexts)

-- The names of the agents differ, those of the atoms, of the outcomes of an atom, of the parties in an atom line, of
-- the agents assigned in a case, and of the agents on the next lines of an outcome for one atom.
pub record AreNamedOnce (c : Content) : Type 0 where
  pub agents : AreDifferent (agent_names c)
  pub atoms : AreDifferent (atom_names c)
  pub outcomes : All (λ atom. AreDifferent (map (λ out. out.name) atom.outs)) c.atoms
  pub parties : All (λ atom. AreDifferent atom.parties) c.atoms
  pub assigned : All (λ placed. All (λ case. AreDifferent (assigned_names case)) placed.out.cases) (all_outs c)
  pub sent : All (λ placed. (atom : List ℕ) → AreDifferent (sent_names placed.out.nexts atom)) (all_outs c)

-- Parties, the agents of cases and next lines, next atoms, and the first and the last atom are declared.
pub record AreAllDeclared (c : Content) : Type 0 where
  pub parties : All (λ atom. All (IsDeclared (agent_names c)) atom.parties) c.atoms
  pub cases : All (λ placed. All (λ case. All (IsDeclared (agent_names c)) (case_names case)) placed.out.cases) (all_outs c)
  pub next_atoms : All (λ placed. All (λ next. IsDeclared (atom_names c) next.atom) placed.out.nexts) (all_outs c)
  pub next_agents : All (λ placed. All (λ next. All (IsDeclared (agent_names c)) next.agents) placed.out.nexts) (all_outs c)
  pub first : IsDeclared (atom_names c) c.first
  pub last : IsDeclared (atom_names c) c.last

-- the number of the first atom, and of the last
abbrev pub first_number : Content → ℕ
first_number c = place_of c.first (atom_names c)

abbrev pub last_number : Content → ℕ
last_number c = place_of c.last (atom_names c)

-- agent a is a party of atom n
abbrev pub IsParty : Content → ℕ → ℕ → Type 0
IsParty c n a = IsTrue (is_in a (parties_at c n))

-- the agent of this name is a party of atom n
abbrev pub IsNamedParty : Content → ℕ → List ℕ → Type 0
IsNamedParty c n name = IsParty c n (place_of name (agent_names c))

-- agent a stands on some of the next lines
abbrev pub IsSent : Content → List NextContent → ℕ → Type 0
IsSent c nexts a = IsTrue (list_any (λ next. is_in a (places_of next.agents (agent_names c))) nexts)

-- each party of atom n, unless it is the last, stands on some next line of its outcome
abbrev pub SendsAll : Content → ℕ → OutContent → Type 0
SendsAll c n out = n ≢ last_number c → (a : ℕ) → IsParty c n a → IsSent c out.nexts a

-- who stands on the next line of an outcome of atom n is a party of it and of the next atom
abbrev pub HasNoStranger : Content → ℕ → NextContent → Type 0
HasNoStranger c n next = All (λ name. IsNamedParty c n name × IsNamedParty c (place_of next.atom (atom_names c)) name) next.agents

-- an outcome of the last atom has no next line
abbrev pub EndsLast : Content → ℕ → OutContent → Type 0
EndsLast c n out = n ≡ last_number c → out.nexts ≡ []

-- the agents of a case of an outcome of atom n are parties of it
abbrev pub NamesParties : Content → ℕ → CaseContent → Type 0
NamesParties c n case = All (IsNamedParty c n) (case_names case)

-- each joint data is covered by some case of the outcome
abbrev pub IsAllCovered : Content → OutContent → Type 0
IsAllCovered c out = (d : ℕ) → d < data_count (sizes_in c) → IsCovered (sizes_in c) (cases_in c out) d

-- The names of agents, atoms and outcomes are names by their bytes, as in the content of what a text spells.
pub record HasNameWords (c : Content) : Type 0 where
  pub agents : All (λ agent. IsTrue (is_name agent.name)) c.agents
  pub atoms : All (λ atom. IsTrue (is_name atom.name)) c.atoms
  pub outcomes : All (λ atom. All (λ out. IsTrue (is_name out.name)) atom.outs) c.atoms
