-- The shape of a diagram: the conditions on a text's content in the order in which they are tested.
use Rattle.std.specs.Prelude.{◌≢◌, ℕ, ◌<◌, ◌≤◌, List, [], ◌∷◌, length, All}
use Rattle.nego_data.specs.Data.{data_count}
use Rattle.nego_data.specs.Sizes.{AreSizes}
use Rattle.nego_data.specs.CaseForm.{AssignsBelow}
use Rattle.nego_reader.specs.Content.{Content}
use Rattle.nego_shape.specs.Naming.{sizes_in, all_outs, cases_in}
use Rattle.nego_shape.specs.Shaped.{AreNamedOnce, AreAllDeclared, IsParty, SendsAll, HasNoStranger, EndsLast, NamesParties, IsAllCovered, first_number, last_number}

pub data Condition : Type 0 where
  SomeAgent : Condition
  FewAgents : Condition
  FewAtoms : Condition
  FewOutcomes : Condition
  NamedOnce : Condition
  AllDeclared : Condition
  SomeParty : Condition
  SomeOutcome : Condition
  AllBegin : Condition
  AllEnd : Condition
  AllSent : Condition
  NoStranger : Condition
  LastEnds : Condition
  PartiesAlone : Condition
  NoZeroSize : Condition
  NoLargeSize : Condition
  NoLargeJoint : Condition
  NoLargeValue : Condition
  AllCovered : Condition

-- the conditions in their order
abbrev pub conditions : List Condition
conditions =
    SomeAgent ∷ FewAgents ∷ FewAtoms ∷ FewOutcomes ∷ NamedOnce ∷ AllDeclared ∷ SomeParty ∷ SomeOutcome ∷ AllBegin ∷ AllEnd ∷ AllSent
    ∷ NoStranger ∷ LastEnds ∷ PartiesAlone ∷ NoZeroSize ∷ NoLargeSize ∷ NoLargeJoint ∷ NoLargeValue ∷ AllCovered ∷ []

-- The content meets the condition:
-- there is an agent; agents, atoms and outcomes are not too many; no name stands twice; all names are declared;
-- each atom has a party, and an outcome; every agent is a party of the first atom, and of the last;
-- each party of another atom than the last stands on some next line of each of its outcomes;
-- who stands on a next line is a party of the outcome's atom and of the next atom; the last atom has no next line;
-- the agents of cases are parties; no size is 0, none is above 64, and their product isn't above 1,024;
-- constants that are assigned are below the size; and the cases of each outcome cover all joint data.
abbrev pub Holds : Condition → Content → Type 0
Holds SomeAgent c = 0 < length c.agents
Holds FewAgents c = length c.agents ≤ 16
Holds FewAtoms c = length c.atoms ≤ 64
Holds FewOutcomes c = length (all_outs c) ≤ 256
Holds NamedOnce c = AreNamedOnce c
Holds AllDeclared c = AreAllDeclared c
Holds SomeParty c = All (λ atom. atom.parties ≢ []) c.atoms
Holds SomeOutcome c = All (λ atom. atom.outs ≢ []) c.atoms
Holds AllBegin c = (a : ℕ) → a < length c.agents → IsParty c (first_number c) a
Holds AllEnd c = (a : ℕ) → a < length c.agents → IsParty c (last_number c) a
Holds AllSent c = All (λ placed. SendsAll c placed.atom placed.out) (all_outs c)
Holds NoStranger c = All (λ placed. All (HasNoStranger c placed.atom) placed.out.nexts) (all_outs c)
Holds LastEnds c = All (λ placed. EndsLast c placed.atom placed.out) (all_outs c)
Holds PartiesAlone c = All (λ placed. All (NamesParties c placed.atom) placed.out.cases) (all_outs c)
Holds NoZeroSize c = All (λ size. 0 < size) (sizes_in c)
Holds NoLargeSize c = All (λ size. size ≤ 64) (sizes_in c)
Holds NoLargeJoint c = data_count (sizes_in c) ≤ 1024
Holds NoLargeValue c = All (λ placed. All (AssignsBelow (sizes_in c)) (cases_in c placed.out)) (all_outs c)
Holds AllCovered c = All (λ placed. IsAllCovered c placed.out) (all_outs c)

-- The content has the shape of a diagram: it meets every condition.
abbrev pub HasShape : Content → Type 0
HasShape c = (condition : Condition) → Holds condition c

-- The content has the form of a diagram: it meets every condition but the last.
pub record IsFormed (c : Content) : Type 0 where
  pub some_agent : Holds SomeAgent c
  pub few_agents : Holds FewAgents c
  pub few_atoms : Holds FewAtoms c
  pub few_outcomes : Holds FewOutcomes c
  pub named_once : Holds NamedOnce c
  pub declared : Holds AllDeclared c
  pub some_party : Holds SomeParty c
  pub some_outcome : Holds SomeOutcome c
  pub all_begin : Holds AllBegin c
  pub all_end : Holds AllEnd c
  pub all_sent : Holds AllSent c
  pub no_stranger : Holds NoStranger c
  pub last_ends : Holds LastEnds c
  pub parties_alone : Holds PartiesAlone c
  pub sizes : AreSizes (sizes_in c)
  pub below : Holds NoLargeValue c
