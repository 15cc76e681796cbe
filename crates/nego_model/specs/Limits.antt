-- What a diagram that the program takes has beside its form: limits, names, and outcomes in order.
use Rattle.std.specs.Prelude.{◌≡◌, ◌≢◌, ◌≤◌, List, length, All, IsTrue}
use Rattle.std.specs.List.{AllPairs}
use Rattle.std.specs.List.Sorted.{IsNonDecreasingBy}
use Rattle.nego_base.specs.Name.{is_name}
use Rattle.nego_data.specs.Sizes.{AreSizes}
use Rattle.nego_model.specs.Diagram.{PlainOutcome, PlainDiagram}

-- A diagram has at most 16 agents, 64 atoms and 256 outcomes, and sizes within their limits.
pub record IsWithinLimits (diagram : PlainDiagram) : Type 0 where
  pub few_agents : length diagram.agents ≤ 16
  pub few_atoms : length diagram.atoms ≤ 64
  pub few_outcomes : length diagram.outcomes ≤ 256
  pub sizes : AreSizes diagram.sizes

-- Agents, atoms and outcomes have names. Those of the agents differ, those of the atoms, and those of the outcomes of
-- one atom.
pub record HasNames (diagram : PlainDiagram) : Type 0 where
  pub agents : All (λ name. IsTrue (is_name name)) diagram.agents
  pub atoms : All (λ atom. IsTrue (is_name atom.name)) diagram.atoms
  pub outcomes : All (λ outcome. IsTrue (is_name outcome.name)) diagram.outcomes
  pub agents_differ : AllPairs (λ a b. a ≢ b) diagram.agents
  pub atoms_differ : AllPairs (λ m n. m.name ≢ n.name) diagram.atoms
  pub outcomes_differ : AllPairs (λ o p. o.atom ≡ p.atom → o.name ≢ p.name) diagram.outcomes

-- The outcomes stand in the order of their atoms.
abbrev pub AreInOrder : List PlainOutcome → Type 0
AreInOrder outcomes = IsNonDecreasingBy (λ outcome. outcome.atom) outcomes
