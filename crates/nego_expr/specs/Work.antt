-- A work: a diagram under rewriting, as plain data. Some atoms and outcomes of the diagram that was read are gone,
-- and the outcomes that are left have expressions over those that were read.
use Rattle.std.specs.Prelude.{◌≡◌, ℕ, ◌<◌, ◌==◌, if◌then◌else◌, List, [], ◌∷◌, length, map, filter, slice_index_or, Option, Some, None, option_map, All, IsTrue}
use Rattle.std.specs.Option.{option_map_or, option_to_list}
use Rattle.nego_base.specs.Members.{is_in, all_in, IsRising}
use Rattle.nego_model.specs.Negotiation.{Negotiation, IsNegotiation}
use Rattle.nego_model.specs.Joining.{Relation, RelationTest}
use Rattle.nego_model.specs.Expression.{PlainNode, IsNodeList, ByNodes, Relates, EachBase, AllBases}

-- an atom that is left: its number and its parties
pub record WorkAtom : Type 0 where
  pub number : ℕ
  pub parties : List ℕ

-- an alive outcome: its number, its atom, for each agent its target atom (none for an agent that is no party, and
-- none at the last atom), the node of its expression, and the atoms that it passed
pub record WorkOutcome : Type 0 where
  pub number : ℕ
  pub atom : ℕ
  pub targets : List (Option ℕ)
  pub node : ℕ
  pub passed : List ℕ

-- The count of agents, the atoms left, the first and the last atom, the nodes of all expressions, the least outcome
-- number never used, the alive outcomes, the names of the last atom's outcomes in their order, and for each outcome
-- of the diagram that was read the parties of its atom.
pub record PlainWork : Type 0 where
  pub agents : ℕ
  pub atoms : List WorkAtom
  pub first : ℕ
  pub last : ℕ
  pub nodes : List PlainNode
  pub numbers : ℕ
  pub outcomes : List WorkOutcome
  pub names : List (List ℕ)
  pub bases : List (List ℕ)

-- the parties of an atom, of these
abbrev pub parties_among : List WorkAtom → ℕ → List ℕ
parties_among [] n = []
parties_among (atom ∷ atoms) n = if atom.number == n then atom.parties else parties_among atoms n

-- the alive outcome of a number, of these
abbrev pub outcome_among : List WorkOutcome → ℕ → Option WorkOutcome
outcome_among [] o = None
outcome_among (outcome ∷ outcomes) o = if outcome.number == o then Some outcome else outcome_among outcomes o

-- the alive outcome of a number
abbrev pub outcome_at : PlainWork → ℕ → Option WorkOutcome
outcome_at work o = outcome_among work.outcomes o

-- the parties of an atom
abbrev pub work_parties : PlainWork → ℕ → List ℕ
work_parties work n = parties_among work.atoms n

-- the alive outcomes of an atom, in their order
abbrev pub outcomes_at : PlainWork → ℕ → List WorkOutcome
outcomes_at work n = filter (λ outcome. outcome.atom == n) work.outcomes

-- the numbers of an atom's alive outcomes, rising
abbrev pub work_outcomes : PlainWork → ℕ → List ℕ
work_outcomes work n = map (λ outcome. outcome.number) (outcomes_at work n)

-- where an alive outcome sends an agent
abbrev pub sent_to : WorkOutcome → ℕ → Option ℕ
sent_to outcome a = slice_index_or outcome.targets a None

-- the negotiation that a work is
abbrev pub negotiation_of_work : PlainWork → Negotiation
negotiation_of_work work = record {
  agents = work.agents;
  atoms = map (λ atom. atom.number) work.atoms;
  parties = work_parties work;
  outcomes = work_outcomes work;
  next = λ o a. option_map_or (λ outcome. option_to_list (sent_to outcome a)) (outcome_at work o) [];
  first = work.first;
  last = work.last;
}

-- what an alive outcome relates, over a test for the outcomes of the diagram that was read
abbrev pub ByWork : RelationTest → PlainWork → Relation
ByWork test work = Relates (ByNodes test work.nodes (λ o. option_map (λ outcome. outcome.node) (outcome_at work o)))

-- The conditions of a work: it is a negotiation; its nodes are a list of nodes, each base among them is an outcome that
-- was read, and each alive outcome has one of them; numbers never used are above those that are alive; the last atom's
-- outcomes have their names; the parties of each base under an alive outcome's node are parties of its atom.
pub record IsWork (work : PlainWork) : Type 0 where
  pub form : IsNegotiation (negotiation_of_work work)
  pub numbers_rise : IsRising (map (λ outcome. outcome.number) work.outcomes)
  pub own_atom : All (λ outcome. IsTrue (is_in outcome.atom (map (λ atom. atom.number) work.atoms))) work.outcomes
  pub numbers_used : All (λ outcome. outcome.number < work.numbers) work.outcomes
  pub targets_fit : All (λ outcome. length outcome.targets ≡ work.agents) work.outcomes
  pub nodes : IsNodeList work.nodes
  pub nodes_there : All (λ outcome. outcome.node < length work.nodes) work.outcomes
  pub named : length work.names ≡ length (work_outcomes work work.last)
  pub bases_read : AllBases (λ o. o < length work.bases) work.nodes
  pub bases_within : All (λ outcome. EachBase (λ o. IsTrue (all_in (slice_index_or work.bases o []) (work_parties work outcome.atom))) work.nodes outcome.node) work.outcomes
