-- What may be asked of cases: whom they name, what they assign, and what they cover.
use Rattle.std.specs.Prelude.{◌≢◌, ℕ, ◌<◌, List, [], ◌∷◌, not, find, Option, Some, None, Result, Ok, Err, IsTrue, ⊤, AllPairs}
use Rattle.std.specs.List.{All, list_any, range_with_len}
use Rattle.nego_base.specs.Members.{is_in}
use Rattle.nego_data.specs.declared.cases.Operand.{Operand}
use Rattle.nego_data.specs.declared.cases.Operand.TheVariants as operands
use Rattle.nego_data.specs.declared.cases.Term.{Term}
use Rattle.nego_data.specs.declared.cases.Term.TheVariants as terms
use Rattle.nego_data.specs.declared.cases.Test.{Test}
use Rattle.nego_data.specs.declared.cases.Set.{Set}
use Rattle.nego_data.specs.declared.cases.Case.{Case}
use Rattle.nego_data.specs.declared.making.TableFault.{TableFault}
use Rattle.nego_data.specs.declared.making.TableFault.TheVariants.{NotTotal, Memory}
use Rattle.nego_data.specs.Data.{data_count, split}
use Rattle.nego_data.specs.Places.{place_of, value_of}
use Rattle.nego_data.specs.Cases.{covers}

-- the agents that the right side of a comparison names
abbrev pub operand_agents : Operand → List ℕ
operand_agents (operands.Number n) = []
operand_agents (operands.Value b) = b.0 ∷ []

-- the agents that a term names
abbrev pub term_agents : Term → List ℕ
term_agents terms.Any = []
term_agents (terms.Number n) = []
term_agents (terms.Plus b n) = b.0 ∷ []
term_agents (terms.Minus b n) = b.0 ∷ []

-- Each is one of the agents.
abbrev pub AreAmong : List ℕ → List ℕ → Type 0
AreAmong agents named = All (λ a. IsTrue (is_in a agents)) named

-- Each agent that the case names is one of these.
pub record NamesOnly (agents : List ℕ) (case : Case) : Type 0 where
  pub tests : All (λ test. AreAmong agents (test.agent.0 ∷ operand_agents test.right)) case.tests
  pub sets : All (λ set. AreAmong agents (set.agent.0 ∷ term_agents set.term)) case.sets

-- A number that is assigned to an agent of this size is below it.
abbrev pub FitsSize : Term → ℕ → Type 0
FitsSize terms.Any size = ⊤
FitsSize (terms.Number n) size = n < size
FitsSize (terms.Plus b n) size = ⊤
FitsSize (terms.Minus b n) size = ⊤

-- Each number that the case assigns is below its agent's size.
abbrev pub AssignsBelow : List ℕ → Case → Type 0
AssignsBelow sizes case = All (λ set. FitsSize set.term (value_of set.agent sizes)) case.sets

-- Some case covers the joint data.
abbrev pub IsCovered : List ℕ → List Case → ℕ → Type 0
IsCovered sizes cases d = IsTrue (list_any (λ case. covers case (split sizes d)) cases)

-- Some case covers each joint data.
abbrev pub AllCovered : List ℕ → List Case → Type 0
AllCovered sizes cases = (d : ℕ) → d < data_count sizes → IsCovered sizes cases d

-- the least joint data that no case covers
abbrev pub first_uncovered : List ℕ → List Case → Option ℕ
first_uncovered sizes cases = find (λ d. not (list_any (λ case. covers case (split sizes d)) cases)) (range_with_len 0 (data_count sizes))

-- the joint data that an answer without a table names
abbrev pub named_uncovered : {T : Type 0} → Result T TableFault → Option ℕ
named_uncovered (Ok table) = None
named_uncovered (Err (NotTotal d)) = Some d
named_uncovered (Err Memory) = None

-- why there is no table, by the least joint data that no case covers
abbrev pub fault_of : Option ℕ → TableFault
fault_of None = Memory
fault_of (Some d) = NotTotal d

-- This is the least joint data that no case covers.
pub record IsFirstUncovered (sizes : List ℕ) (cases : List Case) (d : ℕ) : Type 0 where
  pub below : d < data_count sizes
  pub uncovered : ¬ IsCovered sizes cases d
  pub least : (e : ℕ) → e < d → IsCovered sizes cases e

-- Why there is no table: these are the least joint data that no case covers; or all are covered, and memory is wanted.
abbrev pub HasTableFault : List ℕ → List Case → TableFault → Type 0
HasTableFault sizes cases (NotTotal d) = IsFirstUncovered sizes cases d
HasTableFault sizes cases Memory = AllCovered sizes cases

-- No value is assigned twice.
abbrev pub AssignsOnce : Case → Type 0
AssignsOnce case = AllPairs (λ one two. place_of one.agent ≢ place_of two.agent) case.sets

-- An agent on the right side of a comparison is below the count.
abbrev pub OperandBelow : ℕ → Operand → Type 0
OperandBelow count (operands.Number n) = ⊤
OperandBelow count (operands.Value b) = b.0 < count

-- The agents of a comparison are below the count.
abbrev pub TestBelow : ℕ → Test → Type 0
TestBelow count test = (test.agent.0 < count) × OperandBelow count test.right

-- An agent of a term is below the count.
abbrev pub TermBelow : ℕ → Term → Type 0
TermBelow count terms.Any = ⊤
TermBelow count (terms.Number n) = ⊤
TermBelow count (terms.Plus b n) = b.0 < count
TermBelow count (terms.Minus b n) = b.0 < count

-- The agents of an assignment are below the count.
abbrev pub SetBelow : ℕ → Set → Type 0
SetBelow count set = (set.agent.0 < count) × TermBelow count set.term

-- Each agent that the case names is below the count.
pub record IsNamedBelow (count : ℕ) (case : Case) : Type 0 where
  pub tests : All (TestBelow count) case.tests
  pub sets : All (SetBelow count) case.sets
