-- The relation of an outcome on joint data, by its cases.
use Rattle.std.specs.Prelude.{ℕ, ◌+◌, ◌-◌, min, Bool, true, not, ◌&&◌, ◌==◌, nat_lt, nat_le, if◌then◌else◌, List, [], ◌∷◌, slice_index, Option, Some, None}
use Rattle.std.specs.List.{list_any, list_all}
use Rattle.nego_base.specs.declared.op.Op.{Op}
use Rattle.nego_base.specs.declared.op.Op.TheVariants.{Eq, Ne, Lt, Le, Gt, Ge}
use Rattle.nego_data.specs.declared.cases.Operand.{Operand}
use Rattle.nego_data.specs.declared.cases.Operand.TheVariants as operands
use Rattle.nego_data.specs.declared.cases.Term.{Term}
use Rattle.nego_data.specs.declared.cases.Term.TheVariants as terms
use Rattle.nego_data.specs.declared.cases.Test.{Test}
use Rattle.nego_data.specs.declared.cases.Set.{Set}
use Rattle.nego_data.specs.declared.cases.Case.{Case}
use Rattle.nego_data.specs.Data.{data_count, split}
use Rattle.nego_data.specs.Places.{place_of, value_of}
use Rattle.nego_data.specs.Tables.{rows_by}

-- whether the comparison of two numbers holds
abbrev pub compares : Op → ℕ → ℕ → Bool
compares Eq a b = a == b
compares Ne a b = not (a == b)
compares Lt a b = nat_lt a b
compares Le a b = nat_le a b
compares Gt a b = nat_lt b a
compares Ge a b = nat_le b a

-- the number on the right of a comparison
abbrev pub operand_value : Operand → List ℕ → ℕ
operand_value (operands.Number n) values = n
operand_value (operands.Value b) values = value_of b values

-- whether a comparison holds of these values
abbrev pub test_holds : Test → List ℕ → Bool
test_holds test values = compares test.op (value_of test.agent values) (operand_value test.right values)

-- whether an agent of this size may have the value after it was assigned the term
abbrev pub gives : Term → ℕ → List ℕ → ℕ → Bool
gives terms.Any size values value = nat_lt value size
gives (terms.Number n) size values value = value == n
gives (terms.Plus b n) size values value = value == min (value_of b values + n) (size - 1)
gives (terms.Minus b n) size values value = value == min (value_of b values - n) (size - 1)

-- what is assigned to the value at a place
abbrev pub term_for : List Set → ℕ → Option Term
term_for [] k = None
term_for (set ∷ sets) k = if place_of set.agent == k then Some set.term else term_for sets k

-- A case covers values of which all its comparisons hold.
abbrev pub covers : Case → List ℕ → Bool
covers case values = list_all (λ test. test_holds test values) case.tests

-- whether a value of this size that is assigned this, or nothing, may follow `old`
abbrev pub agent_follows : Option Term → ℕ → List ℕ → ℕ → ℕ → Bool
agent_follows None size values old new = new == old
agent_follows (Some term) size values old new = gives term size values new

-- whether the values from place k on, of these sizes, follow the assignments
abbrev pub agents_follow : ℕ → List ℕ → List Set → List ℕ → List ℕ → Bool
agents_follow k [] sets old new = true
agents_follow k (size ∷ sizes) sets old new =
    agent_follows (term_for sets k) size old (slice_index old k) (slice_index new k) && agents_follow (k + 1) sizes sets old new

-- Whether a case relates values to values: it covers the first, each agent that it assigns has its term's value,
-- and every other agent the value as before.
abbrev pub case_relates : List ℕ → Case → List ℕ → List ℕ → Bool
case_relates sizes case old new = covers case old && agents_follow 0 sizes case.sets old new

-- whether the cases relate joint data to joint data
abbrev pub relates : List ℕ → List Case → ℕ → ℕ → Bool
relates sizes cases d e =
    nat_lt d (data_count sizes) && (nat_lt e (data_count sizes) && list_any (λ case. case_relates sizes case (split sizes d) (split sizes e)) cases)

-- for each joint data the rising list of those to which the cases relate it
unfoldable pub rows_of : List ℕ → List Case → List (List ℕ)
rows_of sizes cases = rows_by (data_count sizes) (relates sizes cases)
