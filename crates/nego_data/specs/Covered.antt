-- Sets of joint data that are told by their values.
use Rattle.std.specs.Prelude.{◌≡◌, ℕ, ◌<◌, ◌==◌, Bool, true, not, ◌&&◌, List, length, ⊤}
use Rattle.std.specs.List.{list_all, list_any}
use Rattle.nego_data.specs.declared.cases.Case.{Case}
use Rattle.nego_data.specs.declared.covered.Known.{Known}
use Rattle.nego_data.specs.declared.making.NoRows.{NoRows}
use Rattle.nego_data.specs.declared.making.NoRows.TheVariants as reasons
use Rattle.nego_data.specs.BitRows.{is_set}
use Rattle.nego_data.specs.Cases.{covers, test_holds}
use Rattle.nego_data.specs.Data.{data_count}
use Rattle.nego_data.specs.Sizes.{tuple_of}

-- The set has just those joint data whose values pass the test.
abbrev pub AreThose : List ℕ → (List ℕ → Bool) → List ℕ → Type 0
AreThose sizes test set = (d : ℕ) → d < data_count sizes → is_set set d ≡ test (tuple_of sizes d)

-- The joint data whose values pass the test are all in the set.
abbrev pub AreAmongThose : List ℕ → (List ℕ → Bool) → List ℕ → Type 0
AreAmongThose sizes test set = (d : ℕ) → d < data_count sizes → test (tuple_of sizes d) ≡ true → is_set set d ≡ true

-- What is known of a comparison is so.
abbrev pub IsKnown : List ℕ → Known → Type 0
IsKnown sizes known = AreThose sizes (test_holds known.test) known.set.words

-- The set has just the joint data that the cases cover, where it is told.
abbrev pub TellsCovered : List ℕ → List Case → NoRows → Type 0
TellsCovered sizes cases (reasons.Covered set) = AreThose sizes (λ values. list_any (λ case. covers case values) cases) set.words
TellsCovered sizes cases reasons.Memory = ⊤

-- whether a case has no comparison and no assignment, so that it covers all joint data and leaves them as they are
abbrev pub keeps_all : Case → Bool
keeps_all case = length case.tests == 0 && length case.sets == 0

-- whether there is a case, and all are such
abbrev pub keep_all : List Case → Bool
keep_all cases = not (length cases == 0) && list_all keeps_all cases
