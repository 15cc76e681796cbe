-- What a case gives the agents: the values that it fixes, and the agents that may have any.
use Rattle.std.specs.Prelude.{ℕ, ◌+◌, ◌-◌, min, Bool, true, false, ◌||◌, ◌==◌, List, length, map, slice_index, Option, Some, None}
use Rattle.std.specs.List.{list_all, filter, range_with_len}
use Rattle.nego_base.specs.Members.{is_in}
use Rattle.nego_data.specs.declared.bit_row.BitRow.{BitRow}
use Rattle.nego_data.specs.BitRows.{is_moved}
use Rattle.nego_data.specs.declared.cases.Set.{Set}
use Rattle.nego_data.specs.Cases.{term_for}
use Rattle.nego_data.specs.Data.{data_count}
use Rattle.nego_data.specs.Sizes.{tuple_of}
use Rattle.nego_data.specs.declared.cases.Term.{Term}
use Rattle.nego_data.specs.Places.{value_of}
use Rattle.nego_data.specs.declared.cases.Term.TheVariants.{Any, Number, Plus, Minus}

-- the least value that a term gives an agent of this size
abbrev pub least_given : Term → ℕ → List ℕ → ℕ
least_given Any size values = 0
least_given (Number n) size values = n
least_given (Plus b n) size values = min (value_of b values + n) (size - 1)
least_given (Minus b n) size values = min (value_of b values - n) (size - 1)

-- the least value that an agent of this size may have who is assigned this, or nothing, after `old`
abbrev pub least_after : Option Term → ℕ → List ℕ → ℕ → ℕ
least_after None size values old = old
least_after (Some term) size values old = least_given term size values

-- the least values that agents of these sizes may have who are assigned these, or nothing, after `old`
unfoldable pub least_values : List ℕ → List Set → List ℕ → List ℕ
least_values sizes sets old = map (λ k. least_after (term_for sets k) (slice_index sizes k) old (slice_index old k)) (range_with_len 0 (length sizes))

-- whether a term gives any value
abbrev pub is_any : Term → Bool
is_any Any = true
is_any (Number n) = false
is_any (Plus b n) = false
is_any (Minus b n) = false

-- whether an agent that is assigned this, or nothing, may have any value
abbrev pub is_free : Option Term → Bool
is_free None = false
is_free (Some term) = is_any term

-- Whether no agent but the free ones has a value above 0.
abbrev pub is_offset : List ℕ → List ℕ → Bool
is_offset free tuple = list_all (λ a. slice_index tuple a == 0 || is_in a free) (range_with_len 0 16)

-- the joint data in which no agent but the free ones has a value above 0
abbrev pub offsets_of : List ℕ → List ℕ → List ℕ
offsets_of sizes free = filter (λ o. is_offset free (tuple_of sizes o)) (range_with_len 0 (data_count sizes))

-- whether e is above the least by an offset, where offsets are kept as a row of bits, or are 0 alone
abbrev pub is_above : Option BitRow → ℕ → ℕ → Bool
is_above None least e = e == least
is_above (Some offsets) least e = is_moved offsets.words least e
