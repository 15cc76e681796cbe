-- Objects over memory: what they hold, and the record of their calls.
use Rattle.std.specs.Prelude.{ℕ, Bool, List, if◌then◌else◌}
use Rattle.nego_io.specs.Outside.{next_count}

-- the numbers of the calls that fail, counted from 0; how many calls were made; how many failed
pub record CallRecord : Type 0 where
  pub listed : List ℕ
  pub made : ℕ
  pub failed : ℕ

-- the record with one more call
abbrev pub after_call : Bool → CallRecord → CallRecord
after_call failed calls =
    record { listed = calls.listed; made = next_count calls.made; failed = if failed then next_count calls.failed else calls.failed }

-- no call was made yet
abbrev pub no_calls : List ℕ → CallRecord
no_calls listed = record { listed = listed; made = 0; failed = 0 }

-- a source over memory: what is left, and its calls
pub record SourceState : Type 0 where
  pub left : List ℕ
  pub calls : CallRecord

-- a sink over memory: what was taken, its calls, and how many of them failed for want of memory
pub record SinkState : Type 0 where
  pub taken : List ℕ
  pub calls : CallRecord
  pub starved : ℕ
