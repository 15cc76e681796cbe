-- Files as slots: a gate, the 127 bytes of a record, and so on.
use Rattle.std.specs.Prelude.{◌≡◌, ℕ, zero, suc, ◌*◌, Bool, true, false, ◌&&◌, ◌==◌, nat_lt, if◌then◌else◌, List, [], ◌∷◌, ◌++◌, length, map, take, drop, slice_index, slice_get, Option, Some, None, All}
use Rattle.nego_io.specs.Disks.{Torn}
use Rattle.agent_msg.specs.declared.record.Record.{Record}
use Rattle.agent_msg.specs.Records.{PlainRecord, entry}
use Rattle.agent_msg.specs.Bytes.{RecordFits, SpellsRecord, entry_bytes}

-- the record of a file's first slot
abbrev pub first_record : List ℕ → List ℕ
first_record file = take 127 (drop 1 file)

-- whether a file begins with a slot that counts: its gate is open, and something stands behind the slot
abbrev pub begins_kept : List ℕ → Bool
begins_kept file = (slice_index file 0 == 1) && nat_lt 128 (length file)

-- the records of the slots that count, up to the first that doesn't, and at most so many
unfoldable pub records_within : ℕ → List ℕ → List (List ℕ)
records_within zero file = []
records_within (suc most) file = if begins_kept file then first_record file ∷ records_within most (drop 128 file) else []

-- the records that a file keeps; at most 10,000 count
abbrev pub kept : List ℕ → List (List ℕ)
kept file = records_within 10000 file

-- The file stands for the list: its records, in order, are those that the file keeps.
pub record StandsFor (file : List ℕ) (journal : List PlainRecord) : Type 0 where
  pub fit : All RecordFits journal
  pub same : kept file ≡ map entry_bytes journal

-- The gate behind so many slots is there and closed.
abbrev pub IsClosed : ℕ → List ℕ → Type 0
IsClosed count file = slice_get file (128 * count) ≡ Some 0

-- The byte at this place is there and closed; it was so before, or it was written over what was there.
pub record Closes (at : ℕ) (before file : List ℕ) : Type 0 where
  pub closed : slice_get file at ≡ Some 0
  pub torn : Torn at 1 before file

-- Record k is the first of those that the file keeps that spells nothing.
pub record IsFirstBad (file : List ℕ) (k : ℕ) : Type 0 where
  pub before : List PlainRecord
  pub bad : List ℕ
  pub after : List (List ℕ)
  pub count : length before ≡ k
  pub split : kept file ≡ map entry_bytes before ++ bad ∷ after
  pub fit : All RecordFits before
  pub none : (e : PlainRecord) → SpellsRecord bad e → ⊥

-- A file's first slot doesn't count, or it counts and this is its record.
abbrev pub SaysFirst : List ℕ → Option Record → Type 0
SaysFirst file None = begins_kept file ≡ false
SaysFirst file (Some r) = (begins_kept file ≡ true) × SpellsRecord (first_record file) (entry r)

-- A file's first slot counts, and its record spells nothing.
pub record IsBadFirst (file : List ℕ) : Type 0 where
  pub counts : begins_kept file ≡ true
  pub none : (e : PlainRecord) → SpellsRecord (first_record file) e → ⊥
