-- Messages and records as bytes. Numbers of two bytes have the high byte first.
use Rattle.std.specs.Prelude.{◌≡◌, ◌≢◌, ℕ, ◌-◌, ◌*◌, ◌/◌, ◌%◌, ◌<◌, List, [], ◌∷◌, ◌++◌, length, map, replicate, flat_map, All}
use Rattle.nego_base.specs.Members.{IsRisingBelow}
use Rattle.agent_msg.specs.Messages.{Message, ReadyOf, DecideOf, ReadyMessage, DecideMessage}
use Rattle.agent_msg.specs.Records.{PlainRecord, Moved, Decided, Share}

-- the low byte of a number, and its low two bytes
abbrev pub low_byte : ℕ → ℕ
low_byte n = n % 256

abbrev pub two_bytes : ℕ → List ℕ
two_bytes n = low_byte (n / 256) ∷ low_byte n ∷ []

-- the 16 bytes of a message
abbrev pub message_bytes : Message → List ℕ
message_bytes (ReadyOf r) =
    0x4e ∷ 0x52 ∷ low_byte r.from ∷ low_byte r.to ∷ (two_bytes r.atom ++ (two_bytes r.visit ++ low_byte r.value ∷ replicate 7 0))
message_bytes (DecideOf d) =
    0x4e ∷ 0x44 ∷ low_byte d.from ∷ low_byte d.to ∷ (two_bytes d.atom ++ (two_bytes d.visit ++ (two_bytes d.outcome ++ low_byte d.after ∷ replicate 5 0)))

-- An agent tells another one; all its numbers are within their bounds.
pub record ReadyFits (r : ReadyMessage) : Type 0 where
  pub other : r.from ≢ r.to
  pub from : r.from < 16
  pub to : r.to < 16
  pub atom : r.atom < 64
  pub visit : r.visit < 10000
  pub value : r.value < 64

pub record DecideFits (d : DecideMessage) : Type 0 where
  pub other : d.from ≢ d.to
  pub from : d.from < 16
  pub to : d.to < 16
  pub atom : d.atom < 64
  pub outcome : d.outcome < 256
  pub visit : d.visit < 10000
  pub after : d.after < 64

abbrev pub MessageFits : Message → Type 0
MessageFits (ReadyOf r) = ReadyFits r
MessageFits (DecideOf d) = DecideFits d

-- The bytes spell the message.
pub record SpellsMessage (bytes : List ℕ) (m : Message) : Type 0 where
  pub fits : MessageFits m
  pub same : bytes ≡ message_bytes m

-- the bytes of a party's share
abbrev pub share_bytes : Share → List ℕ
share_bytes s = low_byte s.agent ∷ (two_bytes s.visit ++ low_byte s.after ∷ [])

-- what stands in a decision behind its first five bytes: how many parties there are, their shares, and zeros
abbrev pub tail_bytes : List Share → List ℕ
tail_bytes shares = low_byte (length shares) ∷ (flat_map share_bytes shares ++ replicate (121 - 4 * length shares) 0)

-- the 127 bytes of a record
abbrev pub entry_bytes : PlainRecord → List ℕ
entry_bytes (Moved atom outcome after) = 1 ∷ (two_bytes atom ++ (two_bytes outcome ++ low_byte after ∷ replicate 121 0))
entry_bytes (Decided atom outcome shares) =
    2 ∷ (two_bytes atom ++ (two_bytes outcome ++ tail_bytes shares))

-- A share's numbers are within their bounds.
pub record ShareFits (s : Share) : Type 0 where
  pub visit : s.visit < 10000
  pub after : s.after < 64

-- A move's numbers are within their bounds.
pub record MoveFits (atom outcome after : ℕ) : Type 0 where
  pub atom_fits : atom < 64
  pub outcome_fits : outcome < 256
  pub after_fits : after < 64

-- The parties of shares rise, and all their numbers are within their bounds.
pub record SharesFit (shares : List Share) : Type 0 where
  pub parties : IsRisingBelow 16 (map (λ s. s.agent) shares)
  pub each : All ShareFits shares

-- A decision has some party, and all its numbers are within their bounds.
pub record DecisionFits (atom outcome : ℕ) (shares : List Share) : Type 0 where
  pub atom_fits : atom < 64
  pub outcome_fits : outcome < 256
  pub some : shares ≢ []
  pub shares_fit : SharesFit shares

abbrev pub RecordFits : PlainRecord → Type 0
RecordFits (Moved atom outcome after) = MoveFits atom outcome after
RecordFits (Decided atom outcome shares) = DecisionFits atom outcome shares

-- The bytes spell the record.
pub record SpellsRecord (bytes : List ℕ) (e : PlainRecord) : Type 0 where
  pub fits : RecordFits e
  pub same : bytes ≡ entry_bytes e
