-- Messages in plain numbers.
use Rattle.std.specs.Prelude.{ℕ}
use Rattle.agent_msg.specs.declared.msg.Ready.{Ready}
use Rattle.agent_msg.specs.declared.msg.Decide.{Decide}
use Rattle.agent_msg.specs.declared.msg.Msg.{Msg}
use Rattle.agent_msg.specs.declared.msg.Msg.TheVariants as told

-- an agent tells the leader of its atom how many records it has, and its value
pub record ReadyMessage : Type 0 where
  pub from : ℕ
  pub to : ℕ
  pub atom : ℕ
  pub visit : ℕ
  pub value : ℕ

-- a leader tells a party of its atom the outcome, the visit on which the party waits, and the party's value after
pub record DecideMessage : Type 0 where
  pub from : ℕ
  pub to : ℕ
  pub atom : ℕ
  pub outcome : ℕ
  pub visit : ℕ
  pub after : ℕ

pub data Message : Type 0 where
  ReadyOf : ReadyMessage → Message
  DecideOf : DecideMessage → Message

abbrev pub ready_message : Ready → ReadyMessage
ready_message r = record { from = r.from.0; to = r.to.0; atom = r.atom.0; visit = r.visit; value = r.value }

abbrev pub decide_message : Decide → DecideMessage
decide_message d = record { from = d.from.0; to = d.to.0; atom = d.atom.0; outcome = d.outcome.0; visit = d.visit; after = d.after }

-- the message in plain numbers
abbrev pub message : Msg → Message
message (told.Ready r) = ReadyOf (ready_message r)
message (told.Decide d) = DecideOf (decide_message d)
