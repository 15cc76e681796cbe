-- How the program's agents and answers are seen.
use Rattle.std.specs.Prelude.{◌<◌, ◌≤◌, length, map, Result, Ok, Err, ⊤}
use Rattle.std.specs.Option.{option_map}
use Rattle.agent_msg.specs.Messages.{ready_message, decide_message}
use Rattle.agent_msg.specs.Records.{PlainRecord, entry, IsTidy}
use Rattle.agent_core.specs.declared.agent.Agent.TheInside.{Inside}
use Rattle.agent_core.specs.declared.answers.Give.{Give}
use Rattle.agent_core.specs.declared.answers.Give.TheVariants as gives
use Rattle.agent_core.specs.declared.answers.Decided.{Decided}
use Rattle.agent_core.specs.declared.answers.Decided.TheVariants as decideds
use Rattle.agent_core.specs.declared.answers.Refused.{Refused}
use Rattle.agent_core.specs.declared.answers.Refused.TheVariants as refuseds
use Rattle.agent_core.specs.Roomy.{RoomyAgent}
use Rattle.agent_core.specs.Acts.{Given, Kept, Recorded, Again, Old, Stranger}
use Rattle.agent_core.specs.Deciding.{Undecided, Finished, NotLeader, Waits}

-- the agent that the fields are, and for how many more records there is room
abbrev pub roomy_agent : Inside → RoomyAgent
roomy_agent a = record {
  plain = record {
    id = a.id.0;
    start = a.start;
    at = option_map (λ n. n.0) a.at;
    value = a.value;
    records = map entry a.records.items;
    held = map (option_map ready_message) a.held;
  };
  spare = a.records.room;
}

-- An agent is one of up to 16, and has few enough records that 16 bits count them.
pub record IsKept (a : Inside) : Type 0 where
  pub few_agents : a.id.0 < 16
  pub few_records : length a.records.items ≤ 10001

-- what became of a message, in plain numbers
abbrev pub plain_give : Give → Given
plain_give gives.Kept = Kept
plain_give (gives.Recorded r) = Recorded (entry r)
plain_give (gives.Again decide) = Again (decide_message decide)
plain_give gives.Old = Old
plain_give gives.Stranger = Stranger

-- the decision, or why there is none, in plain numbers
abbrev pub plain_decided : Decided → Result PlainRecord Undecided
plain_decided (decideds.Done r) = Ok (entry r)
plain_decided decideds.Finished = Err Finished
plain_decided decideds.NotLeader = Err NotLeader
plain_decided (decideds.Waits p) = Err (Waits p.0)

-- why there is no decision, in plain numbers
abbrev pub plain_refused : Refused → Undecided
plain_refused refuseds.Finished = Finished
plain_refused refuseds.NotLeader = NotLeader
plain_refused (refuseds.Waits p) = Waits p.0

-- A record that was made of a message is tidy.
abbrev pub IsTidyGive : Give → Type 0
IsTidyGive gives.Kept = ⊤
IsTidyGive (gives.Recorded r) = IsTidy r
IsTidyGive (gives.Again decide) = ⊤
IsTidyGive gives.Old = ⊤
IsTidyGive gives.Stranger = ⊤

-- A record that was decided is tidy.
abbrev pub IsTidyDecided : Decided → Type 0
IsTidyDecided (decideds.Done r) = IsTidy r
IsTidyDecided decideds.Finished = ⊤
IsTidyDecided decideds.NotLeader = ⊤
IsTidyDecided (decideds.Waits p) = ⊤
