-- What an agent does: it tells, is given a message, or decides. Each is an act: what the agent records, what it holds
-- afterwards, and what it sends.
use Rattle.std.specs.Prelude.{ℕ, Bool, false, not, ◌&&◌, ◌||◌, ◌==◌, nat_lt, if◌then◌else◌, List, [], ◌∷◌, length, map, find, slice_set, Option, Some, None, ⊤}
use Rattle.std.specs.List.{list_any}
use Rattle.std.specs.Option.{option_map_or, option_and_then, option_to_list}
use Rattle.nego_base.specs.Members.{is_in}
use Rattle.nego_model.specs.Diagram.{PlainDiagram, parties_of, leader_of, outcomes_from}
use Rattle.agent_msg.specs.Messages.{ReadyMessage, DecideMessage, Message, ReadyOf, DecideOf}
use Rattle.agent_msg.specs.Records.{PlainRecord, Moved, decide_of}
use Rattle.agent_core.specs.Agents.{PlainAgent, size_of, held_from, record_atom, shares_in, share_of, recorded}

-- what an agent does: what it records, what it holds afterwards, and what it sends
pub record Act : Type 0 where
  pub kept : Option PlainRecord
  pub held : List (Option ReadyMessage)
  pub sends : List Message

-- the agent after an act
abbrev pub after_act : PlainDiagram → PlainAgent → Act → PlainAgent
after_act diagram agent act = record (option_map_or (recorded diagram agent) act.kept agent) { held = act.held }

-- an act that sends this and does nothing else
abbrev pub sending : PlainAgent → List Message → Act
sending agent sends = record { kept = None; held = agent.held; sends = sends }

-- whether an agent leads an atom
abbrev pub is_leader : PlainDiagram → ℕ → ℕ → Bool
is_leader diagram a n = leader_of diagram n == a

-- what an agent at this atom has to say to the atom's leader
abbrev pub own_ready : PlainDiagram → PlainAgent → ℕ → ReadyMessage
own_ready diagram agent n = record { from = agent.id; to = leader_of diagram n; atom = n; visit = length agent.records; value = agent.value }

-- what an agent tells: where it is at an atom that another leads, its Ready for that atom
abbrev pub ready_of : PlainDiagram → PlainAgent → Option ReadyMessage
ready_of diagram agent = option_and_then (λ n. if is_leader diagram agent.id n then None else Some (own_ready diagram agent n)) agent.at

-- the act of telling
abbrev pub telling : PlainDiagram → PlainAgent → Act
telling diagram agent = sending agent (map ReadyOf (option_to_list (ready_of diagram agent)))

-- what becomes of a message that is given to an agent
pub data Given : Type 0 where
  Kept : Given
  Recorded : PlainRecord → Given
  Again : DecideMessage → Given
  Old : Given
  Stranger : Given

-- Nothing is recorded.
abbrev pub IsUnrecorded : Given → Type 0
IsUnrecorded Kept = ⊤
IsUnrecorded (Recorded r) = ⊥
IsUnrecorded (Again decide) = ⊤
IsUnrecorded Old = ⊤
IsUnrecorded Stranger = ⊤

-- whether a Ready is for an atom that the agent leads, from another party of it, with a value below the party's size
abbrev pub is_for : PlainDiagram → PlainAgent → ReadyMessage → Bool
is_for diagram agent ready =
    is_leader diagram agent.id ready.atom && is_in ready.from (parties_of diagram ready.atom) && not (ready.from == agent.id) && nat_lt ready.value (size_of diagram ready.from)

-- whether the record is a decision with the agent, whose visit there passes the test
abbrev pub has_visit : ℕ → (ℕ → Bool) → PlainRecord → Bool
has_visit p test r = option_map_or (λ s. test s.visit) (share_of p (shares_in r)) false

-- the answer to a Ready on which the agent decided: the Decide again, where the decision was of that atom
abbrev pub answered_by : PlainAgent → ReadyMessage → PlainRecord → Given
answered_by agent ready decision =
    if record_atom decision == ready.atom then option_map_or Again (decide_of agent.id ready.from decision) Stranger else Stranger

-- whether a decision with the sender has a greater visit than the Ready, or the Ready that is held from it has
abbrev pub is_passed : PlainAgent → ReadyMessage → Bool
is_passed agent ready =
    list_any (has_visit ready.from (nat_lt ready.visit)) agent.records || option_map_or (λ held. nat_lt ready.visit held.visit) (held_from agent ready.from) false

-- What becomes of a Ready, by the first rule that fits: it isn't one for the agent; the agent decided on it, first in
-- this decision; it is passed; it is kept.
abbrev pub given_ready : PlainDiagram → PlainAgent → ReadyMessage → Given
given_ready diagram agent ready =
    if not (is_for diagram agent ready) then Stranger else option_map_or (answered_by agent ready) (find (has_visit ready.from (λ visit. visit == ready.visit)) agent.records) (if is_passed agent ready then Stranger else Kept)

-- whether a Decide is the one that the agent waits for: with as many records as its visit, at its atom, which the
-- sender leads and the agent doesn't, of one of the atom's outcomes, with a value below the agent's size
abbrev pub is_awaited : PlainDiagram → PlainAgent → DecideMessage → Bool
is_awaited diagram agent decide =
    decide.visit == length agent.records && option_map_or (λ n. n == decide.atom) agent.at false && not (is_leader diagram agent.id decide.atom) && is_leader diagram decide.from decide.atom
    && is_in decide.outcome (outcomes_from 0 diagram.outcomes decide.atom) && nat_lt decide.after (size_of diagram agent.id)

-- What becomes of a Decide: it is old where the agent has more records than its visit; else the agent records its move
-- where it waits for it.
abbrev pub given_decide : PlainDiagram → PlainAgent → DecideMessage → Given
given_decide diagram agent decide =
    if nat_lt decide.visit (length agent.records) then Old else (if is_awaited diagram agent decide then Recorded (Moved decide.atom decide.outcome decide.after) else Stranger)

-- What becomes of a message: one to another agent is a stranger.
abbrev pub given : PlainDiagram → PlainAgent → Message → Given
given diagram agent (ReadyOf ready) = if ready.to == agent.id then given_ready diagram agent ready else Stranger
given diagram agent (DecideOf decide) = if decide.to == agent.id then given_decide diagram agent decide else Stranger

-- what the agent then holds: a Ready that is kept replaces the one from its sender
abbrev pub held_with : PlainAgent → Message → List (Option ReadyMessage)
held_with agent (ReadyOf ready) = slice_set agent.held ready.from (Some ready)
held_with agent (DecideOf decide) = agent.held

-- the act of an agent with which that becomes of a message
abbrev pub taking : PlainAgent → Message → Given → Act
taking agent message Kept = record { kept = None; held = held_with agent message; sends = [] }
taking agent message (Recorded r) = record { kept = Some r; held = agent.held; sends = [] }
taking agent message (Again decide) = sending agent (DecideOf decide ∷ [])
taking agent message Old = sending agent []
taking agent message Stranger = sending agent []
