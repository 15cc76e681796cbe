-- How a leader decides: what it knows of the parties, which outcomes are open, what a choice picks, and the decision.
use Rattle.std.specs.Prelude.{ℕ, ◌%◌, not, ◌==◌, nat_lt, if◌then◌else◌, List, [], length, map, find, slice_index, slice_index_or, Option, Some, None, Result, Ok, Err}
use Rattle.std.specs.List.{filter, flat_map, range_with_len}
use Rattle.std.specs.Option.{option_map_or, option_and_then, option_to_list, is_some}
use Rattle.std.specs.Result.{result_map_both, result_unwrap_or}
use Rattle.nego_base.specs.Members.{is_in}
use Rattle.nego_base.specs.Results.{◌>>=◌}
use Rattle.nego_data.specs.Data.{split, joint}
use Rattle.nego_data.specs.Places.{value_of}
use Rattle.nego_model.specs.Diagram.{PlainDiagram, parties_of, outcomes_from, outcome_table}
use Rattle.agent_msg.specs.Messages.{ReadyMessage, Message, DecideOf}
use Rattle.agent_msg.specs.Records.{Share, PlainRecord, Decided, decide_of}
use Rattle.agent_core.specs.declared.choice.Choice.{Choice}
use Rattle.agent_core.specs.Agents.{PlainAgent, held_from}
use Rattle.agent_core.specs.Acts.{Act, after_act, is_leader, own_ready}

-- the value of an agent in joint data
abbrev pub value_in : PlainDiagram → ℕ → ℕ → ℕ
value_in diagram d a = value_of (record { 0 = a }) (split diagram.sizes d)

-- the Ready that is held from an agent for this atom
abbrev pub held_for : PlainAgent → ℕ → ℕ → Option ReadyMessage
held_for agent n p = option_and_then (λ ready. if ready.atom == n then Some ready else None) (held_from agent p)

-- what the leader of an atom knows of an agent: of itself what it has to say, else the Ready that it holds for the atom
abbrev pub known_of : PlainDiagram → PlainAgent → ℕ → ℕ → Option ReadyMessage
known_of diagram agent n p = if p == agent.id then Some (own_ready diagram agent n) else held_for agent n p

-- the least party of whom the leader of an atom knows nothing
abbrev pub waits_for : PlainDiagram → PlainAgent → ℕ → Option ℕ
waits_for diagram agent n = find (λ p. not (is_some (known_of diagram agent n p))) (parties_of diagram n)

-- why an agent doesn't decide: it is finished, another leads its atom, or it waits for a party
pub data Undecided : Type 0 where
  Finished : Undecided
  NotLeader : Undecided
  Waits : ℕ → Undecided

-- The atom that an agent may decide, or why it decides none, by the first that fits.
abbrev pub atom_to_decide : PlainDiagram → PlainAgent → Result ℕ Undecided
atom_to_decide diagram agent =
    option_map_or (λ n. if is_leader diagram agent.id n then option_map_or (λ p. Err (Waits p)) (waits_for diagram agent n) (Ok n) else Err NotLeader) agent.at (Err Finished)

-- the joint data as the leader of an atom knows them, with 0 for each agent of whom it knows nothing
abbrev pub known_joint : PlainDiagram → PlainAgent → ℕ → ℕ
known_joint diagram agent n =
    joint diagram.sizes (map (λ p. option_map_or (λ ready. ready.value) (known_of diagram agent n p) 0) (range_with_len 0 (length diagram.agents)))

-- the joint data to which an outcome relates joint data
abbrev pub related_by : PlainDiagram → ℕ → ℕ → List ℕ
related_by diagram o d = slice_index_or (outcome_table diagram o) d []

-- the outcomes of an atom that are open at joint data: those that relate the data to some
abbrev pub open_outcomes : PlainDiagram → ℕ → ℕ → List ℕ
open_outcomes diagram n d = filter (λ o. nat_lt 0 (length (related_by diagram o d))) (outcomes_from 0 diagram.outcomes n)

-- the item that a number picks, which counts the items round and round
abbrev pub picked : List ℕ → ℕ → ℕ
picked items k = slice_index items (k % length items)

-- the outcome that a choice picks: one of the open ones
abbrev pub chosen_outcome : PlainDiagram → ℕ → ℕ → Choice → ℕ
chosen_outcome diagram n d choice = picked (open_outcomes diagram n d) choice.outcome

-- the joint data that a choice picks: one of those to which the outcome relates the data
abbrev pub chosen_joint : PlainDiagram → ℕ → ℕ → Choice → ℕ
chosen_joint diagram n d choice = picked (related_by diagram (chosen_outcome diagram n d choice) d) choice.pick

-- the choice with each of its numbers less than what it counts
abbrev pub reduced : PlainDiagram → ℕ → ℕ → Choice → Choice
reduced diagram n d choice = record {
  outcome = choice.outcome % length (open_outcomes diagram n d);
  pick = choice.pick % length (related_by diagram (chosen_outcome diagram n d choice) d);
}

-- the share of a party in a decision that leads to joint data: its visit as the leader knows it, and its value there
abbrev pub share_at : PlainDiagram → PlainAgent → ℕ → ℕ → ℕ → Share
share_at diagram agent n e p = record { agent = p; visit = option_map_or (λ ready. ready.visit) (known_of diagram agent n p) 0; after = value_in diagram e p }

-- the decision of the leader of an atom by a choice
abbrev pub decision_by : PlainDiagram → PlainAgent → ℕ → Choice → PlainRecord
decision_by diagram agent n choice =
    let d = known_joint diagram agent n in
    Decided n (chosen_outcome diagram n d choice) (map (share_at diagram agent n (chosen_joint diagram n d choice)) (parties_of diagram n))

-- a Ready that is held, unless it is from one of these agents
abbrev pub unless_from : List ℕ → Option ReadyMessage → Option ReadyMessage
unless_from agents slot = option_and_then (λ ready. if is_in ready.from agents then None else Some ready) slot

-- what is held, without what is from these agents
abbrev pub without_from : List ℕ → List (Option ReadyMessage) → List (Option ReadyMessage)
without_from agents held = map (unless_from agents) held

-- what a leader sends of a decision: a Decide to each other party, in rising order
abbrev pub decides_of : ℕ → List ℕ → PlainRecord → List Message
decides_of leader parties decision = flat_map (λ p. map DecideOf (option_to_list (decide_of leader p decision))) parties

-- the act of deciding: the decision is recorded, the Readies of the parties are dropped, and the parties are told
abbrev pub deciding : PlainDiagram → PlainAgent → ℕ → Choice → Act
deciding diagram agent n choice =
    let decision = decision_by diagram agent n choice in
    record { kept = Some decision; held = without_from (parties_of diagram n) agent.held; sends = decides_of agent.id (parties_of diagram n) decision }

-- the decision of an agent by a choice, or why it doesn't decide
abbrev pub decided : PlainDiagram → PlainAgent → Choice → Result PlainRecord Undecided
decided diagram agent choice = atom_to_decide diagram agent >>= λ n. Ok (decision_by diagram agent n choice)

-- the act of an agent that decides by a choice, or why it doesn't decide
abbrev pub decides : PlainDiagram → PlainAgent → Choice → Result Act Undecided
decides diagram agent choice = atom_to_decide diagram agent >>= λ n. Ok (deciding diagram agent n choice)

-- the agent after it decides by a choice, and as it was where it doesn't decide
abbrev pub after_decision : PlainDiagram → PlainAgent → Choice → PlainAgent
after_decision diagram agent choice = result_unwrap_or (result_map_both (after_act diagram agent) (λ why. why) (decides diagram agent choice)) agent

-- the choice by which an agent decides, with its numbers reduced, or why it doesn't decide
abbrev pub reduces : PlainDiagram → PlainAgent → Choice → Result Choice Undecided
reduces diagram agent choice = atom_to_decide diagram agent >>= λ n. Ok (reduced diagram n (known_joint diagram agent n) choice)
