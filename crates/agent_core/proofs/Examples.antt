-- Small worlds, computed from the definitions.
use Rattle.std.proofs.Common.{◌≡◌, ℕ, List, [], ◌∷◌, Result, Ok, Err, map, refl}
use Rattle.std.specs.Result.{result_map_both}
use Rattle.nego_model.specs.Joining.{Entry}
use Rattle.nego_model.specs.Diagram.{PlainDiagram}
use Rattle.agent_msg.specs.Messages.{Message, ReadyOf, DecideOf}
use Rattle.agent_msg.specs.Records.{Moved, Decided}
use Rattle.agent_msg.specs.Records as journal
use Rattle.agent_core.specs.declared.choice.Choice.{Choice}
use Rattle.agent_core.specs.Worlds.{PlainWorld, PlainEvent, Tell, Give, Decide, GoesOn, StopsBefore, StopsAfter, Refusal, NoMessage, NoDecision, first_world, plays}
use Rattle.agent_core.specs.Deciding.{NotLeader, Waits}
use Rattle.agent_core.specs.Agreement.{journal_of}

-- Two agents of sizes 4 and 2. They take turns at atom 0: outcome 0 raises the first agent's value and leads both back,
-- outcome 1 sets the second's to 1 and leads both to atom 1, whose outcome 2 keeps all.
abbrev taking_turns : PlainDiagram
taking_turns = record {
  agents = [] ∷ [] ∷ [];
  sizes = 4 ∷ 2 ∷ [];
  atoms = record { name = []; parties = 0 ∷ 1 ∷ [] } ∷ record { name = []; parties = 0 ∷ 1 ∷ [] } ∷ [];
  outcomes = record { name = []; atom = 0; nexts = (0 ∷ []) ∷ (0 ∷ []) ∷ []; table = (2 ∷ []) ∷ (3 ∷ []) ∷ (4 ∷ []) ∷ (5 ∷ []) ∷ (6 ∷ []) ∷ (7 ∷ []) ∷ (6 ∷ []) ∷ (7 ∷ []) ∷ [] }
      ∷ record { name = []; atom = 0; nexts = (1 ∷ []) ∷ (1 ∷ []) ∷ []; table = (1 ∷ []) ∷ (1 ∷ []) ∷ (3 ∷ []) ∷ (3 ∷ []) ∷ (5 ∷ []) ∷ (5 ∷ []) ∷ (7 ∷ []) ∷ (7 ∷ []) ∷ [] }
      ∷ record { name = []; atom = 1; nexts = [] ∷ [] ∷ []; table = (0 ∷ []) ∷ (1 ∷ []) ∷ (2 ∷ []) ∷ (3 ∷ []) ∷ (4 ∷ []) ∷ (5 ∷ []) ∷ (6 ∷ []) ∷ (7 ∷ []) ∷ [] } ∷ [];
  first = 0;
  last = 1;
}

-- a choice of an outcome
abbrev choose : ℕ → Choice
choose k = record { outcome = k; pick = 0 }

-- what is seen of a world: the history, the journals, and what was sent
pub record Seen : Type 0 where
  pub history : List Entry
  pub journals : List (List journal.PlainRecord)
  pub sent : List Message

-- what is seen after events from the beginning on, at data 0, or why one is refused
abbrev seen_after : PlainDiagram → List PlainEvent → Result Seen (ℕ × Refusal)
seen_after diagram events =
    result_map_both (λ (world : PlainWorld). record { history = world.history; journals = map (λ agent. agent.records) world.agents; sent = world.sent }) (λ why. why) (plays diagram (first_world diagram 0) (map (λ event. (0, event)) events))

abbrev ready : ℕ → ℕ → ℕ → Message
ready n visit value = ReadyOf (record { from = 1; to = 0; atom = n; visit = visit; value = value })

abbrev decide : ℕ → ℕ → ℕ → ℕ → Message
decide n o visit after = DecideOf (record { from = 0; to = 1; atom = n; outcome = o; visit = visit; after = after })

abbrev shares : ℕ → ℕ → ℕ → List journal.Share
shares visit one two = record { agent = 0; visit = visit; after = one } ∷ record { agent = 1; visit = visit; after = two } ∷ []

-- A repeated Ready behind a decision gets the Decide again, and is not held: the leader waits for the next Ready.
repeated_ready : seen_after taking_turns (Tell 1 ∷ Give 0 GoesOn ∷ Give 0 GoesOn ∷ Decide 0 (choose 0) GoesOn ∷ Give 0 GoesOn ∷ Decide 0 (choose 0) GoesOn ∷ []) ≡ Err (0, NoDecision (Waits 1))
repeated_ready = refl

-- A Decide that comes late, behind the next one or twice, is old: each is recorded once.
late_decide : seen_after taking_turns (Tell 1 ∷ Give 0 GoesOn ∷ Decide 0 (choose 0) GoesOn ∷ Give 1 GoesOn ∷ Give 1 GoesOn ∷ Tell 1 ∷ Give 2 GoesOn ∷ Decide 0 (choose 1) GoesOn ∷ Give 3 GoesOn ∷ Give 1 GoesOn ∷ [])
    ≡ Ok (record {
      history = record { step = (0, 0); joint = 2 } ∷ record { step = (0, 1); joint = 3 } ∷ [];
      journals = (Decided 0 0 (shares 0 1 0) ∷ Decided 0 1 (shares 1 1 1) ∷ []) ∷ (Moved 0 0 0 ∷ Moved 0 1 1 ∷ []) ∷ [];
      sent = ready 0 0 0 ∷ decide 0 0 0 0 ∷ ready 0 1 0 ∷ decide 0 1 1 1 ∷ [];
    })
late_decide = refl

-- A leader that stops after its record and before it sends has decided; it tells the party once that asks again.
stopped_before_sending : seen_after taking_turns (Tell 1 ∷ Give 0 GoesOn ∷ Decide 0 (choose 1) StopsAfter ∷ Tell 1 ∷ Give 0 GoesOn ∷ Give 1 GoesOn ∷ [])
    ≡ Ok (record {
      history = record { step = (0, 1); joint = 1 } ∷ [];
      journals = (Decided 0 1 (shares 0 0 1) ∷ []) ∷ (Moved 0 1 1 ∷ []) ∷ [];
      sent = ready 0 0 0 ∷ decide 0 1 0 1 ∷ [];
    })
stopped_before_sending = refl

-- A leader that stops before its record is kept has decided nothing, sends nothing, and holds nothing.
stopped_before_recording : seen_after taking_turns (Tell 1 ∷ Give 0 GoesOn ∷ Decide 0 (choose 1) StopsBefore ∷ [])
    ≡ Ok (record { history = []; journals = [] ∷ [] ∷ []; sent = ready 0 0 0 ∷ [] })
stopped_before_recording = refl

-- A number that no message has is refused, and so is a decision of who isn't the leader.
no_message : seen_after taking_turns (Give 0 GoesOn ∷ []) ≡ Err (0, NoMessage 0)
no_message = refl

no_leader : seen_after taking_turns (Decide 1 (choose 0) GoesOn ∷ []) ≡ Err (0, NoDecision NotLeader)
no_leader = refl

-- Two agents of size 2. After atom 0 each goes to an atom of its own, which sets its value to 1, and then both to the
-- last.
abbrev side_by_side : PlainDiagram
side_by_side = record {
  agents = [] ∷ [] ∷ [];
  sizes = 2 ∷ 2 ∷ [];
  atoms = record { name = []; parties = 0 ∷ 1 ∷ [] } ∷ record { name = []; parties = 0 ∷ [] } ∷ record { name = []; parties = 1 ∷ [] } ∷ record { name = []; parties = 0 ∷ 1 ∷ [] } ∷ [];
  outcomes = record { name = []; atom = 0; nexts = (1 ∷ []) ∷ (2 ∷ []) ∷ []; table = (0 ∷ []) ∷ (1 ∷ []) ∷ (2 ∷ []) ∷ (3 ∷ []) ∷ [] }
      ∷ record { name = []; atom = 1; nexts = (3 ∷ []) ∷ [] ∷ []; table = (2 ∷ []) ∷ (3 ∷ []) ∷ (2 ∷ []) ∷ (3 ∷ []) ∷ [] }
      ∷ record { name = []; atom = 2; nexts = [] ∷ (3 ∷ []) ∷ []; table = (1 ∷ []) ∷ (1 ∷ []) ∷ (3 ∷ []) ∷ (3 ∷ []) ∷ [] }
      ∷ record { name = []; atom = 3; nexts = [] ∷ [] ∷ []; table = (0 ∷ []) ∷ (1 ∷ []) ∷ (2 ∷ []) ∷ (3 ∷ []) ∷ [] } ∷ [];
  first = 0;
  last = 3;
}

abbrev both_lead : List PlainEvent
both_lead = Tell 1 ∷ Give 0 GoesOn ∷ Decide 0 (choose 0) GoesOn ∷ Give 1 GoesOn ∷ Decide 1 (choose 0) GoesOn ∷ Decide 0 (choose 0) GoesOn ∷ []

-- Two leaders side by side: each decides for itself, and neither changes the other's value.
leaders_side_by_side : seen_after side_by_side both_lead
    ≡ Ok (record {
      history = record { step = (0, 0); joint = 0 } ∷ record { step = (2, 2); joint = 1 } ∷ record { step = (1, 1); joint = 3 } ∷ [];
      journals = (Decided 0 0 (shares 0 0 0) ∷ Decided 1 1 (record { agent = 0; visit = 1; after = 1 } ∷ []) ∷ []) ∷ (Moved 0 0 0 ∷ Decided 2 2 (record { agent = 1; visit = 1; after = 1 } ∷ []) ∷ []) ∷ [];
      sent = ready 0 0 0 ∷ decide 0 0 0 0 ∷ [];
    })
leaders_side_by_side = refl

-- The journals are those that the history gives.
history_gives_journals : map (journal_of side_by_side (record { step = (0, 0); joint = 0 } ∷ record { step = (2, 2); joint = 1 } ∷ record { step = (1, 1); joint = 3 } ∷ [])) (0 ∷ 1 ∷ [])
    ≡ (Decided 0 0 (shares 0 0 0) ∷ Decided 1 1 (record { agent = 0; visit = 1; after = 1 } ∷ []) ∷ []) ∷ (Moved 0 0 0 ∷ Decided 2 2 (record { agent = 1; visit = 1; after = 1 } ∷ []) ∷ []) ∷ []
history_gives_journals = refl
