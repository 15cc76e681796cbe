-- The report of a world. Every line ends with a newline; agents, atoms and outcomes stand with their names.
use Rattle.std.specs.Prelude.{ℕ, List, ◌++◌, length, Option, codes, decimal}
use Rattle.std.specs.List.{flat_map, range_with_len}
use Rattle.std.specs.Option.{option_map_or}
use Rattle.nego_data.specs.Data.{split}
use Rattle.nego_model.specs.Joining as model
use Rattle.nego_model.specs.Diagram.{PlainDiagram, agent_name, atom_name, outcome_name}
use Rattle.agent_msg.specs.Records.{Share, PlainRecord, Moved, Decided}
use Rattle.agent_core.specs.Agents.{PlainAgent}
use Rattle.agent_core.specs.Worlds.{PlainWorld, agent_of}
use Rattle.nego_world.specs.Stepping.{finished_count}

-- an atom and an outcome
abbrev pub step_words : PlainDiagram → ℕ → ℕ → List ℕ
step_words diagram n o = atom_name diagram n ++ (codes " " ++ outcome_name diagram o)

-- numbers, each behind a blank
abbrev pub number_words : List ℕ → List ℕ
number_words numbers = flat_map (λ n. codes " " ++ decimal n) numbers

-- an entry of the history: the atom that occurred, its outcome, and the value of each agent after it
abbrev pub entry_line : PlainDiagram → model.Entry → List ℕ
entry_line diagram entry = codes "did " ++ (step_words diagram entry.step.0 entry.step.1 ++ (number_words (split diagram.sizes entry.joint) ++ codes "\n"))

-- a party of a decision, with its visit and its value after, behind a blank
abbrev pub share_words : PlainDiagram → Share → List ℕ
share_words diagram share = codes " " ++ (agent_name diagram share.agent ++ (codes ":" ++ (decimal share.visit ++ (codes ":" ++ decimal share.after))))

-- a record of an agent
abbrev pub record_line : PlainDiagram → PlainRecord → List ℕ
record_line diagram (Moved n o after) = codes "move " ++ (step_words diagram n o ++ (codes " " ++ (decimal after ++ codes "\n")))
record_line diagram (Decided n o shares) = codes "decision " ++ (step_words diagram n o ++ (flat_map (share_words diagram) shares ++ codes "\n"))

-- where an agent is: at an atom, or finished
abbrev pub place_words : PlainDiagram → Option ℕ → List ℕ
place_words diagram at = option_map_or (λ n. codes " at " ++ atom_name diagram n) at (codes " done")

-- how many records an agent has, and the records
abbrev pub journal_lines : PlainDiagram → ℕ → List PlainRecord → List ℕ
journal_lines diagram count records = codes " records " ++ (decimal count ++ (codes "\n" ++ flat_map (record_line diagram) records))

-- the agent of a number: where it is, its value, and its records
abbrev pub agent_lines : PlainDiagram → ℕ → PlainAgent → List ℕ
agent_lines diagram a agent =
    codes "agent " ++ (agent_name diagram a ++ (place_words diagram agent.at ++ (codes " " ++ (decimal agent.value ++ journal_lines diagram (length agent.records) agent.records))))

-- how many events there were, and how many messages were sent
abbrev pub head_lines : PlainWorld → ℕ → List ℕ
head_lines world events = codes "world 1\nevents " ++ (decimal events ++ (codes "\nsent " ++ (decimal (length world.sent) ++ codes "\n")))

-- the agents in their order
abbrev pub all_agents : PlainDiagram → PlainWorld → List ℕ
all_agents diagram world = flat_map (λ a. agent_lines diagram a (agent_of diagram world a)) (range_with_len 0 (length diagram.agents))

-- how many agents are finished, and how many there are
abbrev pub finished_line : PlainDiagram → PlainWorld → List ℕ
finished_line diagram world = codes "finished " ++ (decimal (finished_count world) ++ (codes " of " ++ (decimal (length diagram.agents) ++ codes "\n")))

-- The report of a world after so many events: their number, the history, the agents, and how many of them are finished.
unfoldable pub report_text : PlainDiagram → PlainWorld → ℕ → List ℕ
report_text diagram world events = head_lines world events ++ (flat_map (entry_line diagram) world.history ++ (all_agents diagram world ++ finished_line diagram world))
