-- How the program's outcomes and works are seen, and what holds of a work's fields at every moment.
use Rattle.std.specs.Prelude.{◌≡◌, ℕ, ◌-◌, ◌<◌, ◌≤◌, List, [], length, map, min, slice_index_or, All}
use Rattle.nego_base.specs.Members.{IsRising}
use Rattle.nego_expr.specs.declared.outcome.Outcome.{Outcome}
use Rattle.nego_expr.specs.declared.work.Work.TheInside.{Inside}
use Rattle.nego_expr.specs.Work.{WorkAtom, WorkOutcome, PlainWork}
use Rattle.nego_expr.specs.Room.{RoomyWork}
use Rattle.nego_expr.specs.Counts.{AreCountsOf, AreEntriesOf}
use Rattle.nego_expr.specs.Sorted.{AreMembersOf, AreSlotsOf}

-- an alive outcome, without the wrapping of its numbers
abbrev pub plain_outcome : Outcome → WorkOutcome
plain_outcome x = record { number = x.number.0; atom = x.atom.0; targets = x.targets; node = x.node.0; passed = x.passed }

-- the number of its atom
abbrev pub atom_number : Outcome → ℕ
atom_number x = x.atom.0

-- the atom of a number, of the parties of all atoms
abbrev pub atom_among : List (List ℕ) → ℕ → WorkAtom
atom_among parties n = record { number = n; parties = slice_index_or parties n [] }

-- how many numbers outcomes may have: those of 32 bits but the greatest
abbrev pub most_numbers : ℕ
most_numbers = 4294967295

-- the work that the fields are
abbrev pub plain_work : Inside → PlainWork
plain_work w = record {
  agents = w.agents;
  atoms = map (atom_among w.parties) w.left;
  first = w.first.0;
  last = w.last.0;
  nodes = w.nodes.nodes;
  numbers = w.numbers;
  outcomes = map plain_outcome w.outcomes.items;
  names = w.names;
  bases = w.bases;
}

-- the same, and for how many more nodes and outcomes there is room
abbrev pub roomy_work : Inside → RoomyWork
roomy_work w = record { plain = plain_work w; spare_nodes = w.nodes.room; spare_outcomes = min (min w.outcomes.room (min w.slots.room w.members.room)) (most_numbers - w.numbers) }

-- These are alive outcomes of a work with so many agents, numbers and nodes: their numbers rise and are below the
-- least that was never used; each has a target or none for every agent, and a node that is there.
pub record AreAlive (agents numbers nodes : ℕ) (outcomes : List WorkOutcome) : Type 0 where
  pub rising : IsRising (map (λ outcome. outcome.number) outcomes)
  pub used : All (λ outcome. outcome.number < numbers) outcomes
  pub fit : All (λ outcome. length outcome.targets ≡ agents) outcomes
  pub there : All (λ outcome. outcome.node < nodes) outcomes

-- What holds also between two edits: agents and atoms are few, each atom that is left has an entry of parties, the
-- outcomes are alive ones, the slots and the members are theirs, each atom has its count of them and of those that lead to
-- it from others, and numbers have 32 bits.
pub record IsUsable (w : Inside) : Type 0 where
  pub few_agents : w.agents ≤ 16
  pub few_atoms : length w.parties ≤ 64
  pub left_below : All (λ n. n < length w.parties) w.left
  pub alive : AreAlive w.agents w.numbers (length w.nodes.nodes) (map plain_outcome w.outcomes.items)
  pub few_numbers : w.numbers ≤ most_numbers
  pub sorted : AreSlotsOf (map plain_outcome w.outcomes.items) w.slots.items
  pub members : AreMembersOf (map plain_outcome w.outcomes.items) w.members.items
  pub counted : AreCountsOf (map atom_number w.outcomes.items) w.counts
  pub entered : AreEntriesOf (map plain_outcome w.outcomes.items) w.entries
