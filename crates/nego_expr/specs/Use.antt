-- The uses of the rules: their guards and their effects on a work.
use Rattle.std.specs.Prelude.{ℕ, ◌+◌, Bool, true, false, not, ◌&&◌, ◌==◌, nat_lt, if◌then◌else◌, List, [], ◌∷◌, ◌++◌, length, map, find, Option, Some, None}
use Rattle.std.specs.List.{list_all, list_any, range_with_len}
use Rattle.std.specs.Option.{option_map_or}
use Rattle.nego_base.specs.Members.{is_in, all_in, with_member, united}
use Rattle.nego_model.specs.Expression.{Join, Star}
use Rattle.nego_expr.specs.Work.{WorkOutcome, PlainWork, outcome_at, outcomes_at, work_parties, sent_to}
use Rattle.nego_expr.specs.Edits.{with_outcome, without_outcome, without_atom, nodes_then, then_each}

-- a use of a rule, by the numbers that it names
pub data PlainUse : Type 0 where
  Merge : ℕ → ℕ → PlainUse
  Iterate : ℕ → PlainUse
  Shortcut : ℕ → ℕ → PlainUse
  Close : PlainUse

-- ---- targets

-- whether two agents' targets are the same
abbrev pub same_target : Option ℕ → Option ℕ → Bool
same_target None None = true
same_target None (Some n) = false
same_target (Some m) None = false
same_target (Some m) (Some n) = m == n

-- whether two outcomes send each of the agents to the same atom
abbrev pub send_alike : List ℕ → WorkOutcome → WorkOutcome → Bool
send_alike agents x y = list_all (λ a. same_target (sent_to x a) (sent_to y a)) agents

-- whether an outcome sends each of the agents to the atom
abbrev pub sends_all : List ℕ → ℕ → WorkOutcome → Bool
sends_all agents n x = list_all (λ a. same_target (sent_to x a) (Some n)) agents

-- whether an outcome sends some agent to the atom
abbrev pub leads_to : ℕ → WorkOutcome → Bool
leads_to n x = list_any (λ target. same_target target (Some n)) x.targets

-- ---- merging

-- whether the first outcome has the lesser number, and both are of one atom, which isn't the last, and send each of its
-- parties to the same atom
abbrev pub merges : PlainWork → WorkOutcome → WorkOutcome → Bool
merges work x y =
    nat_lt x.number y.number && ((x.atom == y.atom) && (not (x.atom == work.last) && send_alike (work_parties work x.atom) x y))

-- A merge of two outcomes: the first has a node that joins both, and has passed what either passed; the second is gone.
abbrev pub merged : PlainWork → WorkOutcome → WorkOutcome → PlainWork
merged work x y = record work {
  nodes = work.nodes ++ Join x.node y.node ∷ [];
  outcomes = with_outcome (record x { node = length work.nodes; passed = united x.passed y.passed }) (without_outcome y.number work.outcomes);
}

-- ---- iteration

-- whether an outcome of an atom that isn't the last sends every party back to the atom, which has another outcome
abbrev pub iterates : PlainWork → WorkOutcome → Bool
iterates work x =
    not (x.atom == work.last) && (sends_all (work_parties work x.atom) x.atom x && nat_lt 1 (length (outcomes_at work x.atom)))

-- An iteration of an outcome: it is gone, and each other outcome of its atom has a node before its own that is this
-- outcome's any number of times.
abbrev pub iterated : PlainWork → WorkOutcome → PlainWork
iterated work x = then_each (length work.nodes) x.atom (record work {
  nodes = work.nodes ++ Star x.node ∷ [];
  outcomes = without_outcome x.number work.outcomes;
})

-- ---- shortcuts

-- whether the outcome enters the atom: it is of another one; the atom is left, and is neither the first nor the last;
-- its parties are parties of the outcome's atom, and the outcome sends each of them to it
abbrev pub enters : PlainWork → WorkOutcome → ℕ → Bool
enters work x n =
    not (x.atom == n)
    && (is_in n (map (λ atom. atom.number) work.atoms)
    && (not (n == work.first)
    && (not (n == work.last) && (all_in (work_parties work n) (work_parties work x.atom) && sends_all (work_parties work n) n x))))

-- where the agents are sent by an outcome that enters an atom and then by an outcome of this atom: its parties where
-- the second sends them, the others where the first does
abbrev pub targets_through : PlainWork → ℕ → WorkOutcome → WorkOutcome → List (Option ℕ)
targets_through work n x y = map (λ a. if is_in a (work_parties work n) then sent_to y a else sent_to x a) (range_with_len 0 work.agents)

-- an outcome that enters the atom and then an outcome of it, as one outcome with this number and node: it has passed
-- the entered atom too
abbrev pub through : PlainWork → ℕ → WorkOutcome → WorkOutcome → ℕ → ℕ → WorkOutcome
through work n x y number node = record x {
  number = number;
  targets = targets_through work n x y;
  node = node;
  passed = with_member n x.passed;
}

-- the outcome and then each of these, with the numbers from o on and the nodes from i on
abbrev pub through_from : PlainWork → ℕ → WorkOutcome → ℕ → ℕ → List WorkOutcome → List WorkOutcome
through_from work n x o i [] = []
through_from work n x o i (y ∷ ys) = through work n x y o i ∷ through_from work n x (o + 1) (i + 1) ys

-- An outcome has become the outcome and then each of these: with the first of them it keeps its number, with the others
-- it has the next numbers never used. Each has a node that is the outcome's and then the other's.
abbrev pub gone_through : PlainWork → ℕ → WorkOutcome → List WorkOutcome → PlainWork
gone_through work n x [] = work
gone_through work n x (y ∷ ys) = record work {
  nodes = work.nodes ++ nodes_then x.node (y ∷ ys);
  numbers = work.numbers + length ys;
  outcomes = with_outcome (through work n x y x.number (length work.nodes)) work.outcomes ++ through_from work n x work.numbers (length work.nodes + 1) ys;
}

-- whether an outcome is of another atom than this, and leads to it
abbrev pub leads_in : ℕ → WorkOutcome → Bool
leads_in n x = not (x.atom == n) && leads_to n x

-- whether an outcome of another atom leads to the atom
abbrev pub is_entered : PlainWork → ℕ → Bool
is_entered work n = list_any (leads_in n) work.outcomes

-- the work without an atom and its outcomes, where no outcome of another atom leads to it
abbrev pub without_unentered : ℕ → PlainWork → PlainWork
without_unentered n work = if is_entered work n then work else without_atom n work

-- A shortcut of an outcome into an atom: the outcome has become itself and then each of the atom's outcomes, and the
-- atom is gone where no outcome of another atom leads to it any more.
abbrev pub entered : PlainWork → WorkOutcome → ℕ → PlainWork
entered work x n = without_unentered n (gone_through work n x (outcomes_at work n))

-- ---- closing

-- the least outcome of the first atom
abbrev pub opening_outcome : PlainWork → Option WorkOutcome
opening_outcome work = find (λ outcome. outcome.atom == work.first) work.outcomes

-- whether the first and the last atom are two and all that are left, the first has one outcome, and this outcome sends
-- every agent to the last
abbrev pub closes : PlainWork → WorkOutcome → Bool
closes work x =
    (length work.atoms == 2)
    && (not (work.first == work.last) && ((length (outcomes_at work work.first) == 1) && sends_all (range_with_len 0 work.agents) work.last x))

-- A closing by the first atom's outcome: the first atom and its outcome are gone, the last atom is also the first, and
-- each of its outcomes has this outcome's node before its own.
abbrev pub closed : PlainWork → WorkOutcome → PlainWork
closed work x = then_each x.node work.last (record (without_atom work.first work) { first = work.last })

-- ---- any use

-- whether the work allows the use: the outcomes that it names are alive, and the rule's guard holds
abbrev pub allows : PlainWork → PlainUse → Bool
allows work (Merge o1 o2) = option_map_or (λ x. option_map_or (merges work x) (outcome_at work o2) false) (outcome_at work o1) false
allows work (Iterate o) = option_map_or (iterates work) (outcome_at work o) false
allows work (Shortcut o n) = option_map_or (λ x. enters work x n) (outcome_at work o) false
allows work Close = option_map_or (closes work) (opening_outcome work) false

-- the work after the use
abbrev pub after_use : PlainWork → PlainUse → PlainWork
after_use work (Merge o1 o2) = option_map_or (λ x. option_map_or (merged work x) (outcome_at work o2) work) (outcome_at work o1) work
after_use work (Iterate o) = option_map_or (iterated work) (outcome_at work o) work
after_use work (Shortcut o n) = option_map_or (λ x. entered work x n) (outcome_at work o) work
after_use work Close = option_map_or (closed work) (opening_outcome work) work

-- how many nodes a use may make a work have
abbrev pub most_nodes : ℕ
most_nodes = 20000
