-- The diagrams that are made: four agents, and as many atoms as are asked for, of two agents and of all four by turns.
use Rattle.std.specs.Prelude.{ℕ, ◌+◌, ◌-◌, ◌%◌, Bool, not, ◌&&◌, ◌==◌, if◌then◌else◌, List, [], ◌∷◌, ◌++◌, length, map, slice_index, codes, decimal}
use Rattle.std.specs.List.{list_any, filter, range_with_len}
use Rattle.nego_base.specs.Members.{is_in}
use Rattle.nego_reader.specs.Content.{AgentContent, TermContent, NumberTerm, PlusTerm, SetContent, NextContent, OutContent, AtomContent, Content}

-- the name of agent a
abbrev pub agent_name : ℕ → List ℕ
agent_name a = codes "a" ++ decimal a

-- the name of atom i
abbrev pub atom_name : ℕ → List ℕ
atom_name i = codes "m" ++ decimal i

-- all agents
abbrev pub everyone : List ℕ
everyone = 0 ∷ 1 ∷ 2 ∷ 3 ∷ []

-- the parties of an atom that isn't the last, by its number modulo 3
abbrev pub by_turns : ℕ → List ℕ
by_turns k = if k == 1 then 0 ∷ 1 ∷ [] else (if k == 2 then 2 ∷ 3 ∷ [] else everyone)

-- the parties of atom i of n
abbrev pub parties : ℕ → ℕ → List ℕ
parties n i = if i + 1 == n then everyone else by_turns (i % 3)

-- whether atom j of n is the first behind atom i that has agent a as a party
abbrev pub is_next : ℕ → ℕ → ℕ → ℕ → Bool
is_next n i j a = not (list_any (λ k. is_in a (parties n k)) (range_with_len (i + 1) (j - (i + 1)))) && is_in a (parties n j)

-- the parties of atom i of n whose next atom is j
abbrev pub movers : ℕ → ℕ → ℕ → List ℕ
movers n i j = filter (is_next n i j) (parties n i)

-- the atoms that are next for some party of atom i of n, in rising order
abbrev pub next_numbers : ℕ → ℕ → List ℕ
next_numbers n i = filter (λ j. not (length (movers n i j) == 0)) (range_with_len (i + 1) (n - (i + 1)))

-- the next line for atom j
abbrev pub next_line : ℕ → ℕ → ℕ → NextContent
next_line n i j = record { atom = atom_name j; agents = map agent_name (movers n i j) }

-- the next lines of each outcome of atom i of n: each party goes to the next atom that has it as a party
abbrev pub next_lines : ℕ → ℕ → List NextContent
next_lines n i = map (next_line n i) (next_numbers n i)

-- an outcome with one case that demands nothing
abbrev pub outcome : List ℕ → List SetContent → List NextContent → OutContent
outcome name sets nexts = record { name = name; cases = record { tests = []; sets = sets } ∷ []; nexts = nexts }

-- agent a is assigned this
abbrev pub assign : ℕ → TermContent → List SetContent
assign a term = record { agent = agent_name a; term = term } ∷ []

-- The outcomes of an atom between the first and the last, whose first two parties are p and q: one adds 1 to the value of
-- p, and one gives p the value of q.
abbrev pub two_ways : ℕ → ℕ → List NextContent → List OutContent
two_ways p q nexts = outcome (codes "x") (assign p (PlusTerm (agent_name p) 1)) nexts ∷ outcome (codes "y") (assign p (PlusTerm (agent_name q) 0)) nexts ∷ []

-- the outcomes of the last atom: one changes nothing, and one gives the first agent the value 0
abbrev pub endings : List OutContent
endings = outcome (codes "good") [] [] ∷ outcome (codes "bad") (assign 0 (NumberTerm 0)) [] ∷ []

-- the outcomes of atom i of n
abbrev pub outcomes : ℕ → ℕ → List OutContent
outcomes n i =
    if i == 0 then outcome (codes "go") [] (next_lines n 0) ∷ []
    else (if i + 1 == n then endings else two_ways (slice_index (parties n i) 0) (slice_index (parties n i) 1) (next_lines n i))

-- atom i of n
abbrev pub atom : ℕ → ℕ → AtomContent
atom n i = record { name = atom_name i; parties = map agent_name (parties n i); outs = outcomes n i }

-- an agent, whose data have four values
abbrev pub agent : ℕ → AgentContent
agent a = record { name = agent_name a; size = 4 }

-- the diagram of n atoms
abbrev pub generated : ℕ → Content
generated n = record {
  agents = map agent everyone;
  atoms = map (atom n) (range_with_len 0 n);
  first = atom_name 0;
  last = atom_name (n - 1);
}
