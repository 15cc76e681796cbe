use Rattle.std.proofs.Common.{◌≡◌, ◌+◌, ◌-◌, ◌≤◌, ◌==◌, not, length, map}
use Rattle.std.specs.List.{filter, range_with_len}
use Rattle.nego_reader.specs.Content.{next_content}
use Rattle.nego_make.specs.Generated.{movers, next_line}
use Rattle.nego_make.proofs.outcomes.next_lines.Given as goal

-- the next lines of the atoms so far
abbrev pub invariant-loop-j : goal.invariant-loop-j
invariant-loop-j l =
    (map next_content l.nexts ≡ map (next_line l.n l.i) (filter (λ j. not (length (movers l.n l.i j) == 0)) (range_with_len (l.i + 1) (l.j - (l.i + 1))))) × (l.i + 1 ≤ l.j) × (l.j ≤ l.n)
