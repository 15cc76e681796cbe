-- Counts of atoms.
use Rattle.std.specs.Prelude.{◌≡◌, ℕ, ◌<◌, ◌==◌, ◌&&◌, nat_lt, List, length, filter, slice_index}
use Rattle.std.specs.List.{count_by}
use Rattle.nego_base.specs.Members.{is_in}
use Rattle.nego_expr.specs.Work.{WorkOutcome}
use Rattle.nego_expr.specs.Use.{leads_in}

-- These are the atoms whose count is one.
abbrev pub AreOnes : List ℕ → List ℕ → Type 0
AreOnes counts ones = (m : ℕ) → is_in m ones ≡ (slice_index counts m == 1)

-- At the place of each number stands how often the number is among these.
abbrev pub AreCountsOf : List ℕ → List ℕ → Type 0
AreCountsOf numbers counts = (m : ℕ) → slice_index counts m ≡ length (filter (λ n. n == m) numbers)

-- These are the atoms that a set may have, other than the outcome's own, to which the outcome leads.
abbrev pub AreEntered : WorkOutcome → List ℕ → Type 0
AreEntered x atoms = (m : ℕ) → is_in m atoms ≡ (nat_lt m 64 && leads_in m x)

-- At the place of each atom that a set may have stands how many of the outcomes are of other atoms and lead to it.
abbrev pub AreEntriesOf : List WorkOutcome → List ℕ → Type 0
AreEntriesOf outcomes counts = (m : ℕ) → m < 64 → slice_index counts m ≡ count_by (leads_in m) outcomes
