-- The order in which rules are used: the least merge; else the least iteration; else the least shortcut into an atom of
-- one outcome, which wasn't passed yet; else closing, where it is allowed.
use Rattle.std.specs.Prelude.{◌≡◌, ◌⊎◌, ℕ, ◌<◌, Bool, false, not, ◌&&◌, ◌==◌, List, length, IsTrue}
use Rattle.std.specs.Option.{option_map_or}
use Rattle.nego_base.specs.Members.{is_in}
use Rattle.nego_model.specs.Summary.{PlainSummary}
use Rattle.nego_expr.specs.Work.{PlainWork, outcome_at, outcomes_at}
use Rattle.nego_expr.specs.Use.{PlainUse, Merge, Iterate, Shortcut, Close, allows}
use Rattle.nego_expr.specs.Lead.{Lead}
use Rattle.nego_expr.specs.Finish.{summary_of_work}

-- One pair of numbers is below another: its first number is, or these are the same and its second number is.
abbrev pub IsPairBelow : ℕ → ℕ → ℕ → ℕ → Type 0
IsPairBelow p1 p2 o1 o2 = (p1 < o1) ⊎ ((p1 ≡ o1) × (p2 < o2))

-- The merge is allowed, and of no lesser pair is one.
pub record IsLeastMerge (work : PlainWork) (o1 o2 : ℕ) : Type 0 where
  pub allowed : IsTrue (allows work (Merge o1 o2))
  pub least : (p1 p2 : ℕ) → IsPairBelow p1 p2 o1 o2 → allows work (Merge p1 p2) ≡ false

-- The iteration is allowed, and of no lesser outcome is one.
pub record IsLeastIteration (work : PlainWork) (o : ℕ) : Type 0 where
  pub allowed : IsTrue (allows work (Iterate o))
  pub least : (p : ℕ) → p < o → allows work (Iterate p) ≡ false

-- whether the alive outcome of a number has passed the atom
abbrev pub has_passed : PlainWork → ℕ → ℕ → Bool
has_passed work o n = option_map_or (λ x. is_in n x.passed) (outcome_at work o) false

-- whether the order takes the shortcut: it is allowed, the atom has exactly one outcome, and o hasn't passed it
abbrev pub takes_shortcut : PlainWork → ℕ → ℕ → Bool
takes_shortcut work o n = allows work (Shortcut o n) && ((length (outcomes_at work n) == 1) && not (has_passed work o n))

-- The order takes the shortcut, and none of a lesser pair.
pub record IsLeastShortcut (work : PlainWork) (o n : ℕ) : Type 0 where
  pub taken : IsTrue (takes_shortcut work o n)
  pub least : (p m : ℕ) → IsPairBelow p m o n → takes_shortcut work p m ≡ false

-- No merge is allowed.
abbrev pub HasNoMerge : PlainWork → Type 0
HasNoMerge work = (o1 o2 : ℕ) → allows work (Merge o1 o2) ≡ false

-- No iteration is allowed.
abbrev pub HasNoIteration : PlainWork → Type 0
HasNoIteration work = (o : ℕ) → allows work (Iterate o) ≡ false

-- The order takes no shortcut.
abbrev pub HasNoShortcut : PlainWork → Type 0
HasNoShortcut work = (o n : ℕ) → takes_shortcut work o n ≡ false

-- The use is the next one: the least merge; where there is none, the least iteration; where there is none either, the
-- least shortcut that the order takes; and where there is none of these, closing, if it is allowed.
abbrev pub IsNextUse : PlainWork → PlainUse → Type 0
IsNextUse work (Merge o1 o2) = IsLeastMerge work o1 o2
IsNextUse work (Iterate o) = HasNoMerge work × IsLeastIteration work o
IsNextUse work (Shortcut o n) = HasNoMerge work × HasNoIteration work × IsLeastShortcut work o n
IsNextUse work Close = HasNoMerge work × HasNoIteration work × HasNoShortcut work × IsTrue (allows work Close)

-- A work has at most one next use.
abbrev pub NextUsesAreOne : Type 0
NextUsesAreOne = (work : PlainWork) (one two : PlainUse) → IsNextUse work one → IsNextUse work two → one ≡ two

-- No use is the next one.
abbrev pub HasNoNextUse : PlainWork → Type 0
HasNoNextUse work = (next : PlainUse) → IsNextUse work next → ⊥

-- One atom is left, and no use is the next one.
pub record IsDone (work : PlainWork) : Type 0 where
  pub one_atom : length work.atoms ≡ 1
  pub no_use : HasNoNextUse work

-- The uses, each the next one in its turn, lead from the work to one that is done, and this is the summary of that one.
abbrev pub Reduces : PlainWork → List PlainUse → PlainSummary → Type 0
Reduces work uses summary = (end : PlainWork) × Lead IsNextUse work uses end × IsDone end × (summary ≡ summary_of_work end)
