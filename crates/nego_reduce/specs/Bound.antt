-- How many uses the order makes at most.
use Rattle.std.specs.Prelude.{ℕ, ◌≤◌, ◌+◌, ◌-◌, ◌*◌, min, Bool, true, false, if◌then◌else◌, List, length, filter}
use Rattle.nego_model.specs.Diagram.{PlainDiagram}
use Rattle.nego_expr.specs.Use.{PlainUse, Merge, Iterate, Shortcut, Close}

-- whether the use is a shortcut
abbrev pub is_shortcut : PlainUse → Bool
is_shortcut (Shortcut o n) = true
is_shortcut _ = false

-- whether the use is a closing
abbrev pub is_closing : PlainUse → Bool
is_closing Close = true
is_closing _ = false

-- whether the use takes an outcome away: a merge or an iteration does
abbrev pub takes_away : PlainUse → Bool
takes_away (Merge o1 o2) = true
takes_away (Iterate o) = true
takes_away _ = false

-- The uses are few beside the atoms and the outcomes of a diagram. Each outcome makes at most one shortcut for each atom
-- that is neither the first nor the last; all outcomes but one may be taken away; and there is one closing at most.
pub record AreFew (diagram : PlainDiagram) (uses : List PlainUse) : Type 0 where
  pub shortcuts : length (filter is_shortcut uses) ≤ length diagram.outcomes * (length diagram.atoms - 2)
  pub taken_away : length (filter takes_away uses) ≤ length diagram.outcomes - 1
  pub closings : length (filter is_closing uses) ≤ 1
  pub all : length uses ≤ length diagram.outcomes * length diagram.atoms + length diagram.outcomes + 1

-- how many nodes a use of an acyclic diagram makes, where there are so many final outcomes: a closing one for each of them,
-- any other use one
abbrev pub nodes_made_by : ℕ → PlainUse → ℕ
nodes_made_by finals next = if is_closing next then finals else 1

-- how many guards are tested at most for an acyclic diagram: in a round at most 17 for each outcome and three more, and no
-- more than the pairs of outcomes and 17 for each outcome
abbrev pub most_tests : PlainDiagram → ℕ
most_tests diagram =
    let l = length diagram.outcomes in
    (l * length diagram.atoms + l + 2) * min (17 * l + 3) (l * l + l + 16 * l)
