-- Uses that lead from one work to another.
use Rattle.std.specs.Prelude.{◌≡◌, ◌≤◌, List, [], ◌∷◌, length, IsTrue}
use Rattle.nego_model.specs.Diagram.{PlainDiagram}
use Rattle.nego_expr.specs.Work.{PlainWork}
use Rattle.nego_expr.specs.Use.{PlainUse, allows, after_use, most_nodes}
use Rattle.nego_expr.specs.Keeps.{UsesKeep}
use Rattle.nego_expr.specs.StandsFor.{StandsFor}

-- what may be asked of each use in its turn, over the work before it
abbrev pub Step : Type 1
Step = PlainWork → PlainUse → Type 0

-- The uses lead from a work to another: they are made one after the other, each meets the condition in its turn, and
-- none makes the nodes more than there may be.
abbrev pub Lead : Step → PlainWork → List PlainUse → PlainWork → Type 0
Lead step work [] end = work ≡ end
Lead step work (next ∷ uses) end = step work next × (length (after_use work next).nodes ≤ most_nodes) × Lead step (after_use work next) uses end

-- The work allows the use.
abbrev pub Allowed : Step
Allowed work next = IsTrue (allows work next)

-- Uses that are allowed lead from a work that stands for a diagram to one that does.
abbrev pub AllowedUsesKeepWhatStands : Type 0
AllowedUsesKeepWhatStands = (work end : PlainWork) (uses : List PlainUse) (diagram : PlainDiagram) → UsesKeep → StandsFor work diagram → Lead Allowed work uses end → StandsFor end diagram

-- Uses lead from a work to one work at most.
abbrev pub AllowedUsesLeadToOneWork : Type 0
AllowedUsesLeadToOneWork = (work end end' : PlainWork) (uses : List PlainUse) → Lead Allowed work uses end → Lead Allowed work uses end' → end ≡ end'
