-- The laws of the order.
use Rattle.std.specs.Prelude.{◌≡◌, ◌⊎◌, ◌↔◌, ℕ, ◌<◌, ◌≤◌, ◌+◌, ◌-◌, ◌*◌, false, List, length, IsTrue}
use Rattle.std.specs.List.{sum_by}
use Rattle.nego_model.specs.Occurring.{IsSound}
use Rattle.nego_model.specs.Acyclic.{IsAcyclic, IsForwardOrder, IsRankedBy}
use Rattle.nego_model.specs.Diagram.{PlainDiagram, negotiation_of}
use Rattle.nego_model.specs.Summary.{PlainSummary, Tells, final_outcomes}
use Rattle.nego_expr.specs.Work.{PlainWork, IsWork, outcomes_at, negotiation_of_work}
use Rattle.nego_expr.specs.Use.{PlainUse, Merge, Shortcut, Close, allows}
use Rattle.nego_expr.specs.Lead.{Lead}
use Rattle.nego_expr.specs.StandsFor.{IsFresh}
use Rattle.nego_reduce.specs.Order.{IsNextUse, HasNoIteration, HasNoNextUse, Reduces, has_passed}
use Rattle.nego_reduce.specs.Bound.{AreFew, nodes_made_by}
use Rattle.nego_reduce.specs.declared.reduced.Reduced.{Reduced}
use Rattle.nego_reduce.specs.Reducing.{plain_reduced, IsReductionOf, IsFull}

-- A work of one atom allows no use.
abbrev pub OneAtomAllowsNoUse : Type 0
OneAtomAllowsNoUse = (work : PlainWork) → IsWork work → length work.atoms ≡ 1 → (next : PlainUse) → allows work next ≡ false

-- A work has at most one reduction: verdict, uses, and the summary or the work that is left are determined.
abbrev pub ReductionsAreOne : Type 0
ReductionsAreOne = (work : PlainWork) (one two : Reduced) → IsReductionOf work one → IsReductionOf work two → plain_reduced one ≡ plain_reduced two

-- The uses that are made of a fresh work are few.
abbrev pub UsesAreFew : Type 0
UsesAreFew = (diagram : PlainDiagram) (work end : PlainWork) (uses : List PlainUse) → IsFresh work diagram → Lead IsNextUse work uses end → AreFew diagram uses

-- The alive outcomes are never more than the diagram's, and no outcome gets a number that none of these had.
abbrev pub AliveAreOfTheDiagram : Type 0
AliveAreOfTheDiagram = (diagram : PlainDiagram) (work end : PlainWork) (uses : List PlainUse) → IsFresh work diagram → Lead IsNextUse work uses end →
    (length end.outcomes ≤ length diagram.outcomes) × (end.numbers ≡ length diagram.outcomes)

-- The nodes of an acyclic diagram are never too many.
abbrev pub AcyclicIsNeverFull : Type 0
AcyclicIsNeverFull = (diagram : PlainDiagram) (work end : PlainWork) (uses : List PlainUse) → IsFresh work diagram → IsAcyclic (negotiation_of diagram) → Lead IsNextUse work uses end → ¬ IsFull end

-- They are as many as its outcomes and what its uses make: the closing one for each final outcome, any other use one.
abbrev pub AcyclicNodesAreCounted : Type 0
AcyclicNodesAreCounted = (diagram : PlainDiagram) (work end : PlainWork) (uses : List PlainUse) → IsFresh work diagram → IsAcyclic (negotiation_of diagram) → Lead IsNextUse work uses end →
    length end.nodes ≡ length diagram.outcomes + sum_by (nodes_made_by (length (final_outcomes diagram))) uses

-- So they are few beside the atoms and the outcomes of the diagram.
abbrev pub AcyclicNodesAreFew : Type 0
AcyclicNodesAreFew = (diagram : PlainDiagram) (work end : PlainWork) (uses : List PlainUse) → IsFresh work diagram → IsAcyclic (negotiation_of diagram) → Lead IsNextUse work uses end →
    length end.nodes ≤ length diagram.outcomes * (length diagram.atoms - 2) + 3 * length diagram.outcomes

-- The works to which uses lead from the fresh work of an acyclic diagram are ranked by each forward order of the diagram, and
-- allow no iteration.
abbrev pub AcyclicWorksStayRanked : Type 0
AcyclicWorksStayRanked = (diagram : PlainDiagram) (order : List ℕ) (work end : PlainWork) (uses : List PlainUse) → IsFresh work diagram → IsForwardOrder (negotiation_of diagram) order → Lead IsNextUse work uses end →
    IsRankedBy (negotiation_of_work end) order × HasNoIteration end

-- There an outcome that may enter an atom has never passed it, so that passed atoms hinder no shortcut.
abbrev pub PassedAtomsNeverHinder : Type 0
PassedAtomsNeverHinder = (diagram : PlainDiagram) (work end : PlainWork) (uses : List PlainUse) → IsFresh work diagram → IsAcyclic (negotiation_of diagram) → Lead IsNextUse work uses end →
    (o n : ℕ) → IsTrue (allows end (Shortcut o n)) → has_passed end o n ≡ false

-- Of an acyclic diagram one atom is left, where no use is the next one, exactly where the diagram is sound.
abbrev pub AcyclicIsDecided : Type 0
AcyclicIsDecided = (diagram : PlainDiagram) (work end : PlainWork) (uses : List PlainUse) → IsFresh work diagram → IsAcyclic (negotiation_of diagram) → Lead IsNextUse work uses end → HasNoNextUse end →
    (length end.atoms ≡ 1) ↔ IsSound (negotiation_of diagram)

-- A merge, a shortcut into an atom of one outcome, or closing is allowed.
abbrev pub GoesOn : PlainWork → Type 0
GoesOn work =
    ((o1 o2 : ℕ) × IsTrue (allows work (Merge o1 o2)))
    ⊎ (((o n : ℕ) × IsTrue (allows work (Shortcut o n)) × (length (outcomes_at work n) ≡ 1)) ⊎ IsTrue (allows work Close))

-- An acyclic work allows no iteration, and goes on, where it is sound and has more than one atom.
abbrev pub SoundAcyclicWorksGoOn : Type 0
SoundAcyclicWorksGoOn = (work : PlainWork) → IsWork work → IsAcyclic (negotiation_of_work work) → HasNoIteration work × (IsSound (negotiation_of_work work) → 1 < length work.atoms → GoesOn work)

-- The summary to which a diagram is reduced tells the diagram.
abbrev pub ReducedTells : Type 0
ReducedTells = (diagram : PlainDiagram) (work : PlainWork) (uses : List PlainUse) (summary : PlainSummary) → IsFresh work diagram → Reduces work uses summary → Tells summary diagram
