-- How the order of uses ends for a diagram, and the line that says so.
use Rattle.std.specs.Prelude.{◌≡◌, ◌⊎◌, ℕ, List, ◌++◌, codes, decimal}
use Rattle.nego_model.specs.Occurring.{IsSound}
use Rattle.nego_model.specs.Acyclic.{IsAcyclic}
use Rattle.nego_model.specs.Diagram.{PlainDiagram, negotiation_of}
use Rattle.nego_model.specs.Summary.{Tells}
use Rattle.nego_expr.specs.Work.{PlainWork}
use Rattle.nego_expr.specs.Use.{PlainUse}
use Rattle.nego_expr.specs.Lead.{Lead}
use Rattle.nego_expr.specs.Fresh.{fresh_work}
use Rattle.nego_expr.specs.Finish.{summary_of_work}
use Rattle.nego_reduce.specs.Bound.{AreFew}
use Rattle.nego_reduce.specs.Order.{IsNextUse, IsDone}
use Rattle.nego_reduce.specs.Reducing.{IsStuck, IsFull}
use Rattle.nego_reduce.specs.declared.reduced.Reduced.{Reduced}
use Rattle.nego_reduce.specs.declared.reduced.Reduced.TheVariants as reduced
use Rattle.nego_cli.specs.declared.status.Status.{Status}
use Rattle.nego_cli.specs.declared.status.Status.TheVariants as statuses
use Rattle.nego_cli.specs.declared.verdict.Verdict.{Verdict}
use Rattle.nego_cli.specs.declared.verdict.Verdict.TheVariants.{Sound, Unsound, Stuck, NodeLimit}

-- Where the uses leave this work, this is the verdict on the diagram: one atom is left, and the diagram is sound, of which
-- the summary tells; the diagram is acyclic, and the order stops with more atoms than one, so that it isn't sound; it is
-- cyclic, and the order stops so; or it is cyclic, and the next use would make too many nodes.
abbrev pub IsVerdict : PlainDiagram → PlainWork → Verdict → Type 0
IsVerdict d left Sound = IsDone left × Tells (summary_of_work left) d
IsVerdict d left Unsound = IsStuck left × IsAcyclic (negotiation_of d) × ¬ IsSound (negotiation_of d)
IsVerdict d left Stuck = IsStuck left × ¬ IsAcyclic (negotiation_of d)
IsVerdict d left NodeLimit = IsFull left × ¬ IsAcyclic (negotiation_of d)

-- The uses are those of the order, each the next one in its turn, from the diagram's fresh work to the one that they leave;
-- they are few; and this is the verdict.
pub record IsReducedTo (d : PlainDiagram) (uses : List PlainUse) (left : PlainWork) (verdict : Verdict) : Type 0 where
  pub leads : Lead IsNextUse (fresh_work d) uses left
  pub few : AreFew d uses
  pub is_verdict : IsVerdict d left verdict

-- The verdict where this is what reduction makes of the diagram's fresh work.
abbrev pub IsVerdictOn : PlainDiagram → Reduced → Verdict → Type 0
IsVerdictOn d (reduced.One summary uses) verdict = verdict ≡ Sound
IsVerdictOn d (reduced.Stuck left uses) verdict = ((verdict ≡ Unsound) × IsAcyclic (negotiation_of d)) ⊎ ((verdict ≡ Stuck) × ¬ IsAcyclic (negotiation_of d))
IsVerdictOn d (reduced.NodeLimit left uses) verdict = verdict ≡ NodeLimit

-- the status of a verdict
abbrev pub verdict_status : Verdict → Status
verdict_status Sound = statuses.Done
verdict_status Unsound = statuses.No
verdict_status Stuck = statuses.Undecided
verdict_status NodeLimit = statuses.Undecided

-- the words of a verdict
abbrev pub verdict_words : Verdict → List ℕ
verdict_words Sound = codes "sound"
verdict_words Unsound = codes "unsound"
verdict_words Stuck = codes "undecided stuck"
verdict_words NodeLimit = codes "undecided nodes"

-- the line of a verdict after so many uses, before the rest of a text
abbrev pub verdict_line : Verdict → ℕ → List ℕ → List ℕ
verdict_line verdict count rest = verdict_words verdict ++ (codes " uses " ++ (decimal count ++ (codes "\n" ++ rest)))

-- A diagram has one verdict, after one list of uses.
abbrev pub VerdictsAreOne : Type 0
VerdictsAreOne = (d : PlainDiagram) (uses uses' : List PlainUse) (left left' : PlainWork) (verdict verdict' : Verdict) → IsReducedTo d uses left verdict → IsReducedTo d uses' left' verdict' →
    (uses ≡ uses') × (left ≡ left') × (verdict ≡ verdict')
