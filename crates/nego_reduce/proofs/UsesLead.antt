-- What uses that are each the next one in its turn keep.
use Rattle.std.proofs.Common.{sym, subst}
use Rattle.nego_model.specs.Summary.{Tells}
use Rattle.nego_expr.specs.Use.{Merge, Iterate, Shortcut, Close}
use Rattle.nego_expr.specs.Keeps.{UsesKeep}
use Rattle.nego_expr.specs.StandsFor.{StandsFor}
use Rattle.nego_expr.specs.Lead.{Allowed}
use Rattle.nego_expr.proofs.Finished.{finished_works}
use Rattle.nego_expr.proofs.FreshWorks.{fresh_works, has_form}
use Rattle.nego_expr.proofs.Leading.{Lead-weaker, leading_stands}
use Rattle.nego_merge.proofs.MergeKeeps.{merging}
use Rattle.nego_iterate.proofs.IterateKeeps.{iterating}
use Rattle.nego_shortcut.proofs.CloseKeeps.{closing}
use Rattle.nego_shortcut.proofs.ShortcutKeeps.{shortcuts_keep}
use Rattle.nego_reduce.specs.Order.{IsNextUse}
use Rattle.nego_reduce.specs.Laws.{ReducedTells}
use Rattle.nego_reduce.proofs.NextUses.{next_allowed}

-- each rule keeps what a work is
pub uses_keep : UsesKeep
uses_keep (Merge o1 o2) = merging o1 o2
uses_keep (Iterate o) = iterating o
uses_keep (Shortcut o n) = shortcuts_keep o n
uses_keep Close = closing

-- the summary to which a diagram is reduced tells the diagram
pub reduced_tells : ReducedTells
reduced_tells diagram work uses summary fresh (end, leads, done, e) =
    let stands : StandsFor work diagram = subst (λ w. StandsFor w diagram) (sym fresh.fresh) (fresh_works diagram (has_form diagram fresh.diagram_read) fresh.determined) in
    let left = leading_stands work end uses diagram uses_keep stands (Lead-weaker IsNextUse Allowed next_allowed work end uses leads) in
    subst (λ s. Tells s diagram) (sym e) (finished_works diagram end fresh.diagram_read done.one_atom left)
