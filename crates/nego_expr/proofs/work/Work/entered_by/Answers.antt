use Rattle.std.proofs.Common.{map, sym, ◌∙◌}
use Rattle.std.proofs.lemmas.List.Sums.{length-filter}
use Rattle.nego_expr.specs.Use.{leads_in}
use Rattle.nego_expr.specs.WorkView.{plain_outcome}
use Rattle.nego_expr.proofs.UsableWorks.{left_few}
use Rattle.nego_expr.proofs.work.Work.entered_by.Goals as goal

pub returns : goal.returns
returns c =
    let few = left_few c.self.inside c.args.self.now c.args.n.0 c.self.invariant c.self.view_is c.requires.left in
    rw (← c.self.view_is) (c.count.ensures ∙ (c.self.invariant.entered c.args.n.0 few ∙ sym (length-filter (leads_in c.args.n.0) (map plain_outcome c.self.inside.outcomes.items))))
