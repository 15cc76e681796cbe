use Rattle.std.proofs.Common.{◌==◌, sym, ◌∙◌}
use Rattle.nego_expr.specs.WorkView.{atom_number, plain_outcome}
use Rattle.nego_expr.proofs.Places.{length-filter_seen}
use Rattle.nego_expr.proofs.work.Work.count_of.Goals as goal

pub returns : goal.returns
returns c =
    let items = c.self.inside.outcomes.items in
    rw (← c.self.view_is) (c.count.ensures ∙ (c.self.invariant.counted c.args.n.0
    ∙ (sym (length-filter_seen atom_number (λ m. m == c.args.n.0) items) ∙ length-filter_seen plain_outcome (λ x. x.atom == c.args.n.0) items)))
