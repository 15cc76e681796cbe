use Rattle.std.proofs.Common.{◌==◌, sym, ap, ◌∙◌}
use Rattle.nego_expr.specs.WorkView.{atom_number, plain_outcome}
use Rattle.nego_expr.proofs.Places.{length-filter_seen}
use Rattle.nego_expr.proofs.work.Work.ones.Goals as goal

pub returns : goal.returns
returns c =
    let items = c.self.inside.outcomes.items in
    rw (← c.self.view_is) (λ n. c.ones.ensures n ∙ ap (λ k. k == 1)
    (c.self.invariant.counted n ∙ (sym (length-filter_seen atom_number (λ m. m == n) items) ∙ length-filter_seen plain_outcome (λ x. x.atom == n) items)))
