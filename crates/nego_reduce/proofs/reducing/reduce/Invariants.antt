use Rattle.std.proofs.Common.{◌≤◌, ◌+◌, ◌*◌, ◌-◌, length, map, option_map}
use Rattle.nego_model.specs.Diagram.{PlainDiagram}
use Rattle.nego_expr.specs.Work.{IsWork}
use Rattle.nego_expr.specs.StandsFor.{IsFresh}
use Rattle.nego_expr.specs.Use.{most_nodes}
use Rattle.nego_expr.specs.UseView.{plain_use}
use Rattle.nego_expr.specs.Lead.{Lead}
use Rattle.nego_reduce.specs.Changed.{MayOffer}
use Rattle.nego_reduce.specs.Order.{IsNextUse}
use Rattle.nego_reduce.proofs.reducing.reduce.Given as goal

-- the uses so far lead to the work, which has no new ones but of the changed outcome; each was a step at least, and each round of a diagram took so many at most
abbrev pub invariant-loop-u : goal.invariant-loop-u
invariant-loop-u g l = record {
  is_work : IsWork l.work.plain;
  offers : MayOffer l.work.plain (option_map (λ o. o.0) l.changed);
  leads : Lead IsNextUse l.fn.work.plain (map plain_use l.uses) l.work.plain;
  counted : l.fn.steps + length l.uses ≤ l.steps;
  tests : (d : PlainDiagram) → IsFresh l.fn.work.plain d → l.steps ≤ l.fn.steps + length l.uses * (17 * length d.outcomes + 3);
}

-- there is room for fewer nodes
abbrev pub decreases-loop-u : goal.decreases-loop-u
decreases-loop-u g l = most_nodes + 1 - length l.work.plain.nodes
