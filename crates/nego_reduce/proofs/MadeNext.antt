-- What the call of a rule for the next use says of the nodes.
use Rattle.std.proofs.Common.{◌≡◌, ⊎_elim, ◌≤◌, length, Ok, Err, ap}
use Rattle.std.proofs.lemmas.Bool.{cases_lt}
use Rattle.nego_expr.specs.declared.uses.RuleFault.{RuleFault}
use Rattle.nego_expr.specs.declared.uses.RuleFault.TheVariants.{Nodes}
use Rattle.nego_expr.specs.Work.{PlainWork}
use Rattle.nego_expr.specs.Use.{PlainUse, after_use, most_nodes}
use Rattle.nego_expr.specs.Made.{IsMade}
use Rattle.nego_reduce.specs.Order.{IsNextUse}
use Rattle.nego_reduce.specs.Reducing.{IsFull}
use Rattle.nego_reduce.proofs.NextUses.{next_allowed}

module _ (next : PlainUse) (old new : PlainWork) (is_next : IsNextUse old next) where
  -- where the use is made, there are not too many
  pub made_fits : IsMade next old new (Ok tt) → length (after_use old next).nodes ≤ most_nodes
  made_fits made = ⊎_elim (λ many. absurd (let e = made.nodes.1 (next_allowed old next is_next, many) in let no_more : ⊥ = cc in no_more)) (λ few. few) (cases_lt most_nodes (length (after_use old next).nodes))

  -- where it isn't for their sake, the work is full
  pub refused_full : (fault : RuleFault) → fault ≡ Nodes → IsMade next old new (Err fault) → IsFull old
  refused_full fault e made = record { next = next; is_next = is_next; too_many = (made.nodes.0 (ap Err e)).1 }
