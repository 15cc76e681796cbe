-- Laws of uses that lead from one work to another.
use Rattle.std.proofs.Common.{◌≡◌, ◌≤◌, List, [], ◌∷◌, ◌++◌, length, refl, sym, subst, ◌∙◌}
use Rattle.nego_expr.specs.Work.{PlainWork}
use Rattle.nego_expr.specs.Use.{PlainUse, after_use, most_nodes}
use Rattle.nego_expr.specs.StandsFor.{StandsFor}
use Rattle.nego_expr.specs.Lead.{Step, Lead, Allowed, AllowedUsesKeepWhatStands, AllowedUsesLeadToOneWork}
use Rattle.nego_expr.proofs.KeptWorks.{kept_stands}

-- uses that lead by a condition lead by each weaker one
pub Lead-weaker : (step weaker : Step) → ((work : PlainWork) (next : PlainUse) → step work next → weaker work next) → (work end : PlainWork) (uses : List PlainUse) → Lead step work uses end → Lead weaker work uses end
Lead-weaker step weaker h work end [] k = k
Lead-weaker step weaker h work end (next ∷ uses) k = (h work next k.0, k.1, Lead-weaker step weaker h (after_use work next) end uses k.2)

-- uses lead to one work, whatever the conditions
pub Lead-one : (step other : Step) (work end end' : PlainWork) (uses : List PlainUse) → Lead step work uses end → Lead other work uses end' → end ≡ end'
Lead-one step other work end end' [] h k = sym h ∙ k
Lead-one step other work end end' (next ∷ uses) h k = Lead-one step other (after_use work next) end end' uses h.2 k.2

-- uses that lead, and then further ones
pub Lead-append : (step : Step) (work between end : PlainWork) (uses more : List PlainUse) → Lead step work uses between → Lead step between more end → Lead step work (uses ++ more) end
Lead-append step work between end [] more h k = subst (λ w. Lead step w more end) (sym h) k
Lead-append step work between end (next ∷ uses) more h k = (h.0, h.1, Lead-append step (after_use work next) between end uses more h.2 k)

-- uses that lead, and then one more
pub Lead_then : (step : Step) (work between : PlainWork) (uses : List PlainUse) (next : PlainUse) → Lead step work uses between → step between next → length (after_use between next).nodes ≤ most_nodes →
    Lead step work (uses ++ next ∷ []) (after_use between next)
Lead_then step work between uses next h k l = Lead-append step work between (after_use between next) uses (next ∷ []) h (k, l, refl)

-- uses that are allowed keep what stands for a diagram
pub leading_stands : AllowedUsesKeepWhatStands
leading_stands work end [] diagram keep stands h = subst (λ w. StandsFor w diagram) h stands
leading_stands work end (next ∷ uses) diagram keep stands h =
    let k = keep next work stands.is_work h.0 in
    leading_stands (after_use work next) end uses diagram keep (kept_stands work (after_use work next) diagram stands k.0 k.1) h.2

pub leading_one : AllowedUsesLeadToOneWork
leading_one work end end' uses h k = Lead-one Allowed Allowed work end end' uses h k
