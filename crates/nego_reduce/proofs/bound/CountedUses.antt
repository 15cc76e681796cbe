-- Uses of one kind are no more than a measure of works that each of them lowers and that no use raises.
use Rattle.std.proofs.Common.{◌≡◌, ℕ, ◌+◌, ◌≤◌, Bool, true, false, cond, List, [], ◌∷◌, length, subst, ap, arith}
use Rattle.std.specs.List.{filter}
use Rattle.nego_expr.specs.Work.{PlainWork}
use Rattle.nego_expr.specs.Use.{PlainUse, after_use}
use Rattle.nego_expr.specs.Lead.{Step, Lead}

-- 1 where the use is of the kind, else 0
abbrev pub one_where : Bool → ℕ
one_where kind = cond kind 1 0

-- the first of some uses counts where it is of the kind
length-filter_first : (kind : PlainUse → Bool) (next : PlainUse) (uses : List PlainUse) → length (filter kind (next ∷ uses)) ≡ one_where (kind next) + length (filter kind uses)
length-filter_first kind next uses = go (kind next)
  where
    go : (b : Bool) → length (cond b (next ∷ filter kind uses) (filter kind uses)) ≡ one_where b + length (filter kind uses)
    go true = omega arith
    go false = omega arith

module _ (step : Step) (Holds : PlainWork → Type 0) (keeps : (work : PlainWork) (next : PlainUse) → Holds work → step work next → Holds (after_use work next)) where
  -- what each use keeps is so in the end
  pub Lead-keeps : (work end : PlainWork) (uses : List PlainUse) → Holds work → Lead step work uses end → Holds end
  Lead-keeps work end [] holds h = subst Holds h holds
  Lead-keeps work end (next ∷ uses) holds h = Lead-keeps (after_use work next) end uses (keeps work next holds h.0) h.2

  -- uses of a kind, each of which lowers the measure, are no more than what the measure fell by
  pub uses-counted : (kind : PlainUse → Bool) (measure : PlainWork → ℕ) →
      ((work : PlainWork) (next : PlainUse) → Holds work → step work next → measure (after_use work next) + one_where (kind next) ≤ measure work) →
      (work end : PlainWork) (uses : List PlainUse) → Holds work → Lead step work uses end → measure end + length (filter kind uses) ≤ measure work
  uses-counted kind measure lowers work end [] holds h = let e : measure work ≡ measure end = ap measure h in omega (arith, e)
  uses-counted kind measure lowers work end (next ∷ uses) holds h =
      let first = lowers work next holds h.0 in
      let rest = uses-counted kind measure lowers (after_use work next) end uses (keeps work next holds h.0) h.2 in
      let count = length-filter_first kind next uses in
      omega (arith, first, rest, count)
