-- Each next use makes a node at least.
use Rattle.std.proofs.Common.{◌≢◌, ℕ, ◌<◌, ◌≤◌, List, [], ◌∷◌, length, sym, subst, refl, arith}
use Rattle.std.specs.Option.{option_map_or}
use Rattle.std.proofs.lemmas.List.{length-map}
use Rattle.nego_expr.specs.Work.{PlainWork, outcome_at, outcomes_at, work_outcomes, IsWork}
use Rattle.nego_expr.specs.Use.{PlainUse, Merge, Iterate, Shortcut, Close, after_use, iterates}
use Rattle.nego_expr.proofs.EditCalls.{allowed_at, found_itself}
use Rattle.nego_iterate.proofs.IterateKeeps.{one_fewer}
use Rattle.nego_reduce.specs.Order.{IsNextUse}
use Rattle.nego_reduce.proofs.bound.NodesMade.{nodes_made, nodes-after}

-- a list that isn't empty has an item
one_at_least : (xs : List ℕ) → xs ≢ [] → 1 ≤ length xs
one_at_least [] h = absurd (h refl)
one_at_least (x ∷ xs) h = omega arith

some_made : (work : PlainWork) → IsWork work → (next : PlainUse) → IsNextUse work next → 1 ≤ nodes_made work next
some_made work ok (Merge o1 o2) h = omega arith
some_made work ok (Iterate o) h =
    let k = allowed_at (iterates work) (outcome_at work o) h.1.allowed in
    let some = one_fewer work k.0 ok (found_itself work o k.0 k.1) in
    let one : 1 ≤ length (outcomes_at work k.0.atom) = omega (arith, some) in
    subst (λ found. 1 ≤ option_map_or (λ x. length (outcomes_at work x.atom)) found 0) (sym k.1) one
some_made work ok (Shortcut o n) h = omega arith
some_made work ok Close h =
    let some = one_at_least (work_outcomes work work.last) (ok.form.some_outcome work.last ok.form.last_there) in
    let each = length-map (outcomes_at work work.last) (λ x. x.number) in
    omega (arith, some, each)

pub next_grows : (work : PlainWork) → IsWork work → (next : PlainUse) → IsNextUse work next → length work.nodes < length (after_use work next).nodes
next_grows work ok next h =
    let after = nodes-after work next ok h in
    let some = some_made work ok next h in
    omega (arith, after, some)
