-- A diagram has one verdict: the uses of the order lead to one work that stops them, and this has one verdict.
use Rattle.std.proofs.Common.{◌≡◌, ◌⊎◌, ◌∙◌, inl, inr, ◌<◌, ◌≤◌, List, [], ◌∷◌, length, refl, sym, ap, subst, arith}
use Rattle.nego_model.specs.Diagram.{PlainDiagram}
use Rattle.nego_expr.specs.Work.{PlainWork}
use Rattle.nego_expr.specs.Use.{PlainUse, after_use, most_nodes}
use Rattle.nego_expr.specs.Lead.{Lead}
use Rattle.nego_expr.specs.Fresh.{fresh_work}
use Rattle.nego_reduce.specs.Order.{IsNextUse, HasNoNextUse}
use Rattle.nego_reduce.specs.Reducing.{IsFull}
use Rattle.nego_reduce.proofs.NextUses.{next_one}
use Rattle.nego_cli.specs.declared.verdict.Verdict.{Verdict}
use Rattle.nego_cli.specs.declared.verdict.Verdict.TheVariants as verdicts
use Rattle.nego_cli.specs.Verdict.{IsVerdict, VerdictsAreOne}

-- The order stops at the work: no use is the next one, or the next one makes too many nodes.
abbrev Stops : PlainWork → Type 0
Stops work = HasNoNextUse work ⊎ IsFull work

-- where it stops, no use is made
no_more : (work : PlainWork) (next : PlainUse) → Stops work → IsNextUse work next → length (after_use work next).nodes ≤ most_nodes → ⊥
no_more work next (inl none) is fits = none next is
no_more work next (inr full) is fits =
    let same : full.next ≡ next = next_one work full.next next full.is_next is in
    let many : most_nodes < length (after_use work next).nodes = subst (λ u. most_nodes < length (after_use work u).nodes) same full.too_many in
    omega (arith, many, fits)

-- the uses up to where it stops are one list
leads_once : (work end end' : PlainWork) (uses uses' : List PlainUse) → Lead IsNextUse work uses end → Lead IsNextUse work uses' end' → Stops end → Stops end' → (uses ≡ uses') × (end ≡ end')
leads_once work end end' [] [] h k stops stops' = (refl, sym h ∙ k)
leads_once work end end' [] (next ∷ uses') h k stops stops' = absurd (no_more work next (subst Stops (sym h) stops) k.0 k.1)
leads_once work end end' (next ∷ uses) [] h k stops stops' = absurd (no_more work next (subst Stops (sym k) stops') h.0 h.1)
leads_once work end end' (next ∷ uses) (next' ∷ uses') h k stops stops' =
    let same : next' ≡ next = next_one work next' next k.0 h.0 in
    let rest = leads_once (after_use work next) end end' uses uses' h.2 (subst (λ u. Lead IsNextUse (after_use work u) uses' end') same k.2) stops stops' in
    (ap (λ u. u ∷ uses) (sym same) ∙ ap (λ us. next' ∷ us) rest.0, rest.1)

-- a verdict comes where the order stops
verdict_stops : (d : PlainDiagram) (left : PlainWork) (verdict : Verdict) → IsVerdict d left verdict → Stops left
verdict_stops d left verdicts.Sound h = inl h.0.no_use
verdict_stops d left verdicts.Unsound h = inl h.0.no_use
verdict_stops d left verdicts.Stuck h = inl h.0.no_use
verdict_stops d left verdicts.NodeLimit h = inr h.0

-- and there is one
verdict_once : (d : PlainDiagram) (left : PlainWork) (verdict verdict' : Verdict) → IsVerdict d left verdict → IsVerdict d left verdict' → verdict ≡ verdict'
verdict_once d left verdicts.Sound verdicts.Sound h k = refl
verdict_once d left verdicts.Sound verdicts.Unsound h k = absurd (let one = h.0.one_atom in let more = k.0.more in let never : ⊥ = omega (arith, one, more) in never)
verdict_once d left verdicts.Sound verdicts.Stuck h k = absurd (let one = h.0.one_atom in let more = k.0.more in let never : ⊥ = omega (arith, one, more) in never)
verdict_once d left verdicts.Sound verdicts.NodeLimit h k = absurd (h.0.no_use k.0.next k.0.is_next)
verdict_once d left verdicts.Unsound verdicts.Sound h k = absurd (let one = k.0.one_atom in let more = h.0.more in let never : ⊥ = omega (arith, one, more) in never)
verdict_once d left verdicts.Unsound verdicts.Unsound h k = refl
verdict_once d left verdicts.Unsound verdicts.Stuck h k = absurd (k.1 h.1)
verdict_once d left verdicts.Unsound verdicts.NodeLimit h k = absurd (k.1 h.1)
verdict_once d left verdicts.Stuck verdicts.Sound h k = absurd (let one = k.0.one_atom in let more = h.0.more in let never : ⊥ = omega (arith, one, more) in never)
verdict_once d left verdicts.Stuck verdicts.Unsound h k = absurd (h.1 k.1)
verdict_once d left verdicts.Stuck verdicts.Stuck h k = refl
verdict_once d left verdicts.Stuck verdicts.NodeLimit h k = absurd (h.0.no_use k.0.next k.0.is_next)
verdict_once d left verdicts.NodeLimit verdicts.Sound h k = absurd (k.0.no_use h.0.next h.0.is_next)
verdict_once d left verdicts.NodeLimit verdicts.Unsound h k = absurd (h.1 k.1)
verdict_once d left verdicts.NodeLimit verdicts.Stuck h k = absurd (k.0.no_use h.0.next h.0.is_next)
verdict_once d left verdicts.NodeLimit verdicts.NodeLimit h k = refl

pub one_verdict : VerdictsAreOne
one_verdict d uses uses' left left' verdict verdict' h k =
    let same = leads_once (fresh_work d) left left' uses uses' h.leads k.leads (verdict_stops d left verdict h.is_verdict) (verdict_stops d left' verdict' k.is_verdict) in
    (same.0, same.1, verdict_once d left verdict verdict' h.is_verdict (subst (λ w. IsVerdict d w verdict') (sym same.1) k.is_verdict))
