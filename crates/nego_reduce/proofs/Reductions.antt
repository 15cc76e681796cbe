-- A work has at most one reduction.
use Rattle.std.proofs.Common.{◌≡◌, ◌⊎◌, inl, inr, ◌<◌, ◌≤◌, List, [], ◌∷◌, length, map, refl, sym, subst, ap, ap₂, ◌∙◌, arith}
use Rattle.nego_expr.specs.Work.{PlainWork}
use Rattle.nego_expr.specs.Use.{PlainUse, after_use, most_nodes}
use Rattle.nego_expr.specs.UseView.{plain_use}
use Rattle.nego_expr.specs.Lead.{Lead}
use Rattle.nego_expr.specs.Finish.{summary_of_work}
use Rattle.nego_reduce.specs.declared.reduced.Reduced.TheVariants.{One, Stuck, NodeLimit}
use Rattle.nego_reduce.specs.Order.{IsNextUse, HasNoNextUse}
use Rattle.nego_reduce.specs.Reducing.{OneLeft, StuckAt, FullAt, IsFull}
use Rattle.nego_reduce.specs.Laws.{ReductionsAreOne}
use Rattle.nego_reduce.proofs.NextUses.{next_one}

-- The order goes no further: no use is the next one, or the next one would make too many nodes.
abbrev Stops : PlainWork → Type 0
Stops end = HasNoNextUse end ⊎ IsFull end

-- then no use is made
no_further : (end : PlainWork) (next : PlainUse) → Stops end → IsNextUse end next → length (after_use end next).nodes ≤ most_nodes → ⊥
no_further end next (inl none) h few = none next h
no_further end next (inr full) h few =
    let many : most_nodes < length (after_use end next).nodes = subst (λ u. most_nodes < length (after_use end u).nodes) (next_one end full.next next full.is_next h) full.too_many in
    let no_more : ⊥ = omega (arith, few, many) in
    no_more

-- uses that lead to where the order goes no further are the same, and lead to the same work
same_way : (work end other : PlainWork) (uses more : List PlainUse) → Stops end → Stops other → Lead IsNextUse work uses end → Lead IsNextUse work more other → (uses ≡ more) × (end ≡ other)
same_way work end other [] [] s t h k = (refl, sym h ∙ k)
same_way work end other [] (next ∷ more) s t h k = absurd (no_further end next s (subst (λ w. IsNextUse w next) h k.0) (subst (λ w. length (after_use w next).nodes ≤ most_nodes) h k.1))
same_way work end other (next ∷ uses) [] s t h k = absurd (no_further other next t (subst (λ w. IsNextUse w next) k h.0) (subst (λ w. length (after_use w next).nodes ≤ most_nodes) k h.1))
same_way work end other (next ∷ uses) (next' ∷ more) s t h k =
    let one = next_one work next next' h.0 k.0 in
    let rest = same_way (after_use work next) end other uses more s t h.2 (subst (λ u. Lead IsNextUse (after_use work u) more other) (sym one) k.2) in
    (ap₂ ◌∷◌ one rest.0, rest.1)

-- where a use is the next one, some is
none_and_full : (end : PlainWork) → HasNoNextUse end → IsFull end → ⊥
none_and_full end none full = none full.next full.is_next

pub reductions_one : ReductionsAreOne
reductions_one work (One s us) (One t vs) (end, leads, done, e) (other, leads', done', e') =
    let same = same_way work end other (map plain_use us) (map plain_use vs) (inl done.no_use) (inl done'.no_use) leads leads' in
    ap₂ OneLeft (e ∙ (ap summary_of_work same.1 ∙ sym e')) same.0
reductions_one work (One s us) (Stuck left vs) (end, leads, done, e) (leads', stuck) =
    let same = same_way work end left.plain (map plain_use us) (map plain_use vs) (inl done.no_use) (inl stuck.no_use) leads leads' in
    let one = done.one_atom in
    let more : 1 < length end.atoms = subst (λ w. 1 < length w.atoms) (sym same.1) stuck.more in
    absurd (let no_more : ⊥ = omega (arith, one, more) in no_more)
reductions_one work (One s us) (NodeLimit left vs) (end, leads, done, e) (leads', full) =
    let same = same_way work end left.plain (map plain_use us) (map plain_use vs) (inl done.no_use) (inr full) leads leads' in
    absurd (none_and_full left.plain (subst HasNoNextUse same.1 done.no_use) full)
reductions_one work (Stuck left us) (One t vs) (leads, stuck) (other, leads', done', e') =
    let same = same_way work left.plain other (map plain_use us) (map plain_use vs) (inl stuck.no_use) (inl done'.no_use) leads leads' in
    let one = done'.one_atom in
    let more : 1 < length other.atoms = subst (λ w. 1 < length w.atoms) same.1 stuck.more in
    absurd (let no_more : ⊥ = omega (arith, one, more) in no_more)
reductions_one work (Stuck left us) (Stuck left' vs) (leads, stuck) (leads', stuck') =
    let same = same_way work left.plain left'.plain (map plain_use us) (map plain_use vs) (inl stuck.no_use) (inl stuck'.no_use) leads leads' in
    ap₂ StuckAt same.1 same.0
reductions_one work (Stuck left us) (NodeLimit left' vs) (leads, stuck) (leads', full) =
    let same = same_way work left.plain left'.plain (map plain_use us) (map plain_use vs) (inl stuck.no_use) (inr full) leads leads' in
    absurd (none_and_full left'.plain (subst HasNoNextUse same.1 stuck.no_use) full)
reductions_one work (NodeLimit left us) (One t vs) (leads, full) (other, leads', done', e') =
    let same = same_way work left.plain other (map plain_use us) (map plain_use vs) (inr full) (inl done'.no_use) leads leads' in
    absurd (none_and_full left.plain (subst HasNoNextUse (sym same.1) done'.no_use) full)
reductions_one work (NodeLimit left us) (Stuck left' vs) (leads, full) (leads', stuck) =
    let same = same_way work left.plain left'.plain (map plain_use us) (map plain_use vs) (inr full) (inl stuck.no_use) leads leads' in
    absurd (none_and_full left.plain (subst HasNoNextUse (sym same.1) stuck.no_use) full)
reductions_one work (NodeLimit left us) (NodeLimit left' vs) (leads, full) (leads', full') =
    let same = same_way work left.plain left'.plain (map plain_use us) (map plain_use vs) (inr full) (inr full') leads leads' in
    ap₂ FullAt same.1 same.0
