use Rattle.std.proofs.Common.{◌≡◌, ◌≢◌, ◌==◌, ◌&&◌, ◌||◌, not, nat_lt, Bool, true, false, Some, option_map, refl, sym, subst, ap, ◌∙◌, arith, eqb-true, ne_eqb, lt-ltb}
use Rattle.std.proofs.lemmas.Bool.{and_from, eqb-false, not-true, not_from_false}
use Rattle.nego_base.specs.Members.{is_in, with_member}
use Rattle.nego_base.specs.declared.ids.AtomId.{AtomId}
use Rattle.nego_base.proofs.Members.{is_in-with}
use Rattle.nego_expr.specs.Use.{same_target}
use Rattle.nego_expr.proofs.targets.with_other.Goals as goal

joined : (b a l n : Bool) → (b ≡ true → (l ≡ true) × (n ≡ true)) → (b || a) ≡ (a || (l && (n && b)))
joined true true l n h = refl
joined true false l n h = let k = h refl in sym (and_from l (n && true) k.0 (and_from n true k.1 refl))
joined false true l n h = refl
joined false false false n h = refl
joined false false true false h = refl
joined false false true true h = refl

pub returns-in-Some : goal.returns-in-Some
returns-in-Some c m =
    let k = c.in-Some.k.0 in
    let n = c.args.n.0 in
    let atoms = c.args.atoms in
    let other : k ≢ n = eqb-false k n (not-true (k == n) (subst (λ (q : AtomId). not (q.0 == n) ≡ true) c.in-Some.k-is (sym c.ne.ensures ∙ c.if-ne.true))) in
    ap (is_in m) c.with.ensures.value
    ∙ ap (λ (q : AtomId). is_in m (with_member q.0 atoms)) c.in-Some.k-is
    ∙ (is_in-with m k atoms
    ∙ (joined (k == m) (is_in m atoms) (nat_lt m 64) (not (n == m)) (λ e.
    let same : k ≡ m = eqb-true k m e in
    let seen = ap (λ (q : AtomId). q.0) c.in-Some.k-is in
    (lt-ltb m 64 (omega (arith, same, seen, c.if-target-lt64.true)), not_from_false (n == m) (ne_eqb n m (λ q. other (same ∙ sym q)))))
    ∙ ap (λ t. is_in m atoms || (nat_lt m 64 && (not (n == m) && same_target (option_map (λ q. q.0) t) (Some m)))) (sym c.in-Some.is)))
