use Rattle.std.proofs.Common.{◌≡◌, ⊎_elim, ◌==◌, ◌&&◌, ◌||◌, not, cond, Bool, true, false, refl, sym, ap, ◌∙◌, eq-eqb, ne_eqb}
use Rattle.std.proofs.lemmas.Bool.{cond-true, cond-false, cases_eq}
use Rattle.nego_base.specs.Members.{is_in}
use Rattle.nego_base.proofs.Members.{is_in-with, is_in-without}
use Rattle.nego_expr.proofs.counts.ones_with.Goals as goal

either : (b s : Bool) → (b || s) ≡ cond b true s
either true s = refl
either false s = refl

pub returns-then-count-eq1 : goal.returns-then-count-eq1
returns-then-count-eq1 c m =
    let n = c.args.n.0 in
    let ones = c.args.ones in
    ap (is_in m) c.with.ensures.value
    ∙ (is_in-with m n ones ∙ (either (n == m) (is_in m ones) ∙ ap (λ t. cond (n == m) t (is_in m ones)) (sym (eq-eqb c.args.count 1 c.if-count-eq1.true))))

pub returns-else-count-eq1 : goal.returns-else-count-eq1
returns-else-count-eq1 c m =
    let n = c.args.n.0 in
    let ones = c.args.ones in
    let count = c.args.count in
    ap (is_in m) c.without.ensures.value
    ∙ (is_in-without m n ones
    ∙ ⊎_elim
    (λ e. ap (λ b. not b && is_in m ones) (eq-eqb m n (sym e)) ∙ sym (cond-true (n == m) (count == 1) (is_in m ones) (eq-eqb n m e) ∙ ne_eqb count 1 c.if-count-eq1.false))
    (λ other. ap (λ b. not b && is_in m ones) (ne_eqb m n (λ q. other (sym q))) ∙ sym (cond-false (n == m) (count == 1) (is_in m ones) (ne_eqb n m other)))
    (cases_eq n m))
