use Rattle.std.proofs.Common.{◌≡◌, ◌<◌, ◌≤◌, false, length, nat_lt, sym, ap, ◌∙◌, arith, ltb-true}
use Rattle.std.proofs.lemmas.Bool.{false_from_ne_true}
use Rattle.nego_base.specs.Members.{is_in}
use Rattle.nego_base.proofs.Members.{All-member}
use Rattle.nego_expr.proofs.UsableWorks.{numbers-atoms}
use Rattle.nego_expr.proofs.work.Work.is_left.Goals as goal

pub returns-then-n-lt64-clause-value : goal.returns-then-n-lt64-clause-value
returns-then-n-lt64-clause-value c = rw (← c.self.view_is) (c.has.ensures.value ∙ ap (is_in c.args.n.0) (sym (numbers-atoms c.self.inside.parties c.self.inside.left)))

pub returns-else-n-lt64-clause-value : goal.returns-else-n-lt64-clause-value
returns-else-n-lt64-clause-value c =
    let n = c.args.n.0 in
    let w = c.self.inside in
    let large : nat_lt n 64 ≡ false = false_from_ne_true (nat_lt n 64) (λ h. let l = ltb-true n 64 h in let no_more : ⊥ = omega (arith, l, c.if-n-lt64.false) in no_more) in
    let none : is_in n w.left ≡ false = false_from_ne_true (is_in n w.left) (λ h.
    let l : n < length w.parties = All-member (λ m. m < length w.parties) n w.left c.self.invariant.left_below h in
    let few : length w.parties ≤ 64 = c.self.invariant.few_atoms in
    let no_more : ⊥ = omega (arith, l, few, c.if-n-lt64.false) in
    no_more) in
    rw (← c.self.view_is) (large ∙ sym (ap (is_in n) (numbers-atoms w.parties w.left) ∙ none))
