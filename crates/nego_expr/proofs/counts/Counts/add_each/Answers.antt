use Rattle.std.proofs.Common.{◌∙◌, ◌==◌, not, cond, IsTrue, ℕ, refl, sym, subst, ap, arith}
use Rattle.std.proofs.lemmas.Bool.{and_parts, cond-true}
use Rattle.nego_base.specs.Members.{is_in, without_member}
use Rattle.nego_base.proofs.Members.{is_in-head, is_in-without}
use Rattle.nego_expr.proofs.Counting.{taken_one}
use Rattle.nego_expr.proofs.counts.Counts.add_each.Goals as goal

pub loop-n-init : goal.loop-n-init
loop-n-init c = record { some = λ m h. h; sums = λ m. refl }

pub add-requires-clause-few : goal.add-requires-clause-few
add-requires-clause-few c =
    let n = c.in-Some.n.0 in
    let rest = c.loop-n.rest in
    let there : IsTrue (is_in n rest) = subst (λ xs. IsTrue (is_in n xs)) (sym c.in-Some.ensures.rest) (is_in-head n (without_member n rest)) in
    let among = c.loop-n.invariant.some n there in
    let sums = c.loop-n.invariant.sums n in
    let one = cond-true {A = ℕ} (is_in n rest) 1 0 there in
    let two = cond-true {A = ℕ} (is_in n c.args.atoms) 1 0 among in
    let few = c.requires n among in
    omega (arith, sums, one, two, few)

pub loop-n-preserved : goal.loop-n-preserved
loop-n-preserved c =
    let n = c.in-Some.n.0 in
    let rest = c.loop-n.rest in
    let there : IsTrue (is_in n rest) = subst (λ xs. IsTrue (is_in n xs)) (sym c.in-Some.ensures.rest) (is_in-head n (without_member n rest)) in
    record {
      some = λ m h. c.loop-n.invariant.some m (and_parts (not (m == n)) (is_in m rest) (sym (is_in-without m n rest) ∙ subst (λ xs. IsTrue (is_in m xs)) c.without-rest.ensures.value h)).1;
      sums = λ m.
          let sums = c.loop-n.invariant.sums m in
          let more = c.add.ensures m in
          let left = ap {B = ℕ} (λ xs. cond (is_in m xs) 1 0) c.without-rest.ensures.value in
          let taken = taken_one rest n m there in
          omega (arith, sums, more, left, taken);
    }

pub returns : goal.returns
returns c m =
    let sums = c.loop-n.invariant.sums m in
    let none = ap {B = ℕ} (λ xs. cond (is_in m xs) 1 0) c.in_default.ensures.value in
    omega (arith, sums, none)
