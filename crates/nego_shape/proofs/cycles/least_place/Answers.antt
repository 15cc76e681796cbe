use Rattle.std.proofs.Common.{◌≡◌, ◌+◌, ◌<◌, ◌≤◌, ℕ, List, get_or, sym, subst, arith, ⊎_elim}
use Rattle.std.proofs.lemmas.Bool.{cases_lt}
use Rattle.std.proofs.lemmas.List.{get_or-map}
use Rattle.nego_base.specs.declared.ids.AtomId.{AtomId}
use Rattle.nego_shape.specs.Answers.{numbers}
use Rattle.nego_shape.proofs.cycles.least_place.Goals as goal
use Rattle.nego_shape.proofs.cycles.least_place.Goals.{then-atoms-i, else-atoms-i}

-- the least of those up to a place
record Least (xs : List ℕ) (least count : ℕ) : Type 0 where
  within : least < count
  each : (k : ℕ) → k < count → get_or xs least 0 ≤ get_or xs k 0

stays : (xs : List ℕ) (least count : ℕ) → least < count → ((k : ℕ) → k < count → get_or xs least 0 ≤ get_or xs k 0) → get_or xs least 0 ≤ get_or xs count 0 → Least xs least (count + 1)
stays xs least count l each here = record {
  within = omega (arith, l);
  each = λ k below. ⊎_elim (each k) (λ past. let e : count ≡ k = omega (arith, below, past) in let P : ℕ → Type 0 = λ i. get_or xs least 0 ≤ get_or xs i 0 in subst P e here) (cases_lt k count);
}

moves : (xs : List ℕ) (least count : ℕ) → ((k : ℕ) → k < count → get_or xs least 0 ≤ get_or xs k 0) → get_or xs count 0 < get_or xs least 0 → Least xs count (count + 1)
moves xs least count each here = record {
  within = omega arith;
  each = λ k below. ⊎_elim
      (λ earlier. let old = each k earlier in omega (arith, old, here))
      (λ past. let e : count ≡ k = omega (arith, below, past) in let P : ℕ → Type 0 = λ i. get_or xs count 0 ≤ get_or xs i 0 in subst P e (omega arith))
      (cases_lt k count);
}

pub loop-i-preserved : goal.loop-i-preserved
loop-i-preserved c = record { within = next.within; least = next.each }
  where
    xs : List ℕ
    xs = numbers c.args.atoms.now

    i : ℕ
    i = c.loop-i.i

    here : get_or xs i 0 ≡ (get_or c.args.atoms.now i (record { 0 = 0 })).0
    here = get_or-map (λ (atom : AtomId). atom.0) c.args.atoms.now i (record { 0 = 0 }) 0 c.loop-i-test.true

    old : get_or xs c.loop-i.least 0 ≡ (get_or c.args.atoms.now c.loop-i.least (record { 0 = 0 })).0
    old = let l = c.loop-i.invariant.within in get_or-map (λ (atom : AtomId). atom.0) c.args.atoms.now c.loop-i.least (record { 0 = 0 }) 0 (omega (arith, l, c.loop-i-test.true))

    next : Least xs c.if-atoms-i.least (i + 1)
    next = elim c.if-atoms-i.branch [
      | then-atoms-i w ↦ subst (λ k. Least xs k (i + 1)) (sym w.least-is) (moves xs c.loop-i.least i c.loop-i.invariant.least (omega (arith, here, old, w.if-atoms-i.true)))
      | else-atoms-i w ↦ subst (λ k. Least xs k (i + 1)) (sym w.least-is) (stays xs c.loop-i.least i c.loop-i.invariant.within c.loop-i.invariant.least (omega (arith, here, old, w.if-atoms-i.false)))
    ]
