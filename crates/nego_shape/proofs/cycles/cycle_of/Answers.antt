use Rattle.std.proofs.Common.{◌≡◌, ◌∙◌, ℕ, suc, ◌+◌, ◌-◌, ◌<◌, ◌≤◌, List, [], ◌∷◌, ◌++◌, length, take, drop, reverse, get_or, Result, Ok, Err, IfOk, ap, sym, subst, refl, arith, drop-cons}
use Rattle.std.proofs.lemmas.List.{map-append, take-map, drop-map, length-map, reverse-append, take-append-drop, take_rest}
use Rattle.nego_base.specs.declared.ids.AtomId.{AtomId}
use Rattle.nego_shape.specs.Answers.{numbers}
use Rattle.nego_shape.specs.Ordering.{IsTurned}
use Rattle.nego_shape.specs.Walks.{ClosesRound}
use Rattle.nego_shape.proofs.Turning.{turned_from}
use Rattle.nego_shape.proofs.cycles.cycle_of.Goals as goal

numbers-reverse : (atoms : List AtomId) → numbers (reverse atoms) ≡ reverse (numbers atoms)
numbers-reverse [] = refl
numbers-reverse (x ∷ atoms) =
    ap numbers (reverse-append (x ∷ []) atoms)
    ∙ (map-append (λ (atom : AtomId). atom.0) (reverse atoms) (x ∷ []) ∙ (ap (λ xs. xs ++ x.0 ∷ []) (numbers-reverse atoms) ∙ sym (reverse-append (x.0 ∷ []) (numbers atoms))))

if_ok : {T E : Type 0} (r : Result T E) (P Q : T → Type 0) → ((x : T) → P x → Q x) → IfOk r P → IfOk r Q
if_ok (Ok x) P Q f h = f x h
if_ok (Err e) P Q f h = h

module _ (walk : List AtomId) (p j again : ℕ) (within : p < length walk) (there : get_or (numbers walk) p 0 ≡ again) (round : List AtomId) (same : round ≡ drop p walk) where
  others : List ℕ
  others = drop (p + 1) (numbers walk)

  behind : drop p (numbers walk) ≡ again ∷ others
  unfolding others
  behind =
      let size = length-map walk (λ (atom : AtomId). atom.0) in
      let l : p < length (numbers walk) = omega (arith, within, size) in
      let next : suc p ≡ p + 1 = omega arith in
      drop-cons (numbers walk) p 0 l ∙ (ap (λ x. x ∷ drop (suc p) (numbers walk)) there ∙ ap (λ k. again ∷ drop k (numbers walk)) next)

  round_is : numbers round ≡ again ∷ others
  round_is = ap numbers same ∙ (sym (drop-map (λ (atom : AtomId). atom.0) p walk) ∙ behind)

  turned_is : numbers (reverse (take (j + 1) round) ++ reverse (take (length round - (j + 1)) (drop (j + 1) round))) ≡ reverse (take (j + 1) (numbers round)) ++ reverse (drop (j + 1) (numbers round))
  turned_is =
      map-append (λ (atom : AtomId). atom.0) (reverse (take (j + 1) round)) (reverse (take (length round - (j + 1)) (drop (j + 1) round)))
      ∙ (ap (λ xs. xs ++ numbers (reverse (take (length round - (j + 1)) (drop (j + 1) round)))) (numbers-reverse (take (j + 1) round) ∙ ap reverse (sym (take-map (λ (atom : AtomId). atom.0) (j + 1) round)))
      ∙ ap (λ xs. reverse (take (j + 1) (numbers round)) ++ xs)
      (ap (λ xs. numbers (reverse xs)) (take_rest round (j + 1)) ∙ (numbers-reverse (drop (j + 1) round) ∙ ap reverse (sym (drop-map (λ (atom : AtomId). atom.0) (j + 1) round)))))

  closes : j < length round → ((k : ℕ) → k < length round → get_or (numbers round) j 0 ≤ get_or (numbers round) k 0) → (cycle : List AtomId) →
      cycle ≡ reverse (take (j + 1) round) ++ reverse (take (length round - (j + 1)) (drop (j + 1) round)) → ClosesRound (numbers walk) again (numbers cycle)
  closes below least cycle made =
      let size = length-map round (λ (atom : AtomId). atom.0) in
      let turned = turned_from (numbers round) j (omega (arith, below, size)) (λ k l. least k (omega (arith, l, size))) in
      record {
        lead = take p (numbers walk);
        others = others;
        parts = sym (take-append-drop p (numbers walk)) ∙ ap (λ xs. take p (numbers walk) ++ xs) behind;
        turned = subst (λ xs. IsTurned xs (numbers cycle)) round_is (subst (IsTurned (numbers round)) (sym (ap numbers made ∙ turned_is)) turned);
      }

pub returns : goal.returns
returns c =
    let walk = c.args.walk.now in
    let p = c.place_of.result in
    let j = c.least_place-behind.result in
    let round : List AtomId = take (length walk - p) (drop p walk) in
    if_ok c.turned.result _ _
    (λ cycle made. closes walk p j c.args.again.0 c.place_of.ensures.within c.place_of.ensures.there round (take_rest walk p) c.least_place-behind.ensures.within c.least_place-behind.ensures.least cycle made)
    c.turned.ensures
