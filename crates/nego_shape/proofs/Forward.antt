-- Orders in which every edge goes forward: the placed atoms are one, and there is none where no atom can be placed.
use Rattle.std.proofs.Common.{◌≡◌, ◌∙◌, ℕ, zero, suc, ◌<◌, true, List, length, take, get_or, IsTrue, sym, subst, ⊎_elim, arith}
use Rattle.std.proofs.lemmas.Bool.{cases_lt, true_from_ne_false, false≢true}
use Rattle.std.proofs.lemmas.Grind.{get_or_default_zero}
use Rattle.nego_base.specs.Members.{is_in}
use Rattle.nego_base.proofs.Members.{All-members, All-member}
use Rattle.nego_base.proofs.BoolLaws.{same_tests}
use Rattle.nego_model.specs.Negotiation.{Negotiation}
use Rattle.nego_model.specs.Acyclic.{IsEdge, IsForwardOrder, IsAcyclic}
use Rattle.nego_shape.specs.Ordering.{IsLeft, IsStuck}
use Rattle.nego_shape.proofs.ListPlaces.{is_in_at, place_in, place_in_take, in_take}
use Rattle.nego_shape.proofs.PlacedAtoms.{ArePlaced}

module _ (nego : Negotiation) (order placed : List ℕ) (so_far : ArePlaced nego order placed) where
  -- an atom isn't among those before it
  first_time : (i j : ℕ) → i < j → j < length order → get_or order i 0 ≡ get_or order j 0 → ⊥
  first_time i j lt within e =
      let P : ℕ → Type 0 = λ x. is_in x (take j order) ≡ true in
      let there : is_in (get_or order j 0) (take j order) ≡ true = subst P e (in_take order i j lt (omega (arith, lt, within))) in
      false≢true (sym (so_far.least j within).ready.left.unplaced ∙ there)

  -- a predecessor is among those before
  predecessor : (i : ℕ) (m : ℕ) → i < length order → IsEdge nego m (get_or order i 0) → (p : ℕ) × (p < i) × (p < length order) × (get_or order p 0 ≡ m)
  predecessor i m within edge = place_in_take m order i ((so_far.least i within).ready.behind m edge)

  pub forward_order : ((n : ℕ) → IsLeft nego placed n → ⊥) → IsForwardOrder nego order
  forward_order done = record {
    atoms = λ n. same_tests (is_in n order) (is_in n nego.atoms)
        (λ h. let p = place_in n order h in let P : ℕ → Type 0 = λ x. is_in x nego.atoms ≡ true in subst P p.2 (so_far.least p.0 p.1).ready.left.atom)
        (λ h. sym (so_far.same n) ∙ true_from_ne_false _ (λ none. done n (record { atom = h; unplaced = none })));
    once = λ i j d lt within e.
        let l : i < length order = omega (arith, lt, within) in
        first_time i j lt within (sym (get_or_default_zero order i d l) ∙ (e ∙ get_or_default_zero order j d within));
    no_loop = All-members (λ n. IsEdge nego n n → ⊥) order (λ n h edge.
        let k = place_in n order h in
        let P : ℕ → Type 0 = λ x. IsEdge nego n x in
        let p = predecessor k.0 n k.1 (subst P (sym k.2) edge) in
        first_time p.0 k.0 p.1 k.1 (p.3 ∙ sym k.2));
    forward = λ i j d lt within edge.
        let l : i < length order = omega (arith, lt, within) in
        let P : ℕ → Type 0 = λ x. IsEdge nego (get_or order j 0) x in
        let Q : ℕ → Type 0 = λ x. IsEdge nego x (get_or order i d) in
        let p = predecessor i (get_or order j 0) l (subst P (get_or_default_zero order i d l) (subst Q (get_or_default_zero order j d within) edge)) in
        let less = p.1 in
        first_time p.0 j (omega (arith, less, lt)) within p.3;
  }

module _ (nego : Negotiation) (placed : List ℕ) (stuck : IsStuck nego placed) (order : List ℕ) (formed : IsForwardOrder nego order) where
  atom_at : (i : ℕ) → i < length order → IsTrue (is_in (get_or order i 0) nego.atoms)
  atom_at i within = sym (formed.atoms (get_or order i 0)) ∙ is_in_at order i 0 within

  -- where all before a place are placed, a predecessor of the atom there is placed
  behind_placed : (i : ℕ) → i < length order → ((j : ℕ) → j < i → j < length order → is_in (get_or order j 0) placed ≡ true) →
      (m : ℕ) → IsEdge nego m (get_or order i 0) → is_in m placed ≡ true
  behind_placed i within before m edge =
      let p = place_in m order (formed.atoms m ∙ edge.own.0) in
      let P : ℕ → Type 0 = λ x. is_in x placed ≡ true in
      let Q : ℕ → Type 0 = λ x. IsEdge nego x (get_or order i 0) in
      let here : IsEdge nego (get_or order p.0 0) (get_or order i 0) = subst Q (sym p.2) edge in
      ⊎_elim
      (λ earlier. subst P p.2 (before p.0 earlier p.1))
      (λ late. absurd (⊎_elim
      (λ later. formed.forward i p.0 0 later p.1 here)
      (λ no_later. let e : p.0 ≡ i = omega (arith, late, no_later) in
      All-member (λ n. IsEdge nego n n → ⊥) (get_or order i 0) order formed.no_loop (is_in_at order i 0 within)
      (let R : ℕ → Type 0 = λ k. IsEdge nego (get_or order k 0) (get_or order i 0) in subst R e here))
      (cases_lt i p.0)))
      (cases_lt p.0 i)

  each_placed : (i j : ℕ) → j < i → j < length order → is_in (get_or order j 0) placed ≡ true
  each_placed zero j lt within = absurd (let gone : ⊥ = omega (arith, lt) in gone)
  each_placed (suc i) j lt within =
      true_from_ne_false _ (λ none. stuck (get_or order j 0) (record {
        left = record { atom = atom_at j within; unplaced = none };
        behind = behind_placed j within (λ k l w. each_placed i k (omega (arith, l, lt)) w);
      }))

  none_left : (n : ℕ) → IsLeft nego placed n → ⊥
  none_left n left =
      let p = place_in n order (formed.atoms n ∙ left.atom) in
      let P : ℕ → Type 0 = λ x. is_in x placed ≡ true in
      false≢true (sym left.unplaced ∙ subst P p.2 (each_placed (suc p.0) p.0 (omega arith) p.1))

-- where an atom is left and none can be placed, there is no order
pub stuck_cyclic : (nego : Negotiation) (placed : List ℕ) (n : ℕ) → IsStuck nego placed → IsLeft nego placed n → IsAcyclic nego → ⊥
stuck_cyclic nego placed n stuck left acyclic = none_left nego placed stuck acyclic.0 acyclic.1 n left
