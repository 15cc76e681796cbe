-- Atoms that are placed one after another.
use Rattle.std.proofs.Common.{◌≡◌, ◌∙◌, ℕ, ◌-◌, ◌<◌, ◌≤◌, Bool, true, false, ◌||◌, ◌==◌, List, [], ◌∷◌, ◌++◌, length, take, get_or, ap, sym, subst, refl, ⊎_elim, arith}
use Rattle.std.proofs.lemmas.Bool.{cases_lt}
use Rattle.std.proofs.lemmas.List.{take-append-le, get_or_append_left}
use Rattle.std.proofs.Math.Seq.{take-append_seam, get_or-append_seam}
use Rattle.std.proofs.lemmas.List.{length-append}
use Rattle.nego_base.specs.Members.{is_in, with_member, IsRisingBelow}
use Rattle.nego_base.proofs.Members.{is_in-with, is_in-append, length-with, with-rises, length-below}
use Rattle.nego_model.specs.Negotiation.{Negotiation}
use Rattle.nego_shape.specs.Ordering.{IsLeft, IsReady, IsLeastReady, PlacesLeast}

-- The order's atoms were each the least that could be placed, and are the members of the set.
pub record ArePlaced (nego : Negotiation) (order placed : List ℕ) : Type 0 where
  pub least : PlacesLeast nego order
  pub same : (n : ℕ) → is_in n placed ≡ is_in n order

-- a set and a list with the same members have so with one more
pub same_with : (order placed : List ℕ) (n : ℕ) → ((m : ℕ) → is_in m placed ≡ is_in m order) → (m : ℕ) → is_in m (with_member n placed) ≡ is_in m (order ++ n ∷ [])
same_with order placed n same m = is_in-with m n placed ∙ (ap (λ b. (n == m) || b) (same m) ∙ (turn (n == m) (is_in m order) ∙ sym (is_in-append m order (n ∷ []))))
  where
    turn : (s t : Bool) → (s || t) ≡ (t || (s || false))
    turn true true = refl
    turn true false = refl
    turn false true = refl
    turn false false = refl

module _ (nego : Negotiation) where
  -- readiness is the same over equal sets
  pub left_same : (xs ys : List ℕ) (n : ℕ) → ((m : ℕ) → is_in m xs ≡ is_in m ys) → IsLeft nego xs n → IsLeft nego ys n
  left_same xs ys n same h = record { atom = h.atom; unplaced = sym (same n) ∙ h.unplaced }

  pub ready_same : (xs ys : List ℕ) (n : ℕ) → ((m : ℕ) → is_in m xs ≡ is_in m ys) → IsReady nego xs n → IsReady nego ys n
  ready_same xs ys n same h = record { left = left_same xs ys n same h.left; behind = λ m edge. sym (same m) ∙ h.behind m edge }

  pub least_same : (xs ys : List ℕ) (n : ℕ) → ((m : ℕ) → is_in m xs ≡ is_in m ys) → IsLeastReady nego xs n → IsLeastReady nego ys n
  least_same xs ys n same h = record { ready = ready_same xs ys n same h.ready; least = λ m r. h.least m (ready_same ys xs m (λ k. sym (same k)) r) }

  pub one_placed : (order placed : List ℕ) (n : ℕ) → IsLeastReady nego placed n → ArePlaced nego order placed → ArePlaced nego (order ++ n ∷ []) (with_member n placed)
  one_placed order placed n next so_far = record { least = each; same = same_with order placed n so_far.same }
    where
      at_end : (k : ℕ) → k ≡ length order → IsLeastReady nego (take k (order ++ n ∷ [])) (get_or (order ++ n ∷ []) k 0)
      at_end k e =
          let P : ℕ → Type 0 = λ k. IsLeastReady nego (take k (order ++ n ∷ [])) (get_or (order ++ n ∷ []) k 0) in
          subst P (sym e) (rw (take-append_seam order (n ∷ []), get_or-append_seam order n [] 0) (least_same placed order n so_far.same next))

      each : (k : ℕ) → k < length (order ++ n ∷ []) → IsLeastReady nego (take k (order ++ n ∷ [])) (get_or (order ++ n ∷ []) k 0)
      each k l =
          ⊎_elim
          (λ earlier. let le : k ≤ length order = omega (arith, earlier) in rw (take-append-le k order (n ∷ []) le, get_or_append_left order (n ∷ []) 0 k earlier) (so_far.least k earlier))
          (λ late. at_end k (omega (arith, late, l, length-append order (n ∷ []))))
          (cases_lt k (length order))

-- a set with one more member leaves less room
pub less_room : (n : ℕ) (placed : List ℕ) → n < 64 → is_in n placed ≡ false → IsRisingBelow 64 placed → 64 - length (with_member n placed) < 64 - length placed
less_room n placed l none rising =
    let more = length-with n placed none in
    let most = length-below 64 (with_member n placed) (with-rises 64 n placed l rising) in
    omega (arith, more, most)
