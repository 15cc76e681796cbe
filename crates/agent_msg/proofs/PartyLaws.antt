-- Whether an agent is a party, and what it is told.
use Rattle.std.proofs.Common.{◌≡◌, ℕ, ◌≤◌, ◌==◌, ◌||◌, Bool, true, false, List, [], ◌∷◌, length, map, find, Some, None, cond, if◌then◌else◌, refl, ap, arith, eqb-true}
use Rattle.nego_base.specs.Members.{is_in, IsRisingBelow}
use Rattle.nego_base.proofs.Members.{member_below}
use Rattle.agent_msg.specs.Records.{Decided, share, told, decide_of}

-- a set below 16 hasn't an agent from 16 on
pub is_in-above : (x : ℕ) (xs : List ℕ) → IsRisingBelow 16 xs → 16 ≤ x → is_in x xs ≡ false
is_in-above x xs rises above =
    elim (is_in x xs) as (λ v. (v ≡ true → ⊥) → v ≡ false) [ true ↦ λ h. absurd (h refl) | false ↦ λ h. refl ]
    (λ h. let below = member_below 16 x xs rises h in omega (arith, below, above))

-- nobody stands in an empty set
pub is_in-empty : (x : ℕ) (xs : List ℕ) → length xs ≡ 0 → is_in x xs ≡ false
is_in-empty x [] h = refl
is_in-empty x (y ∷ ys) h = absurd (omega (arith, h))

-- among the shares of a list of agents, the one of an agent that stands there
pub find-share : (visits afters : List ℕ) (x : ℕ) (xs : List ℕ) → find (λ s. s.agent == x) (map (share visits afters) xs) ≡ (if is_in x xs then Some (share visits afters x) else None)
find-share visits afters x [] = refl
find-share visits afters x (y ∷ ys) =
    let Found : Bool → Bool → Type 0 = λ v w. (v ≡ true → y ≡ x) → cond v (Some (share visits afters y)) (cond w (Some (share visits afters x)) None) ≡ cond (v || w) (Some (share visits afters x)) None in
    let step : Found (y == x) (is_in x ys) =
    elim (y == x) as (λ v. Found v (is_in x ys)) [ true ↦ λ h. ap (λ a. Some (share visits afters a)) (h refl) | false ↦ λ h. refl ]
    in rw (find-share visits afters x ys) (step (eqb-true y x))

-- what an agent is told of a decision
pub decide_of-party : (from to atom outcome : ℕ) (visits afters xs : List ℕ) → (to == from) ≡ false → is_in to xs ≡ true → decide_of from to (Decided atom outcome (map (share visits afters) xs)) ≡ Some (told from atom outcome (share visits afters to))
decide_of-party from to atom outcome visits afters xs other party = rw (other, find-share visits afters to xs, party) refl

pub decide_of-itself : (from to atom outcome : ℕ) (visits afters xs : List ℕ) → (to == from) ≡ true → decide_of from to (Decided atom outcome (map (share visits afters) xs)) ≡ None
decide_of-itself from to atom outcome visits afters xs same = rw same refl

pub decide_of-stranger : (from to atom outcome : ℕ) (visits afters xs : List ℕ) → (to == from) ≡ false → is_in to xs ≡ false → decide_of from to (Decided atom outcome (map (share visits afters) xs)) ≡ None
decide_of-stranger from to atom outcome visits afters xs other stranger = rw (other, find-share visits afters to xs, stranger) refl
