-- The shares of a decision, and what a record says of an agent.
use Rattle.std.proofs.Common.{◌≡◌, ℕ, suc, ◌+◌, ◌<◌, ◌≤◌, subst, ⊎_elim, arith, eqb-true, ◌==◌, ◌||◌, Bool, true, false, List, [], ◌∷◌, map, find, Some, None, cond, refl, ap, sym, ◌∙◌}
use Rattle.std.specs.Option.{option_map}
use Rattle.std.specs.List.{Contains, list_any}
use Rattle.std.proofs.lemmas.Option.{same_Some, none-some}
use Rattle.nego_base.specs.Members.{is_in, RisesFrom}
use Rattle.nego_base.proofs.Members.{is_in-head, is_in-tail, is_in-cases, is_in_none, member_from}
use Rattle.nego_base.proofs.Cases.{chosen}
use Rattle.agent_msg.specs.Records.{Share, share}
use Rattle.agent_msg.proofs.PartyLaws.{find-share}
use Rattle.agent_core.specs.Agents.{share_of}

-- the share of a party of a decision
pub share_of-party : (visits afters : List ℕ) (p : ℕ) (parties : List ℕ) → is_in p parties ≡ true → share_of p (map (share visits afters) parties) ≡ Some (share visits afters p)
share_of-party visits afters p parties h = find-share visits afters p parties ∙ ap (λ b. cond b (Some (share visits afters p)) None) h

-- another agent has none
pub share_of-other : (visits afters : List ℕ) (p : ℕ) (parties : List ℕ) → is_in p parties ≡ false → share_of p (map (share visits afters) parties) ≡ None
share_of-other visits afters p parties h = find-share visits afters p parties ∙ ap (λ b. cond b (Some (share visits afters p)) None) h

-- the first item that passes, of a list that a function makes
pub find-map : {A B : Type 0} (f : A → B) (test : B → Bool) (xs : List A) → find test (map f xs) ≡ option_map f (find (λ x. test (f x)) xs)
find-map f test [] = refl
find-map f test (x ∷ xs) =
    elim (test (f x)) as (λ v. cond v (Some (f x)) (find test (map f xs)) ≡ option_map f (cond v (Some x) (find (λ y. test (f y)) xs)))
    [ true ↦ refl | false ↦ find-map f test xs ]

-- whether some item passes, of a list that a function makes
pub any-map : {A B : Type 0} (f : A → B) (test : B → Bool) (xs : List A) → list_any test (map f xs) ≡ list_any (λ x. test (f x)) xs
any-map f test [] = refl
any-map f test (x ∷ xs) = ap (λ b. test (f x) || b) (any-map f test xs)

-- an item of the rest is one of the list
pub Contains-tail : {A : Type 0} (y : A) (zs : List A) (x : A) → Contains zs x → Contains (y ∷ zs) x
Contains-tail y zs x c = (suc c.0, omega (arith, c.1), c.2)

-- an item that is found is one of the list, and passes
pub found : {A : Type 0} (test : A → Bool) (xs : List A) (x : A) → find test xs ≡ Some x → Contains xs x × (test x ≡ true)
found test [] x h = absurd (none-some x h)
found test (y ∷ ys) x h =
    ⊎_elim (λ k. let same : y ≡ x = same_Some y x k.1 in ((0, omega arith, same), subst (λ z. test z ≡ true) same k.0)) (λ k. let later = found test ys x k.1 in (Contains-tail y ys x later.0, later.1))
    (chosen (test y) (Some y) (find test ys) (Some x) h)

-- nothing is found where no item passes
pub find-none : (test : ℕ → Bool) (xs : List ℕ) → ((x : ℕ) → is_in x xs ≡ true → test x ≡ false) → find test xs ≡ None
find-none test [] h = refl
find-none test (x ∷ xs) h = ap (λ b. cond b (Some x) (find test xs)) (h x (is_in-head x xs)) ∙ find-none test xs (λ y m. h y (is_in-tail y x xs m))

-- of a rising list the least that passes is found
pub find-least : (test : ℕ → Bool) (low p : ℕ) (xs : List ℕ) → RisesFrom low xs → is_in p xs ≡ true → test p ≡ true → ((q : ℕ) → q < p → is_in q xs ≡ true → test q ≡ false) → find test xs ≡ Some p
find-least test low p [] rises h passes before = absurd (is_in_none p [] refl h)
find-least test low p (x ∷ xs) rises h passes before =
    ⊎_elim here (λ m. later m (find-least test (x + 1) p xs rises.1 m passes (λ q lt n. before q lt (is_in-tail q x xs n)))) (is_in-cases p x xs h)
  where
    here : p ≡ x → find test (x ∷ xs) ≡ Some p
    here e = ap (λ b. cond b (Some x) (find test xs)) (subst (λ y. test y ≡ true) e passes) ∙ ap (λ y. Some y) (sym e)

    later : is_in p xs ≡ true → find test xs ≡ Some p → find test (x ∷ xs) ≡ Some p
    later m rest =
        let above : x + 1 ≤ p = member_from (x + 1) p xs rises.1 m in
        ap (λ b. cond b (Some x) (find test xs)) (before x (omega (arith, above)) (is_in-head x xs)) ∙ rest

-- a share that is found is one of the list, and the agent's
pub found_share : (a : ℕ) (shares : List Share) (s : Share) → share_of a shares ≡ Some s → Contains shares s × (s.agent ≡ a)
found_share a shares s h = let f = found (λ s. s.agent == a) shares s h in (f.0, eqb-true s.agent a f.1)
