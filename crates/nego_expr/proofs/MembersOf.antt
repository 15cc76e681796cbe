-- The slots of alive outcomes without their targets: after an edit, and what the next of an atom tells of the outcomes.
use Rattle.std.proofs.Common.{◌≡◌, ◌≢◌, ◌↔◌, ◌⊎◌, ⊎_elim, ℕ, ◌+◌, ◌<◌, ◌≤◌, ◌==◌, not, nat_lt, cond, Bool, true, false, List, [], ◌∷◌, ◌++◌, map, slice_index_or, option_map, Option, Some, None, IfSome, refl, sym, subst, ap, ap₂, ◌∙◌, arith, eq-eqb, eqb-true, ne_eqb, lt-ltb}
use Rattle.std.specs.List.{All, Contains, filter, find}
use Rattle.std.proofs.lemmas.Bool.{cond-true, cond-false, cases_eq, cases_lt, true≢false, le-ltb, not_from_false}
use Rattle.std.proofs.lemmas.List.{map-append}
use Rattle.std.proofs.lemmas.List.Elements.{All-contains, All-map, All-head, All-tail, Contains-get_or}
use Rattle.std.proofs.lemmas.Option.{none-some}
use Rattle.std.proofs.lemmas.Simd.{map-map}
use Rattle.nego_base.specs.Members.{RisesFrom, IsRising}
use Rattle.nego_expr.specs.Edits.{with_outcome}
use Rattle.nego_expr.specs.Sorted.{PlainSlot, slot_of, member, without_targets, AreSlotsOf, AreMembersOf, IsNextOf}
use Rattle.nego_expr.specs.Work.{WorkOutcome, outcome_among}
use Rattle.nego_expr.proofs.Alive.{each_found}
use Rattle.nego_expr.proofs.EditCalls.{only_found}
use Rattle.nego_expr.proofs.NodesAt.{of_atom}
use Rattle.nego_expr.proofs.Places.{filter-seen, numbers_above}
use Rattle.nego_expr.proofs.RisingLists.{Contains-head, Contains-tail, Contains-cases, Contains-nil, Contains-filter}
use Rattle.nego_expr.proofs.SlotsOf.{slots-add, slots-without, slot-found, unused_slot}
use Rattle.nego_expr.proofs.WorkEdits.{numbers_of, All-found, found_cases, rises-passing}

-- ---- outcomes without targets

-- the slot of an outcome without its targets
abbrev pub member_of : WorkOutcome → PlainSlot
member_of x = member x.atom x.number

seen : (outcomes : List WorkOutcome) → map slot_of (map without_targets outcomes) ≡ map member_of outcomes
seen outcomes = map-map slot_of without_targets outcomes

numbers_same : (outcomes : List WorkOutcome) → numbers_of (map without_targets outcomes) ≡ numbers_of outcomes
numbers_same outcomes = map-map (λ x. x.number) without_targets outcomes

rising : (outcomes : List WorkOutcome) → IsRising (numbers_of outcomes) → IsRising (numbers_of (map without_targets outcomes))
rising outcomes h = subst IsRising (sym (numbers_same outcomes)) h

found : (outcomes : List WorkOutcome) (o : ℕ) (x : WorkOutcome) → outcome_among outcomes o ≡ Some x → outcome_among (map without_targets outcomes) o ≡ Some (without_targets x)
found [] o x h = absurd (none-some x h)
found (y ∷ ys) o x h = ⊎_elim
    (λ k. cond-true (y.number == o) (Some (without_targets y)) (outcome_among (map without_targets ys) o) (eq-eqb y.number o k.0) ∙ ap (λ z. Some (without_targets z)) k.1)
    (λ k. cond-false (y.number == o) (Some (without_targets y)) (outcome_among (map without_targets ys) o) (ne_eqb y.number o k.0) ∙ found ys o x k.1)
    (found_cases y ys o x h)

-- ---- edits

-- with one more outcome
pub members-add : (outcomes : List WorkOutcome) (x y : WorkOutcome) (old new : List PlainSlot) → AreMembersOf outcomes old → y ≡ without_targets x →
    ((slot : PlainSlot) → Contains new slot ↔ (Contains old slot ⊎ (slot ≡ slot_of y))) → AreMembersOf (outcomes ++ x ∷ []) new
members-add outcomes x y old new are is h =
    subst (λ zs. AreSlotsOf zs new) (sym (map-append without_targets outcomes (x ∷ [])))
    (slots-add (map without_targets outcomes) (without_targets x) old new are (subst (λ z. (slot : PlainSlot) → Contains new slot ↔ (Contains old slot ⊎ (slot ≡ slot_of z))) is h))

-- none is of a number never used
pub unused_member : (outcomes : List WorkOutcome) (numbers : ℕ) → All (λ x. x.number < numbers) outcomes → (slots : List PlainSlot) → AreMembersOf outcomes slots → (y : WorkOutcome) → y.number ≡ numbers → Contains slots (slot_of y) → ⊥
unused_member outcomes numbers used slots are y e c =
    unused_slot (map without_targets outcomes) numbers (All-map (λ x. x.number < numbers) without_targets outcomes used) slots are (slot_of y) e c

module _ (outcomes : List WorkOutcome) (rise : IsRising (numbers_of outcomes)) (o : ℕ) (x : WorkOutcome) (there : outcome_among outcomes o ≡ Some x) where
  -- an outcome that is found has one of them
  pub member-found : (y : WorkOutcome) → y ≡ without_targets x → (slots : List PlainSlot) → AreMembersOf outcomes slots → Contains slots (slot_of y)
  member-found y is slots are =
      subst (λ z. Contains slots (slot_of z)) (sym is) (slot-found (map without_targets outcomes) (rising outcomes rise) o (without_targets x) (found outcomes o x there) slots are)

  -- without this outcome
  pub members-without : (y : WorkOutcome) → y ≡ without_targets x → (old new : List PlainSlot) → AreMembersOf outcomes old → ((slot : PlainSlot) → Contains new slot ↔ (Contains old slot × (slot ≢ slot_of y))) →
      AreMembersOf (filter (λ z. not (z.number == o)) outcomes) new
  members-without y is old new are h =
      subst (λ zs. AreSlotsOf zs new) (sym (filter-seen without_targets (λ z. not (z.number == o)) outcomes))
      (slots-without (map without_targets outcomes) (rising outcomes rise) o (without_targets x) (found outcomes o x there) old are new
      (subst (λ z. (slot : PlainSlot) → Contains new slot ↔ (Contains old slot × (slot ≢ slot_of z))) is h))

  -- with another of its number and atom in its place
  pub members-set : (y : WorkOutcome) → y.number ≡ o → y.atom ≡ x.atom → (slots : List PlainSlot) → AreMembersOf outcomes slots → AreMembersOf (with_outcome y outcomes) slots
  members-set y number atom slots are =
      subst (λ l. (slot : PlainSlot) → Contains slots slot ↔ Contains l slot) (seen outcomes ∙ (sym (same outcomes (only_found outcomes o x rise there)) ∙ sym (seen (with_outcome y outcomes)))) are
    where
      one : (z : WorkOutcome) → (z.number ≡ o → z ≡ x) → member_of (cond (z.number == y.number) y z) ≡ member_of z
      one z only = ⊎_elim
          (λ e. ap member_of (cond-true (z.number == y.number) y z (eq-eqb z.number y.number e)) ∙ ap₂ member (atom ∙ ap (λ w. w.atom) (sym (only (e ∙ number)))) (sym e))
          (λ other. ap member_of (cond-false (z.number == y.number) y z (ne_eqb z.number y.number other)))
          (cases_eq z.number y.number)

      same : (zs : List WorkOutcome) → All (λ z. z.number ≡ o → z ≡ x) zs → map member_of (with_outcome y zs) ≡ map member_of zs
      same [] h = refl
      same (z ∷ zs) h = ap₂ ◌∷◌ (one z (All-head (λ w. w.number ≡ o → w ≡ x) z zs h)) (same zs (All-tail (λ w. w.number ≡ o → w ≡ x) z zs h))

-- ---- the next of an atom

Contains-seen : (zs : List WorkOutcome) (x : WorkOutcome) → Contains zs x → Contains (map member_of zs) (member_of x)
Contains-seen [] x c = absurd (Contains-nil x c)
Contains-seen (z ∷ zs) x c = ⊎_elim
    (λ e. subst (λ w. Contains (member_of z ∷ map member_of zs) (member_of w)) (sym e) (Contains-head (member_of z) (map member_of zs)))
    (λ k. Contains-tail (member_of z) (map member_of zs) (member_of x) (Contains-seen zs x k))
    (Contains-cases z zs x c)

seen-Contains : (zs : List WorkOutcome) (s : PlainSlot) → Contains (map member_of zs) s → (x : WorkOutcome) × Contains zs x × (member_of x ≡ s)
seen-Contains [] s c = absurd (Contains-nil s c)
seen-Contains (z ∷ zs) s c = ⊎_elim
    (λ e. (z, Contains-head z zs, sym e))
    (λ k. let q = seen-Contains zs s k in (q.0, Contains-tail z zs q.0 q.1, q.2))
    (Contains-cases (member_of z) (map member_of zs) s c)

-- where none passes, none is found
find-none : (p : WorkOutcome → Bool) (zs : List WorkOutcome) → ((x : WorkOutcome) → Contains zs x → p x ≡ false) → find p zs ≡ None
find-none p [] h = refl
find-none p (z ∷ zs) h =
    cond-false (p z) (Some z) (find p zs) (h z (Contains-head z zs)) ∙ find-none p zs (λ x c. h x (Contains-tail z zs x c))

-- the one of the least number that passes is found
find-least : (p : WorkOutcome → Bool) (low : ℕ) (zs : List WorkOutcome) (x : WorkOutcome) → RisesFrom low (numbers_of zs) → Contains zs x → p x ≡ true → ((y : WorkOutcome) → Contains zs y → p y ≡ true → x.number ≤ y.number) → find p zs ≡ Some x
find-least p low [] x rise c h least = absurd (Contains-nil x c)
find-least p low (z ∷ zs) x rise c h least = ⊎_elim
    (λ e. cond-true (p z) (Some z) (find p zs) (subst (λ w. p w ≡ true) e h) ∙ ap Some (sym e))
    (λ k. go (p z) refl k (λ lower. find-least p (z.number + 1) zs x rise.1 k h lower))
    (Contains-cases z zs x c)
  where
    go : (b : Bool) → p z ≡ b → Contains zs x → (((y : WorkOutcome) → Contains zs y → p y ≡ true → x.number ≤ y.number) → find p zs ≡ Some x) → cond b (Some z) (find p zs) ≡ Some x
    go true e k later =
        let above : z.number + 1 ≤ x.number = All-contains (λ w. z.number + 1 ≤ w.number) zs x (numbers_above (z.number + 1) zs rise.1) k in
        let le : x.number ≤ z.number = least z (Contains-head z zs) e in
        absurd (omega (arith, above, le))
    go false e k later = later (λ y d q. least y (Contains-tail z zs y d) q)

-- what holds of each outcome holds of what is seen as the one that is found
pub found_if : {X : Type 0} (see : X → WorkOutcome) (P : WorkOutcome → Type 0) (outcomes : List WorkOutcome) (o : ℕ) (r : Option X) → option_map see r ≡ outcome_among outcomes o → All P outcomes → IfSome r (λ x. P (see x))
found_if see P outcomes o None h all = tt
found_if see P outcomes o (Some x) h all = All-found P outcomes o (see x) all (sym h)

module _ (outcomes : List WorkOutcome) (slots : List PlainSlot) (are : AreMembersOf outcomes slots) (n from : ℕ) where
  -- they have no targets
  pub members-bare : All (λ s. s.targets ≡ []) slots
  members-bare k d l =
      All-contains (λ t. t.targets ≡ []) (map member_of outcomes) (slice_index_or slots k d) (All-map (λ t. t.targets ≡ []) member_of outcomes (All-any outcomes))
      (subst (λ ts. Contains ts (slice_index_or slots k d)) (seen outcomes) ((are (slice_index_or slots k d)).0 (Contains-get_or slots k d l)))
    where
      All-any : (zs : List WorkOutcome) → All (λ z. (member_of z).targets ≡ []) zs
      All-any zs j e m = refl

  -- whether an outcome's number isn't below the one
  abbrev passes : WorkOutcome → Bool
  passes x = not (nat_lt x.number from)

  passes-from : (x : WorkOutcome) → passes x ≡ true → from ≤ x.number
  passes-from x h = ⊎_elim (λ l. absurd (true≢false (sym h ∙ ap not (lt-ltb x.number from l)))) (λ l. l) (cases_lt x.number from)

  -- an outcome of the list has its slot there
  contains : (x : WorkOutcome) → Contains outcomes x → Contains slots (member_of x)
  contains x c = (are (member_of x)).1 (subst (λ ts. Contains ts (member_of x)) (sym (seen outcomes)) (Contains-seen outcomes x c))

  -- where an atom has none, none of its outcomes is found
  pub none-next : ((m : ℕ) → from ≤ m → Contains slots (member n m) → ⊥) → find (λ x. not (nat_lt x.number from)) (of_atom n outcomes) ≡ None
  none-next none = find-none passes (of_atom n outcomes) (λ x c. go x c (passes x) refl)
    where
      go : (x : WorkOutcome) → Contains (of_atom n outcomes) x → (b : Bool) → passes x ≡ b → b ≡ false
      go x c true h =
          let k = (Contains-filter (λ z. z.atom == n) outcomes x).0 c in
          absurd (none x.number (passes-from x h) (subst (λ m. Contains slots (member m x.number)) (eqb-true x.atom n k.1) (contains x k.0)))
      go x c false h = refl

  -- where it has one, it is the first of its outcomes that passes
  pub some-next : IsRising (numbers_of outcomes) → (o : ℕ) → IsNextOf slots n from o → outcome_among outcomes o ≡ find (λ x. not (nat_lt x.number from)) (of_atom n outcomes)
  some-next rise o next =
      let k = seen-Contains outcomes (member n o) (subst (λ ts. Contains ts (member n o)) (seen outcomes) ((are (member n o)).0 next.there)) in
      let x = k.0 in
      let atom : x.atom ≡ n = ap (λ s. s.atom) k.2 in
      let number : x.number ≡ o = ap (λ s. s.outcome) k.2 in
      let first : find passes (of_atom n outcomes) ≡ Some x = find-least passes 0 (of_atom n outcomes) x (rises-passing (λ z. z.atom == n) 0 outcomes rise)
      ((Contains-filter (λ z. z.atom == n) outcomes x).1 (k.1, eq-eqb x.atom n atom))
      (not_from_false (nat_lt x.number from) (le-ltb x.number from (subst (λ m. from ≤ m) (sym number) next.at_least)))
      (λ y c h. least y ((Contains-filter (λ z. z.atom == n) outcomes y).0 c) (passes-from y h) x number) in
      subst (λ m. outcome_among outcomes m ≡ Some x) number (All-contains (λ z. outcome_among outcomes z.number ≡ Some z) outcomes x (each_found outcomes rise) k.1) ∙ sym first
    where
      least : (y : WorkOutcome) → Contains outcomes y × ((y.atom == n) ≡ true) → from ≤ y.number → (x : WorkOutcome) → x.number ≡ o → x.number ≤ y.number
      least y c l x number = ⊎_elim
          (λ low. absurd (next.least y.number l (subst (λ m. y.number < m) number low) (subst (λ m. Contains slots (member m y.number)) (eqb-true y.atom n c.1) (contains y c.0))))
          (λ ge. ge)
          (cases_lt y.number x.number)
