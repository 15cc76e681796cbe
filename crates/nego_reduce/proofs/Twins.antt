-- Merges in the sorted list of a work: of outcomes that merge with each other, the least two stand next to each other.
use Rattle.std.proofs.Common.{◌≡◌, ◌≢◌, ◌⊎◌, inl, inr, ⊎_elim, ℕ, suc, ◌+◌, ◌<◌, ◌≤◌, Bool, true, false, not, ◌==◌, ◌&&◌, List, [], ◌∷◌, length, map, slice_get, slice_index_or, get_or, Option, Some, None, option_map, IsTrue, IfSome, IfNone, refl, sym, subst, ap, ap₂, ◌∙◌, arith, eq-eqb, ne_eqb}
use Rattle.std.specs.Prelude.{⊤, nat_lt, Contains}
use Rattle.std.specs.Option.{option_cmp, MatchOption}
use Rattle.std.specs.Ordering.{nat_cmp, ordering_then, ordering_reverse, is_eq, MatchOrdering}
use Rattle.std.specs.Cmp.{ranks, IsTotalOrder}
use Rattle.std.specs.Cmp.Lexicographic.{slice_cmp, lists_total, options_total}
use Rattle.std.specs.declared.cmp.Ordering.{Ordering}
use Rattle.std.specs.declared.cmp.Ordering.TheVariants.{Less, Equal, Greater}
use Rattle.std.proofs.lemmas.Bool.{and_from, cases_eq, cases_lt, false_from_ne_true, true≢false, not_from_false, lt-ltb}
use Rattle.std.proofs.lemmas.Cmp.{nat_cmp_total, tied_itself}
use Rattle.std.proofs.lemmas.Map.Lookups.{exact_unsigned}
use Rattle.std.proofs.lemmas.Option.{same_Some, slice_get-map, slice_get_read, get_or_from_slice_get, slice_get_within, slice_get-get_or}
use Rattle.nego_base.specs.Members.{is_in}
use Rattle.nego_base.proofs.Members.{all_from}
use Rattle.nego_base.specs.declared.ids.OutcomeId.{OutcomeId}
use Rattle.nego_expr.specs.Work.{WorkOutcome, PlainWork, outcome_at, work_parties, sent_to, IsWork}
use Rattle.nego_expr.specs.Use.{Merge, allows, same_target, send_alike}
use Rattle.nego_expr.specs.declared.slots.Slot.{Slot}
use Rattle.nego_expr.specs.Sorted.{PlainSlot, plain_slot, slot_of, slot_cmp, IsSorted}
use Rattle.nego_expr.proofs.Places.{found-place}
use Rattle.nego_expr.proofs.RisingLists.{Contains-cases, Contains-nil, Contains-place}
use Rattle.nego_expr.proofs.SlotOrder.{exact_targets}
use Rattle.nego_expr.proofs.WorkEdits.{All-found, found-number}
use Rattle.nego_expr.proofs.WorkForm.{OutcomeFits, fits_from_work}
use Rattle.nego_merge.proofs.MergeKeeps.{Merges, allowed-pair}
use Rattle.nego_reduce.specs.Order.{IsPairBelow, IsLeastMerge, HasNoMerge}
use Rattle.nego_reduce.specs.Twins.{AreTwins, StandAt, NoneStandAt}
use Rattle.nego_reduce.proofs.Guards.{merging_two}
use Rattle.nego_reduce.proofs.Searching.{place_found}

-- ---- the order of slots

abbrev target_cmp : List (Option ℕ) → List (Option ℕ) → Ordering
target_cmp = slice_cmp (option_cmp nat_cmp)

target_order : IsTotalOrder target_cmp
target_order = lists_total (options_total nat_cmp_total)

-- whether it is less, or equal
abbrev not_more : Ordering → Bool
not_more Less = true
not_more Equal = true
not_more Greater = false

abbrev is_less : Ordering → Bool
is_less Less = true
is_less Equal = false
is_less Greater = false

-- the first decides, or the second where the first is equal
then_less : (a b : Ordering) → ordering_then a b ≡ Less → (a ≡ Less) ⊎ ((a ≡ Equal) × (b ≡ Less))
then_less Less b h = inl refl
then_less Equal b h = inr (refl, h)
then_less Greater b h = absurd (true≢false (sym (ap is_less h)))

less_number : (m n : ℕ) → nat_cmp m n ≡ Less → m < n
less_number m n h = subst (λ r. MatchOrdering r (m < n) (m ≡ n) (n < m)) h (ranks m n)

-- Of two slots of one atom with the same targets, what stands between is of this atom and has these targets.
pub between : (s t u : PlainSlot) → s.atom ≡ u.atom → s.targets ≡ u.targets → slot_cmp s t ≡ Less → slot_cmp t u ≡ Less → (s.atom ≡ t.atom) × (s.targets ≡ t.targets) × (t.outcome < u.outcome)
between s t u one alike h k = ⊎_elim
    (λ less. ⊎_elim
    (λ more. absurd (let l = less_number s.atom t.atom less in let m = less_number t.atom u.atom more in let no_more : ⊥ = omega (arith, one, l, m) in no_more))
    (λ more. absurd (let l = less_number s.atom t.atom less in let m = exact_unsigned t.atom u.atom more.0 in let no_more : ⊥ = omega (arith, one, l, m) in no_more))
    (then_less (nat_cmp t.atom u.atom) (ordering_then (target_cmp t.targets u.targets) (nat_cmp t.outcome u.outcome)) k))
    (λ less.
    let same = exact_unsigned s.atom t.atom less.0 in
    ⊎_elim
    (λ more. absurd (let m = less_number t.atom u.atom more in let no_more : ⊥ = omega (arith, one, same, m) in no_more))
    (λ more. let k = of_targets less.1 more.1 in (same, k.0, k.1))
    (then_less (nat_cmp t.atom u.atom) (ordering_then (target_cmp t.targets u.targets) (nat_cmp t.outcome u.outcome)) k))
    (then_less (nat_cmp s.atom t.atom) (ordering_then (target_cmp s.targets t.targets) (nat_cmp s.outcome t.outcome)) h)
  where
    back : (r : Ordering) → not_more r ≡ true → is_less (ordering_reverse r) ≡ false
    back Less e = refl
    back Equal e = refl
    back Greater e = absurd (true≢false (sym e))

    -- the targets between can't be more
    not_less : target_cmp s.targets t.targets ≡ Less → not_more (target_cmp t.targets u.targets) ≡ true → ⊥
    not_less less few =
        let turned : target_cmp s.targets t.targets ≡ ordering_reverse (target_cmp t.targets u.targets) = target_order.antisymm s.targets t.targets ∙ ap (λ ts. ordering_reverse (target_cmp t.targets ts)) alike in
        true≢false (sym (ap is_less less) ∙ (ap is_less turned ∙ back (target_cmp t.targets u.targets) few))

    of_targets : ordering_then (target_cmp s.targets t.targets) (nat_cmp s.outcome t.outcome) ≡ Less → ordering_then (target_cmp t.targets u.targets) (nat_cmp t.outcome u.outcome) ≡ Less →
        (s.targets ≡ t.targets) × (t.outcome < u.outcome)
    of_targets p q = ⊎_elim
        (λ less. absurd (⊎_elim (λ more. not_less less (ap not_more more)) (λ more. not_less less (ap not_more more.0)) (then_less (target_cmp t.targets u.targets) (nat_cmp t.outcome u.outcome) q)))
        (λ less. let same = exact_targets s.targets t.targets less.0 in (
          same,
          ⊎_elim
              (λ more. absurd (true≢false (sym (ap is_less more) ∙ ap is_less (ap (λ ts. target_cmp ts u.targets) (sym same ∙ alike) ∙ tied_itself target_order u.targets))))
              (λ more. less_number t.outcome u.outcome more.1)
              (then_less (target_cmp t.targets u.targets) (nat_cmp t.outcome u.outcome) q),
        ))
        (then_less (target_cmp s.targets t.targets) (nat_cmp s.outcome t.outcome) p)

-- of two slots of one atom with the same targets the first has the lesser number
pub lesser_number : (s t : PlainSlot) → s.atom ≡ t.atom → s.targets ≡ t.targets → slot_cmp s t ≡ Less → s.outcome < t.outcome
lesser_number s t one alike h = ⊎_elim
    (λ less. absurd (let l = less_number s.atom t.atom less in let no_more : ⊥ = omega (arith, one, l) in no_more))
    (λ less. ⊎_elim
    (λ more. absurd (true≢false (sym (ap is_less more) ∙ ap is_less (ap (λ ts. target_cmp ts t.targets) alike ∙ tied_itself target_order t.targets))))
    (λ more. less_number s.outcome t.outcome more.1)
    (then_less (target_cmp s.targets t.targets) (nat_cmp s.outcome t.outcome) less.1))
    (then_less (nat_cmp s.atom t.atom) (ordering_then (target_cmp s.targets t.targets) (nat_cmp s.outcome t.outcome)) h)

-- what is read at a place is the slot that stands there
pub slot_at : (items : List Slot) (i : ℕ) (item : Slot) → i < length items → item ≡ slice_index_or items i item → slice_get (map plain_slot items) i ≡ Some (plain_slot item)
slot_at items i item l is = slice_get-map plain_slot items i ∙ ap (option_map plain_slot) (slice_get_read items (length items) i item refl l is)

-- targets that compare equal are the same, and the other way round
pub tied_targets : (ts us : List (Option ℕ)) → is_eq (target_cmp ts us) ≡ true → ts ≡ us
tied_targets ts us h = go (target_cmp ts us) refl h
  where
    go : (r : Ordering) → target_cmp ts us ≡ r → is_eq r ≡ true → ts ≡ us
    go Less e k = absurd (true≢false (sym k))
    go Equal e k = exact_targets ts us e
    go Greater e k = absurd (true≢false (sym k))

pub untied_targets : (ts us : List (Option ℕ)) → ts ≡ us → is_eq (target_cmp ts us) ≡ true
untied_targets ts us e = ap is_eq (ap (target_cmp ts) (sym e) ∙ tied_itself target_order ts)

-- ---- slots and outcomes

-- the slot of an outcome, where it is among those of the outcomes
outcome_of : (xs : List WorkOutcome) (s : PlainSlot) → Contains (map slot_of xs) s → (k : ℕ) × (x : WorkOutcome) × (slice_get xs k ≡ Some x) × (s ≡ slot_of x)
outcome_of [] s c = absurd (Contains-nil s c)
outcome_of (x ∷ xs) s c = ⊎_elim (λ e. (0, x, refl, e)) (λ d. let q = outcome_of xs s d in (suc q.0, q.1, q.2, q.3)) (Contains-cases (slot_of x) (map slot_of xs) s c)

slot_among : (xs : List WorkOutcome) (k : ℕ) (x : WorkOutcome) → slice_get xs k ≡ Some x → Contains (map slot_of xs) (slot_of x)
slot_among xs k x h = Contains-place (map slot_of xs) k (slot_of x) (slice_get-map slot_of xs k ∙ ap (option_map slot_of) h)

-- a target is the same as itself
same_itself : (t : Option ℕ) → same_target t t ≡ true
same_itself None = refl
same_itself (Some n) = eq-eqb n n refl

-- lists that agree at each place are one
same_targets : (xs ys : List (Option ℕ)) → length xs ≡ length ys → ((a : ℕ) → slice_index_or xs a None ≡ slice_index_or ys a None) → xs ≡ ys
same_targets [] [] l h = refl
same_targets [] (y ∷ ys) l h = absurd (let no_more : ⊥ = omega (arith, l) in no_more)
same_targets (x ∷ xs) [] l h = absurd (let no_more : ⊥ = omega (arith, l) in no_more)
same_targets (x ∷ xs) (y ∷ ys) l h = ap₂ ◌∷◌ (h 0) (same_targets xs ys (omega (arith, l)) (λ a. h (suc a)))

-- Of the neighbours before the place none are twins; or this pair may be merged, and no twins there are a lesser pair.
abbrev pub IsLeastSoFar : PlainWork → List PlainSlot → ℕ → Option (OutcomeId × OutcomeId) → Type 0
IsLeastSoFar work slots i None = (j : ℕ) (s t : PlainSlot) → j + 1 < i → slice_get slots j ≡ Some s → slice_get slots (j + 1) ≡ Some t → AreTwins work.last s t → ⊥
IsLeastSoFar work slots i (Some pair) = IsTrue (allows work (Merge pair.0.0 pair.1.0))
    × ((j : ℕ) (s t : PlainSlot) → j + 1 < i → slice_get slots j ≡ Some s → slice_get slots (j + 1) ≡ Some t → AreTwins work.last s t → IsPairBelow s.outcome t.outcome pair.0.0 pair.1.0 → ⊥)

module _ (work : PlainWork) (ok : IsWork work) (slots : List PlainSlot) (sorted : IsSorted work.outcomes slots) where
  -- a slot at an earlier place is below
  below : (i j : ℕ) (s t : PlainSlot) → i < j → slice_get slots i ≡ Some s → slice_get slots j ≡ Some t → slot_cmp s t ≡ Less
  below i j s t l h k =
      subst (λ a. slot_cmp a t ≡ Less) (get_or_from_slice_get slots i s s h)
      (subst (λ b. slot_cmp (get_or slots i s) b ≡ Less) (get_or_from_slice_get slots j t s k) (sorted.rise i j s l (slice_get_within slots j t k)))

  -- the outcome of a slot is alive
  alive_of : (i : ℕ) (s : PlainSlot) → slice_get slots i ≡ Some s → (x : WorkOutcome) × (outcome_at work s.outcome ≡ Some x) × (s ≡ slot_of x)
  alive_of i s h =
      let q = outcome_of work.outcomes s ((sorted.same s).0 (Contains-place slots i s h)) in
      (q.1, ap (outcome_at work) (ap (λ z. z.outcome) q.3) ∙ found-place work.outcomes q.0 q.1 ok.numbers_rise q.2, q.3)

  -- the slot of an outcome that is alive stands at a place
  place_of : (o : ℕ) (x : WorkOutcome) → outcome_at work o ≡ Some x → (i : ℕ) × (slice_get slots i ≡ Some (slot_of x))
  place_of o x h =
      let k = place_found work.outcomes o x h in
      let c = (sorted.same (slot_of x)).1 (slot_among work.outcomes k.0 x k.1) in
      (c.0, slice_get-get_or slots c.0 (slot_of x) c.1 ∙ ap Some c.2)

  -- ---- twins

  -- neighbours that are twins may be merged
  pub twins_merge : (i : ℕ) (s t : PlainSlot) → slice_get slots i ≡ Some s → slice_get slots (i + 1) ≡ Some t → AreTwins work.last s t → IsTrue (allows work (Merge s.outcome t.outcome))
  twins_merge i s t h k twins =
      let x = alive_of i s h in
      let y = alive_of (i + 1) t k in
      let atoms : x.0.atom ≡ y.0.atom = sym (ap (λ z. z.atom) x.2) ∙ (twins.one_atom ∙ ap (λ z. z.atom) y.2) in
      let targets : x.0.targets ≡ y.0.targets = sym (ap (λ z. z.targets) x.2) ∙ (twins.alike ∙ ap (λ z. z.targets) y.2) in
      let less = lesser_number s t twins.one_atom twins.alike (below i (i + 1) s t (omega arith) h k) in
      let first = ap (λ z. z.outcome) x.2 in
      let second = ap (λ z. z.outcome) y.2 in
      let lesser : x.0.number < y.0.number = omega (arith, less, first, second) in
      let alike : send_alike (work_parties work x.0.atom) x.0 y.0 ≡ true =
      all_from (λ a. same_target (sent_to x.0 a) (sent_to y.0 a)) (work_parties work x.0.atom) (λ a m. subst (λ ts. same_target (sent_to x.0 a) (slice_index_or ts a None) ≡ true) targets (same_itself (sent_to x.0 a))) in
      let not_last = not_from_false (x.0.atom == work.last) (ne_eqb x.0.atom work.last (λ e. twins.not_last (ap (λ z. z.atom) x.2 ∙ e))) in
      allowed-pair work s.outcome t.outcome x.0 y.0 x.1 y.1
      ∙ and_from (nat_lt x.0.number y.0.number) ((x.0.atom == y.0.atom) && (not (x.0.atom == work.last) && send_alike (work_parties work x.0.atom) x.0 y.0)) (lt-ltb x.0.number y.0.number lesser)
      (and_from (x.0.atom == y.0.atom) (not (x.0.atom == work.last) && send_alike (work_parties work x.0.atom) x.0 y.0) (eq-eqb x.0.atom y.0.atom atoms)
      (and_from (not (x.0.atom == work.last)) (send_alike (work_parties work x.0.atom) x.0 y.0) not_last alike))

  -- twins that stand at a place may be merged
  stand_merge : (i : ℕ) (pair : OutcomeId × OutcomeId) → StandAt work.last slots i pair.0.0 pair.1.0 → IsTrue (allows work (Merge pair.0.0 pair.1.0))
  stand_merge i pair two =
      subst (λ p. IsTrue (allows work (Merge p pair.1.0))) two.first_is
      (subst (λ p. IsTrue (allows work (Merge two.first.outcome p))) two.second_is (twins_merge i two.first two.second two.here two.next two.twins))

  -- their pair is not below itself
  same_pair : (i : ℕ) (pair : OutcomeId × OutcomeId) (two : StandAt work.last slots i pair.0.0 pair.1.0) (s t : PlainSlot) → slice_get slots i ≡ Some s → slice_get slots (i + 1) ≡ Some t → IsPairBelow s.outcome t.outcome pair.0.0 pair.1.0 → ⊥
  same_pair i pair two s t h k lower =
      let first = ap (λ z. z.outcome) (same_Some s two.first (sym h ∙ two.here)) in
      let second = ap (λ z. z.outcome) (same_Some t two.second (sym k ∙ two.next)) in
      let first_is = two.first_is in
      let second_is = two.second_is in
      ⊎_elim (λ l. let no_more : ⊥ = omega (arith, l, first, first_is) in no_more) (λ l. let m = l.1 in let no_more : ⊥ = omega (arith, m, second, second_is) in no_more) lower

  -- outcomes that may be merged have the same targets
  merging_alike : (x y : WorkOutcome) → Merges work x y → x.targets ≡ y.targets
  merging_alike x y m = same_targets x.targets y.targets (long x m.first ∙ sym (long y m.second)) agree
    where
      long : (z : WorkOutcome) → outcome_at work z.number ≡ Some z → length z.targets ≡ work.agents
      long z h = All-found (λ w. length w.targets ≡ work.agents) work.outcomes z.number z ok.targets_fit h

      fits : (z : WorkOutcome) → outcome_at work z.number ≡ Some z → OutcomeFits work z
      fits z h = All-found (OutcomeFits work) work.outcomes z.number z (fits_from_work work ok) h

      agree : (a : ℕ) → sent_to x a ≡ sent_to y a
      agree a = ⊎_elim (λ party. m.alike a party)
          (λ e. ⊎_elim (λ party. m.alike a (subst (λ n. IsTrue (is_in a (work_parties work n))) (sym m.one_atom) party)) (λ f. e ∙ sym f) ((fits y m.second).stays a))
          ((fits x m.first).stays a)

  module _ (p1 p2 : ℕ) (allowed : IsTrue (allows work (Merge p1 p2))) where
    two : (x : WorkOutcome) × (y : WorkOutcome) × (outcome_at work p1 ≡ Some x) × (outcome_at work p2 ≡ Some y) × Merges work x y × (x.number < y.number)
    two = merging_two work p1 p2 allowed

    abbrev front : PlainSlot
    front = slot_of two.0

    abbrev back : PlainSlot
    back = slot_of two.1

    front_number : front.outcome ≡ p1
    front_number = found-number work.outcomes p1 two.0 two.2

    back_number : back.outcome ≡ p2
    back_number = found-number work.outcomes p2 two.1 two.3

    same_targets_too : front.targets ≡ back.targets
    same_targets_too = merging_alike two.0 two.1 two.4

    front_place : (i : ℕ) × (slice_get slots i ≡ Some front)
    front_place = place_of p1 two.0 two.2

    back_place : (i : ℕ) × (slice_get slots i ≡ Some back)
    back_place = place_of p2 two.1 two.3

    -- the first stands at the earlier place
    earlier : front_place.0 < back_place.0
    earlier = ⊎_elim (λ l. l)
        (λ l. absurd (⊎_elim
        (λ m. let n = lesser_number back front (sym two.4.one_atom) (sym same_targets_too) (below back_place.0 front_place.0 back front m back_place.1 front_place.1) in let q = two.5 in let no_more : ⊥ = omega (arith, n, q) in no_more)
        (λ m.
        let same : front_place.0 ≡ back_place.0 = omega (arith, l, m) in
        let n = ap (λ z. z.outcome) (same_Some front back (sym front_place.1 ∙ (ap (slice_get slots) same ∙ back_place.1))) in
        let q = two.5 in
        let no_more : ⊥ = omega (arith, n, q) in
        no_more)
        (cases_lt back_place.0 front_place.0)))
        (cases_lt front_place.0 back_place.0)

    within : front_place.0 + 1 < length slots
    within = let l = earlier in let m = slice_get_within slots back_place.0 back back_place.1 in omega (arith, l, m)

    -- what stands next to it
    abbrev beside : PlainSlot
    beside = get_or slots (front_place.0 + 1) front

    beside_place : slice_get slots (front_place.0 + 1) ≡ Some beside
    beside_place = slice_get-get_or slots (front_place.0 + 1) front within

    beside_twin : AreTwins work.last front beside × (beside.outcome ≤ p2)
    beside_twin = ⊎_elim
        (λ l.
        let k = between front beside back two.4.one_atom same_targets_too (below front_place.0 (front_place.0 + 1) front beside (omega arith) front_place.1 beside_place) (below (front_place.0 + 1) back_place.0 beside back l beside_place back_place.1) in
        let m = k.2 in
        let n = back_number in
        (record { one_atom = k.0; not_last = two.4.not_last; alike = k.1 }, omega (arith, m, n)))
        (λ l.
        let before = earlier in
        let same : front_place.0 + 1 ≡ back_place.0 = omega (arith, l, before) in
        let e : beside ≡ back = same_Some beside back (sym beside_place ∙ (ap (slice_get slots) same ∙ back_place.1)) in
        let n = ap (λ z. z.outcome) e in
        let m = back_number in
        (record { one_atom = two.4.one_atom ∙ sym (ap (λ z. z.atom) e); not_last = two.4.not_last; alike = same_targets_too ∙ sym (ap (λ z. z.targets) e) }, omega (arith, m, n)))
        (cases_lt (front_place.0 + 1) back_place.0)

    -- where two outcomes may be merged, the first and its neighbour are twins, and the neighbour's number is no higher
    pub merging_twins : (i : ℕ) × (s : PlainSlot) × (t : PlainSlot) × (slice_get slots i ≡ Some s) × (slice_get slots (i + 1) ≡ Some t) × AreTwins work.last s t × (s.outcome ≡ p1) × (t.outcome ≤ p2)
    merging_twins = (front_place.0, front, beside, front_place.1, beside_place, beside_twin.0, front_number, beside_twin.1)

  -- at the end the pair is the least merge
  pub found_merge : (i : ℕ) (least : Option (OutcomeId × OutcomeId)) → length slots ≤ i → IsLeastSoFar work slots i least → IfSome least (λ pair. IsLeastMerge work pair.0.0 pair.1.0)
  found_merge i None all h = tt
  found_merge i (Some pair) all h = record {
    allowed = h.0;
    least = λ p1 p2 lower. false_from_ne_true (allows work (Merge p1 p2)) (λ k.
        let q = merging_twins p1 p2 k in
        let within = slice_get_within slots (q.0 + 1) q.2 q.4 in
        let one = q.6 in
        let two = q.7 in
        h.1 q.0 q.1 q.2 (omega (arith, all, within)) q.3 q.4 q.5
        (⊎_elim (λ l. inl (omega (arith, one, l))) (λ l. let same = l.0 in let less = l.1 in inr (omega (arith, one, same), omega (arith, two, less))) lower));
  }

  pub found_no_merge : (i : ℕ) (least : Option (OutcomeId × OutcomeId)) → length slots ≤ i → IsLeastSoFar work slots i least → IfNone least (HasNoMerge work)
  found_no_merge i None all h = λ p1 p2. false_from_ne_true (allows work (Merge p1 p2)) (λ k.
      let q = merging_twins p1 p2 k in
      let within = slice_get_within slots (q.0 + 1) q.2 q.4 in
      h q.0 q.1 q.2 (omega (arith, all, within)) q.3 q.4 q.5)
  found_no_merge i (Some pair) all h = tt

  -- ---- the twins of one outcome

  -- the slot of an alive outcome is one of them
  pub slot_there : (x : WorkOutcome) → outcome_at work x.number ≡ Some x → Contains slots (slot_of x)
  slot_there x h = let k = place_found work.outcomes x.number x h in (sorted.same (slot_of x)).1 (slot_among work.outcomes k.0 x k.1)

  module _ (x : WorkOutcome) (alive : outcome_at work x.number ≡ Some x) (others : (p q : ℕ) → p ≢ x.number → q ≢ x.number → allows work (Merge p q) ≡ false) (i : ℕ) (at : slice_get slots i ≡ Some (slot_of x)) where
    -- a slot of its number stands only there
    its_place : (j : ℕ) (s : PlainSlot) → slice_get slots j ≡ Some s → s.outcome ≡ x.number → j ≡ i
    its_place j s h e = ⊎_elim
        (λ l. absurd (let n = lesser_number s (slot_of x) atoms targets (below j i s (slot_of x) l h at) in let no_more : ⊥ = omega (arith, n, e) in no_more))
        (λ l. ⊎_elim
        (λ m. absurd (let n = lesser_number (slot_of x) s (sym atoms) (sym targets) (below i j (slot_of x) s m at h) in let no_more : ⊥ = omega (arith, n, e) in no_more))
        (λ m. omega (arith, l, m))
        (cases_lt i j))
        (cases_lt j i)
      where
        same : s ≡ slot_of x
        same = let z = alive_of j s h in z.2 ∙ ap slot_of (same_Some z.0 x (sym z.1 ∙ (ap (outcome_at work) e ∙ alive)))

        atoms : s.atom ≡ x.atom
        atoms = ap (λ t. t.atom) same

        targets : s.targets ≡ x.targets
        targets = ap (λ t. t.targets) same

    -- twins are its neighbours
    beside_it : (j : ℕ) (s t : PlainSlot) → slice_get slots j ≡ Some s → slice_get slots (j + 1) ≡ Some t → AreTwins work.last s t → (j ≡ i) ⊎ (j + 1 ≡ i)
    beside_it j s t h k twins = ⊎_elim
        (λ e. inl (its_place j s h e))
        (λ first. ⊎_elim
        (λ e. inr (its_place (j + 1) t k e))
        (λ second. absurd (true≢false (sym (twins_merge j s t h k twins) ∙ others s.outcome t.outcome first second)))
        (cases_eq t.outcome x.number))
        (cases_eq s.outcome x.number)

    module _ (before : (j : ℕ) → j + 1 ≡ i → NoneStandAt work.last slots j) where
      -- none are on either side
      pub none_beside : NoneStandAt work.last slots i → IsLeastSoFar work slots (length slots) None
      none_beside here j s t l h k twins = ⊎_elim
          (λ e. here s t (subst (λ n. slice_get slots n ≡ Some s) e h) (subst (λ n. slice_get slots (n + 1) ≡ Some t) e k) twins)
          (λ e. before j e s t h k twins)
          (beside_it j s t h k twins)

      -- its slot is the first of twins
      pub twin_behind : (pair : OutcomeId × OutcomeId) → StandAt work.last slots i pair.0.0 pair.1.0 → IsLeastSoFar work slots (length slots) (Some pair)
      twin_behind pair two = (
        stand_merge i pair two,
        λ j s t l h k twins lower. ⊎_elim
            (λ e. same_pair i pair two s t (subst (λ n. slice_get slots n ≡ Some s) e h) (subst (λ n. slice_get slots (n + 1) ≡ Some t) e k) lower)
            (λ e. before j e s t h k twins)
            (beside_it j s t h k twins),
      )

      -- what stands there decides
      pub what_stands : (found : Option (OutcomeId × OutcomeId)) → IfSome found (λ pair. StandAt work.last slots i pair.0.0 pair.1.0) → IfNone found (NoneStandAt work.last slots i) → IsLeastSoFar work slots (length slots) found
      what_stands None some none = none_beside none
      what_stands (Some pair) some none = twin_behind pair some

    -- its slot is the second of twins
    pub twin_before : (j : ℕ) → j + 1 ≡ i → (pair : OutcomeId × OutcomeId) → StandAt work.last slots j pair.0.0 pair.1.0 → IsLeastSoFar work slots (length slots) (Some pair)
    twin_before j next pair two = (
      stand_merge j pair two,
      λ m s t l h k twins lower. ⊎_elim
          (λ e.
          let second : s ≡ two.second = same_Some s two.second (sym h ∙ (ap (slice_get slots) (e ∙ sym next) ∙ two.next)) in
          let is = ap (λ z. z.outcome) second in
          let first_is = two.first_is in
          let second_is = two.second_is in
          let rise = lesser_number two.first two.second two.twins.one_atom two.twins.alike (below j (j + 1) two.first two.second (omega arith) two.here two.next) in
          ⊎_elim (λ low. let no_more : ⊥ = omega (arith, low, is, first_is, second_is, rise) in no_more) (λ low. let same = low.0 in let no_more : ⊥ = omega (arith, same, is, first_is, second_is, rise) in no_more) lower)
          (λ e.
          let same : m ≡ j = omega (arith, e, next) in
          same_pair j pair two s t (subst (λ n. slice_get slots n ≡ Some s) same h) (subst (λ n. slice_get slots (n + 1) ≡ Some t) same k) lower)
          (beside_it m s t h k twins),
    )

  -- ---- one place more

  module _ (i : ℕ) (s t : PlainSlot) (at_s : slice_get slots i ≡ Some s) (at_t : slice_get slots (i + 1) ≡ Some t) where
    -- the last neighbours, or earlier ones
    at_last : (P : PlainSlot → PlainSlot → Type 0) → P s t → (j : ℕ) (u v : PlainSlot) → ((j + 1 < i + 1) → P u v) → j + 1 < i + 1 + 1 → slice_get slots j ≡ Some u → slice_get slots (j + 1) ≡ Some v → P u v
    at_last P here j u v before l h k = ⊎_elim before
        (λ m. let same : j ≡ i = omega (arith, l, m) in
        subst (λ w. P w v) (same_Some s u (sym at_s ∙ subst (λ n. slice_get slots n ≡ Some u) same h))
        (subst (P s) (same_Some t v (sym at_t ∙ subst (λ n. slice_get slots (n + 1) ≡ Some v) same k)) here))
        (cases_lt (j + 1) (i + 1))

    -- neighbours that are no twins, or whose pair is no lesser, change nothing
    pub so_far_kept : (least : Option (OutcomeId × OutcomeId)) → (AreTwins work.last s t → MatchOption least ⊤ (λ pair. IsPairBelow s.outcome t.outcome pair.0.0 pair.1.0) → ⊥) → IsLeastSoFar work slots (i + 1) least → IsLeastSoFar work slots (i + 1 + 1) least
    so_far_kept None other h = λ j u v l e k. at_last (λ w z. AreTwins work.last w z → ⊥) (λ twins. other twins tt) j u v (λ m. h j u v m e k) l e k
    so_far_kept (Some pair) other h = (h.0, λ j u v l e k. at_last (λ w z. AreTwins work.last w z → IsPairBelow w.outcome z.outcome pair.0.0 pair.1.0 → ⊥) other j u v (λ m. h.1 j u v m e k) l e k)

    -- twins whose pair is lesser take the place
    pub so_far_lesser : (least : Option (OutcomeId × OutcomeId)) (pair : OutcomeId × OutcomeId) → (pair.0.0 ≡ s.outcome) → (pair.1.0 ≡ t.outcome) → AreTwins work.last s t → MatchOption least ⊤ (λ found. IsPairBelow s.outcome t.outcome found.0.0 found.1.0) → IsLeastSoFar work slots (i + 1) least →
        IsLeastSoFar work slots (i + 1 + 1) (Some pair)
    so_far_lesser least pair one two twins lower h = (
      subst (λ p. IsTrue (allows work (Merge p pair.1.0))) (sym one) (subst (λ p. IsTrue (allows work (Merge s.outcome p))) (sym two) (twins_merge i s t at_s at_t twins)),
      λ j u v l e k. at_last (λ w z. AreTwins work.last w z → IsPairBelow w.outcome z.outcome pair.0.0 pair.1.0 → ⊥) (λ _. never) j u v (λ m. before least lower h j u v m e k) l e k,
    )
      where
        never : IsPairBelow s.outcome t.outcome pair.0.0 pair.1.0 → ⊥
        never b = ⊎_elim (λ l. let no_more : ⊥ = omega (arith, one, l) in no_more) (λ l. let m = l.1 in let no_more : ⊥ = omega (arith, two, m) in no_more) b

        -- what is below this pair is below the one before
        lower_still : (p1 p2 q1 q2 : ℕ) → IsPairBelow p1 p2 pair.0.0 pair.1.0 → IsPairBelow s.outcome t.outcome q1 q2 → IsPairBelow p1 p2 q1 q2
        lower_still p1 p2 q1 q2 a b = ⊎_elim
            (λ l. ⊎_elim (λ m. inl (omega (arith, one, l, m))) (λ m. let e = m.0 in inl (omega (arith, one, l, e))) b)
            (λ l. let same = l.0 in let less = l.1 in ⊎_elim (λ m. inl (omega (arith, one, same, m))) (λ m. let e = m.0 in let f = m.1 in inr (omega (arith, one, same, e), omega (arith, two, less, f))) b)
            a

        before : (least : Option (OutcomeId × OutcomeId)) → MatchOption least ⊤ (λ found. IsPairBelow s.outcome t.outcome found.0.0 found.1.0) → IsLeastSoFar work slots (i + 1) least →
            (j : ℕ) (u v : PlainSlot) → j + 1 < i + 1 → slice_get slots j ≡ Some u → slice_get slots (j + 1) ≡ Some v → AreTwins work.last u v → IsPairBelow u.outcome v.outcome pair.0.0 pair.1.0 → ⊥
        before None below h j u v l e k twins b = h j u v l e k twins
        before (Some found) below h j u v l e k twins b = h.1 j u v l e k twins (lower_still u.outcome v.outcome found.0.0 found.1.0 b below)
