-- Occurrences of atoms without a common party may change places.
use Rattle.std.proofs.Common.{◌≡◌, ◌≢◌, ⊎_elim, ℕ, ◌<◌, List, [], length, Some, IsTrue, sym, subst, ap, ◌∙◌}
use Rattle.std.proofs.lemmas.Bool.{cases_lt}
use Rattle.std.proofs.lemmas.List.{get_or_past}
use Rattle.nego_base.specs.Members.{is_in}
use Rattle.nego_model.specs.Negotiation.{Negotiation, IsNegotiation}
use Rattle.nego_model.specs.Occurring.{PlainMarking, Occurrence, ready, moved, enables, after}
use Rattle.nego_data.specs.Data.{data_count}
use Rattle.nego_model.specs.Joining.{Relation}
use Rattle.nego_model.specs.Reaching.{Reaches}
use Rattle.nego_model.specs.Locality.{IsLocal}
use Rattle.nego_model.specs.Projection.{AreApart}
use Rattle.nego_base.proofs.Members.{is_in_none}
use Rattle.nego_model.proofs.occurrence.Markings.{length-moved, ready-moved_party, ready-moved_other, same_markings, enables-atom, enables-party, enables_from}
use Rattle.nego_model.proofs.occurrence.Steps.{after-some, after-outcome, after_from}
use Rattle.nego_model.proofs.occurrence.Reached.{reached_by_last}
use Rattle.nego_base.proofs.Members.{in_or_not}
use Rattle.nego_data.proofs.Acting.{acts_commute}
use Rattle.nego_model.proofs.occurrence.Proper.{IsSingle, same_enabled}

-- a party of an enabled atom has a place in the marking
pub enables-below : (nego : Negotiation) (marking : PlainMarking) (n a : ℕ) → IsTrue (enables nego marking n) → IsTrue (is_in a (nego.parties n)) → a < length marking
enables-below nego marking n a h p =
    ⊎_elim (λ l. l) (λ l. absurd (is_in_none n (ready marking a) (get_or_past marking a [] l) (enables-party nego marking n a h p))) (cases_lt a (length marking))

-- the moves of parties apart may change places
pub moves_commute : (one two : List ℕ) (next next' : ℕ → List ℕ) (marking : PlainMarking) → AreApart one two → moved 0 two next' (moved 0 one next marking) ≡ moved 0 one next (moved 0 two next' marking)
moves_commute one two next next' marking apart =
    same_markings (moved 0 two next' (moved 0 one next marking)) (moved 0 one next (moved 0 two next' marking))
    (length-moved 0 two next' (moved 0 one next marking) ∙ (length-moved 0 one next marking ∙ sym (length-moved 0 one next (moved 0 two next' marking) ∙ length-moved 0 two next' marking)))
    (λ a l. each a (subst (λ n. a < n) (length-moved 0 two next' (moved 0 one next marking) ∙ length-moved 0 one next marking) l))
  where
    each : (a : ℕ) → a < length marking → ready (moved 0 two next' (moved 0 one next marking)) a ≡ ready (moved 0 one next (moved 0 two next' marking)) a
    each a l = ⊎_elim in_one not_one (in_or_not a one)
      where
        behind_one : a < length (moved 0 one next marking)
        behind_one = subst (λ n. a < n) (sym (length-moved 0 one next marking)) l

        behind_two : a < length (moved 0 two next' marking)
        behind_two = subst (λ n. a < n) (sym (length-moved 0 two next' marking)) l

        in_one : IsTrue (is_in a one) → ready (moved 0 two next' (moved 0 one next marking)) a ≡ ready (moved 0 one next (moved 0 two next' marking)) a
        in_one h = ready-moved_other two next' (moved 0 one next marking) a behind_one (apart a h)
            ∙ (ready-moved_party one next marking a l h ∙ sym (ready-moved_party one next (moved 0 two next' marking) a behind_two h))

        not_one : ¬ IsTrue (is_in a one) → ready (moved 0 two next' (moved 0 one next marking)) a ≡ ready (moved 0 one next (moved 0 two next' marking)) a
        not_one other = ⊎_elim
            (λ h. ready-moved_party two next' (moved 0 one next marking) a behind_one h
            ∙ sym (ready-moved_other one next (moved 0 two next' marking) a behind_two other ∙ ready-moved_party two next' marking a l h))
            (λ k. (ready-moved_other two next' (moved 0 one next marking) a behind_one k ∙ ready-moved_other one next marking a l other)
            ∙ sym (ready-moved_other one next (moved 0 two next' marking) a behind_two other ∙ ready-moved_other two next' marking a l k))
            (in_or_not a two)

-- what is enabled stays so when others have moved
pub enabled_behind : (nego : Negotiation) (marking : PlainMarking) (n : ℕ) (parties : List ℕ) (next : ℕ → List ℕ) → IsTrue (enables nego marking n) → AreApart parties (nego.parties n) → IsTrue (enables nego (moved 0 parties next marking) n)
enabled_behind nego marking n parties next h apart =
    enables_from nego (moved 0 parties next marking) n (enables-atom nego marking n h) (λ a p.
    subst (λ xs. IsTrue (is_in n xs)) (sym (ready-moved_other parties next marking a (enables-below nego marking n a h p) (λ q. apart a q p))) (enables-party nego marking n a h p))

-- two occurrences that can happen, of atoms without a common party, happen in each order and leave the same
pub occurrences_commute : (nego : Negotiation) (marking one two : PlainMarking) (step step' : Occurrence) → after nego marking step ≡ Some one → after nego marking step' ≡ Some two → AreApart (nego.parties step.0) (nego.parties step'.0) →
    (left : PlainMarking) × (after nego one step' ≡ Some left) × (after nego two step ≡ Some left)
occurrences_commute nego marking one two step step' h k apart = (
  moved 0 (nego.parties step'.0) (nego.next step'.1) (moved 0 (nego.parties step.0) (nego.next step.1) marking),
  subst (λ m. after nego m step' ≡ Some (moved 0 (nego.parties step'.0) (nego.next step'.1) (moved 0 (nego.parties step.0) (nego.next step.1) marking))) p.2
      (after_from nego (moved 0 (nego.parties step.0) (nego.next step.1) marking) step' (enabled_behind nego marking step'.0 (nego.parties step.0) (nego.next step.1) q.0 apart) q.1),
  subst (λ m. after nego m step ≡ Some (moved 0 (nego.parties step'.0) (nego.next step'.1) (moved 0 (nego.parties step.0) (nego.next step.1) marking))) q.2
      (after_from nego (moved 0 (nego.parties step'.0) (nego.next step'.1) marking) step (enabled_behind nego marking step.0 (nego.parties step'.0) (nego.next step'.1) p.0 (λ a x y. apart a y x)) p.1
      ∙ ap (λ m. Some m) (sym (moves_commute (nego.parties step.0) (nego.parties step'.0) (nego.next step.1) (nego.next step'.1) marking apart))),
)
  where
    p : IsTrue (enables nego marking step.0) × IsTrue (is_in step.1 (nego.outcomes step.0)) × (moved 0 (nego.parties step.0) (nego.next step.1) marking ≡ one)
    p = after-some nego marking step one h

    q : IsTrue (enables nego marking step'.0) × IsTrue (is_in step'.1 (nego.outcomes step'.0)) × (moved 0 (nego.parties step'.0) (nego.next step'.1) marking ≡ two)
    q = after-some nego marking step' two k

-- two enabled atoms have no common party, where each agent is ready for one atom at most
pub enabled_apart : (nego : Negotiation) → IsNegotiation nego → (marking : PlainMarking) (m n : ℕ) → IsSingle nego marking → IsTrue (enables nego marking m) → IsTrue (enables nego marking n) → m ≢ n →
    AreApart (nego.parties m) (nego.parties n)
enabled_apart nego ok marking m n single h k other a p q = other (same_enabled nego ok marking m n a single h k p q)

-- An occurrence and then one without a common party, which could have happened first, happen in the other order too,
-- with other data between.
pub steps_change_places : (nego : Negotiation) (sizes : List ℕ) (relation : Relation) → IsLocal nego sizes relation → (marking one two left : PlainMarking) (step step' : Occurrence) (d c e : ℕ) → d < data_count sizes →
    after nego marking step ≡ Some one → relation step.1 d c → after nego one step' ≡ Some left → relation step'.1 c e → after nego marking step' ≡ Some two → AreApart (nego.parties step.0) (nego.parties step'.0) →
    (after nego two step ≡ Some left) × ((c' : ℕ) × relation step'.1 d c' × relation step.1 c' e)
steps_change_places nego sizes relation local marking one two left step step' d c e below h r k s k' apart =
    let m = occurrences_commute nego marking one two step step' h k' apart in (
      m.2 ∙ (sym m.1 ∙ k),
      acts_commute sizes (nego.parties step.0) (nego.parties step'.0) (relation step.1) (relation step'.1) (local step.0 step.1 (after-outcome nego marking step one h))
          (local step'.0 step'.1 (after-outcome nego marking step' two k')) apart d c e below r s,
    )

-- what joint data reach are joint data
pub Reaches-below : (nego : Negotiation) (sizes : List ℕ) (relation : Relation) → IsLocal nego sizes relation → (from : PlainMarking) (d : ℕ) (to : PlainMarking) (e : ℕ) → d < data_count sizes → Reaches nego relation from d to e → e < data_count sizes
Reaches-below nego sizes relation local from d to e below h =
    reached_by_last nego relation from d (λ m c. c < data_count sizes) below
    (λ m b m' c step way l k r. (local step.0 step.1 (after-outcome nego m step m' k)).stays b c l r) to e h
