-- Neighbouring occurrences of atoms without a common party change places in a run.
use Rattle.std.proofs.Common.{◌≡◌, ℕ, ◌<◌, List, [], ◌∷◌, ◌++◌, length, Some, IsTrue, sym, subst, ap, ◌∙◌}
use Rattle.std.proofs.lemmas.List.{map-append}
use Rattle.nego_base.specs.Members.{is_in}
use Rattle.nego_data.specs.Data.{data_count}
use Rattle.nego_data.specs.Locality.{AgreeOn, ActsOn}
use Rattle.nego_data.proofs.Acting.{acts_commute}
use Rattle.nego_model.specs.Negotiation.{Negotiation}
use Rattle.nego_model.specs.Occurring.{PlainMarking, Occurrence, moved, enables, after, leaves}
use Rattle.nego_model.specs.Joining.{Relation, Entry, steps_of, AreRelated, joint_after, Joins}
use Rattle.nego_model.specs.Locality.{IsLocal}
use Rattle.nego_model.specs.Projection.{AreApart}
use Rattle.nego_model.specs.Laws.{ChangePlaces}
use Rattle.nego_model.proofs.occurrence.Markings.{length-moved, ready-moved_other, enables-atom, enables-party, enables_from}
use Rattle.nego_model.proofs.occurrence.Steps.{after-some, after-outcome, after_from, leaves-first, leaves_from_first, leaves_between, leaves_through}
use Rattle.nego_model.proofs.occurrence.Joined.{AreRelated-append, related_parts, Joins-entries, Joins_first, joins_from_first, Joins_through, joins_between}
use Rattle.nego_model.proofs.occurrence.Commuting.{enables-below, occurrences_commute, Reaches-below}

-- what is enabled when others have moved was so before
pub enabled_before : (nego : Negotiation) (marking : PlainMarking) (n : ℕ) (parties : List ℕ) (next : ℕ → List ℕ) → IsTrue (enables nego (moved 0 parties next marking) n) → AreApart parties (nego.parties n) → IsTrue (enables nego marking n)
enabled_before nego marking n parties next h apart =
    enables_from nego marking n (enables-atom nego (moved 0 parties next marking) n h) (λ a p.
    let below : a < length marking = subst (λ k. a < k) (length-moved 0 parties next marking) (enables-below nego (moved 0 parties next marking) n a h p) in
    subst (λ xs. IsTrue (is_in n xs)) (ready-moved_other parties next marking a below (λ q. apart a q p)) (enables-party nego (moved 0 parties next marking) n a h p))

-- an occurrence behind one without a common party could have happened first
pub happens_first : (nego : Negotiation) (marking one left : PlainMarking) (step step' : Occurrence) → after nego marking step ≡ Some one → after nego one step' ≡ Some left → AreApart (nego.parties step.0) (nego.parties step'.0) →
    (two : PlainMarking) × (after nego marking step' ≡ Some two)
happens_first nego marking one left step step' h k apart =
    let p = after-some nego marking step one h in
    let q = after-some nego one step' left k in
    let enabled : IsTrue (enables nego marking step'.0) =
    enabled_before nego marking step'.0 (nego.parties step.0) (nego.next step.1) (subst (λ m. IsTrue (enables nego m step'.0)) (sym p.2) q.0) apart in
    (moved 0 (nego.parties step'.0) (nego.next step'.1) marking, after_from nego marking step' enabled q.1)

-- the first two of some occurrences change places
pub first_two_change_places : (nego : Negotiation) (marking left : PlainMarking) (step step' : Occurrence) (rest : List Occurrence) → AreApart (nego.parties step.0) (nego.parties step'.0) →
    leaves nego marking (step ∷ step' ∷ rest) ≡ Some left → leaves nego marking (step' ∷ step ∷ rest) ≡ Some left
first_two_change_places nego marking left step step' rest apart e =
    let h = leaves-first nego marking step (step' ∷ rest) left e in
    let k = leaves-first nego h.0 step' rest left h.2 in
    let b = happens_first nego marking h.0 k.0 step step' h.1 k.1 apart in
    let m = occurrences_commute nego marking h.0 b.0 step step' h.1 b.1 apart in
    leaves_from_first nego marking step' (step ∷ rest) b.0 b.1
    ∙ (leaves_from_first nego b.0 step rest k.0 (m.2 ∙ (sym m.1 ∙ k.1)) ∙ k.2)

-- two neighbours change places
pub neighbours_change_places : (nego : Negotiation) (marking left : PlainMarking) (front rest : List Occurrence) (step step' : Occurrence) → AreApart (nego.parties step.0) (nego.parties step'.0) →
    leaves nego marking (front ++ step ∷ step' ∷ rest) ≡ Some left → leaves nego marking (front ++ step' ∷ step ∷ rest) ≡ Some left
neighbours_change_places nego marking left front rest step step' apart e =
    let h = leaves_between nego marking front (step ∷ step' ∷ rest) left e in
    leaves_through nego marking front (step' ∷ step ∷ rest) h.0 h.1 ∙ first_two_change_places nego h.0 left step step' rest apart h.2

-- Two occurrences without a common party, one after the other, relate the same in the other order, with other data
-- between; the parties of each have after it what they had.
data_between : (nego : Negotiation) (sizes : List ℕ) (relation : Relation) → IsLocal nego sizes relation → (marking one left : PlainMarking) (step step' : Occurrence) (d c e : ℕ) → AreApart (nego.parties step.0) (nego.parties step'.0) →
    d < data_count sizes → after nego marking step ≡ Some one → after nego one step' ≡ Some left → relation step.1 d c → relation step'.1 c e →
    (c' : ℕ) × relation step'.1 d c' × relation step.1 c' e × AgreeOn sizes (nego.parties step.0) c e × AgreeOn sizes (nego.parties step'.0) e c'
data_between nego sizes relation local marking one left step step' d c e apart below h k r s = (
  other.0,
  other.1,
  other.2,
  λ a l party. second.changes c e (first.stays d c below r) s a l (λ party'. apart a party party'),
  λ a l party'. sym (first.changes other.0 e (second.stays d other.0 below other.1) other.2 a l (λ party. apart a party party')),
)
  where
    first : ActsOn sizes (nego.parties step.0) (relation step.1)
    first = local step.0 step.1 (after-outcome nego marking step one h)

    second : ActsOn sizes (nego.parties step'.0) (relation step'.1)
    second = local step'.0 step'.1 (after-outcome nego one step' left k)

    other : (c' : ℕ) × relation step'.1 d c' × relation step.1 c' e
    other = acts_commute sizes (nego.parties step.0) (nego.parties step'.0) (relation step.1) (relation step'.1) first second apart d c e below r s

module _ (nego : Negotiation) (sizes : List ℕ) (relation : Relation) (local : IsLocal nego sizes relation) (marking left : PlainMarking) where
  -- two neighbouring entries change places
  pub entries_change_places : (d : ℕ) (front rest : List Entry) (one two : Entry) → AreApart (nego.parties one.step.0) (nego.parties two.step.0) → d < data_count sizes →
      leaves nego marking (steps_of (front ++ one ∷ two ∷ rest)) ≡ Some left → AreRelated relation d (front ++ one ∷ two ∷ rest) → ChangePlaces nego sizes relation d front one two rest
  entries_change_places d front rest one two apart start leads related = record {
    between = m.0;
    related = AreRelated-append relation d front (record { step = two.step; joint = m.0 } ∷ record { step = one.step; joint = two.joint } ∷ rest) parts.0 (m.1, (m.2, parts.1.1.1));
    keeps_first = m.3;
    keeps_second = m.4;
  }
    where
      parts : AreRelated relation d front × AreRelated relation (joint_after d front) (one ∷ two ∷ rest)
      parts = related_parts relation d front (one ∷ two ∷ rest) related

      place : (between : PlainMarking) × (leaves nego marking (steps_of front) ≡ Some between) × (leaves nego between (one.step ∷ two.step ∷ steps_of rest) ≡ Some left)
      place = leaves_between nego marking (steps_of front) (one.step ∷ two.step ∷ steps_of rest) left
          (ap (leaves nego marking) (sym (map-append (λ (entry : Entry). entry.step) front (one ∷ two ∷ rest))) ∙ leads)

      m : (c : ℕ) × relation two.step.1 (joint_after d front) c × relation one.step.1 c two.joint × AgreeOn sizes (nego.parties one.step.0) one.joint two.joint
          × AgreeOn sizes (nego.parties two.step.0) two.joint c
      m =
          let o = leaves-first nego place.0 one.step (two.step ∷ steps_of rest) left place.2 in
          let o' = leaves-first nego o.0 two.step (steps_of rest) left o.2 in
          let below : joint_after d front < data_count sizes =
          Reaches-below nego sizes relation local marking d place.0 (joint_after d front) start (record { steps = steps_of front; leads = place.1; joins = Joins-entries relation d front parts.0 }) in
          data_between nego sizes relation local place.0 o.0 o'.0 one.step two.step (joint_after d front) one.joint two.joint apart below o.1 o'.1 parts.1.0 parts.1.1.0

  -- two neighbours change places, and what is joined stays
  pub joined_change_places : (front rest : List Occurrence) (step step' : Occurrence) (d e : ℕ) → AreApart (nego.parties step.0) (nego.parties step'.0) → d < data_count sizes →
      leaves nego marking (front ++ step ∷ step' ∷ rest) ≡ Some left → Joins relation (front ++ step ∷ step' ∷ rest) d e → Joins relation (front ++ step' ∷ step ∷ rest) d e
  joined_change_places front rest step step' d e apart start leads joins =
      let l = leaves_between nego marking front (step ∷ step' ∷ rest) left leads in
      let o = leaves-first nego l.0 step (step' ∷ rest) left l.2 in
      let o' = leaves-first nego o.0 step' rest left o.2 in
      let j = joins_between relation front (step ∷ step' ∷ rest) d e joins in
      let s = joins_from_first relation step (step' ∷ rest) j.0 e j.2 in
      let s' = joins_from_first relation step' rest s.0 e s.2 in
      let below : j.0 < data_count sizes = Reaches-below nego sizes relation local marking d l.0 j.0 start (record { steps = front; leads = l.1; joins = j.1 }) in
      let m = data_between nego sizes relation local l.0 o.0 o'.0 step step' j.0 s.0 s'.0 apart below o.1 o'.1 s.1 s'.1 in
      Joins_through relation front (step' ∷ step ∷ rest) d j.0 e j.1 (Joins_first relation step' (step ∷ rest) j.0 m.0 e m.1 (Joins_first relation step rest m.0 s'.0 e m.2 s'.2))

-- two occurrences that can happen leave the same in each order
pub two_leave_the_same : (nego : Negotiation) (marking one two : PlainMarking) (step step' : Occurrence) → AreApart (nego.parties step.0) (nego.parties step'.0) → after nego marking step ≡ Some one → after nego marking step' ≡ Some two →
    (left : PlainMarking) × (leaves nego marking (step ∷ step' ∷ []) ≡ Some left) × (leaves nego marking (step' ∷ step ∷ []) ≡ Some left)
two_leave_the_same nego marking one two step step' apart h k =
    let m = occurrences_commute nego marking one two step step' h k apart in
    let there : leaves nego marking (step ∷ step' ∷ []) ≡ Some m.0 = leaves_from_first nego marking step (step' ∷ []) one h ∙ leaves_from_first nego one step' [] m.0 m.1 in
    (m.0, there, first_two_change_places nego marking m.0 step step' [] apart there)

-- two occurrences that can happen join the same in each order
pub two_join_the_same : (nego : Negotiation) (sizes : List ℕ) (relation : Relation) → IsLocal nego sizes relation → (marking one two : PlainMarking) (step step' : Occurrence) (d e : ℕ) → AreApart (nego.parties step.0) (nego.parties step'.0) →
    after nego marking step ≡ Some one → after nego marking step' ≡ Some two → d < data_count sizes → Joins relation (step ∷ step' ∷ []) d e → Joins relation (step' ∷ step ∷ []) d e
two_join_the_same nego sizes relation local marking one two step step' d e apart h k below joins =
    let m = two_leave_the_same nego marking one two step step' apart h k in
    joined_change_places nego sizes relation local marking m.0 [] [] step step' d e apart below m.1 joins
