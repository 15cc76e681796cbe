-- Laws of histories, which are runs with the joint data after each entry.
use Rattle.std.proofs.Common.{◌≡◌, ⊎_elim, ℕ, ◌<◌, List, [], ◌∷◌, ◌++◌, Some, IsSome, IsTrue, refl, sym, subst, ap, ◌∙◌}
use Rattle.std.proofs.lemmas.Bool.{cond-true, cond-false, false_from_ne_true}
use Rattle.std.proofs.lemmas.List.{map-append}
use Rattle.std.proofs.lemmas.List.Elements.{filter-append}
use Rattle.nego_base.specs.Members.{is_in}
use Rattle.nego_base.proofs.Members.{in_or_not, is_in_single}
use Rattle.nego_data.specs.Data.{data_count}
use Rattle.nego_data.specs.Places.{owner_of}
use Rattle.nego_data.specs.Locality.{AgreeOn}
use Rattle.nego_model.specs.Negotiation.{Negotiation}
use Rattle.nego_model.specs.Occurring.{PlainMarking, ready, after, leaves, opening_marking, final_marking}
use Rattle.nego_model.specs.Joining.{Relation, Entry, steps_of, AreRelated, joint_after, IsHistory, EndsWith, Runs}
use Rattle.nego_model.specs.Locality.{IsLocal}
use Rattle.nego_model.specs.Projection.{own_entries, ready_behind}
use Rattle.nego_model.proofs.occurrence.Steps.{after-outcome, leaves-first, leaves_between, leaves_then, run_leaves}
use Rattle.nego_model.proofs.occurrence.Joined.{AreRelated-append, related_parts, Joins-entries}
use Rattle.nego_model.proofs.occurrence.Projections.{ready-run, own_entries-steps}

-- the occurrences of entries and then entries
pub steps_of-append : (front rest : List Entry) → steps_of (front ++ rest) ≡ steps_of front ++ steps_of rest
steps_of-append front rest = map-append (λ (entry : Entry). entry.step) front rest

-- the data after entries and then entries
pub joint_after-append : (d : ℕ) (front rest : List Entry) → joint_after d (front ++ rest) ≡ joint_after (joint_after d front) rest
joint_after-append d [] rest = refl
joint_after-append d (entry ∷ front) rest = joint_after-append entry.joint front rest

-- an agent's own entries among entries and then entries
pub own_entries-append : (nego : Negotiation) (a : ℕ) (front rest : List Entry) → own_entries nego a (front ++ rest) ≡ own_entries nego a front ++ own_entries nego a rest
own_entries-append nego a front rest = filter-append (λ (entry : Entry). is_in a (nego.parties entry.step.0)) front rest

module _ (nego : Negotiation) (a : ℕ) (entry : Entry) (entries : List Entry) where
  -- a party's own entries have the first
  pub own_entries-party : IsTrue (is_in a (nego.parties entry.step.0)) → own_entries nego a (entry ∷ entries) ≡ entry ∷ own_entries nego a entries
  own_entries-party party = cond-true (is_in a (nego.parties entry.step.0)) (entry ∷ own_entries nego a entries) (own_entries nego a entries) party

  -- those of who is no party don't
  pub own_entries-other : ¬ IsTrue (is_in a (nego.parties entry.step.0)) → own_entries nego a (entry ∷ entries) ≡ own_entries nego a entries
  own_entries-other other = cond-false (is_in a (nego.parties entry.step.0)) (entry ∷ own_entries nego a entries) (own_entries nego a entries) (false_from_ne_true (is_in a (nego.parties entry.step.0)) other)

module _ (nego : Negotiation) (relation : Relation) (start : ℕ) where
  -- nothing is a history
  pub History-empty : IsHistory nego relation start []
  History-empty = record { run = refl; related = tt }

  -- the marking that a history leaves
  pub history_leaves : (history : List Entry) → IsHistory nego relation start history → (marking : PlainMarking) × (leaves nego (opening_marking nego) (steps_of history) ≡ Some marking)
  history_leaves history h = run_leaves nego (opening_marking nego) (steps_of history) h.run

  -- a history and an occurrence behind it
  pub History-then : (history : List Entry) (marking left : PlainMarking) (entry : Entry) → IsHistory nego relation start history → leaves nego (opening_marking nego) (steps_of history) ≡ Some marking →
      after nego marking entry.step ≡ Some left → relation entry.step.1 (joint_after start history) entry.joint → IsHistory nego relation start (history ++ entry ∷ [])
  History-then history marking left entry h leads occurs related = record {
    run = subst (λ steps. IsSome (leaves nego (opening_marking nego) steps)) (sym (steps_of-append history (entry ∷ [])))
        (subst IsSome (sym (leaves_then nego (opening_marking nego) (steps_of history) entry.step marking left leads occurs)) refl);
    related = AreRelated-append relation start history (entry ∷ []) h.related (related, tt);
  }

  -- the first entries of a history are one
  pub History-front : (front rest : List Entry) → IsHistory nego relation start (front ++ rest) → IsHistory nego relation start front
  History-front front rest h = record { run = subst IsSome (sym k.1) refl; related = (related_parts relation start front rest h.related).0 }
    where
      all : (marking : PlainMarking) × (leaves nego (opening_marking nego) (steps_of (front ++ rest)) ≡ Some marking)
      all = history_leaves (front ++ rest) h

      k : (middle : PlainMarking) × (leaves nego (opening_marking nego) (steps_of front) ≡ Some middle) × (leaves nego middle (steps_of rest) ≡ Some all.0)
      k = leaves_between nego (opening_marking nego) (steps_of front) (steps_of rest) all.0 (ap (leaves nego (opening_marking nego)) (sym (steps_of-append front rest)) ∙ all.1)

  -- what an agent is ready for behind a history follows from its own entries
  pub ready-history : (history : List Entry) (marking : PlainMarking) (a : ℕ) → a < nego.agents → leaves nego (opening_marking nego) (steps_of history) ≡ Some marking →
      ready marking a ≡ ready_behind nego a (nego.first ∷ []) (steps_of (own_entries nego a history))
  ready-history history marking a below leads =
      ready-run nego (steps_of history) marking a below leads ∙ ap (ready_behind nego a (nego.first ∷ [])) (sym (own_entries-steps nego a history))

  -- a history that leaves the final marking is a complete run that joins the start to the last data
  pub Runs-history : (history : List Entry) (n f : ℕ) → IsHistory nego relation start history → leaves nego (opening_marking nego) (steps_of history) ≡ Some (final_marking nego) → EndsWith (steps_of history) (n, f) →
      Runs nego relation f start (joint_after start history)
  Runs-history history n f h complete ends = record {
    run = steps_of history;
    complete = complete;
    ends = (n, ends);
    joins = Joins-entries relation start history h.related;
  }

module _ (nego : Negotiation) (sizes : List ℕ) (relation : Relation) (local : IsLocal nego sizes relation) where
  -- the data after entries that occur are joint data
  pub joint_after-below : (entries : List Entry) (d : ℕ) (from to : PlainMarking) → d < data_count sizes → leaves nego from (steps_of entries) ≡ Some to → AreRelated relation d entries → joint_after d entries < data_count sizes
  joint_after-below [] d from to below e h = below
  joint_after-below (entry ∷ entries) d from to below e h =
      let k = leaves-first nego from entry.step (steps_of entries) to e in
      joint_after-below entries entry.joint k.0 to ((local entry.step.0 entry.step.1 (after-outcome nego from entry.step k.0 k.1)).stays d entry.joint below h.0) k.2 h.1

  -- what agrees on agents before, agrees on them after the same entries
  AgreeOn-after : (agents : List ℕ) (d d' : ℕ) (entries : List Entry) → AgreeOn sizes agents d d' → AgreeOn sizes agents (joint_after d entries) (joint_after d' entries)
  AgreeOn-after agents d d' [] same = same
  AgreeOn-after agents d d' (entry ∷ entries) same = λ k fits own. refl

  AgreeOn-through : (agents : List ℕ) (d c e : ℕ) → AgreeOn sizes agents d c → AgreeOn sizes agents c e → AgreeOn sizes agents d e
  AgreeOn-through agents d c e h h' k fits own = h k fits own ∙ h' k fits own

  -- an agent's values after entries that occur are those after its own entries
  pub own_values : (a : ℕ) (entries : List Entry) (d : ℕ) (from to : PlainMarking) → d < data_count sizes → leaves nego from (steps_of entries) ≡ Some to → AreRelated relation d entries →
      AgreeOn sizes (a ∷ []) (joint_after d entries) (joint_after d (own_entries nego a entries))
  own_values a [] d from to below e h = λ k fits own. refl
  own_values a (entry ∷ entries) d from to below e h =
      let k = leaves-first nego from entry.step (steps_of entries) to e in
      let acts = local entry.step.0 entry.step.1 (after-outcome nego from entry.step k.0 k.1) in
      let rest = own_values a entries entry.joint k.0 to (acts.stays d entry.joint below h.0) k.2 h.1 in
      let P : List Entry → Type 0 = λ own. AgreeOn sizes (a ∷ []) (joint_after entry.joint entries) (joint_after d own) in
      ⊎_elim
      (λ party. subst P (sym (own_entries-party nego a entry entries party)) rest)
      (λ other.
      let kept : AgreeOn sizes (a ∷ []) entry.joint d =
      λ p fits own. sym (acts.changes d entry.joint below h.0 p fits (λ party. other (subst (λ b. IsTrue (is_in b (nego.parties entry.step.0))) (is_in_single (owner_of p) a own) party))) in
      subst P (sym (own_entries-other nego a entry entries other))
      (AgreeOn-through (a ∷ []) (joint_after entry.joint entries) (joint_after entry.joint (own_entries nego a entries)) (joint_after d (own_entries nego a entries)) rest
      (AgreeOn-after (a ∷ []) entry.joint d (own_entries nego a entries) kept)))
      (in_or_not a (nego.parties entry.step.0))
