-- Who waits for whom: in a sound deterministic negotiation, of which nothing iterates, an atom that may not be swept has an edge
-- from one of whose parties it has others.
use Rattle.std.proofs.Common.{◌≡◌, ◌≢◌, ◌⊎◌, inl, inr, ⊎_elim, ℕ, ◌<◌, List, [], ◌∷◌, length, Some, IsTrue, refl, sym, subst, ap, ◌∙◌, arith}
use Rattle.std.proofs.lemmas.Bool.{cases_eq}
use Rattle.std.proofs.lemmas.Option.{same_Some}
use Rattle.nego_base.specs.Members.{is_in}
use Rattle.nego_base.proofs.Members.{in_or_not, is_in-cases, is_in_none, is_in-head, is_in-tail, is_in_single, rising-single, some_member}
use Rattle.nego_model.specs.Negotiation.{Negotiation, IsNegotiation, IsDeterministic, IsOutcome}
use Rattle.nego_model.specs.Occurring.{PlainMarking, Occurrence, ready, moved, enables, after, leaves, opening_marking, final_marking, IsSound}
use Rattle.nego_model.specs.Acyclic.{IsEdge}
use Rattle.nego_model.specs.Reduced.{HasOne, Enters, IteratesNone, IsSweepable}
use Rattle.nego_model.proofs.occurrence.Markings.{ready-replicate, enables-party}
use Rattle.nego_model.proofs.occurrence.Steps.{after-some, after-outcome, after_from, leaves-first}
use Rattle.nego_model.proofs.occurrence.Reached.{Leads-itself}
use Rattle.nego_model.proofs.occurrence.Proper.{ready_alone}
use Rattle.nego_model.proofs.occurrence.ReachedMarkings.{IsReached, ready-after_party, ready-after_other, reached-after, reached-below, reached-single, reached-proper}
use Rattle.nego_model.proofs.occurrence.Ways.{sound_leads}

-- each item of a list has P, or Q holds
pub all_or : (P : ℕ → Type 0) (Q : Type 0) (xs : List ℕ) → ((x : ℕ) → IsTrue (is_in x xs) → P x ⊎ Q) → ((x : ℕ) → IsTrue (is_in x xs) → P x) ⊎ Q
all_or P Q [] h = inl (λ x m. absurd (is_in_none x [] refl m))
all_or P Q (y ∷ ys) h =
    ⊎_elim
    (λ p. ⊎_elim (λ rest. inl (λ x m. ⊎_elim (λ e. subst P (sym e) p) (λ later. rest x later) (is_in-cases x y ys m))) (λ q. inr q) (all_or P Q ys (λ x m. h x (is_in-tail x y ys m))))
    (λ q. inr q)
    (h y (is_in-head y ys))

-- An edge leads from an atom to another, which has a party that the one doesn't have.
pub record Link (nego : Negotiation) (m n : ℕ) : Type 0 where
  pub edge : IsEdge nego m n
  pub party : ℕ
  pub own : IsTrue (is_in party (nego.parties n))
  pub stranger : ¬ IsTrue (is_in party (nego.parties m))

module _ (nego : Negotiation) (ok : IsNegotiation nego) (single : IsDeterministic nego) (n : ℕ) where
  -- who isn't ready for the atom, and comes to be, is sent there by another one
  arrives : (b : ℕ) → b < nego.agents → (steps : List Occurrence) (from to : PlainMarking) → IsReached nego from → ¬ IsTrue (is_in n (ready from b)) → leaves nego from steps ≡ Some to → IsTrue (is_in n (ready to b)) →
      (m : ℕ) × (m ≢ n) × IsEdge nego m n
  arrives b below [] from to reached away e at = absurd (away (subst (λ m. IsTrue (is_in n (ready m b))) (sym (same_Some from to e)) at))
  arrives b below (step ∷ steps) from to reached away e at =
      let k = leaves-first nego from step steps to e in
      let there = reached-below nego from b reached below in
      let behind = reached-after nego from k.0 step reached k.1 in
      ⊎_elim
      (λ party.
      let now = ready-after_party nego from k.0 step b there k.1 party in
      ⊎_elim
      (λ sent.
      let enabled = (after-some nego from step k.0 k.1).0 in
      (step.0, λ same. away (subst (λ m. IsTrue (is_in m (ready from b))) same (enables-party nego from step.0 b enabled party)), record { outcome = step.1; agent = b; own = after-outcome nego from step k.0 k.1; leads = sent }))
      (λ elsewhere. arrives b below steps k.0 to behind (λ h. elsewhere (subst (λ xs. IsTrue (is_in n xs)) now h)) k.2 at)
      (in_or_not n (nego.next step.1 b)))
      (λ other. arrives b below steps k.0 to behind (λ h. away (subst (λ xs. IsTrue (is_in n xs)) (ready-after_other nego from k.0 step b there k.1 other) h)) k.2 at)
      (in_or_not b (nego.parties step.0))

  -- while one party waits for the atom, another is sent there by an atom in which the first has no part
  waits : (a b : ℕ) → a < nego.agents → b < nego.agents → IsTrue (is_in a (nego.parties n)) → IsTrue (is_in b (nego.parties n)) → (steps : List Occurrence) (from : PlainMarking) → IsReached nego from → IsTrue (is_in n (ready from a)) →
      ¬ IsTrue (is_in n (ready from b)) → leaves nego from steps ≡ Some (final_marking nego) → (m : ℕ) × Link nego m n
  waits a b below below' own own' [] from reached at away e =
      absurd (is_in_none n (ready from a) (ap (λ m. ready m a) (same_Some from (final_marking nego) e) ∙ ready-replicate nego.agents a [] below) at)
  waits a b below below' own own' (step ∷ steps) from reached at away e =
      let k = leaves-first nego from step steps (final_marking nego) e in
      let enabled = (after-some nego from step k.0 k.1).0 in
      let behind = reached-after nego from k.0 step reached k.1 in
      ⊎_elim
      (λ party.
      let same : step.0 ≡ n = reached-single nego single from reached a step.0 n below (enables-party nego from step.0 a enabled party) at in
      absurd (away (enables-party nego from n b (subst (λ m. IsTrue (enables nego from m)) same enabled) own')))
      (λ stranger.
      let still : IsTrue (is_in n (ready k.0 a)) = subst (λ xs. IsTrue (is_in n xs)) (sym (ready-after_other nego from k.0 step a (reached-below nego from a reached below) k.1 stranger)) at in
      ⊎_elim
      (λ party.
      let now = ready-after_party nego from k.0 step b (reached-below nego from b reached below') k.1 party in
      ⊎_elim
      (λ sent.
      (step.0, record { edge = record { outcome = step.1; agent = b; own = after-outcome nego from step k.0 k.1; leads = sent }; party = a; own = own; stranger = stranger }))
      (λ elsewhere. waits a b below below' own own' steps k.0 behind still (λ h. elsewhere (subst (λ xs. IsTrue (is_in n xs)) now h)) k.2)
      (in_or_not n (nego.next step.1 b)))
      (λ other.
      waits a b below below' own own' steps k.0 behind still
      (λ h. away (subst (λ xs. IsTrue (is_in n xs)) (ready-after_other nego from k.0 step b (reached-below nego from b reached below') k.1 other) h)) k.2)
      (in_or_not b (nego.parties step.0)))
      (in_or_not a (nego.parties step.0))

  module _ (sound : IsSound nego) where
    parted_from : (m o a b : ℕ) → IsOutcome nego m o → IsTrue (is_in n (nego.next o a)) → IsTrue (is_in a (nego.parties m)) → IsTrue (is_in b (nego.parties n)) → IsTrue (is_in b (nego.parties m)) → ¬ IsTrue (is_in n (nego.next o b)) →
        (start : PlainMarking) → IsReached nego start → IsTrue (enables nego start m) → (p : ℕ) × Link nego p n
    parted_from m o a b outcome at party own here away start reached enabled =
        let left : PlainMarking = moved 0 (nego.parties m) (nego.next o) start in
        let occurs : after nego start (m, o) ≡ Some left = after_from nego start (m, o) enabled outcome.1 in
        let there = reached-after nego start left (m, o) reached occurs in
        let way = sound_leads nego sound left there in
        let below = ok.party_below m a outcome.0 party in
        let below' = ok.party_below m b outcome.0 here in
        waits a b below below' (ok.next_party m o a n outcome at).1 own way.steps left there
        (subst (λ xs. IsTrue (is_in n xs)) (sym (ready-after_party nego start left (m, o) a (reached-below nego start a reached below) occurs party)) at)
        (λ h. away (subst (λ xs. IsTrue (is_in n xs)) (ready-after_party nego start left (m, o) b (reached-below nego start b reached below') occurs here) h)) way.leads

    -- where an outcome sends one party there and another elsewhere, the first waits
    parted : (m o a b : ℕ) → IsOutcome nego m o → IsTrue (is_in n (nego.next o a)) → IsTrue (is_in a (nego.parties m)) → IsTrue (is_in b (nego.parties n)) → IsTrue (is_in b (nego.parties m)) → ¬ IsTrue (is_in n (nego.next o b)) →
        (p : ℕ) × Link nego p n
    parted m o a b outcome at party own here away =
        let start = sound.alive m outcome.0 in
        parted_from m o a b outcome at party own here away start.marking (record { steps = start.run; leads = start.leads }) start.enabled

    -- an outcome that sends someone there enters it, or it is linked
    enters_or_linked : (m o a : ℕ) → IsOutcome nego m o → IsTrue (is_in n (nego.next o a)) → IsTrue (is_in a (nego.parties m)) → Enters nego m o n ⊎ ((p : ℕ) × Link nego p n)
    enters_or_linked m o a outcome at party =
        all_or (λ c. IsTrue (is_in c (nego.parties m)) × (nego.next o c ≡ n ∷ [])) ((p : ℕ) × Link nego p n) (nego.parties n) (λ c own.
        ⊎_elim
        (λ here.
        ⊎_elim
        (λ sent. inl (here, rising-single (nego.next o c) n (ok.next_rise m o c outcome) sent (λ q h. single m o c q n outcome h sent)))
        (λ elsewhere. inr (parted m o a c outcome at party own here elsewhere))
        (in_or_not n (nego.next o c)))
        (λ stranger. inr (m, record { edge = record { outcome = o; agent = a; own = outcome; leads = at }; party = c; own = own; stranger = stranger }))
        (in_or_not c (nego.parties m)))

    -- an outcome enters it where it sends someone there, or it is linked
    outcome_or_linked : (m o : ℕ) → IsOutcome nego m o → ((a : ℕ) → IsTrue (is_in n (nego.next o a)) → Enters nego m o n) ⊎ ((p : ℕ) × Link nego p n)
    outcome_or_linked m o outcome =
        ⊎_elim
        (λ all. inl (λ a at. ⊎_elim (λ party. all a party at) (λ none. absurd (is_in_none n (nego.next o a) none at)) (ok.strangers_stay m o a outcome)))
        (λ linked. inr linked)
        (all_or (λ a. IsTrue (is_in n (nego.next o a)) → Enters nego m o n) ((p : ℕ) × Link nego p n) (nego.parties m) (λ a party.
        ⊎_elim
        (λ at. ⊎_elim (λ enters. inl (λ h. enters)) (λ linked. inr linked) (enters_or_linked m o a outcome at party))
        (λ away. inl (λ at. absurd (away at)))
        (in_or_not n (nego.next o a))))

    -- all outcomes do, or it is linked
    all_enter_or_linked : ((m o a : ℕ) → IsOutcome nego m o → IsTrue (is_in n (nego.next o a)) → Enters nego m o n) ⊎ ((p : ℕ) × Link nego p n)
    all_enter_or_linked =
        ⊎_elim
        (λ all. inl (λ m o a outcome at. all m outcome.0 o outcome.1 a at))
        (λ linked. inr linked)
        (all_or (λ m. (o : ℕ) → IsTrue (is_in o (nego.outcomes m)) → (a : ℕ) → IsTrue (is_in n (nego.next o a)) → Enters nego m o n) ((p : ℕ) × Link nego p n) nego.atoms (λ m there.
        all_or (λ o. (a : ℕ) → IsTrue (is_in n (nego.next o a)) → Enters nego m o n) ((p : ℕ) × Link nego p n) (nego.outcomes m) (λ o own. outcome_or_linked m o (there, own))))

    -- an atom whose one outcome sends all parties back is never left
    never_left : (x a : ℕ) → IsTrue (is_in n nego.atoms) → IsTrue (is_in a (nego.parties n)) → HasOne nego n → IsTrue (is_in x (nego.outcomes n)) → nego.next x a ≡ n ∷ [] →
        (steps : List Occurrence) (from : PlainMarking) → IsReached nego from → ready from a ≡ n ∷ [] → leaves nego from steps ≡ Some (final_marking nego) → ⊥
    never_left x a there party one own back [] from reached at e =
        let below = ok.party_below n a there party in
        let none : n ∷ [] ≡ [] = sym at ∙ (ap (λ m. ready m a) (same_Some from (final_marking nego) e) ∙ ready-replicate nego.agents a [] below) in
        let lengths = ap length none in
        omega (arith, lengths)
    never_left x a there party one own back (step ∷ steps) from reached at e =
        let below = ok.party_below n a there party in
        let k = leaves-first nego from step steps (final_marking nego) e in
        let here = reached-below nego from a reached below in
        let outcome = after-outcome nego from step k.0 k.1 in
        let again : ready k.0 a ≡ n ∷ [] =
        ⊎_elim
        (λ takes.
        let same : step.0 ≡ n = is_in_single step.0 n (subst (λ xs. IsTrue (is_in step.0 xs)) at (enables-party nego from step.0 a (after-some nego from step k.0 k.1).0 takes)) in
        let is : step.1 ≡ x = one step.1 x (subst (λ m. IsTrue (is_in step.1 (nego.outcomes m))) same outcome.1) own in
        ready-after_party nego from k.0 step a here k.1 takes ∙ (ap (λ o. nego.next o a) is ∙ back))
        (λ other. ready-after_other nego from k.0 step a here k.1 other ∙ at)
        (in_or_not a (nego.parties step.0)) in
        never_left x a there party one own back steps k.0 (reached-after nego from k.0 step reached k.1) again k.2

    -- so where nothing iterates, no outcome enters its own atom
    no_return : IteratesNone nego → n ≢ nego.last → (x : ℕ) → IsOutcome nego n x → ¬ Enters nego n x n
    no_return iterates other x outcome enters =
        ⊎_elim
        (λ all.
        let agent = some_member (nego.parties n) (ok.some_party n outcome.0) in
        let start = sound.alive n outcome.0 in
        let reached : IsReached nego start.marking = record { steps = start.run; leads = start.leads } in
        let way = sound_leads nego sound start.marking reached in
        let below = ok.party_below n agent.0 outcome.0 agent.1 in
        let at : ready start.marking agent.0 ≡ n ∷ [] =
        ready_alone nego start.marking agent.0 n (reached-proper nego ok start.marking reached) (reached-single nego single start.marking reached) below (enables-party nego start.marking n agent.0 start.enabled agent.1) in
        never_left x agent.0 outcome.0 agent.1 (λ y z own own'. all y own ∙ sym (all z own')) outcome.1 (enters agent.0 agent.1).1 way.steps start.marking reached at way.leads)
        (λ more. iterates n x more.0 other outcome (outcome.0, more.1) (λ e. more.2 (sym e)) enters)
        (all_or (λ y. y ≡ x) ((y : ℕ) × IsTrue (is_in y (nego.outcomes n)) × (y ≢ x)) (nego.outcomes n) (λ y own. ⊎_elim (λ e. inl e) (λ differ. inr (y, own, differ)) (cases_eq y x)))

    -- an atom may be swept, or it is linked
    pub sweepable_or_linked : IteratesNone nego → IsTrue (is_in n nego.atoms) → n ≢ nego.first → n ≢ nego.last → IsSweepable nego n ⊎ ((p : ℕ) × Link nego p n)
    sweepable_or_linked iterates there not_first not_last =
        let start = sound.alive n there in
        let agent = some_member (nego.parties n) (ok.some_party n there) in
        let below = ok.party_below n agent.0 there agent.1 in
        ⊎_elim
        (λ all.
        inl (record {
          atom = there;
          not_first = not_first;
          not_last = not_last;
          none_back = λ edge. no_return iterates not_last edge.outcome edge.own (all n edge.outcome edge.agent edge.own edge.leads);
          from_another = arrives agent.0 below start.run (opening_marking nego) start.marking (Leads-itself nego (opening_marking nego))
              (λ h. not_first (is_in_single n nego.first (subst (λ xs. IsTrue (is_in n xs)) (ready-replicate nego.agents agent.0 (nego.first ∷ []) below) h))) start.leads
              (enables-party nego start.marking n agent.0 start.enabled agent.1);
          entered = λ m o a other outcome at. all m o a outcome at;
        }))
        (λ linked. inr linked)
        all_enter_or_linked
