-- A shortcut keeps soundness and what the runs relate, given that what is reached before it is reached behind it or n is
-- due, and that what is reached behind it is reached before it.
use Rattle.std.proofs.Common.{◌≡◌, ◌≢◌, ◌⊎◌, ◌↔◌, inl, inr, ⊎_elim, ℕ, ◌<◌, List, [], ◌∷◌, length, replicate, Some, IsTrue, refl, sym, subst, ap, ap₂, ◌∙◌, arith}
use Rattle.std.proofs.lemmas.Bool.{cases_eq, cases_lt, false_from_ne_true}
use Rattle.std.proofs.lemmas.Option.{same_Some}
use Rattle.std.proofs.lemmas.List.{get_or_past, length-replicate}
use Rattle.nego_base.specs.Members.{is_in}
use Rattle.nego_data.specs.Data.{data_count}
use Rattle.nego_model.specs.Negotiation.{Negotiation, IsNegotiation, IsDeterministic, IsOutcome}
use Rattle.nego_model.specs.Occurring.{PlainMarking, Occurrence, ready, moved, enables, after, leaves, opening_marking, final_marking, CanOccur, IsSound}
use Rattle.nego_model.specs.Joining.{Relation, Runs}
use Rattle.nego_model.specs.Locality.{IsLocal}
use Rattle.nego_model.specs.Reaching.{all_at_last, Reaches}
use Rattle.nego_base.proofs.Members.{is_in-head, is_in_none, is_in_single, some_member, in_or_not}
use Rattle.nego_model.proofs.occurrence.Markings.{ready-moved_party, ready-moved_other, ready-replicate, enables-party, enables_from}
use Rattle.nego_model.proofs.occurrence.Steps.{after-some, after_from, length-after, leaves-first, length-run}
use Rattle.nego_model.proofs.occurrence.Proper.{IsProper, IsSingle, opening-proper, opening-single, after-single, leaves-proper, leaves-single}
use Rattle.nego_model.proofs.occurrence.Commuting.{enables-below, enabled_behind, enabled_apart}
use Rattle.nego_model.proofs.occurrence.Reached.{Leads, Leads-itself, Leads_one, Leads_through, Leads-from_reaches, Reaches-from_leads}
use Rattle.nego_model.proofs.simulation.Simulations.{as-enabled}
use Rattle.nego_model.proofs.occurrence.Gathered.{all_ready-enabled}
use Rattle.nego_model.proofs.occurrence.Ways.{runs_pass_all_at_last, Runs-from_all_at_last, sound_leads, Sound_from_leads}
use Rattle.nego_shortcut.proofs.Shortens.{Shortens}
use Rattle.nego_shortcut.proofs.ShortReaches.{MayStart, ReachesForward, ReachesBackward}

-- ---- atoms that come to be enabled

-- The opening marking leads to one that enables the atom.
abbrev Comes : Negotiation → ℕ → Type 0
Comes nego p = (marking : PlainMarking) × Leads nego (opening_marking nego) marking × IsTrue (enables nego marking p)

-- Where the opening marking leads, the final one is led to.
abbrev Completes : Negotiation → Type 0
Completes nego = (marking : PlainMarking) → Leads nego (opening_marking nego) marking → Leads nego marking (final_marking nego)

-- where an agent is ready for an atom and isn't behind some steps, the atom is enabled on the way
enabled_on_way : (nego : Negotiation) → IsDeterministic nego → (a n : ℕ) → a < nego.agents → (steps : List Occurrence) (from to : PlainMarking) → length from ≡ nego.agents → IsSingle nego from →
    IsTrue (is_in n (ready from a)) → leaves nego from steps ≡ Some to → ¬ IsTrue (is_in n (ready to a)) → (between : PlainMarking) × Leads nego from between × IsTrue (enables nego between n)
enabled_on_way nego one a n below [] from to l single here e gone = absurd (gone (subst (λ m. IsTrue (is_in n (ready m a))) (same_Some from to e) here))
enabled_on_way nego one a n below (step ∷ steps) from to l single here e gone =
    let k = leaves-first nego from step steps to e in
    let s = after-some nego from step k.0 k.1 in
    ⊎_elim
    (λ p. (from, Leads-itself nego from, subst (λ i. IsTrue (enables nego from i)) (single a step.0 n below (enables-party nego from step.0 a s.0 p) here) s.0))
    (λ p.
    let same : ready k.0 a ≡ ready from a =
    subst (λ m. ready m a ≡ ready from a) s.2 (ready-moved_other (nego.parties step.0) (nego.next step.1) from a (subst (λ count. a < count) (sym l) below) p) in
    let h = enabled_on_way nego one a n below steps k.0 to (length-after nego from step k.0 k.1 ∙ l) (after-single nego one from k.0 step l single k.1)
    (subst (λ xs. IsTrue (is_in n xs)) (sym same) here) k.2 gone in
    (h.0, Leads_through nego from k.0 h.0 (Leads_one nego from k.0 step k.1) h.1, h.2))
    (in_or_not a (nego.parties step.0))

-- an atom to which an outcome leads comes to be enabled, where the outcome's atom does and all that is reached completes
comes_next : (nego : Negotiation) → IsNegotiation nego → IsDeterministic nego → Completes nego → (p q a n : ℕ) → IsOutcome nego p q → IsTrue (is_in n (nego.next q a)) → Comes nego p → Comes nego n
comes_next nego ok one completes p q a n outcome leads h = (way.0, Leads_through nego (opening_marking nego) left way.0 reached way.1, way.2)
  where
    party : IsTrue (is_in a (nego.parties p))
    party = ⊎_elim (λ k. k) (λ k. absurd (is_in_none n (nego.next q a) k leads)) (ok.strangers_stay p q a outcome)

    below : a < nego.agents
    below = ok.party_below p a outcome.0 party

    left : PlainMarking
    left = moved 0 (nego.parties p) (nego.next q) h.0

    reached : Leads nego (opening_marking nego) left
    reached = Leads_through nego (opening_marking nego) h.0 left h.1 (Leads_one nego h.0 left (p, q) (after_from nego h.0 (p, q) h.2 outcome.1))

    here : IsTrue (is_in n (ready left a))
    here = subst (λ xs. IsTrue (is_in n xs)) (sym (ready-moved_party (nego.parties p) (nego.next q) h.0 a (enables-below nego h.0 p a h.2 party) party)) leads

    done : Leads nego left (final_marking nego)
    done = completes left reached

    way : (between : PlainMarking) × Leads nego left between × IsTrue (enables nego between n)
    way = enabled_on_way nego one a n below done.steps left (final_marking nego) (length-run nego reached.steps left reached.leads)
        (leaves-single nego one (opening_marking nego) left reached.steps (length-replicate nego.agents (nego.first ∷ [])) (opening-single nego) reached.leads)
        here done.leads (is_in_none n (ready (final_marking nego) a) (ready-replicate nego.agents a [] below))

-- ---- what a shortcut leaves as it is

module _ (one two : Negotiation) (relation relation' : Relation) (m n o : ℕ) (behind : ℕ → ℕ) (short : Shortens one two relation relation' m n o behind) (ok : IsNegotiation one) where
  same_opening : opening_marking one ≡ opening_marking two
  same_opening = ap₂ (λ count p. replicate count (p ∷ [])) short.agents short.first

  same_final : final_marking one ≡ final_marking two
  same_final = ap (λ count. replicate count []) short.agents

  same_all_at_last : all_at_last one ≡ all_at_last two
  same_all_at_last = ap₂ (λ count p. replicate count (p ∷ [])) short.agents short.last

  -- at the beginning nobody is ready for n
  may_open : MayStart two n (opening_marking one)
  may_open = inr (λ a. false_from_ne_true (is_in n (ready (opening_marking one) a)) (λ h.
      ⊎_elim
      (λ l.
      let below : a < one.agents = subst (λ count. a < count) (length-replicate one.agents (one.first ∷ [])) l in
      short.not_first (is_in_single n one.first (subst (λ xs. IsTrue (is_in n xs)) (ready-replicate one.agents a (one.first ∷ []) below) h)))
      (λ l. is_in_none n (ready (opening_marking one) a) (get_or_past (opening_marking one) a [] l) h)
      (cases_lt a (length (opening_marking one)))))

  -- m isn't the last atom, as o sends someone to n
  enters_before_last : m ≢ one.last
  enters_before_last e =
      let p = some_member (one.parties n) (ok.some_party n short.atom) in
      let none : n ∷ [] ≡ [] = sym (short.enters p.0 p.1) ∙ ok.last_ends o p.0 (subst (λ q. IsOutcome one q o) e short.own) in
      cc

  last_left : IsTrue (is_in one.last two.atoms)
  last_left = short.atoms_kept one.last ok.last_there (λ e. short.not_last (sym e))

  -- the last atom keeps its outcomes, and they relate what they did
  final_other : (f : ℕ) → IsOutcome one one.last f → f ≢ o
  final_other f h e = enters_before_last (ok.one_atom m one.last o short.own (subst (IsOutcome one one.last) e h))

  final_kept : (f : ℕ) → IsOutcome one one.last f → IsOutcome two two.last f
  final_kept f h = subst (λ p. IsOutcome two p f) short.last (short.kept one.last f h (final_other f h) last_left)

  final_back : (f : ℕ) → IsOutcome two two.last f → IsOutcome one one.last f
  final_back f h = ⊎_elim (λ k. k.0) (λ k. absurd (enters_before_last (sym k.0))) (short.only one.last f (subst (λ p. IsOutcome two p f) (sym short.last) h))

  final_related : (f d e : ℕ) → IsOutcome one one.last f → relation f d e ↔ relation' f d e
  final_related f d e h = short.same one.last f d e h (final_other f h) last_left

  -- ---- complete runs

  -- The complete runs relate the same.
  pub short_runs : IsNegotiation two → IsDeterministic one → IsDeterministic two → (sizes : List ℕ) → ReachesForward one two relation relation' n sizes → ReachesBackward one two relation relation' n →
      (f d e : ℕ) → d < data_count sizes → Runs one relation f d e ↔ Runs two relation' f d e
  short_runs ok' single single' sizes forward backward f d e below = (there, back)
    where
      way : (c : ℕ) → Reaches one relation (opening_marking one) d (all_at_last one) c → Reaches two relation' (opening_marking two) d (all_at_last two) c
      way c h = ⊎_elim
          (λ r. subst (λ to. Reaches two relation' (opening_marking two) d to c) same_all_at_last (subst (λ from. Reaches two relation' from d (all_at_last one) c) same_opening r))
          (λ due. absurd (short.not_last (is_in_single n one.last (all_ready-enabled one ok (one.last ∷ []) n due.enabled))))
          (forward (opening_marking one) d (all_at_last one) c (opening-proper one ok) (opening-single one) may_open below h)

      way_back : (c : ℕ) → Reaches two relation' (opening_marking two) d (all_at_last two) c → Reaches one relation (opening_marking one) d (all_at_last one) c
      way_back c h = (backward (opening_marking one) d (all_at_last one) c (opening-proper one ok) may_open
          (subst (λ to. Reaches two relation' (opening_marking one) d to c) (sym same_all_at_last) (subst (λ from. Reaches two relation' from d (all_at_last two) c) (sym same_opening) h))).0

      there : Runs one relation f d e → Runs two relation' f d e
      there h =
          let k = runs_pass_all_at_last one relation f d e ok single h in
          Runs-from_all_at_last two relation' f d e ok' (record {
            before = k.before;
            way = way k.before k.way;
            last = (final_related f k.before e k.outcome).0 k.last;
            outcome = final_kept f k.outcome;
          })

      back : Runs two relation' f d e → Runs one relation f d e
      back h =
          let k = runs_pass_all_at_last two relation' f d e ok' single' h in
          let outcome = final_back f k.outcome in
          Runs-from_all_at_last one relation f d e ok (record {
            before = k.before;
            way = way_back k.before k.way;
            last = (final_related f k.before e outcome).1 k.last;
            outcome = outcome;
          })

-- ---- without data

-- what outcomes relate where there are no agents' values: the one datum to itself
abbrev pub Full : Relation
Full o d e = e ≡ 0

pub Full-local : (nego : Negotiation) → IsLocal nego [] Full
Full-local nego n o outcome = record {
  stays = λ d e l h. let below : e < 1 = omega (arith, h) in below;
  changes = λ d e l h a k p. absurd (let k' : a < 0 = k in let no_more : ⊥ = omega (arith, k') in no_more);
  reads = λ d e d' e' l h l' k on on' off. let k' : e' < 1 = k in let zero_alone : e' ≡ 0 = omega (arith, k') in zero_alone;
}

-- a shortcut is one without data
pub Shortens-full : (one two : Negotiation) (relation relation' : Relation) (m n o : ℕ) (behind : ℕ → ℕ) → Shortens one two relation relation' m n o behind → Shortens one two Full Full m n o behind
Shortens-full one two relation relation' m n o behind short = record {
  agents = short.agents;
  first = short.first;
  last = short.last;
  own = short.own;
  atom = short.atom;
  apart = short.apart;
  not_first = short.not_first;
  not_last = short.not_last;
  within = short.within;
  enters = short.enters;
  atoms_kept = short.atoms_kept;
  atoms_only = short.atoms_only;
  parties = short.parties;
  gone = short.gone;
  stays = short.stays;
  kept = short.kept;
  made = short.made;
  only = short.only;
  next = short.next;
  next_behind = short.next_behind;
  same = λ p q d e h k l. (λ r. r, λ r. r);
  composed = λ x d e h. (λ r. (0, refl, r), λ r. r.2);
}

-- ---- soundness

module _ (one two : Negotiation) (relation relation' : Relation) (m n o : ℕ) (behind : ℕ → ℕ) (short : Shortens one two relation relation' m n o behind)
    (ok : IsNegotiation one) (ok' : IsNegotiation two) (single : IsDeterministic one) (single' : IsDeterministic two) (forward : ReachesForward one two Full Full n []) (backward : ReachesBackward one two Full Full n) where
  opens_alike : opening_marking one ≡ opening_marking two
  opens_alike = same_opening one two relation relation' m n o behind short ok

  ends_alike : final_marking one ≡ final_marking two
  ends_alike = same_final one two relation relation' m n o behind short ok

  opens : MayStart two n (opening_marking one)
  opens = may_open one two relation relation' m n o behind short ok

  -- ---- where occurrences lead

  reached-proper : (to : PlainMarking) → Leads one (opening_marking one) to → IsProper one to
  reached-proper to h = leaves-proper one ok (opening_marking one) to h.steps (opening-proper one ok) h.leads

  reached-single : (to : PlainMarking) → Leads one (opening_marking one) to → IsSingle one to
  reached-single to h = leaves-single one single (opening_marking one) to h.steps (length-replicate one.agents (one.first ∷ [])) (opening-single one) h.leads

  -- n is enabled, and to what an outcome of it leaves, the second negotiation leads
  abbrev Due : PlainMarking → PlainMarking → Type 0
  Due from to = IsTrue (enables one to n) × ((x : ℕ) (left : PlainMarking) → after one to (n, x) ≡ Some left → Leads two from left)

  leads_forward : (from to : PlainMarking) → IsProper one from → IsSingle one from → MayStart two n from → Leads one from to → Leads two from to ⊎ Due from to
  leads_forward from to p s may h = ⊎_elim
      (λ r. inl (Leads-from_reaches two Full from 0 to 0 r))
      (λ due. inr (due.enabled, λ x left e. Leads-from_reaches two Full from 0 left 0 (due.follows x left 0 e refl)))
      (forward from 0 to 0 p s may (omega arith) (Reaches-from_leads one Full from to 0 (λ x. refl) h))

  leads_backward : (from to : PlainMarking) → IsProper one from → MayStart two n from → Leads two from to → Leads one from to × MayStart two n to
  leads_backward from to p may h =
      let k = backward from 0 to 0 p may (Reaches-from_leads two Full from to 0 (λ x. refl) h) in
      (Leads-from_reaches one Full from 0 to 0 k.0, k.1)

  -- the same from the opening marking
  opening_forward : (to : PlainMarking) → Leads one (opening_marking one) to → Leads two (opening_marking two) to ⊎ Due (opening_marking two) to
  opening_forward to h =
      subst (λ from. Leads two from to ⊎ Due from to) opens_alike
      (leads_forward (opening_marking one) to (opening-proper one ok) (opening-single one) opens h)

  opening_backward : (to : PlainMarking) → Leads two (opening_marking two) to → Leads one (opening_marking one) to × MayStart two n to
  opening_backward to h =
      leads_backward (opening_marking one) to (opening-proper one ok) opens (subst (λ from. Leads two from to) (sym opens_alike) h)

  -- an outcome of n, and what it leaves
  chosen : (x : ℕ) × IsTrue (is_in x (one.outcomes n))
  chosen = some_member (one.outcomes n) (ok.some_outcome n short.atom)

  abbrev left_by : PlainMarking → PlainMarking
  left_by marking = moved 0 (one.parties n) (one.next chosen.0) marking

  leaves_n : (marking : PlainMarking) → IsTrue (enables one marking n) → after one marking (n, chosen.0) ≡ Some (left_by marking)
  leaves_n marking h = after_from one marking (n, chosen.0) h chosen.1

  -- ---- behind the shortcut

  completes_behind : IsSound one → Completes two
  completes_behind sound to h =
      let k = opening_backward to h in
      subst (Leads two to) ends_alike
      (⊎_elim
      (λ r. r)
      (λ due. absurd (is_in_none n [] refl (all_ready-enabled one ok [] n due.0)))
      (leads_forward to (final_marking one) (reached-proper to k.0) (reached-single to k.0) k.1 (sound_leads one sound to k.0)))

  comes_other : IsSound one → (p : ℕ) → IsTrue (is_in p two.atoms) → p ≢ n → Comes two p
  comes_other sound p there other = ⊎_elim
      (λ r. (marking, r, as-enabled one two marking p h.enabled there (short.parties p there)))
      (λ due. (
        left_by marking,
        due.1 chosen.0 (left_by marking) (leaves_n marking due.0),
        as-enabled one two (left_by marking) p
            (enabled_behind one marking p (one.parties n) (one.next chosen.0) h.enabled (enabled_apart one ok marking n p (reached-single marking way) due.0 h.enabled (λ e. other (sym e))))
            there (short.parties p there),
      ))
      (opening_forward marking way)
    where
      h : CanOccur one p
      h = sound.alive p (short.atoms_only p there)

      marking : PlainMarking
      marking = h.marking

      way : Leads one (opening_marking one) marking
      way = record { steps = h.run; leads = h.leads }

  -- n is entered from an atom that comes to be enabled
  comes_entered : IsSound one → IsTrue (is_in n two.atoms) → Comes two n
  comes_entered sound there =
      let s = short.stays there in
      comes_next two ok' single' (completes_behind sound) s.0 s.1 s.2 n s.4 s.5 (comes_other sound s.0 s.4.0 s.3)

  sound_behind : IsSound one → IsSound two
  sound_behind sound = Sound_from_leads two alive (completes_behind sound)
    where
      alive : (p : ℕ) → IsTrue (is_in p two.atoms) → Comes two p
      alive p there = ⊎_elim
          (λ e. subst (Comes two) (sym e) (comes_entered sound (subst (λ q. IsTrue (is_in q two.atoms)) e there)))
          (λ other. comes_other sound p there other)
          (cases_eq p n)

  -- ---- before the shortcut

  -- from what the second negotiation reaches, the first completes
  completes_reached : IsSound two → (to : PlainMarking) → Leads two (opening_marking two) to → Leads one to (final_marking one)
  completes_reached sound to h =
      let k = opening_backward to h in
      (leads_backward to (final_marking one) (reached-proper to k.0) k.1 (subst (Leads two to) (sym ends_alike) (sound_leads two sound to h))).0

  completes_before : IsSound two → Completes one
  completes_before sound to h = ⊎_elim
      (λ r. completes_reached sound to r)
      (λ due.
      Leads_through one to (left_by to) (final_marking one) (Leads_one one to (left_by to) (n, chosen.0) (leaves_n to due.0))
      (completes_reached sound (left_by to) (due.1 chosen.0 (left_by to) (leaves_n to due.0))))
      (opening_forward to h)

  comes_kept : IsSound two → (p : ℕ) → IsTrue (is_in p one.atoms) → p ≢ n → Comes one p
  comes_kept sound p there other =
      let kept = short.atoms_kept p there other in
      let h = sound.alive p kept in
      (h.marking, (opening_backward h.marking (record { steps = h.run; leads = h.leads })).0, as-enabled two one h.marking p h.enabled there (sym (short.parties p kept)))

  -- n is enabled behind o
  comes_behind_o : IsSound two → Comes one n
  comes_behind_o sound = (
    left,
    Leads_through one (opening_marking one) h.0 left h.1 (Leads_one one h.0 left (m, o) (after_from one h.0 (m, o) h.2 short.own.1)),
    enables_from one left n short.atom (λ a p.
        let q = short.within a p in
        subst (λ xs. IsTrue (is_in n xs)) (sym (ready-moved_party (one.parties m) (one.next o) h.0 a (enables-below one h.0 m a h.2 q) q ∙ short.enters a p)) (is_in-head n [])),
  )
    where
      h : Comes one m
      h = comes_kept sound m short.own.0 short.apart

      left : PlainMarking
      left = moved 0 (one.parties m) (one.next o) h.0

  sound_before : IsSound two → IsSound one
  sound_before sound = Sound_from_leads one alive (completes_before sound)
    where
      alive : (p : ℕ) → IsTrue (is_in p one.atoms) → Comes one p
      alive p there = ⊎_elim
          (λ e. subst (Comes one) (sym e) (comes_behind_o sound))
          (λ other. comes_kept sound p there other)
          (cases_eq p n)

  -- Both are sound or neither is.
  pub short_sound : IsSound one ↔ IsSound two
  short_sound = (sound_behind, sound_before)
