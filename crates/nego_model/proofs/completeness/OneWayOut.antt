-- In a sound deterministic negotiation, cyclic ones too, two outcomes of an atom that enter no atom send alike.
use Rattle.std.proofs.Common.{◌≡◌, ⊎_elim, ℕ, ◌<◌, List, [], ◌∷◌, ◌++◌, length, Some, IsTrue, refl, sym, subst, ap, ◌∙◌, arith, append_assoc, append-nil, length-append}
use Rattle.nego_base.specs.Members.{is_in}
use Rattle.nego_base.proofs.Members.{in_or_not, is_in-cases, is_in_none, is_in-head, is_in-tail, is_in_single}
use Rattle.nego_base.proofs.ListLaws.{last_item}
use Rattle.nego_model.specs.Negotiation.{Negotiation, IsNegotiation, IsDeterministic, IsOutcome}
use Rattle.nego_model.specs.Occurring.{PlainMarking, Occurrence, ready, moved, after, leaves, final_marking, IsSound, CanOccur}
use Rattle.nego_model.specs.Projection.{projection}
use Rattle.nego_model.specs.Reduced.{SendAlike, EntersNone}
use Rattle.nego_model.specs.Policy.{Policy, IsCompletedBy}
use Rattle.nego_model.proofs.occurrence.Markings.{enables-atom}
use Rattle.nego_model.proofs.occurrence.Steps.{after-some, after_from, leaves_between, leaves-first}
use Rattle.nego_model.proofs.occurrence.ReachedMarkings.{IsReached, ready-after_party, ready-after_other, reached-after, reached-below}
use Rattle.nego_model.proofs.completeness.Paths.{atoms_of, among_atoms, IsPath, path-unique, path_goes_on, path-seen, projection_at, seen_among, seen_occurs}
use Rattle.nego_model.proofs.completeness.Policies.{completed}
use Rattle.nego_model.proofs.completeness.Nearest.{nearest}

-- One outcome of an atom, and another: a marking that enables the atom, and chosen occurrences behind each to the final
-- marking.
record TwoWays (nego : Negotiation) (choice : ℕ → ℕ) (n x y : ℕ) : Type 0 where
  start : PlainMarking
  reached : IsReached nego start
  one : PlainMarking
  two : PlainMarking
  after_one : after nego start (n, x) ≡ Some one
  after_two : after nego start (n, y) ≡ Some two
  behind_one : List Occurrence
  behind_two : List Occurrence
  ends_one : IsCompletedBy nego choice one behind_one
  ends_two : IsCompletedBy nego choice two behind_two

abbrev TwoWays-turned : (nego : Negotiation) (choice : ℕ → ℕ) (n x y : ℕ) → TwoWays nego choice n x y → TwoWays nego choice n y x
TwoWays-turned nego choice n x y ways = record {
  start = ways.start;
  reached = ways.reached;
  one = ways.two;
  two = ways.one;
  after_one = ways.after_two;
  after_two = ways.after_one;
  behind_one = ways.behind_two;
  behind_two = ways.behind_one;
  ends_one = ways.ends_two;
  ends_two = ways.ends_one;
}

module _ (nego : Negotiation) (ok : IsNegotiation nego) (single : IsDeterministic nego) (sound : IsSound nego) (policy : Policy nego) (n x y : ℕ) (first : IsOutcome nego n x) (second : IsOutcome nego n y) where
  abbrev start : CanOccur nego n
  start = sound.alive n first.0

  abbrev behind : ℕ → PlainMarking
  behind o = moved 0 (nego.parties n) (nego.next o) start.marking

  occurs : (o : ℕ) → IsOutcome nego n o → after nego start.marking (n, o) ≡ Some (behind o)
  occurs o h = after_from nego start.marking (n, o) start.enabled h.1

  reached-start : IsReached nego start.marking
  reached-start = record { steps = start.run; leads = start.leads }

  ends : (o : ℕ) → IsOutcome nego n o → (steps : List Occurrence) × IsCompletedBy nego policy.choice (behind o) steps
  ends o h = completed nego ok single policy sound (behind o) (reached-after nego start.marking (behind o) (n, o) reached-start (occurs o h))

  -- a sound negotiation has them, by a policy
  two_ways : TwoWays nego policy.choice n x y
  two_ways = record {
    start = start.marking;
    reached = reached-start;
    one = behind x;
    two = behind y;
    after_one = occurs x first;
    after_two = occurs y second;
    behind_one = (ends x first).0;
    behind_two = (ends y second).0;
    ends_one = (ends x first).1;
    ends_two = (ends y second).1;
  }

module _ (nego : Negotiation) (ok : IsNegotiation nego) (single : IsDeterministic nego) (choice : ℕ → ℕ) (n x y : ℕ) (ways : TwoWays nego choice n x y) where
  reached-one : IsReached nego ways.one
  reached-one = reached-after nego ways.start ways.one (n, x) ways.reached ways.after_one

  reached-two : IsReached nego ways.two
  reached-two = reached-after nego ways.start ways.two (n, y) ways.reached ways.after_two

  -- what an agent sees behind each outcome
  path-one : (c : ℕ) → c < nego.agents → IsPath nego choice c (ready ways.one c) (projection nego c ways.behind_one)
  path-one c below = path-seen nego ok single choice c below ways.behind_one ways.one reached-one ways.ends_one

  path-two : (c : ℕ) → c < nego.agents → IsPath nego choice c (ready ways.two c) (projection nego c ways.behind_two)
  path-two c below = path-seen nego ok single choice c below ways.behind_two ways.two reached-two ways.ends_two

  -- a party is ready for its next atoms, and everyone else for the same after both
  ready-one : (c : ℕ) → c < nego.agents → IsTrue (is_in c (nego.parties n)) → ready ways.one c ≡ nego.next x c
  ready-one c below party = ready-after_party nego ways.start ways.one (n, x) c (reached-below nego ways.start c ways.reached below) ways.after_one party

  ready-others : (c : ℕ) → c < nego.agents → ¬ IsTrue (is_in c (nego.parties n)) → ready ways.one c ≡ ready ways.two c
  ready-others c below other =
      let there = reached-below nego ways.start c ways.reached below in
      ready-after_other nego ways.start ways.one (n, x) c there ways.after_one other ∙ sym (ready-after_other nego ways.start ways.two (n, y) c there ways.after_two other)

  -- An occurrence behind the one outcome, where what is before it occurs behind the other too.
  module _ (front : List Occurrence) (step : Occurrence) (rest : List Occurrence) (is : ways.behind_one ≡ front ++ step ∷ rest) (so_far : (q : ℕ) → IsTrue (is_in q (atoms_of front)) → IsTrue (is_in q (atoms_of ways.behind_two)))
      (absent : ¬ IsTrue (is_in step.0 (atoms_of ways.behind_two))) where
    step_there : IsTrue (is_in step.0 nego.atoms)
    step_there =
        let k = leaves_between nego ways.one front (step ∷ rest) (final_marking nego) (subst (λ steps. leaves nego ways.one steps ≡ Some (final_marking nego)) is ways.ends_one.ends) in
        let m = leaves-first nego k.0 step rest (final_marking nego) k.2 in
        enables-atom nego k.0 step.0 (after-some nego k.0 step m.0 m.1).0

    module _ (c : ℕ) (party : IsTrue (is_in c (nego.parties step.0))) where
      below : c < nego.agents
      below = ok.party_below step.0 c step_there party

      seen_one : projection nego c ways.behind_one ≡ projection nego c front ++ step ∷ projection nego c rest
      seen_one = ap (projection nego c) is ∙ projection_at nego c front step rest party

      path : IsPath nego choice c (ready ways.one c) (projection nego c front ++ step ∷ projection nego c rest)
      path = subst (IsPath nego choice c (ready ways.one c)) seen_one (path-one c below)

      -- who sees it behind the one, and not behind the other, has not come from an atom that occurs behind both
      not_from_both : (u : List Occurrence) (q : Occurrence) → projection nego c front ≡ u ++ q ∷ [] → ⊥
      not_from_both u q ends = absent (seen_occurs nego c step.0 ways.behind_two (subst (λ steps. IsTrue (is_in step.0 (atoms_of steps))) (sym goes.1) (among_atoms-behind goes.0 q step (projection nego c rest)))).1
        where
          joined : projection nego c front ++ step ∷ projection nego c rest ≡ u ++ q ∷ step ∷ projection nego c rest
          joined = ap (λ steps. steps ++ step ∷ projection nego c rest) ends ∙ append_assoc u (q ∷ []) (step ∷ projection nego c rest)

          of_front : IsTrue (is_in c (nego.parties q.0)) × IsTrue (is_in q.0 (atoms_of front))
          of_front = seen_occurs nego c q.0 front (subst (λ steps. IsTrue (is_in q.0 (atoms_of steps))) (sym ends) (among_atoms u q []))

          goes : (front' : List Occurrence) × (projection nego c ways.behind_two ≡ front' ++ q ∷ step ∷ projection nego c rest)
          goes = path_goes_on nego choice c (ready ways.one c) (ready ways.two c) u q (step ∷ projection nego c rest) (projection nego c ways.behind_two) (subst (IsPath nego choice c (ready ways.one c)) joined path) (path-two c below)
              (seen_among nego c q.0 ways.behind_two of_front.0 (so_far q.0 of_front.1))

          among_atoms-behind : (front' : List Occurrence) (q' step' : Occurrence) (rest' : List Occurrence) → IsTrue (is_in step'.0 (atoms_of (front' ++ q' ∷ step' ∷ rest')))
          among_atoms-behind front' q' step' rest' = subst (λ steps. IsTrue (is_in step'.0 (atoms_of steps))) (append_assoc front' (q' ∷ []) (step' ∷ rest')) (among_atoms (front' ++ q' ∷ []) step' rest')

      -- so it is sent there by the one outcome
      directly : ready ways.one c ≡ step.0 ∷ []
      directly = ⊎_elim
          (λ none. let first : IsPath nego choice c (ready ways.one c) (step ∷ projection nego c rest) = subst (λ before. IsPath nego choice c (ready ways.one c) (before ++ step ∷ projection nego c rest)) none path in first.0)
          (λ ends. absurd (not_from_both ends.0 ends.1 ends.2))
          (last_item (projection nego c front))

      -- and is a party of the atom
      sends : IsTrue (is_in c (nego.parties n)) × (nego.next x c ≡ step.0 ∷ [])
      sends = ⊎_elim
          (λ own. (own, sym (ready-one c below own) ∙ directly))
          (λ other.
          let same : projection nego c ways.behind_one ≡ projection nego c ways.behind_two =
          path-unique nego choice c (ready ways.one c) (projection nego c ways.behind_one) (projection nego c ways.behind_two) (path-one c below)
          (subst (λ here. IsPath nego choice c here (projection nego c ways.behind_two)) (sym (ready-others c below other)) (path-two c below)) in
          absurd (absent (seen_occurs nego c step.0 ways.behind_two
          (subst (λ steps. IsTrue (is_in step.0 (atoms_of steps))) (sym seen_one ∙ same) (among_atoms (projection nego c front) step (projection nego c rest)))).1))
          (in_or_not c (nego.parties n))

  -- where the one outcome enters no atom, what occurs behind it occurs behind the other
  occurs_behind_both : EntersNone nego n x → (p : ℕ) → IsTrue (is_in p (atoms_of ways.behind_one)) → IsTrue (is_in p (atoms_of ways.behind_two))
  occurs_behind_both none = go ways.behind_one [] refl (λ q h. absurd (is_in_none q [] refl h))
    where
      go : (rest front : List Occurrence) → ways.behind_one ≡ front ++ rest → ((q : ℕ) → IsTrue (is_in q (atoms_of front)) → IsTrue (is_in q (atoms_of ways.behind_two))) →
          (p : ℕ) → IsTrue (is_in p (atoms_of ways.behind_one)) → IsTrue (is_in p (atoms_of ways.behind_two))
      go [] front is so_far = λ p h. so_far p (subst (λ steps. IsTrue (is_in p (atoms_of steps))) (is ∙ append-nil front) h)
      go (step ∷ rest) front is so_far =
          let here : IsTrue (is_in step.0 (atoms_of ways.behind_two)) =
          ⊎_elim (λ h. h) (λ absent. absurd (none step.0 (step_there front step rest is so_far absent) (sends front step rest is so_far absent))) (in_or_not step.0 (atoms_of ways.behind_two)) in
          go rest (front ++ step ∷ []) (is ∙ sym (append_assoc front (step ∷ []) rest)) (λ q h. at_end front step so_far here q h)
        where
          at_end : (front' : List Occurrence) (step' : Occurrence) → ((q : ℕ) → IsTrue (is_in q (atoms_of front')) → IsTrue (is_in q (atoms_of ways.behind_two))) → IsTrue (is_in step'.0 (atoms_of ways.behind_two)) →
              (q : ℕ) → IsTrue (is_in q (atoms_of (front' ++ step' ∷ []))) → IsTrue (is_in q (atoms_of ways.behind_two))
          at_end [] step' before here q h = subst (λ m. IsTrue (is_in m (atoms_of ways.behind_two))) (sym (is_in_single q step'.0 h)) here
          at_end (first ∷ front') step' before here q h =
              ⊎_elim (λ e. before q (subst (λ m. IsTrue (is_in m (first.0 ∷ atoms_of front'))) (sym e) (is_in-head first.0 (atoms_of front'))))
              (λ later. at_end front' step' (λ r k. before r (is_in-tail r first.0 (atoms_of front') k)) here q later)
              (is_in-cases q first.0 (atoms_of (front' ++ step' ∷ [])) h)

  -- where what occurs behind the other occurs behind the one, an agent sees behind the one all that it sees behind the other
  sees_more : ((p : ℕ) → IsTrue (is_in p (atoms_of ways.behind_two)) → IsTrue (is_in p (atoms_of ways.behind_one))) → (a : ℕ) → a < nego.agents →
      (front : List Occurrence) × (projection nego a ways.behind_one ≡ front ++ projection nego a ways.behind_two)
  sees_more both a below = go (projection nego a ways.behind_two) refl
    where
      go : (seen : List Occurrence) → projection nego a ways.behind_two ≡ seen → (front : List Occurrence) × (projection nego a ways.behind_one ≡ front ++ projection nego a ways.behind_two)
      go [] is = (projection nego a ways.behind_one, sym (ap (λ steps. projection nego a ways.behind_one ++ steps) is ∙ append-nil (projection nego a ways.behind_one)))
      go (step ∷ seen) is =
          let own = seen_occurs nego a step.0 ways.behind_two (subst (λ steps. IsTrue (is_in step.0 (atoms_of steps))) (sym is) (is_in-head step.0 (atoms_of seen))) in
          let goes =
          path_goes_on nego choice a (ready ways.two a) (ready ways.one a) [] step seen (projection nego a ways.behind_one) (subst (IsPath nego choice a (ready ways.two a)) is (path-two a below)) (path-one a below)
          (seen_among nego a step.0 ways.behind_one own.0 (both step.0 own.1)) in
          (goes.0, goes.1 ∙ ap (λ steps. goes.0 ++ steps) (sym is))

-- who sees the same behind both was ready for the same
same_start : (nego : Negotiation) (choice : ℕ → ℕ) (a : ℕ) (here here' : List ℕ) (seen : List Occurrence) → IsPath nego choice a here seen → IsPath nego choice a here' seen → here ≡ here'
same_start nego choice a here here' [] h k = h ∙ sym k
same_start nego choice a here here' (step ∷ seen) h k = h.0 ∙ sym k.0

-- two lists, each of which ends with the other, are one
same_lists : {A : Type 0} (one two front front' : List A) → one ≡ front ++ two → two ≡ front' ++ one → one ≡ two
same_lists one two [] front' h k = h
same_lists one two (step ∷ front) front' h k =
    let l = ap length h in
    let l' = ap length k in
    let m = length-append front two in
    let m' = length-append front' one in
    absurd (omega (arith, l, l', m, m'))

ways_send_alike : (nego : Negotiation) → IsNegotiation nego → IsDeterministic nego → (choice : ℕ → ℕ) (n x y : ℕ) → TwoWays nego choice n x y → IsOutcome nego n x → EntersNone nego n x → EntersNone nego n y → SendAlike nego n x y
ways_send_alike nego ok single choice n x y ways first none_x none_y a party =
    let turned = TwoWays-turned nego choice n x y ways in
    let below : a < nego.agents = ok.party_below n a first.0 party in
    let more = sees_more nego ok single choice n x y ways (occurs_behind_both nego ok single choice n y x turned none_y) a below in
    let more' = sees_more nego ok single choice n y x turned (occurs_behind_both nego ok single choice n x y ways none_x) a below in
    let same = same_lists (projection nego a ways.behind_one) (projection nego a ways.behind_two) more.0 more'.0 more.1 more'.1 in
    sym (ready-one nego ok single choice n x y ways a below party)
    ∙ (same_start nego choice a (ready ways.one a) (ready ways.two a) (projection nego a ways.behind_one) (path-one nego ok single choice n x y ways a below)
    (subst (IsPath nego choice a (ready ways.two a)) (sym same) (path-two nego ok single choice n x y ways a below)) ∙ ready-one nego ok single choice n y x turned a below party)

-- Two outcomes of an atom that enter no atom send alike.
pub one_way_out : (nego : Negotiation) (n x y : ℕ) → IsNegotiation nego → IsDeterministic nego → IsSound nego → IsOutcome nego n x → IsOutcome nego n y → EntersNone nego n x → EntersNone nego n y → SendAlike nego n x y
one_way_out nego n x y ok single sound first second none_x none_y =
    let policy = nearest nego ok single sound in
    ways_send_alike nego ok single policy.choice n x y (two_ways nego ok single sound policy n x y first second) first none_x none_y
