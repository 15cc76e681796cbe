-- What one agent sees of occurrences that are chosen and lead to the final marking: it follows from the atom at which
-- the agent is. So no atom occurs twice in them.
use Rattle.std.proofs.Common.{◌≡◌, ◌≢◌, ⊎_elim, ℕ, ◌<◌, List, [], ◌∷◌, ◌++◌, length, map, slice_index_or, Some, All, IsTrue, refl, sym, subst, ap, ap₂, ◌∙◌, arith, length-append}
use Rattle.std.proofs.lemmas.Bool.{cond-true, cond-false, false_from_ne_true}
use Rattle.std.proofs.lemmas.Option.{same_Some}
use Rattle.std.proofs.lemmas.List.Elements.{All-nil, All-cons, All-head, All-tail}
use Rattle.std.specs.List.{AllPairs}
use Rattle.nego_base.specs.Members.{is_in}
use Rattle.nego_base.proofs.Members.{in_or_not, is_in-cases, is_in_none, is_in-head, is_in-tail, some_member}
use Rattle.nego_base.proofs.PairLaws.{AllPairs-cons}
use Rattle.nego_model.specs.Negotiation.{Negotiation, IsNegotiation, IsDeterministic}
use Rattle.nego_model.specs.Occurring.{PlainMarking, Occurrence, ready, leaves, final_marking}
use Rattle.nego_model.specs.Projection.{projection}
use Rattle.nego_model.specs.Policy.{AreChosen, IsCompletedBy}
use Rattle.nego_model.proofs.occurrence.Markings.{ready-replicate, enables-atom, enables-party}
use Rattle.nego_model.proofs.occurrence.Steps.{after-some, leaves-first}
use Rattle.nego_model.proofs.occurrence.Proper.{ready_alone}
use Rattle.nego_model.proofs.occurrence.Projections.{projection-append}
use Rattle.nego_model.proofs.occurrence.ReachedMarkings.{IsReached, ready-after_party, ready-after_other, reached-after, reached-below, reached-single, reached-proper}

-- the atoms of occurrences
abbrev pub atoms_of : List Occurrence → List ℕ
atoms_of steps = map (λ step. step.0) steps

-- an atom among those of occurrences, with an occurrence of it
pub occurrence_of : (n : ℕ) (steps : List Occurrence) → IsTrue (is_in n (atoms_of steps)) → (front : List Occurrence) × (o : ℕ) × (rest : List Occurrence) × (steps ≡ front ++ (n, o) ∷ rest)
occurrence_of n [] h = absurd (is_in_none n [] refl h)
occurrence_of n (step ∷ steps) h =
    ⊎_elim
    (λ e. ([], step.1, steps, ap (λ m. (m, step.1) ∷ steps) (sym e)))
    (λ later. let k = occurrence_of n steps later in (step ∷ k.0, k.1, k.2, ap (◌∷◌ step) k.3))
    (is_in-cases n step.0 (atoms_of steps) h)

-- what occurs is among the atoms
pub among_atoms : (front : List Occurrence) (step : Occurrence) (rest : List Occurrence) → IsTrue (is_in step.0 (atoms_of (front ++ step ∷ rest)))
among_atoms [] step rest = is_in-head step.0 (atoms_of rest)
among_atoms (first ∷ front) step rest = is_in-tail step.0 first.0 (atoms_of (front ++ step ∷ rest)) (among_atoms front step rest)

-- what occurs behind occurs
pub atoms-behind : (front : List Occurrence) (step : Occurrence) (rest : List Occurrence) (n : ℕ) → IsTrue (is_in n (atoms_of rest)) → IsTrue (is_in n (atoms_of (front ++ step ∷ rest)))
atoms-behind [] step rest n h = is_in-tail n step.0 (atoms_of rest) h
atoms-behind (first ∷ front) step rest n h = is_in-tail n first.0 (atoms_of (front ++ step ∷ rest)) (atoms-behind front step rest n h)

-- an atom that isn't among those of occurrences is another than each of theirs
pub others_from_absent : (n : ℕ) (steps : List Occurrence) → ¬ IsTrue (is_in n (atoms_of steps)) → All (λ step. n ≢ step.0) steps
others_from_absent n [] h = All-nil (λ step. n ≢ step.0)
others_from_absent n (step ∷ steps) h =
    All-cons (λ later. n ≢ later.0) step steps (λ e. h (subst (λ m. IsTrue (is_in m (step.0 ∷ atoms_of steps))) (sym e) (is_in-head step.0 (atoms_of steps))))
    (others_from_absent n steps (λ later. h (is_in-tail n step.0 (atoms_of steps) later)))

module _ (nego : Negotiation) (a : ℕ) where
  -- a party sees the occurrence
  pub projection-party : (step : Occurrence) (steps : List Occurrence) → IsTrue (is_in a (nego.parties step.0)) → projection nego a (step ∷ steps) ≡ step ∷ projection nego a steps
  projection-party step steps party = cond-true (is_in a (nego.parties step.0)) (step ∷ projection nego a steps) (projection nego a steps) party

  -- who is no party doesn't
  pub projection-other : (step : Occurrence) (steps : List Occurrence) → ¬ IsTrue (is_in a (nego.parties step.0)) → projection nego a (step ∷ steps) ≡ projection nego a steps
  projection-other step steps other =
      cond-false (is_in a (nego.parties step.0)) (step ∷ projection nego a steps) (projection nego a steps) (false_from_ne_true (is_in a (nego.parties step.0)) other)

  -- what a party sees of occurrences, one of which is its own
  pub projection_at : (front : List Occurrence) (step : Occurrence) (rest : List Occurrence) → IsTrue (is_in a (nego.parties step.0)) →
      projection nego a (front ++ step ∷ rest) ≡ projection nego a front ++ step ∷ projection nego a rest
  projection_at front step rest party = projection-append nego a front (step ∷ rest) ∙ ap (λ seen. projection nego a front ++ seen) (projection-party step rest party)

  -- a party sees its atom where this occurs
  pub seen_among : (n : ℕ) (steps : List Occurrence) → IsTrue (is_in a (nego.parties n)) → IsTrue (is_in n (atoms_of steps)) → IsTrue (is_in n (atoms_of (projection nego a steps)))
  seen_among n steps party h =
      let k = occurrence_of n steps h in
      let P : List Occurrence → Type 0 = λ seen. IsTrue (is_in n (atoms_of seen)) in
      subst P (sym (ap (projection nego a) k.3 ∙ projection_at k.0 (n, k.1) k.2 party)) (among_atoms (projection nego a k.0) (n, k.1) (projection nego a k.2))

  -- what an agent sees has it as a party, and occurs
  pub seen_occurs : (n : ℕ) (steps : List Occurrence) → IsTrue (is_in n (atoms_of (projection nego a steps))) → IsTrue (is_in a (nego.parties n)) × IsTrue (is_in n (atoms_of steps))
  seen_occurs n [] h = absurd (is_in_none n [] refl h)
  seen_occurs n (step ∷ steps) h =
      let P : List Occurrence → Type 0 = λ seen. IsTrue (is_in n (atoms_of seen)) in
      let more : IsTrue (is_in n (atoms_of (projection nego a steps))) → IsTrue (is_in a (nego.parties n)) × IsTrue (is_in n (atoms_of (step ∷ steps))) =
      λ later. let k = seen_occurs n steps later in (k.0, is_in-tail n step.0 (atoms_of steps) k.1) in
      ⊎_elim
      (λ party.
      ⊎_elim
      (λ e. let Q : ℕ → Type 0 = λ m. IsTrue (is_in a (nego.parties m)) × IsTrue (is_in m (atoms_of (step ∷ steps))) in subst Q (sym e) (party, is_in-head step.0 (atoms_of steps)))
      more
      (is_in-cases n step.0 (atoms_of (projection nego a steps)) (subst P (projection-party step steps party) h)))
      (λ other. more (subst P (projection-other step steps other) h))
      (in_or_not a (nego.parties step.0))

module _ (nego : Negotiation) (choice : ℕ → ℕ) (a : ℕ) where
  -- The occurrences are what an agent sees who is at one atom, takes part in it with the chosen outcome, goes on to the
  -- next, and comes to what is given last.
  abbrev pub IsStretch : List ℕ → List Occurrence → List ℕ → Type 0
  IsStretch here [] there = here ≡ there
  IsStretch here (step ∷ steps) there = (here ≡ step.0 ∷ []) × (step.1 ≡ choice step.0) × IsStretch (nego.next step.1 a) steps there

  -- It ends ready for nothing.
  abbrev pub IsPath : List ℕ → List Occurrence → Type 0
  IsPath here steps = IsStretch here steps []

  -- what is chosen at one atom is one occurrence
  same_first : (here : List ℕ) (step step' : Occurrence) → here ≡ step.0 ∷ [] → here ≡ step'.0 ∷ [] → step.1 ≡ choice step.0 → step'.1 ≡ choice step'.0 → step ≡ step'
  same_first here step step' at at' chosen chosen' =
      let atom : step.0 ≡ step'.0 = ap (λ atoms. slice_index_or atoms 0 0) (sym at ∙ at') in
      ap₂ (λ n o. (n, o)) atom (chosen ∙ (ap choice atom ∙ sym chosen'))

  -- there is one path from an atom
  pub path-unique : (here : List ℕ) (one two : List Occurrence) → IsPath here one → IsPath here two → one ≡ two
  path-unique here [] [] h k = refl
  path-unique here [] (step ∷ two) h k = let none : [] ≡ step.0 ∷ [] = sym h ∙ k.0 in absurd (let lengths = ap length none in omega (arith, lengths))
  path-unique here (step ∷ one) [] h k = let none : [] ≡ step.0 ∷ [] = sym k ∙ h.0 in absurd (let lengths = ap length none in omega (arith, lengths))
  path-unique here (step ∷ one) (step' ∷ two) h k =
      let same = same_first here step step' h.0 k.0 h.1 k.1 in
      ap₂ (λ (first : Occurrence) rest. first ∷ rest) same
      (path-unique (nego.next step'.1 a) one two (subst (λ (first : Occurrence). IsPath (nego.next first.1 a) one) same h.2) k.2)

  -- a stretch is the beginning of each path from the same atom
  pub stretch-begins : (here there : List ℕ) (steps all : List Occurrence) → IsStretch here steps there → IsPath here all → (rest : List Occurrence) × (all ≡ steps ++ rest)
  stretch-begins here there [] all h k = (all, refl)
  stretch-begins here there (step ∷ steps) [] h k = let none : [] ≡ step.0 ∷ [] = sym k ∙ h.0 in absurd (let lengths = ap length none in omega (arith, lengths))
  stretch-begins here there (step ∷ steps) (step' ∷ all) h k =
      let same = same_first here step step' h.0 k.0 h.1 k.1 in
      let rest = stretch-begins (nego.next step'.1 a) there steps all (subst (λ (first : Occurrence). IsStretch (nego.next first.1 a) steps there) same h.2) k.2 in
      (rest.0, ap₂ (λ (first : Occurrence) later. first ∷ later) (sym same) rest.1)

  -- the path from an atom on it
  pub path_from : (here : List ℕ) (front : List Occurrence) (step : Occurrence) (rest : List Occurrence) → IsPath here (front ++ step ∷ rest) → IsPath (step.0 ∷ []) (step ∷ rest)
  path_from here [] step rest h = (refl, h.1, h.2)
  path_from here (first ∷ front) step rest h = path_from (nego.next first.1 a) front step rest h.2

  -- what follows an atom on a path follows it on each path that has the atom
  pub path_goes_on : (here here' : List ℕ) (front : List Occurrence) (step : Occurrence) (rest : List Occurrence) (other : List Occurrence) → IsPath here (front ++ step ∷ rest) → IsPath here' other →
      IsTrue (is_in step.0 (atoms_of other)) → (front' : List Occurrence) × (other ≡ front' ++ step ∷ rest)
  path_goes_on here here' front step rest other h k there =
      let m = occurrence_of step.0 other there in
      let same = path-unique (step.0 ∷ []) (step ∷ rest) ((step.0, m.1) ∷ m.2) (path_from here front step rest h) (path_from here' m.0 (step.0, m.1) m.2 (subst (IsPath here') m.3 k)) in
      (m.0, m.3 ∙ ap (λ later. m.0 ++ later) (sym same))

module _ (nego : Negotiation) (ok : IsNegotiation nego) (single : IsDeterministic nego) (choice : ℕ → ℕ) where
  -- an agent sees a stretch, from what it is ready for to what it is ready for behind it
  pub stretch-seen : (a : ℕ) → a < nego.agents → (steps : List Occurrence) (from to : PlainMarking) → IsReached nego from → AreChosen choice steps → leaves nego from steps ≡ Some to →
      IsStretch nego choice a (ready from a) (projection nego a steps) (ready to a)
  stretch-seen a below [] from to reached chosen e = ap (λ m. ready m a) (same_Some from to e)
  stretch-seen a below (step ∷ steps) from to reached chosen e =
      let k = leaves-first nego from step steps to e in
      let there = reached-below nego from a reached below in
      let rest : IsStretch nego choice a (ready k.0 a) (projection nego a steps) (ready to a) =
      stretch-seen a below steps k.0 to (reached-after nego from k.0 step reached k.1) (All-tail (λ s. s.1 ≡ choice s.0) step steps chosen) k.2 in
      ⊎_elim
      (λ party.
      let at : IsTrue (is_in step.0 (ready from a)) = enables-party nego from step.0 a (after-some nego from step k.0 k.1).0 party in
      subst (λ seen. IsStretch nego choice a (ready from a) seen (ready to a)) (sym (projection-party nego a step steps party)) (
        ready_alone nego from a step.0 (reached-proper nego ok from reached) (reached-single nego single from reached) below at,
        All-head (λ s. s.1 ≡ choice s.0) step steps chosen,
        subst (λ here. IsStretch nego choice a here (projection nego a steps) (ready to a)) (ready-after_party nego from k.0 step a there k.1 party) rest,
      ))
      (λ other.
      subst (λ seen. IsStretch nego choice a (ready from a) seen (ready to a)) (sym (projection-other nego a step steps other))
      (subst (λ here. IsStretch nego choice a here (projection nego a steps) (ready to a)) (ready-after_other nego from k.0 step a there k.1 other) rest))
      (in_or_not a (nego.parties step.0))

  -- and a path where the occurrences lead to the final marking
  pub path-seen : (a : ℕ) → a < nego.agents → (steps : List Occurrence) (marking : PlainMarking) → IsReached nego marking → IsCompletedBy nego choice marking steps → IsPath nego choice a (ready marking a) (projection nego a steps)
  path-seen a below steps marking reached h =
      subst (IsStretch nego choice a (ready marking a) (projection nego a steps)) (ready-replicate nego.agents a [] below) (stretch-seen a below steps marking (final_marking nego) reached h.chosen h.ends)

  -- what an agent sees follows from what it is ready for
  pub same_paths : (a : ℕ) → a < nego.agents → (one two : PlainMarking) (steps steps' : List Occurrence) → IsReached nego one → IsReached nego two → IsCompletedBy nego choice one steps → IsCompletedBy nego choice two steps' →
      ready one a ≡ ready two a → projection nego a steps ≡ projection nego a steps'
  same_paths a below one two steps steps' reached reached' h k same =
      path-unique nego choice a (ready one a) (projection nego a steps) (projection nego a steps') (path-seen a below steps one reached h)
      (subst (λ here. IsPath nego choice a here (projection nego a steps')) (sym same) (path-seen a below steps' two reached' k))

  -- an atom doesn't occur again
  pub not_again : (marking : PlainMarking) (step : Occurrence) (steps : List Occurrence) → IsReached nego marking → IsCompletedBy nego choice marking (step ∷ steps) → ¬ IsTrue (is_in step.0 (atoms_of steps))
  not_again marking step steps reached h again =
      let lengths = ap length again_seen.1 in
      let l = length-append again_seen.0 (step ∷ projection nego agent.0 steps) in
      omega (arith, lengths, l)
    where
      there : IsTrue (is_in step.0 nego.atoms)
      there = let k = leaves-first nego marking step steps (final_marking nego) h.ends in enables-atom nego marking step.0 (after-some nego marking step k.0 k.1).0

      agent : (a : ℕ) × IsTrue (is_in a (nego.parties step.0))
      agent = some_member (nego.parties step.0) (ok.some_party step.0 there)

      path : IsPath nego choice agent.0 (ready marking agent.0) (step ∷ projection nego agent.0 steps)
      path = subst (IsPath nego choice agent.0 (ready marking agent.0)) (projection-party nego agent.0 step steps agent.1)
          (path-seen agent.0 (ok.party_below step.0 agent.0 there agent.1) (step ∷ steps) marking reached h)

      again_seen : (front : List Occurrence) × (projection nego agent.0 steps ≡ front ++ step ∷ projection nego agent.0 steps)
      again_seen = path_goes_on nego choice agent.0 (ready marking agent.0) (nego.next step.1 agent.0) [] step (projection nego agent.0 steps) (projection nego agent.0 steps) path path.2
          (seen_among nego agent.0 step.0 steps agent.1 again)

  -- so no atom occurs twice
  pub none_twice : (steps : List Occurrence) (marking : PlainMarking) → IsReached nego marking → IsCompletedBy nego choice marking steps → AllPairs (λ one two. one.0 ≢ two.0) steps
  none_twice [] marking reached h = λ i j d before within. absurd (let no_more : ⊥ = omega (arith, within) in no_more)
  none_twice (step ∷ steps) marking reached h =
      let k = leaves-first nego marking step steps (final_marking nego) h.ends in
      AllPairs-cons (λ one two. one.0 ≢ two.0) step steps (others_from_absent step.0 steps (not_again marking step steps reached h))
      (none_twice steps k.0 (reached-after nego marking k.0 step reached k.1) (record { chosen = All-tail (λ s. s.1 ≡ choice s.0) step steps h.chosen; ends = k.2 }))
