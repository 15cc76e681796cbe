-- Chosen occurrences to the final marking: how often an atom occurs in them, and that they don't go round a cycle.
use Rattle.std.proofs.Common.{◌≡◌, ⊎_elim, ℕ, suc, ◌<◌, ◌≤◌, List, [], ◌∷◌, ◌++◌, IsTrue, refl, sym, subst, ap, ◌∙◌, arith}
use Rattle.std.proofs.lemmas.List.Elements.{All-tail}
use Rattle.nego_base.specs.Members.{is_in}
use Rattle.nego_base.proofs.Members.{in_or_not, is_in_none, is_in-head, is_in_single}
use Rattle.nego_model.specs.Negotiation.{Negotiation, IsNegotiation, IsDeterministic}
use Rattle.nego_model.specs.Occurring.{PlainMarking, Occurrence, ready, final_marking}
use Rattle.nego_model.specs.Acyclic.{IsEdge}
use Rattle.nego_model.specs.Projection.{projection}
use Rattle.nego_model.specs.Policy.{IsCompletedBy}
use Rattle.nego_model.proofs.occurrence.Steps.{leaves-first}
use Rattle.nego_model.proofs.occurrence.ReachedMarkings.{IsReached, reached-after}
use Rattle.nego_model.proofs.completeness.Paths.{atoms_of, occurrence_of, atoms-behind, IsStretch, IsPath, path_from, path-seen, projection-party, projection-other, seen_occurs, not_again}
use Rattle.nego_model.proofs.completeness.Counting.{times, times-in, times-out}
use Rattle.nego_model.proofs.completeness.EdgeWays.{IsWay, Follows, edge-own}

-- ---- how often an atom occurs

-- what doesn't occur, occurs never
times_absent : (n : ℕ) (steps : List Occurrence) → ¬ IsTrue (is_in n (atoms_of steps)) → times (n ∷ []) steps ≡ 0
times_absent n [] h = refl
times_absent n (step ∷ steps) h =
    times-out (n ∷ []) step steps (λ k. h (subst (λ m. IsTrue (is_in m (step.0 ∷ atoms_of steps))) (is_in_single step.0 n k) (is_in-head step.0 (atoms_of steps))))
    ∙ times_absent n steps (λ k. h (atoms-behind [] step steps n k))

-- an atom occurs as often as its party sees it
pub times_seen : (nego : Negotiation) (a n : ℕ) → IsTrue (is_in a (nego.parties n)) → (steps : List Occurrence) → times (n ∷ []) (projection nego a steps) ≡ times (n ∷ []) steps
times_seen nego a n party [] = refl
times_seen nego a n party (step ∷ steps) =
    let rest = times_seen nego a n party steps in
    ⊎_elim
    (λ own.
    let seen = ap (times (n ∷ [])) (projection-party nego a step steps own) in
    ⊎_elim
    (λ h. let one = times-in (n ∷ []) step steps h in let two = times-in (n ∷ []) step (projection nego a steps) h in seen ∙ (two ∙ (ap suc rest ∙ sym one)))
    (λ h. let one = times-out (n ∷ []) step steps h in let two = times-out (n ∷ []) step (projection nego a steps) h in seen ∙ (two ∙ (rest ∙ sym one)))
    (in_or_not step.0 (n ∷ [])))
    (λ other.
    ap (times (n ∷ [])) (projection-other nego a step steps other)
    ∙ (rest ∙ sym (times-out (n ∷ []) step steps (λ h. other (subst (λ m. IsTrue (is_in a (nego.parties m))) (sym (is_in_single step.0 n h)) party)))))
    (in_or_not a (nego.parties step.0))

-- what follows doesn't lessen it
pub times-front : (ns : List ℕ) (front rest : List Occurrence) → times ns front ≤ times ns (front ++ rest)
times-front ns [] rest = omega arith
times-front ns (step ∷ front) rest =
    let more = times-front ns front rest in
    ⊎_elim
    (λ h. let one = times-in ns step front h in let two = times-in ns step (front ++ rest) h in omega (arith, more, one, two))
    (λ h. let one = times-out ns step front h in let two = times-out ns step (front ++ rest) h in omega (arith, more, one, two))
    (in_or_not step.0 ns)

-- who chooses the same at all atoms of a stretch sees it too
pub stretch-same : (nego : Negotiation) (choice choice' : ℕ → ℕ) (a : ℕ) (here there : List ℕ) (steps : List Occurrence) → ((n : ℕ) → IsTrue (is_in n (atoms_of steps)) → choice n ≡ choice' n) → IsStretch nego choice a here steps there →
    IsStretch nego choice' a here steps there
stretch-same nego choice choice' a here there [] same h = h
stretch-same nego choice choice' a here there (step ∷ steps) same h = (
  h.0,
  h.1 ∙ same step.0 (is_in-head step.0 (atoms_of steps)),
  stretch-same nego choice choice' a (nego.next step.1 a) there steps (λ n k. same n (atoms-behind [] step steps n k)) h.2,
)

-- ---- chosen occurrences to the final marking

module _ (nego : Negotiation) (ok : IsNegotiation nego) (single : IsDeterministic nego) (choice : ℕ → ℕ) where
  -- what follows some of them leads there too
  ends_behind : (front rest : List Occurrence) (marking : PlainMarking) → IsReached nego marking → IsCompletedBy nego choice marking (front ++ rest) → (between : PlainMarking) × IsReached nego between × IsCompletedBy nego choice between rest
  ends_behind [] rest marking reached h = (marking, reached, h)
  ends_behind (step ∷ front) rest marking reached h =
      let k = leaves-first nego marking step (front ++ rest) (final_marking nego) h.ends in
      ends_behind front rest k.0 (reached-after nego marking k.0 step reached k.1) (record { chosen = All-tail (λ s. s.1 ≡ choice s.0) step (front ++ rest) h.chosen; ends = k.2 })

  -- an atom occurs once at most
  pub times_once : (n : ℕ) (steps : List Occurrence) (marking : PlainMarking) → IsReached nego marking → IsCompletedBy nego choice marking steps → times (n ∷ []) steps ≤ 1
  times_once n [] marking reached h = omega arith
  times_once n (step ∷ steps) marking reached h =
      let k = ends_behind (step ∷ []) steps marking reached h in
      let rest = times_once n steps k.0 k.1 k.2 in
      ⊎_elim
      (λ same.
      let is = is_in_single step.0 n same in
      let none = times_absent n steps (subst (λ m. ¬ IsTrue (is_in m (atoms_of steps))) is (not_again nego ok single choice marking step steps reached h)) in
      let one = times-in (n ∷ []) step steps same in
      omega (arith, none, one))
      (λ other. let one = times-out (n ∷ []) step steps other in omega (arith, rest, one))
      (in_or_not step.0 (n ∷ []))

  -- for what a party is ready, occurs
  ready_occurs : (a n : ℕ) (steps : List Occurrence) (marking : PlainMarking) → IsReached nego marking → IsCompletedBy nego choice marking steps → a < nego.agents → IsTrue (is_in n (ready marking a)) → IsTrue (is_in n (atoms_of steps))
  ready_occurs a n steps marking reached h below at = go (projection nego a steps) refl
    where
      path : IsPath nego choice a (ready marking a) (projection nego a steps)
      path = path-seen nego ok single choice a below steps marking reached h

      go : (seen : List Occurrence) → projection nego a steps ≡ seen → IsTrue (is_in n (atoms_of steps))
      go [] is = absurd (is_in_none n (ready marking a) (subst (IsPath nego choice a (ready marking a)) is path) at)
      go (step ∷ seen) is =
          let start : IsPath nego choice a (ready marking a) (step ∷ seen) = subst (IsPath nego choice a (ready marking a)) is path in
          let same : n ≡ step.0 = is_in_single n step.0 (subst (λ here. IsTrue (is_in n here)) start.0 at) in
          (seen_occurs nego a n steps (subst (λ later. IsTrue (is_in n (atoms_of later))) (sym is) (subst (λ m. IsTrue (is_in m (step.0 ∷ atoms_of seen))) (sym same) (is_in-head step.0 (atoms_of seen))))).1

-- ---- chosen occurrences along edges

module _ (nego : Negotiation) (ok : IsNegotiation nego) (single : IsDeterministic nego) (pick : ℕ → ℕ × ℕ) where
  abbrev pub picked : ℕ → ℕ
  picked n = (pick n).0

  -- behind an atom whose choice is an edge, the edge's end occurs
  next_occurs : (m n : ℕ) (edge : IsEdge nego m n) → pick m ≡ (edge.outcome, edge.agent) → (o : ℕ) (rest : List Occurrence) (marking : PlainMarking) → IsReached nego marking → IsCompletedBy nego picked marking ((m, o) ∷ rest) →
      IsTrue (is_in n (atoms_of rest))
  next_occurs m n edge is o rest marking reached h = go (projection nego edge.agent rest) refl
    where
      party : IsTrue (is_in edge.agent (nego.parties m))
      party = (edge-own nego ok single m n edge).1

      path : IsPath nego picked edge.agent (m ∷ []) ((m, o) ∷ projection nego edge.agent rest)
      path = path_from nego picked edge.agent (ready marking edge.agent) [] (m, o) (projection nego edge.agent rest)
          (subst (IsPath nego picked edge.agent (ready marking edge.agent)) (projection-party nego edge.agent (m, o) rest party)
          (path-seen nego ok single picked edge.agent (ok.party_below m edge.agent edge.own.0 party) ((m, o) ∷ rest) marking reached h))

      at : IsTrue (is_in n (nego.next o edge.agent))
      at = subst (λ x. IsTrue (is_in n (nego.next x edge.agent))) (sym (path.1 ∙ ap (λ (pair : ℕ × ℕ). pair.0) is)) edge.leads

      go : (seen : List Occurrence) → projection nego edge.agent rest ≡ seen → IsTrue (is_in n (atoms_of rest))
      go [] e = absurd (is_in_none n (nego.next o edge.agent) (subst (IsPath nego picked edge.agent (nego.next o edge.agent)) e path.2) at)
      go (step ∷ seen) e =
          let start : IsPath nego picked edge.agent (nego.next o edge.agent) (step ∷ seen) = subst (IsPath nego picked edge.agent (nego.next o edge.agent)) e path.2 in
          let same : n ≡ step.0 = is_in_single n step.0 (subst (λ here. IsTrue (is_in n here)) start.0 at) in
          (seen_occurs nego edge.agent n rest (subst (λ later. IsTrue (is_in n (atoms_of later))) (sym e) (subst (λ m'. IsTrue (is_in m' (step.0 ∷ atoms_of seen))) (sym same) (is_in-head step.0 (atoms_of seen))))).1

  -- behind an atom from which the choices follow a way, the way's end occurs
  end_occurs : (m : ℕ) (ns : List ℕ) (end : ℕ) (way : IsWay nego m ns end) → Follows nego pick m ns end way → (o : ℕ) (rest : List Occurrence) (marking : PlainMarking) → IsReached nego marking →
      IsCompletedBy nego picked marking ((m, o) ∷ rest) → IsTrue (is_in end (atoms_of rest))
  end_occurs m [] end way follows o rest marking reached h = next_occurs m end way follows o rest marking reached h
  end_occurs m (n ∷ ns) end way follows o rest marking reached h =
      let there = next_occurs m n way.0 follows.0 o rest marking reached h in
      let k = occurrence_of n rest there in
      let b = ends_behind nego ok single picked ((m, o) ∷ k.0) ((n, k.1) ∷ k.2) marking reached (subst (λ later. IsCompletedBy nego picked marking ((m, o) ∷ later)) k.3 h) in
      let later = end_occurs n ns end way.1 follows.1 k.1 k.2 b.0 b.1 b.2 in
      subst (λ steps. IsTrue (is_in end (atoms_of steps))) (sym k.3) (atoms-behind k.0 (n, k.1) k.2 end later)

  -- where they follow a way and an edge back, the final marking isn't led to from where the way's first atom is enabled
  pub never_ends : (m : ℕ) (ns : List ℕ) (end : ℕ) (way : IsWay nego m ns end) (back : IsEdge nego end m) → Follows nego pick m ns end way → pick end ≡ (back.outcome, back.agent) → (steps : List Occurrence) (marking : PlainMarking) → IsReached nego marking →
      (a : ℕ) → a < nego.agents → IsTrue (is_in m (ready marking a)) → ¬ IsCompletedBy nego picked marking steps
  never_ends m ns end way back follows is steps marking reached a below at h =
      let k = occurrence_of m steps (ready_occurs nego ok single picked a m steps marking reached h below at) in
      let b = ends_behind nego ok single picked k.0 ((m, k.1) ∷ k.2) marking reached (subst (IsCompletedBy nego picked marking) k.3 h) in
      let k' = occurrence_of end k.2 (end_occurs m ns end way follows k.1 k.2 b.0 b.1 b.2) in
      let b' = ends_behind nego ok single picked ((m, k.1) ∷ k'.0) ((end, k'.1) ∷ k'.2) b.0 b.1 (subst (λ later. IsCompletedBy nego picked b.0 ((m, k.1) ∷ later)) k'.3 b.2) in
      let again = next_occurs end m back is k'.1 k'.2 b'.0 b'.1 b'.2 in
      not_again nego ok single picked b.0 (m, k.1) k.2 b.1 b.2 (subst (λ later. IsTrue (is_in m (atoms_of later))) (sym k'.3) (atoms-behind k'.0 (end, k'.1) k'.2 m again))
