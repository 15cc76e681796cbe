-- A sound deterministic negotiation has a policy: along shortest ways to the last atom.
use Rattle.std.proofs.Common.{◌≡◌, ◌⊎◌, inl, inr, ⊎_elim, ℕ, zero, suc, ◌+◌, ◌<◌, ◌≤◌, Bool, ◌||◌, ◌==◌, if◌then◌else◌, List, [], ◌∷◌, Some, IsTrue, refl, sym, subst, ap, ◌∙◌, arith, eqb-true, eq-eqb}
use Rattle.std.specs.List.{list_any}
use Rattle.std.proofs.lemmas.Bool.{cases_Bool, cases_eq, cases_lt, or_cases, or_left, or_right, cond-true, cond-false, true≢false}
use Rattle.std.proofs.lemmas.Option.{same_Some}
use Rattle.nego_base.specs.Members.{is_in}
use Rattle.nego_base.proofs.Members.{in_or_not, is_in-cases, is_in_none, is_in-head, is_in-tail, some_member}
use Rattle.nego_model.specs.Negotiation.{Negotiation, IsNegotiation, IsDeterministic}
use Rattle.nego_model.specs.Occurring.{PlainMarking, Occurrence, ready, leaves, final_marking, IsSound}
use Rattle.nego_model.specs.Policy.{Policy}
use Rattle.nego_model.proofs.occurrence.Markings.{ready-replicate, enables-party}
use Rattle.nego_model.proofs.occurrence.Steps.{after-some, after-outcome, leaves-first}
use Rattle.nego_model.proofs.occurrence.ReachedMarkings.{IsReached, ready-after_party, ready-after_other, reached-after, reached-below, reached-single}
use Rattle.nego_model.proofs.occurrence.Ways.{sound_leads}

-- a member that passes a test
any_member : (test : ℕ → Bool) (xs : List ℕ) (x : ℕ) → IsTrue (is_in x xs) → IsTrue (test x) → IsTrue (list_any test xs)
any_member test [] x h k = absurd (is_in_none x [] refl h)
any_member test (y ∷ ys) x h k =
    ⊎_elim (λ e. or_left (test y) (list_any test ys) (subst (λ z. IsTrue (test z)) e k)) (λ later. or_right (test y) (list_any test ys) (any_member test ys x later k)) (is_in-cases x y ys h)

-- the member that passes it
passing_member : (test : ℕ → Bool) (xs : List ℕ) → IsTrue (list_any test xs) → (x : ℕ) × IsTrue (is_in x xs) × IsTrue (test x)
passing_member test [] h = absurd (true≢false (sym h))
passing_member test (y ∷ ys) h =
    ⊎_elim (λ k. (y, is_in-head y ys, k)) (λ later. let k = passing_member test ys later in (k.0, is_in-tail k.0 y ys k.1, k.2)) (or_cases (test y) (list_any test ys) h)

module _ (nego : Negotiation) where
  -- whether some way of so many edges at most leads from the atom to the last
  abbrev near : ℕ → ℕ → Bool
  near zero n = n == nego.last
  near (suc k) n = near k n || list_any (λ o. list_any (λ a. list_any (near k) (nego.next o a)) (nego.parties n)) (nego.outcomes n)

  -- the first edge of such a way
  record FirstEdge (k n : ℕ) : Type 0 where
    outcome : ℕ
    agent : ℕ
    to : ℕ
    own : IsTrue (is_in outcome (nego.outcomes n))
    party : IsTrue (is_in agent (nego.parties n))
    leads : IsTrue (is_in to (nego.next outcome agent))
    rest : IsTrue (near k to)

  near_from_edge : (k n : ℕ) → FirstEdge k n → IsTrue (near (suc k) n)
  near_from_edge k n edge =
      or_right (near k n) (list_any (λ o. list_any (λ a. list_any (near k) (nego.next o a)) (nego.parties n)) (nego.outcomes n))
      (any_member (λ o. list_any (λ a. list_any (near k) (nego.next o a)) (nego.parties n)) (nego.outcomes n) edge.outcome edge.own
      (any_member (λ a. list_any (near k) (nego.next edge.outcome a)) (nego.parties n) edge.agent edge.party (any_member (near k) (nego.next edge.outcome edge.agent) edge.to edge.leads edge.rest)))

  edge_from_near : (k n : ℕ) → IsTrue (near (suc k) n) → IsTrue (near k n) ⊎ FirstEdge k n
  edge_from_near k n h =
      ⊎_elim (λ sooner. inl sooner)
      (λ any.
      let o = passing_member (λ o. list_any (λ a. list_any (near k) (nego.next o a)) (nego.parties n)) (nego.outcomes n) any in
      let a = passing_member (λ a. list_any (near k) (nego.next o.0 a)) (nego.parties n) o.2 in
      let m = passing_member (near k) (nego.next o.0 a.0) a.2 in
      inr (record { outcome = o.0; agent = a.0; to = m.0; own = o.1; party = a.1; leads = m.1; rest = m.2 }))
      (or_cases (near k n) (list_any (λ o. list_any (λ a. list_any (near k) (nego.next o a)) (nego.parties n)) (nego.outcomes n)) h)

  -- what is near is near within more edges
  near_within : (k bound n : ℕ) → k ≤ bound → IsTrue (near k n) → IsTrue (near bound n)
  near_within k zero n le h = let none : k ≡ 0 = omega (arith, le) in subst (λ j. IsTrue (near j n)) none h
  near_within k (suc bound) n le h =
      ⊎_elim
      (λ more. or_left (near bound n) (list_any (λ o. list_any (λ a. list_any (near bound) (nego.next o a)) (nego.parties n)) (nego.outcomes n)) (near_within k bound n (omega (arith, more)) h))
      (λ all. let same : k ≡ suc bound = omega (arith, le, all) in subst (λ j. IsTrue (near j n)) same h)
      (cases_lt k (suc bound))

  -- how near an atom is that is near within a bound
  abbrev distance_within : ℕ → ℕ → ℕ
  distance_within zero n = 0
  distance_within (suc bound) n = if near bound n then distance_within bound n else suc bound

  near_at_distance : (bound n : ℕ) → IsTrue (near bound n) → IsTrue (near (distance_within bound n) n)
  near_at_distance zero n h = h
  near_at_distance (suc bound) n h =
      let P : ℕ → Type 0 = λ k. IsTrue (near k n) in
      ⊎_elim
      (λ sooner. subst P (sym (cond-true (near bound n) (distance_within bound n) (suc bound) sooner)) (near_at_distance bound n sooner))
      (λ later. subst P (sym (cond-false (near bound n) (distance_within bound n) (suc bound) later)) h)
      (cases_Bool (near bound n))

  distance_is_least : (bound n k : ℕ) → IsTrue (near k n) → distance_within bound n ≤ k
  distance_is_least zero n k h = omega arith
  distance_is_least (suc bound) n k h =
      let P : ℕ → Type 0 = λ d. d ≤ k in
      ⊎_elim
      (λ sooner. subst P (sym (cond-true (near bound n) (distance_within bound n) (suc bound) sooner)) (distance_is_least bound n k h))
      (λ later.
      subst P (sym (cond-false (near bound n) (distance_within bound n) (suc bound) later))
      (⊎_elim (λ more. more) (λ within. absurd (true≢false (sym (near_within k bound n (omega (arith, within)) h) ∙ later))) (cases_lt bound k)))
      (cases_Bool (near bound n))

  -- atoms that are each near are so within one bound
  all_near : (ns : List ℕ) → ((n : ℕ) → IsTrue (is_in n ns) → (k : ℕ) × IsTrue (near k n)) → (bound : ℕ) × ((n : ℕ) → IsTrue (is_in n ns) → IsTrue (near bound n))
  all_near [] h = (0, λ n m. absurd (is_in_none n [] refl m))
  all_near (m ∷ ns) h =
      let rest = all_near ns (λ n k. h n (is_in-tail n m ns k)) in
      let first = h m (is_in-head m ns) in (
        first.0 + rest.0,
        λ n k. ⊎_elim
            (λ e. subst (λ p. IsTrue (near (first.0 + rest.0) p)) (sym e) (near_within first.0 (first.0 + rest.0) m (omega arith) first.1))
            (λ later. near_within rest.0 (first.0 + rest.0) n (omega arith) (rest.1 n later))
            (is_in-cases n m ns k),
      )

module _ (nego : Negotiation) (ok : IsNegotiation nego) (single : IsDeterministic nego) (sound : IsSound nego) where
  -- what an agent is ready for is near, along what it takes part in until the final marking
  near_from_run : (a : ℕ) → a < nego.agents → (steps : List Occurrence) (from : PlainMarking) (n : ℕ) → IsReached nego from → IsTrue (is_in n (ready from a)) → leaves nego from steps ≡ Some (final_marking nego) →
      (k : ℕ) × IsTrue (near nego k n)
  near_from_run a below [] from n reached at e =
      absurd (is_in_none n (ready from a) (ap (λ m. ready m a) (same_Some from (final_marking nego) e) ∙ ready-replicate nego.agents a [] below) at)
  near_from_run a below (step ∷ steps) from n reached at e =
      let k = leaves-first nego from step steps (final_marking nego) e in
      let there = reached-below nego from a reached below in
      let behind = reached-after nego from k.0 step reached k.1 in
      ⊎_elim
      (λ party.
      let same : step.0 ≡ n = reached-single nego single from reached a step.0 n below (enables-party nego from step.0 a (after-some nego from step k.0 k.1).0 party) at in
      subst (λ m. (j : ℕ) × IsTrue (near nego j m)) same
      (⊎_elim
      (λ last. (0, eq-eqb step.0 nego.last last))
      (λ other.
      let own = after-outcome nego from step k.0 k.1 in
      let next = some_member (nego.next step.1 a) (ok.others_lead step.0 step.1 a own other party) in
      let rest =
      near_from_run a below steps k.0 next.0 behind (subst (λ xs. IsTrue (is_in next.0 xs)) (sym (ready-after_party nego from k.0 step a there k.1 party)) next.1) k.2 in
      (suc rest.0, near_from_edge nego rest.0 step.0 (record { outcome = step.1; agent = a; to = next.0; own = own.1; party = party; leads = next.1; rest = rest.1 })))
      (cases_eq step.0 nego.last)))
      (λ other.
      near_from_run a below steps k.0 n behind (subst (λ xs. IsTrue (is_in n xs)) (sym (ready-after_other nego from k.0 step a there k.1 other)) at) k.2)
      (in_or_not a (nego.parties step.0))

  -- so each atom is near
  atom_near : (n : ℕ) → IsTrue (is_in n nego.atoms) → (k : ℕ) × IsTrue (near nego k n)
  atom_near n there =
      let start = sound.alive n there in
      let agent = some_member (nego.parties n) (ok.some_party n there) in
      let reached : IsReached nego start.marking = record { steps = start.run; leads = start.leads } in
      let way = sound_leads nego sound start.marking reached in
      near_from_run agent.0 (ok.party_below n agent.0 there agent.1) way.steps start.marking n reached (enables-party nego start.marking n agent.0 start.enabled agent.1) way.leads

  bound : (k : ℕ) × ((n : ℕ) → IsTrue (is_in n nego.atoms) → IsTrue (near nego k n))
  bound = all_near nego nego.atoms atom_near

  abbrev distance : ℕ → ℕ
  distance n = distance_within nego bound.0 n

  -- an outcome and a party whom it sends nearer
  record Nearer (n : ℕ) : Type 0 where
    outcome : ℕ
    agent : ℕ
    own : IsTrue (is_in outcome (nego.outcomes n))
    party : IsTrue (is_in agent (nego.parties n))
    nearer : (m : ℕ) → IsTrue (is_in m (nego.next outcome agent)) → distance m < distance n

  -- at the last atom each does
  nearer_at_last : Nearer nego.last
  nearer_at_last =
      let o = some_member (nego.outcomes nego.last) (ok.some_outcome nego.last ok.last_there) in
      let a = some_member (nego.parties nego.last) (ok.some_party nego.last ok.last_there) in
      record {
        outcome = o.0;
        agent = a.0;
        own = o.1;
        party = a.1;
        nearer = λ m h. absurd (is_in_none m (nego.next o.0 a.0) (ok.last_ends o.0 a.0 (ok.last_there, o.1)) h);
      }

  nearer_by_edge : (k n : ℕ) → IsTrue (is_in n nego.atoms) → distance n ≡ suc k → FirstEdge nego k n → Nearer n
  nearer_by_edge k n there is edge = record {
    outcome = edge.outcome;
    agent = edge.agent;
    own = edge.own;
    party = edge.party;
    nearer = λ m h.
        let same : m ≡ edge.to = single n edge.outcome edge.agent m edge.to (there, edge.own) h edge.leads in
        let least : distance edge.to ≤ k = distance_is_least nego bound.0 edge.to k edge.rest in
        let equal : distance m ≡ distance edge.to = ap distance same in
        omega (arith, least, equal, is);
  }

  nearer_at : (n : ℕ) → IsTrue (is_in n nego.atoms) → Nearer n
  nearer_at n there = go (distance n) refl
    where
      at : IsTrue (near nego (distance n) n)
      at = near_at_distance nego bound.0 n (bound.1 n there)

      go : (d : ℕ) → distance n ≡ d → Nearer n
      go zero is = subst Nearer (sym (eqb-true n nego.last (subst (λ k. IsTrue (near nego k n)) is at))) nearer_at_last
      go (suc k) is =
          ⊎_elim (λ sooner. absurd (let least = distance_is_least nego bound.0 n k sooner in let no_more : ⊥ = omega (arith, least, is) in no_more)) (λ edge. nearer_by_edge k n there is edge)
          (edge_from_near nego k n (subst (λ k'. IsTrue (near nego k' n)) is at))

  -- what is chosen for an atom, and for other numbers nothing
  pick : (n : ℕ) → IsTrue (is_in n nego.atoms) ⊎ ¬ IsTrue (is_in n nego.atoms) → ℕ × ℕ
  pick n (inl there) = let k = nearer_at n there in (k.outcome, k.agent)
  pick n (inr other) = (0, 0)

  picked : (P : ℕ → ℕ → ℕ → Type 0) → ((n : ℕ) → IsTrue (is_in n nego.atoms) → (k : Nearer n) → P n k.outcome k.agent) → (n : ℕ) → IsTrue (is_in n nego.atoms) →
      (c : IsTrue (is_in n nego.atoms) ⊎ ¬ IsTrue (is_in n nego.atoms)) → P n (pick n c).0 (pick n c).1
  unfolding pick
  picked P h n there (inl k) = h n there (nearer_at n k)
  picked P h n there (inr other) = absurd (other there)

  -- a sound deterministic negotiation has a policy
  pub nearest : Policy nego
  nearest = record {
    choice = λ n. (pick n (in_or_not n nego.atoms)).0;
    guide = λ n. (pick n (in_or_not n nego.atoms)).1;
    distance = distance;
    own = λ n there. picked (λ m o a. IsTrue (is_in o (nego.outcomes m))) (λ m h k. k.own) n there (in_or_not n nego.atoms);
    party = λ n there. picked (λ m o a. IsTrue (is_in a (nego.parties m))) (λ m h k. k.party) n there (in_or_not n nego.atoms);
    nearer = λ n m there. picked (λ p o a. IsTrue (is_in m (nego.next o a)) → distance m < distance p) (λ p h k. k.nearer m) n there (in_or_not n nego.atoms);
  }
