-- Ways along edges that pass each atom once, and choices that follow one.
use Rattle.std.proofs.Common.{◌≡◌, ◌≢◌, ◌⊎◌, inl, inr, ⊎_elim, ℕ, ◌+◌, ◌<◌, ◌≤◌, ◌==◌, if◌then◌else◌, List, [], ◌∷◌, length, IsTrue, refl, sym, subst, ◌∙◌, arith, eq-eqb, ne_eqb}
use Rattle.std.proofs.lemmas.Bool.{cases_eq, cond-true, cond-false}
use Rattle.nego_base.specs.Members.{is_in}
use Rattle.nego_base.proofs.Members.{is_in-cases, is_in_none, is_in-head, is_in-tail, is_in_single}
use Rattle.nego_model.specs.Negotiation.{Negotiation, IsNegotiation, IsDeterministic}
use Rattle.nego_model.specs.Acyclic.{IsEdge}

-- Edges lead from an atom through those of a list to another.
abbrev pub IsWay : Negotiation → ℕ → List ℕ → ℕ → Type 0
IsWay nego m [] end = IsEdge nego m end
IsWay nego m (n ∷ ns) end = IsEdge nego m n × IsWay nego n ns end

-- No atom stands twice on the way.
abbrev pub IsSimple : ℕ → List ℕ → ℕ → Type 0
IsSimple m [] end = m ≢ end
IsSimple m (n ∷ ns) end = (¬ IsTrue (is_in m (n ∷ ns))) × (m ≢ end) × IsSimple n ns end

-- how many edges lead from an atom to the end, of those on the way
abbrev pub left : ℕ → List ℕ → ℕ → ℕ
left m [] p = if p == m then 1 else 0
left m (n ∷ ns) p = if p == m then length ns + 2 else left n ns p

-- At each atom of the way an outcome and a guide are chosen that lead to the next.
abbrev pub Follows : (nego : Negotiation) → (ℕ → ℕ × ℕ) → (m : ℕ) (ns : List ℕ) (end : ℕ) → IsWay nego m ns end → Type 0
Follows nego pick m [] end way = pick m ≡ (way.outcome, way.agent)
Follows nego pick m (n ∷ ns) end way = (pick m ≡ (way.0.outcome, way.0.agent)) × Follows nego pick n ns end way.1

-- what is chosen on the way, and elsewhere
abbrev pub along : (nego : Negotiation) → (ℕ → ℕ × ℕ) → (m : ℕ) (ns : List ℕ) (end : ℕ) → IsWay nego m ns end → ℕ → ℕ × ℕ
along nego pick m [] end way p = if p == m then (way.outcome, way.agent) else pick p
along nego pick m (n ∷ ns) end way p = if p == m then (way.0.outcome, way.0.agent) else along nego pick n ns end way.1 p

module _ (nego : Negotiation) where
  -- no less is left than nothing, and no more than the way is long
  pub left-most : (m : ℕ) (ns : List ℕ) (p : ℕ) → left m ns p ≤ length ns + 1
  left-most m [] p = ⊎_elim
      (λ e. let is : left m [] p ≡ 1 = cond-true (p == m) 1 0 (eq-eqb p m e) in omega (arith, is))
      (λ other. let is : left m [] p ≡ 0 = cond-false (p == m) 1 0 (ne_eqb p m other) in omega (arith, is))
      (cases_eq p m)
  left-most m (n ∷ ns) p =
      let rest = left-most n ns p in
      ⊎_elim
      (λ e. let is : left m (n ∷ ns) p ≡ length ns + 2 = cond-true (p == m) (length ns + 2) (left n ns p) (eq-eqb p m e) in omega (arith, is))
      (λ other. let is : left m (n ∷ ns) p ≡ left n ns p = cond-false (p == m) (length ns + 2) (left n ns p) (ne_eqb p m other) in omega (arith, is, rest))
      (cases_eq p m)

  left-first : (m : ℕ) (ns : List ℕ) → left m ns m ≡ length ns + 1
  left-first m [] = cond-true (m == m) 1 0 (eq-eqb m m refl)
  left-first m (n ∷ ns) = cond-true (m == m) (length ns + 2) (left n ns m) (eq-eqb m m refl) ∙ omega arith

  -- off the way nothing is left
  pub left-off : (m : ℕ) (ns : List ℕ) (p : ℕ) → ¬ IsTrue (is_in p (m ∷ ns)) → left m ns p ≡ 0
  left-off m [] p h = cond-false (p == m) 1 0 (ne_eqb p m (λ e. h (subst (λ q. IsTrue (is_in q (m ∷ []))) (sym e) (is_in-head m []))))
  left-off m (n ∷ ns) p h =
      cond-false (p == m) (length ns + 2) (left n ns p) (ne_eqb p m (λ e. h (subst (λ q. IsTrue (is_in q (m ∷ n ∷ ns))) (sym e) (is_in-head m (n ∷ ns)))))
      ∙ left-off n ns p (λ k. h (is_in-tail p m (n ∷ ns) k))

  -- on the way some is
  pub left-on : (m : ℕ) (ns : List ℕ) (p : ℕ) → IsTrue (is_in p (m ∷ ns)) → 0 < left m ns p
  left-on m [] p h = let is : left m [] p ≡ 1 = cond-true (p == m) 1 0 (eq-eqb p m (is_in_single p m h)) in omega (arith, is)
  left-on m (n ∷ ns) p h =
      ⊎_elim
      (λ e. let is : left m (n ∷ ns) p ≡ length ns + 2 = cond-true (p == m) (length ns + 2) (left n ns p) (eq-eqb p m e) in omega (arith, is))
      (λ other.
      let is : left m (n ∷ ns) p ≡ left n ns p = cond-false (p == m) (length ns + 2) (left n ns p) (ne_eqb p m other) in
      let rest = left-on n ns p (⊎_elim (λ e. absurd (other e)) (λ k. k) (is_in-cases p m (n ∷ ns) h)) in
      omega (arith, is, rest))
      (cases_eq p m)

  -- the end isn't on the way
  pub end_off : (m : ℕ) (ns : List ℕ) (end : ℕ) → IsSimple m ns end → ¬ IsTrue (is_in end (m ∷ ns))
  end_off m [] end simple h = simple (sym (is_in_single end m h))
  end_off m (n ∷ ns) end simple h = ⊎_elim (λ e. simple.1 (sym e)) (λ k. end_off n ns end simple.2 k) (is_in-cases end m (n ∷ ns) h)

  -- choices that are the same on the way follow it too
  pub Follows-same : (pick pick' : ℕ → ℕ × ℕ) (m : ℕ) (ns : List ℕ) (end : ℕ) (way : IsWay nego m ns end) → ((p : ℕ) → IsTrue (is_in p (m ∷ ns)) → pick' p ≡ pick p) → Follows nego pick m ns end way → Follows nego pick' m ns end way
  Follows-same pick pick' m [] end way same h = same m (is_in-head m []) ∙ h
  Follows-same pick pick' m (n ∷ ns) end way same h = (same m (is_in-head m (n ∷ ns)) ∙ h.0, Follows-same pick pick' n ns end way.1 (λ p k. same p (is_in-tail p m (n ∷ ns) k)) h.1)

  -- the choices along the way follow it
  pub along-follows : (pick : ℕ → ℕ × ℕ) (m : ℕ) (ns : List ℕ) (end : ℕ) (way : IsWay nego m ns end) → IsSimple m ns end → Follows nego (along nego pick m ns end way) m ns end way
  along-follows pick m [] end way simple = cond-true (m == m) (way.outcome, way.agent) (pick m) (eq-eqb m m refl)
  along-follows pick m (n ∷ ns) end way simple = (
    cond-true (m == m) (way.0.outcome, way.0.agent) (along nego pick n ns end way.1 m) (eq-eqb m m refl),
    Follows-same (along nego pick n ns end way.1) (along nego pick m (n ∷ ns) end way) n ns end way.1
        (λ p k. cond-false (p == m) (way.0.outcome, way.0.agent) (along nego pick n ns end way.1 p) (ne_eqb p m (λ e. simple.0 (subst (λ q. IsTrue (is_in q (n ∷ ns))) e k))))
        (along-follows pick n ns end way.1 simple.2),
  )

  -- elsewhere they are the others
  pub along-off : (pick : ℕ → ℕ × ℕ) (m : ℕ) (ns : List ℕ) (end : ℕ) (way : IsWay nego m ns end) (p : ℕ) → ¬ IsTrue (is_in p (m ∷ ns)) → along nego pick m ns end way p ≡ pick p
  along-off pick m [] end way p h =
      cond-false (p == m) (way.outcome, way.agent) (pick p) (ne_eqb p m (λ e. h (subst (λ q. IsTrue (is_in q (m ∷ []))) (sym e) (is_in-head m []))))
  along-off pick m (n ∷ ns) end way p h =
      cond-false (p == m) (way.0.outcome, way.0.agent) (along nego pick n ns end way.1 p) (ne_eqb p m (λ e. h (subst (λ q. IsTrue (is_in q (m ∷ n ∷ ns))) (sym e) (is_in-head m (n ∷ ns)))))
      ∙ along-off pick n ns end way.1 p (λ k. h (is_in-tail p m (n ∷ ns) k))

  module _ (ok : IsNegotiation nego) (single : IsDeterministic nego) where
    -- an outcome of the atom, and a party
    abbrev pub IsOwn : ℕ → ℕ × ℕ → Type 0
    IsOwn n pair = IsTrue (is_in pair.0 (nego.outcomes n)) × IsTrue (is_in pair.1 (nego.parties n))

    -- an edge has them
    pub edge-own : (m n : ℕ) (edge : IsEdge nego m n) → IsOwn m (edge.outcome, edge.agent)
    edge-own m n edge = (edge.own.1, ⊎_elim (λ party. party) (λ none. absurd (is_in_none n (nego.next edge.outcome edge.agent) none edge.leads)) (ok.strangers_stay m edge.outcome edge.agent edge.own))

    -- the choices along the way are outcomes and parties, where the others are
    pub along-own : (pick : ℕ → ℕ × ℕ) → ((n : ℕ) → IsTrue (is_in n nego.atoms) → IsOwn n (pick n)) → (m : ℕ) (ns : List ℕ) (end : ℕ) (way : IsWay nego m ns end) (p : ℕ) → IsTrue (is_in p nego.atoms) →
        IsOwn p (along nego pick m ns end way p)
    along-own pick own m [] end way p there = ⊎_elim
        (λ e. subst (IsOwn p) (sym (cond-true (p == m) (way.outcome, way.agent) (pick p) (eq-eqb p m e))) (subst (λ q. IsOwn q (way.outcome, way.agent)) (sym e) (edge-own m end way)))
        (λ other. subst (IsOwn p) (sym (cond-false (p == m) (way.outcome, way.agent) (pick p) (ne_eqb p m other))) (own p there))
        (cases_eq p m)
    along-own pick own m (n ∷ ns) end way p there =
        let rest = along-own pick own n ns end way.1 p there in
        ⊎_elim
        (λ e.
        subst (IsOwn p) (sym (cond-true (p == m) (way.0.outcome, way.0.agent) (along nego pick n ns end way.1 p) (eq-eqb p m e)))
        (subst (λ q. IsOwn q (way.0.outcome, way.0.agent)) (sym e) (edge-own m n way.0)))
        (λ other. subst (IsOwn p) (sym (cond-false (p == m) (way.0.outcome, way.0.agent) (along nego pick n ns end way.1 p) (ne_eqb p m other))) rest)
        (cases_eq p m)

    -- what an edge's choice leads to is the edge's end
    pub edge_end : (pick : ℕ → ℕ × ℕ) (m n q : ℕ) (edge : IsEdge nego m n) → pick m ≡ (edge.outcome, edge.agent) → IsTrue (is_in q (nego.next (pick m).0 (pick m).1)) → q ≡ n
    edge_end pick m n q edge is h = single m edge.outcome edge.agent q n edge.own (subst (λ (pair : ℕ × ℕ). IsTrue (is_in q (nego.next pair.0 pair.1))) is h) edge.leads

    -- On the way the choice leads to an atom of the way or to the end, from which less is left.
    pub follows-leads : (pick : ℕ → ℕ × ℕ) (m : ℕ) (ns : List ℕ) (end : ℕ) (way : IsWay nego m ns end) → IsSimple m ns end → Follows nego pick m ns end way → (p q : ℕ) → IsTrue (is_in p (m ∷ ns)) →
        IsTrue (is_in q (nego.next (pick p).0 (pick p).1)) → (IsTrue (is_in q (m ∷ ns)) ⊎ (q ≡ end)) × (left m ns q < left m ns p)
    follows-leads pick m [] end way simple h p q on leads =
        let same : p ≡ m = is_in_single p m on in
        let is : q ≡ end = edge_end pick m end q way h (subst (λ n. IsTrue (is_in q (nego.next (pick n).0 (pick n).1))) same leads) in
        let none = left-off m [] q (λ k. simple (sym (is_in_single q m k) ∙ is)) in
        let some = left-on m [] p on in
        (inr is, omega (arith, none, some))
    follows-leads pick m (n ∷ ns) end way simple h p q on leads = ⊎_elim first (λ k. behind (follows-leads pick n ns end way.1 simple.2 h.1 p q k leads) k) (is_in-cases p m (n ∷ ns) on)
      where
        first : p ≡ m → (IsTrue (is_in q (m ∷ n ∷ ns)) ⊎ (q ≡ end)) × (left m (n ∷ ns) q < left m (n ∷ ns) p)
        first same =
            let is : q ≡ n = edge_end pick m n q way.0 h.0 (subst (λ k. IsTrue (is_in q (nego.next (pick k).0 (pick k).1))) same leads) in
            let at : left m (n ∷ ns) p ≡ length ns + 2 = cond-true (p == m) (length ns + 2) (left n ns p) (eq-eqb p m same) in
            let differ : q ≢ m = λ e. simple.0 (subst (λ k. IsTrue (is_in k (n ∷ ns))) (sym is ∙ e) (is_in-head n ns)) in
            let next : left m (n ∷ ns) q ≡ left n ns q = cond-false (q == m) (length ns + 2) (left n ns q) (ne_eqb q m differ) in
            let most = left-most n ns q in
            (inl (subst (λ k. IsTrue (is_in k (m ∷ n ∷ ns))) (sym is) (is_in-tail n m (n ∷ ns) (is_in-head n ns))), omega (arith, at, next, most))

        behind : (IsTrue (is_in q (n ∷ ns)) ⊎ (q ≡ end)) × (left n ns q < left n ns p) → IsTrue (is_in p (n ∷ ns)) → (IsTrue (is_in q (m ∷ n ∷ ns)) ⊎ (q ≡ end)) × (left m (n ∷ ns) q < left m (n ∷ ns) p)
        behind rest k' =
            let differ : p ≢ m = λ e. simple.0 (subst (λ r. IsTrue (is_in r (n ∷ ns))) e k') in
            let differ' : q ≢ m = λ e. ⊎_elim (λ r. simple.0 (subst (λ x. IsTrue (is_in x (n ∷ ns))) e r)) (λ r. simple.1 (sym e ∙ r)) rest.0 in
            let at : left m (n ∷ ns) p ≡ left n ns p = cond-false (p == m) (length ns + 2) (left n ns p) (ne_eqb p m differ) in
            let next : left m (n ∷ ns) q ≡ left n ns q = cond-false (q == m) (length ns + 2) (left n ns q) (ne_eqb q m differ') in
            let less = rest.1 in
            (⊎_elim (λ r. inl (is_in-tail q m (n ∷ ns) r)) (λ r. inr r) rest.0, omega (arith, at, next, less))
