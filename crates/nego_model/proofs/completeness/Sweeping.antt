-- In a sound deterministic negotiation, of which nothing iterates, some atom may be swept, where there is one beside the first
-- and the last: else one could go back along links for ever, and so round a cycle, on which the atom that is nearest to the last
-- has all parties of the one behind it.
use Rattle.std.proofs.Common.{◌≡◌, ◌≢◌, ◌⊎◌, inl, inr, ⊎_elim, ℕ, zero, suc, eqb, not, ◌<◌, ◌≤◌, List, [], ◌∷◌, ◌++◌, length, drop, slice_index_or, IsTrue, refl, sym, subst, ap, ◌∙◌, arith, append_assoc, ne_eqb}
use Rattle.std.proofs.lemmas.Bool.{cases_eq, cases_lt, and_from}
use Rattle.nego_base.specs.Members.{is_in, without_member, IsRising}
use Rattle.nego_base.proofs.Members.{is_in-cases, is_in_none, is_in-head, is_in-tail, is_in_single, is_in-without, length-without, rises-without}
use Rattle.nego_model.specs.Negotiation.{Negotiation, IsNegotiation, IsDeterministic}
use Rattle.nego_model.specs.Occurring.{IsSound}
use Rattle.nego_model.specs.Policy.{Policy}
use Rattle.nego_model.specs.Reduced.{IteratesNone, IsSweepable}
use Rattle.nego_model.proofs.completeness.Nearest.{nearest}
use Rattle.nego_model.proofs.completeness.EdgeWays.{IsWay, IsSimple}
use Rattle.nego_model.proofs.completeness.Domination.{dominated}
use Rattle.nego_model.proofs.completeness.Waiting.{all_or, Link, sweepable_or_linked}

-- a member of a list with more at its end is in the list or in what is more
in_either : (x : ℕ) (xs : List ℕ) (y : ℕ) → IsTrue (is_in x (xs ++ y ∷ [])) → IsTrue (is_in x xs) ⊎ (x ≡ y)
in_either x [] y h = inr (is_in_single x y h)
in_either x (z ∷ zs) y h =
    ⊎_elim (λ e. inl (subst (λ w. IsTrue (is_in w (z ∷ zs))) (sym e) (is_in-head z zs))) (λ later. ⊎_elim (λ k. inl (is_in-tail x z zs k)) (λ e. inr e) (in_either x zs y later)) (is_in-cases x z (zs ++ y ∷ []) h)

-- a list up to a member, and what follows
parted_at : (x : ℕ) (xs : List ℕ) → IsTrue (is_in x xs) → (front : List ℕ) × (rest : List ℕ) × (xs ≡ front ++ x ∷ rest)
parted_at x [] h = absurd (is_in_none x [] refl h)
parted_at x (y ∷ ys) h =
    ⊎_elim (λ e. ([], ys, ap (λ z. z ∷ ys) (sym e))) (λ later. let k = parted_at x ys later in (y ∷ k.0, k.1, ap (◌∷◌ y) k.2)) (is_in-cases x y ys h)

-- Links lead from an atom through those of a list to another.
abbrev AreLinked : Negotiation → ℕ → List ℕ → ℕ → Type 0
AreLinked nego m [] end = Link nego m end
AreLinked nego m (n ∷ ns) end = Link nego m n × AreLinked nego n ns end

-- Links lead round: through the atoms of a list, which differ, to another atom, and back to the first.
record Around (nego : Negotiation) (atoms : List ℕ) (end : ℕ) : Type 0 where
  first : ℕ
  rest : List ℕ
  is : atoms ≡ first ∷ rest
  links : AreLinked nego first rest end
  back : Link nego end first
  simple : IsSimple first rest end

module _ (nego : Negotiation) where
  -- linked atoms are a way
  way : (m : ℕ) (ns : List ℕ) (end : ℕ) → AreLinked nego m ns end → IsWay nego m ns end
  way m [] end h = h.edge
  way m (n ∷ ns) end h = (h.0.edge, way n ns end h.1)

  -- a link more
  linked_more : (m : ℕ) (ns : List ℕ) (end more : ℕ) → AreLinked nego m ns end → Link nego end more → AreLinked nego m (ns ++ end ∷ []) more
  linked_more m [] end more h k = (h, k)
  linked_more m (n ∷ ns) end more h k = (h.0, linked_more n ns end more h.1 k)

  simple_more : (m : ℕ) (ns : List ℕ) (end more : ℕ) → IsSimple m ns end → ¬ IsTrue (is_in more (m ∷ ns)) → more ≢ end → IsSimple m (ns ++ end ∷ []) more
  simple_more m [] end more h away other = (
    λ k. h (is_in_single m end k),
    λ e. away (subst (λ x. IsTrue (is_in x (m ∷ []))) e (is_in-head m [])),
    λ e. other (sym e),
  )
  simple_more m (n ∷ ns) end more h away other = (
    λ k. ⊎_elim h.0 h.1 (in_either m (n ∷ ns) end k),
    λ e. away (subst (λ x. IsTrue (is_in x (m ∷ n ∷ ns))) e (is_in-head m (n ∷ ns))),
    simple_more n ns end more h.2 (λ k. away (is_in-tail more m (n ∷ ns) k)) other,
  )

  -- one begins one atom later
  turned : (m : ℕ) (ns : List ℕ) (end : ℕ) → AreLinked nego m ns end → Link nego end m → IsSimple m ns end → Around nego (ns ++ end ∷ []) m
  turned m [] end h back simple = record { first = end; rest = []; is = refl; links = back; back = h; simple = λ e. simple (sym e) }
  turned m (n ∷ ns) end h back simple = record {
    first = n;
    rest = ns ++ end ∷ [];
    is = refl;
    links = linked_more n ns end m h.1 back;
    back = h.0;
    simple = simple_more n ns end m simple.2 simple.0 simple.1;
  }

  -- one begins behind a given atom
  turned_to : (front : List ℕ) (x : ℕ) (rest : List ℕ) (end : ℕ) → Around nego (front ++ x ∷ rest) end → (atoms : List ℕ) × Around nego atoms x
  turned_to [] x rest end around =
      let first : x ≡ around.first = ap (λ xs. slice_index_or xs 0 0) around.is in
      (around.rest ++ end ∷ [], subst (Around nego (around.rest ++ end ∷ [])) (sym first) (turned around.first around.rest end around.links around.back around.simple))
  turned_to (y ∷ front) x rest end around =
      let others : front ++ x ∷ rest ≡ around.rest = ap (drop 1) around.is in
      let next : Around nego (around.rest ++ end ∷ []) around.first = turned around.first around.rest end around.links around.back around.simple in
      turned_to front x (rest ++ end ∷ []) around.first
      (subst (λ atoms. Around nego atoms around.first) (ap (λ xs. xs ++ end ∷ []) (sym others) ∙ append_assoc front (x ∷ rest) (end ∷ [])) next)

  module _ (ok : IsNegotiation nego) (single : IsDeterministic nego) (sound : IsSound nego) (policy : Policy nego) where
    -- the end is the nearest, or another atom is nearer
    nearest_or_not : (atoms : List ℕ) (end : ℕ) → Around nego atoms end → (x : ℕ) × IsTrue (is_in x atoms) × (policy.distance x < policy.distance end)
    nearest_or_not atoms end around =
        ⊎_elim
        (λ all.
        absurd (around.back.stranger
        (dominated nego ok single policy around.first end around.rest (way around.first around.rest end around.links) around.back.edge around.simple
        (λ p on. all p (subst (λ xs. IsTrue (is_in p xs)) (sym around.is) on)) sound around.back.party around.back.own)))
        (λ nearer. nearer)
        (all_or (λ p. policy.distance end ≤ policy.distance p) ((p : ℕ) × IsTrue (is_in p atoms) × (policy.distance p < policy.distance end)) atoms
        (λ p on. ⊎_elim (λ less. inr (p, on, less)) (λ least. inl least) (cases_lt (policy.distance p) (policy.distance end))))

    -- so links don't lead round
    none_around : (far : ℕ) (atoms : List ℕ) (end : ℕ) → Around nego atoms end → policy.distance end ≤ far → ⊥
    none_around zero atoms end around within = let k = nearest_or_not atoms end around in let less = k.2 in omega (arith, less, within)
    none_around (suc far) atoms end around within =
        let k = nearest_or_not atoms end around in
        let less = k.2 in
        let at = parted_at k.0 atoms k.1 in
        let next = turned_to at.0 k.0 at.1 end (subst (λ xs. Around nego xs end) at.2 around) in
        none_around far next.0 k.0 next.1 (omega (arith, less, within))

-- ---- back along links

module _ (nego : Negotiation) where
  -- Each atom of a list is linked to the next.
  abbrev IsChain : ℕ → List ℕ → Type 0
  IsChain m [] = Unit {0}
  IsChain m (n ∷ ns) = Link nego m n × IsChain n ns

  -- No atom stands twice in the list.
  abbrev AreOnce : ℕ → List ℕ → Type 0
  AreOnce m [] = Unit {0}
  AreOnce m (n ∷ ns) = (¬ IsTrue (is_in m (n ∷ ns))) × AreOnce n ns

  -- the chain up to one of its atoms
  cut : (m : ℕ) (ns : List ℕ) (end : ℕ) → IsChain m ns → AreOnce m ns → IsTrue (is_in end ns) →
      (front : List ℕ) × AreLinked nego m front end × IsSimple m front end × ((x : ℕ) → IsTrue (is_in x front) → IsTrue (is_in x ns))
  cut m [] end chain once h = absurd (is_in_none end [] refl h)
  cut m (n ∷ ns) end chain once h =
      let differ : m ≢ end = λ e. once.0 (subst (λ x. IsTrue (is_in x (n ∷ ns))) (sym e) h) in
      ⊎_elim
      (λ same. ([], subst (Link nego m) (sym same) chain.0, differ, λ x k. absurd (is_in_none x [] refl k)))
      (λ later.
      let k = cut n ns end chain.1 once.1 later in
      let within : (x : ℕ) → IsTrue (is_in x (n ∷ k.0)) → IsTrue (is_in x (n ∷ ns)) =
      λ x on. ⊎_elim (λ e. subst (λ y. IsTrue (is_in y (n ∷ ns))) (sym e) (is_in-head n ns)) (λ j. is_in-tail x n ns (k.3 x j)) (is_in-cases x n k.0 on) in
      (n ∷ k.0, (chain.0, k.1), (λ on. once.0 (within m on), differ, k.2), within))
      (is_in-cases end n ns h)

  module _ (ok : IsNegotiation nego) (single : IsDeterministic nego) (sound : IsSound nego) (policy : Policy nego)
      (linked : (n : ℕ) → IsTrue (is_in n nego.atoms) → n ≢ nego.first → n ≢ nego.last → (m : ℕ) × Link nego m n) where
    -- an atom that lacks a party is neither the first nor the last
    middle : (m n : ℕ) → Link nego m n → IsTrue (is_in n nego.atoms) → (m ≢ nego.first) × (m ≢ nego.last)
    middle m n link there =
        let below = ok.party_below n link.party there link.own in (
          λ e. link.stranger (subst (λ x. IsTrue (is_in link.party (nego.parties x))) (sym e) (ok.all_begin link.party below)),
          λ e. link.stranger (subst (λ x. IsTrue (is_in link.party (nego.parties x))) (sym e) (ok.all_end link.party below)),
        )

    -- one can't go back to where one was
    not_back : (m n : ℕ) (ns : List ℕ) → Link nego m n → IsChain n ns → AreOnce n ns → ¬ IsTrue (is_in m (n ∷ ns))
    not_back m n ns link chain once h =
        ⊎_elim
        (λ same. link.stranger (subst (λ x. IsTrue (is_in link.party (nego.parties x))) (sym same) link.own))
        (λ later.
        let k = cut n ns m chain once later in
        none_around nego ok single sound policy (policy.distance m) (n ∷ k.0) m (record { first = n; rest = k.0; is = refl; links = k.1; back = link; simple = k.2 }) (omega arith))
        (is_in-cases m n ns h)

    -- and not for ever
    no_way_back : (count n : ℕ) (ns others : List ℕ) → IsTrue (is_in n nego.atoms) → n ≢ nego.first → n ≢ nego.last → IsChain n ns → AreOnce n ns → IsRising others → length others ≤ count →
        ((x : ℕ) → IsTrue (is_in x nego.atoms) → IsTrue (is_in x (n ∷ ns)) ⊎ IsTrue (is_in x others)) → ⊥
    no_way_back zero n ns others there not_first not_last chain once rises few all =
        let link = linked n there not_first not_last in
        ⊎_elim (not_back link.0 n ns link.1 chain once)
        (λ more. let fewer = length-without 0 link.0 others rises more in omega (arith, fewer, few))
        (all link.0 link.1.edge.own.0)
    no_way_back (suc count) n ns others there not_first not_last chain once rises few all =
        let link = linked n there not_first not_last in
        let apart = middle link.0 n link.1 there in
        ⊎_elim (not_back link.0 n ns link.1 chain once)
        (λ more.
        let fewer = length-without 0 link.0 others rises more in
        no_way_back count link.0 (n ∷ ns) (without_member link.0 others) link.1.edge.own.0 apart.0 apart.1 (link.1, chain) (not_back link.0 n ns link.1 chain once, once) (rises-without link.0 0 others rises)
        (omega (arith, fewer, few))
        (λ x h.
        ⊎_elim (λ on. inl (is_in-tail x link.0 (n ∷ ns) on))
        (λ other.
        ⊎_elim (λ e. inl (subst (λ y. IsTrue (is_in y (link.0 ∷ n ∷ ns))) (sym e) (is_in-head link.0 (n ∷ ns))))
        (λ differ. inr (is_in-without x link.0 others ∙ and_from (not (eqb x link.0)) (is_in x others) (ap not (ne_eqb x link.0 differ)) other))
        (cases_eq x link.0))
        (all x h)))
        (all link.0 link.1.edge.own.0)

-- Some atom may be swept, where there is one beside the first and the last.
pub some_swept : (nego : Negotiation) (n : ℕ) → IsNegotiation nego → IsDeterministic nego → IsSound nego → IteratesNone nego → IsTrue (is_in n nego.atoms) → n ≢ nego.first → n ≢ nego.last → (p : ℕ) × IsSweepable nego p
some_swept nego n ok single sound iterates there not_first not_last =
    ⊎_elim
    (λ linked.
    absurd (no_way_back nego ok single sound (nearest nego ok single sound) linked (length nego.atoms) n [] nego.atoms there not_first not_last tt tt ok.atoms_rise (omega arith) (λ x h. inr h)))
    (λ swept. swept)
    (all_or (λ m. m ≢ nego.first → m ≢ nego.last → (p : ℕ) × Link nego p m) ((p : ℕ) × IsSweepable nego p) nego.atoms (λ m h.
    ⊎_elim (λ e. inl (λ other. absurd (other e)))
    (λ other.
    ⊎_elim (λ e. inl (λ other' other''. absurd (other'' e)))
    (λ other'. ⊎_elim (λ swept. inr (m, swept)) (λ linked. inl (λ a b. linked)) (sweepable_or_linked nego ok single m sound iterates h other other'))
    (cases_eq m nego.last))
    (cases_eq m nego.first)))
