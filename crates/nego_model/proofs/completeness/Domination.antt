-- On a cycle of a sound deterministic negotiation the atom that is nearest to the last one has all parties of the atom behind
-- it.
use Rattle.std.proofs.Common.{◌≡◌, ◌≢◌, ◌⊎◌, inl, ⊎_elim, ℕ, suc, ◌+◌, ◌*◌, ◌<◌, ◌≤◌, ◌==◌, if◌then◌else◌, List, [], ◌∷◌, ◌++◌, length, Some, IsTrue, refl, sym, subst, ap, ◌∙◌, arith, eq-eqb, ne_eqb, mul-le-mul_left, mul-suc}
use Rattle.std.proofs.lemmas.Bool.{cases_eq, cases_lt, cond-true, cond-false, false_from_ne_true}
use Rattle.nego_base.specs.Members.{is_in}
use Rattle.nego_base.proofs.Members.{in_or_not}
use Rattle.nego_model.specs.Negotiation.{Negotiation, IsNegotiation, IsDeterministic}
use Rattle.nego_model.specs.Occurring.{PlainMarking, Occurrence, ready, enables, leaves, IsSound}
use Rattle.nego_model.specs.Acyclic.{IsEdge}
use Rattle.nego_model.specs.Projection.{projection}
use Rattle.nego_model.specs.Policy.{Policy, AreChosen, IsCompletedBy}
use Rattle.nego_model.proofs.occurrence.Markings.{enables-party}
use Rattle.nego_model.proofs.occurrence.ReachedMarkings.{IsReached}
use Rattle.nego_model.proofs.completeness.Paths.{IsStretch, stretch-begins, path-seen, stretch-seen, seen_occurs}
use Rattle.nego_model.proofs.completeness.Counting.{times, total, Guided, targets, at_most}
use Rattle.nego_model.proofs.completeness.Policies.{goes_on, completed}
use Rattle.nego_model.proofs.completeness.EdgeWays.{IsWay, IsSimple, left, Follows, along, left-most, end_off, Follows-same, along-follows, along-off, IsOwn, edge-own, along-own, edge_end, follows-leads}
use Rattle.nego_model.proofs.completeness.Rounds.{times_seen, times-front, stretch-same, times_once, never_ends}

-- A cycle: a way from an atom to another, from which an edge leads back. The other is nearest to the last atom.
module _ (nego : Negotiation) (ok : IsNegotiation nego) (single : IsDeterministic nego) (policy : Policy nego) (m n : ℕ) (ns : List ℕ) (way : IsWay nego m ns n) (back : IsEdge nego n m) (simple : IsSimple m ns n)
    (nearest : (p : ℕ) → IsTrue (is_in p (m ∷ ns)) → policy.distance n ≤ policy.distance p) where
  -- ---- the policy that takes the way, and leaves the cycle behind it

  abbrev leaving : ℕ → ℕ × ℕ
  leaving = along nego (λ p. (policy.choice p, policy.guide p)) m ns n way

  leaving-own : (p : ℕ) → IsTrue (is_in p nego.atoms) → IsOwn nego ok single p (leaving p)
  leaving-own = along-own nego ok single (λ p. (policy.choice p, policy.guide p)) (λ p there. (policy.own p there, policy.party p there)) m ns n way

  leaving-follows : Follows nego leaving m ns n way
  leaving-follows = along-follows nego (λ p. (policy.choice p, policy.guide p)) m ns n way simple

  -- how far the last atom is by the old policy, at the end of the way where an atom stands on it
  abbrev far : ℕ → ℕ
  far p = if is_in p (m ∷ ns) then policy.distance n else policy.distance p

  far-on : (p : ℕ) → IsTrue (is_in p (m ∷ ns)) → far p ≡ policy.distance n
  far-on p on = cond-true (is_in p (m ∷ ns)) (policy.distance n) (policy.distance p) on

  far-off : (p : ℕ) → ¬ IsTrue (is_in p (m ∷ ns)) → far p ≡ policy.distance p
  far-off p off = cond-false (is_in p (m ∷ ns)) (policy.distance n) (policy.distance p) (false_from_ne_true (is_in p (m ∷ ns)) off)

  far-most : (p : ℕ) → far p ≤ policy.distance p
  far-most p = ⊎_elim (λ on. let is = far-on p on in let least = nearest p on in omega (arith, is, least)) (λ off. let is = far-off p off in omega (arith, is)) (in_or_not p (m ∷ ns))

  -- so far, and so much of the way left
  abbrev distance : ℕ → ℕ
  distance p = (length ns + 2) * far p + left m ns p

  distance_less : (p q : ℕ) → far q < far p → distance q < distance p
  distance_less p q less =
      let more = mul_more (length ns + 2) (far q) (far p) less in
      let most = left-most nego m ns q in
      omega (arith, more, most)
    where
      mul_more : (k x y : ℕ) → x < y → k * x + k ≤ k * y
      mul_more k x y h = let more : k * suc x ≤ k * y = mul-le-mul_left {m = suc x} {n = y} k h in let is = mul-suc k x in omega (arith, more, is)

  leaving-nearer : (p q : ℕ) → IsTrue (is_in p nego.atoms) → IsTrue (is_in q (nego.next (leaving p).0 (leaving p).1)) → distance q < distance p
  leaving-nearer p q there leads = ⊎_elim on off (in_or_not p (m ∷ ns))
    where
      on : IsTrue (is_in p (m ∷ ns)) → distance q < distance p
      on h =
          let k = follows-leads nego ok single leaving m ns n way simple leaving-follows p q h leads in
          let at : far q ≡ policy.distance n = ⊎_elim (λ r. far-on q r) (λ e. far-off q (λ r. end_off nego m ns n simple (subst (λ x. IsTrue (is_in x (m ∷ ns))) e r)) ∙ ap policy.distance e) k.0 in
          let same : (length ns + 2) * far q ≡ (length ns + 2) * far p = ap (λ x. (length ns + 2) * x) (at ∙ sym (far-on p h)) in
          let less = k.1 in
          omega (arith, same, less)

      off : ¬ IsTrue (is_in p (m ∷ ns)) → distance q < distance p
      off h =
          let old : leaving p ≡ (policy.choice p, policy.guide p) = along-off nego (λ r. (policy.choice r, policy.guide r)) m ns n way p h in
          let nearer : policy.distance q < policy.distance p = policy.nearer p q there (subst (λ (pair : ℕ × ℕ). IsTrue (is_in q (nego.next pair.0 pair.1))) old leads) in
          let most = far-most q in
          let is = far-off p h in
          distance_less p q (omega (arith, nearer, most, is))

  abbrev leaving_policy : Policy nego
  leaving_policy = record {
    choice = λ p. (leaving p).0;
    guide = λ p. (leaving p).1;
    distance = distance;
    own = λ p there. (leaving-own p there).0;
    party = λ p there. (leaving-own p there).1;
    nearer = leaving-nearer;
  }

  -- ---- the choices that go round

  abbrev round : ℕ → ℕ × ℕ
  round p = if p == n then (back.outcome, back.agent) else leaving p

  round-end : round n ≡ (back.outcome, back.agent)
  round-end = cond-true (n == n) (back.outcome, back.agent) (leaving n) (eq-eqb n n refl)

  round-other : (p : ℕ) → p ≢ n → round p ≡ leaving p
  round-other p other = cond-false (p == n) (back.outcome, back.agent) (leaving p) (ne_eqb p n other)

  round-own : (p : ℕ) → IsTrue (is_in p nego.atoms) → IsOwn nego ok single p (round p)
  round-own p there = ⊎_elim
      (λ e. subst (IsOwn nego ok single p) (sym (ap round e ∙ round-end)) (subst (λ x. IsOwn nego ok single x (back.outcome, back.agent)) (sym e) (edge-own nego ok single n m back)))
      (λ other. subst (IsOwn nego ok single p) (sym (round-other p other)) (leaving-own p there))
      (cases_eq p n)

  round-follows : Follows nego round m ns n way
  round-follows = Follows-same nego leaving round m ns n way (λ p on. round-other p (λ e. end_off nego m ns n simple (subst (λ x. IsTrue (is_in x (m ∷ ns))) e on))) leaving-follows

  abbrev round_guided : Guided nego
  round_guided = record { choice = λ p. (round p).0; guide = λ p. (round p).1; own = λ p there. (round-own p there).0; party = λ p there. (round-own p there).1 }

  -- how far the way's first atom is by them
  abbrev steps_round : ℕ → ℕ
  steps_round p = if p == m then 0 else (if p == n then 1 else (if is_in p (m ∷ ns) then left m ns p + 1 else length ns + 3 + policy.distance p))

  round-first : steps_round m ≡ 0
  round-first = cond-true (m == m) 0 (if m == n then 1 else (if is_in m (m ∷ ns) then left m ns m + 1 else length ns + 3 + policy.distance m)) (eq-eqb m m refl)

  past_first : (p : ℕ) → p ≢ m → steps_round p ≡ (if p == n then 1 else (if is_in p (m ∷ ns) then left m ns p + 1 else length ns + 3 + policy.distance p))
  past_first p other = cond-false (p == m) 0 (if p == n then 1 else (if is_in p (m ∷ ns) then left m ns p + 1 else length ns + 3 + policy.distance p)) (ne_eqb p m other)

  steps-end : (p : ℕ) → p ≢ m → p ≡ n → steps_round p ≡ 1
  steps-end p other e = past_first p other ∙ cond-true (p == n) 1 (if is_in p (m ∷ ns) then left m ns p + 1 else length ns + 3 + policy.distance p) (eq-eqb p n e)

  past_end : (p : ℕ) → p ≢ m → p ≢ n → steps_round p ≡ (if is_in p (m ∷ ns) then left m ns p + 1 else length ns + 3 + policy.distance p)
  past_end p other other' = past_first p other ∙ cond-false (p == n) 1 (if is_in p (m ∷ ns) then left m ns p + 1 else length ns + 3 + policy.distance p) (ne_eqb p n other')

  steps-on : (p : ℕ) → p ≢ m → p ≢ n → IsTrue (is_in p (m ∷ ns)) → steps_round p ≡ left m ns p + 1
  steps-on p other other' on = past_end p other other' ∙ cond-true (is_in p (m ∷ ns)) (left m ns p + 1) (length ns + 3 + policy.distance p) on

  steps-off : (p : ℕ) → p ≢ m → p ≢ n → ¬ IsTrue (is_in p (m ∷ ns)) → steps_round p ≡ length ns + 3 + policy.distance p
  steps-off p other other' off = past_end p other other' ∙ cond-false (is_in p (m ∷ ns)) (left m ns p + 1) (length ns + 3 + policy.distance p) (false_from_ne_true (is_in p (m ∷ ns)) off)

  -- on the cycle not more than what is left of the way and the edge back, and elsewhere not more than this
  steps-least : (p : ℕ) → IsTrue (is_in p (m ∷ ns)) ⊎ (p ≡ n) → steps_round p ≤ left m ns p + 1
  steps-least p on = ⊎_elim
      (λ e. let is : steps_round p ≡ 0 = ap steps_round e ∙ round-first in omega (arith, is))
      (λ other.
      ⊎_elim (λ e. let is = steps-end p other e in omega (arith, is))
      (λ other'. let is = steps-on p other other' (⊎_elim (λ h. h) (λ e. absurd (other' e)) on) in omega (arith, is))
      (cases_eq p n))
      (cases_eq p m)

  steps-most : (p : ℕ) → steps_round p ≤ length ns + 3 + policy.distance p
  steps-most p = ⊎_elim
      (λ on. let least = steps-least p (inl on) in let most = left-most nego m ns p in omega (arith, least, most))
      (λ off.
      ⊎_elim (λ e. let is : steps_round p ≡ 0 = ap steps_round e ∙ round-first in omega (arith, is))
      (λ other.
      ⊎_elim (λ e. let is = steps-end p other e in omega (arith, is)) (λ other'. let is = steps-off p other other' off in omega (arith, is)) (cases_eq p n))
      (cases_eq p m))
      (in_or_not p (m ∷ ns))

  round-nearer : (p q : ℕ) → IsTrue (is_in p nego.atoms) → p ≢ m → IsTrue (is_in q (targets nego ok single round_guided p)) → steps_round q < steps_round p
  round-nearer p q there other leads = ⊎_elim at_end (λ other'. ⊎_elim (on other') (off other') (in_or_not p (m ∷ ns))) (cases_eq p n)
    where
      at_end : p ≡ n → steps_round q < steps_round p
      at_end e =
          let is : q ≡ m = edge_end nego ok single round n m q back round-end (subst (λ x. IsTrue (is_in q (nego.next (round x).0 (round x).1))) e leads) in
          let none : steps_round q ≡ 0 = ap steps_round is ∙ round-first in
          let one = steps-end p other e in
          omega (arith, none, one)

      on : p ≢ n → IsTrue (is_in p (m ∷ ns)) → steps_round q < steps_round p
      on other' h =
          let k = follows-leads nego ok single round m ns n way simple round-follows p q h leads in
          let least = steps-least q k.0 in
          let is = steps-on p other other' h in
          let less = k.1 in
          omega (arith, least, is, less)

      off : p ≢ n → ¬ IsTrue (is_in p (m ∷ ns)) → steps_round q < steps_round p
      off other' h =
          let old : round p ≡ (policy.choice p, policy.guide p) = round-other p other' ∙ along-off nego (λ r. (policy.choice r, policy.guide r)) m ns n way p h in
          let nearer : policy.distance q < policy.distance p = policy.nearer p q there (subst (λ (pair : ℕ × ℕ). IsTrue (is_in q (nego.next pair.0 pair.1))) old leads) in
          let most = steps-most q in
          let is = steps-off p other other' h in
          omega (arith, nearer, most, is)

  -- ---- an agent that isn't a party of the end would come to the first atom again and again, and no more than once

  module _ (sound : IsSound nego) (a : ℕ) (party : IsTrue (is_in a (nego.parties m))) (stranger : ¬ IsTrue (is_in a (nego.parties n))) where
    abbrev there : IsTrue (is_in m nego.atoms)
    there = (ok.next_party n back.outcome back.agent m back.own back.leads).0

    below : a < nego.agents
    below = ok.party_below m a there party

    module _ (start : PlainMarking) (reached : IsReached nego start) (enabled : IsTrue (enables nego start m)) where
      -- chosen occurrences that go round, as many as one likes
      abbrev enough : ℕ
      enough = suc (total (λ p. steps_round p + 1) nego.atoms)

      long : (steps : List Occurrence) × (to : PlainMarking) × AreChosen round_guided.choice steps × (leaves nego start steps ≡ Some to) × (length steps ≡ enough)
      long = ⊎_elim
          (λ done. absurd (never_ends nego ok single round m ns n way back round-follows round-end done.0 start reached a below (enables-party nego start m a enabled party) done.1))
          (λ more. more)
          (goes_on nego sound round_guided.choice round_guided.own enough start reached)

      -- the first atom occurs twice in them
      twice : 1 < times (m ∷ []) long.0
      twice = ⊎_elim (λ h. h)
          (λ once.
          let few = at_most nego ok single round_guided m steps_round round-nearer long.0 start long.1 reached long.2 long.3 1 (omega arith) (omega (arith, once)) in
          let many = long.4 in
          absurd (let no_more : ⊥ = omega (arith, few, many) in no_more))
          (cases_lt 1 (times (m ∷ []) long.0))

      -- what the agent sees of them begins what it sees by the policy that leaves the cycle
      sees : IsStretch nego leaving_policy.choice a (ready start a) (projection nego a long.0) (ready long.1 a)
      sees = stretch-same nego round_guided.choice leaving_policy.choice a (ready start a) (ready long.1 a) (projection nego a long.0)
          (λ p h. ap (λ (pair : ℕ × ℕ). pair.0) (round-other p (λ e. stranger (subst (λ x. IsTrue (is_in a (nego.parties x))) e (seen_occurs nego a p long.0 h).0))))
          (stretch-seen nego ok single round_guided.choice a below long.0 start long.1 reached long.2 long.3)

      all : (steps : List Occurrence) × IsCompletedBy nego leaving_policy.choice start steps
      all = completed nego ok single leaving_policy sound start reached

      begins : (rest : List Occurrence) × (projection nego a all.0 ≡ projection nego a long.0 ++ rest)
      begins = stretch-begins nego leaving_policy.choice a (ready start a) (ready long.1 a) (projection nego a long.0) (projection nego a all.0) sees
          (path-seen nego ok single leaving_policy.choice a below all.0 start reached all.1)

      absurd_twice : ⊥
      absurd_twice =
          let once = times_once nego ok single leaving_policy.choice m all.0 start reached all.1 in
          let seen = times_seen nego a m party long.0 in
          let seen' = times_seen nego a m party all.0 in
          let same = ap (times (m ∷ [])) begins.1 in
          let more = times-front (m ∷ []) (projection nego a long.0) begins.0 in
          let often = twice in
          omega (arith, once, seen, seen', same, more, often)

  -- so each party of the way's first atom is one of its end
  pub dominated : IsSound nego → (a : ℕ) → IsTrue (is_in a (nego.parties m)) → IsTrue (is_in a (nego.parties n))
  dominated sound a party = ⊎_elim (λ h. h)
      (λ stranger.
      let start = sound.alive m (ok.next_party n back.outcome back.agent m back.own back.leads).0 in
      absurd (absurd_twice sound a party stranger start.marking (record { steps = start.run; leads = start.leads }) start.enabled))
      (in_or_not a (nego.parties n))
