-- How often chosen occurrences can be of an atom, each of whose occurrences sends a guide on.
use Rattle.std.proofs.Common.{◌≡◌, ◌≢◌, ◌⊎◌, inl, inr, ⊎_elim, ℕ, zero, suc, ◌+◌, ◌<◌, ◌≤◌, if◌then◌else◌, List, [], ◌∷◌, length, Some, IsTrue, refl, sym, subst, ap, ◌∙◌, arith}
use Rattle.std.proofs.lemmas.Bool.{cases_eq, cond-true, cond-false, false_from_ne_true}
use Rattle.std.proofs.lemmas.List.Elements.{All-head, All-tail}
use Rattle.nego_base.specs.Members.{is_in}
use Rattle.nego_base.proofs.Members.{in_or_not, is_in-cases, is_in_none, is_in-head, is_in-tail, is_in_single, rising-single}
use Rattle.nego_model.specs.Negotiation.{Negotiation, IsNegotiation, IsDeterministic, IsOutcome}
use Rattle.nego_model.specs.Occurring.{PlainMarking, Occurrence, ready, after, leaves}
use Rattle.nego_model.specs.Policy.{AreChosen}
use Rattle.nego_model.proofs.occurrence.Markings.{enables-atom, enables-party}
use Rattle.nego_model.proofs.occurrence.Steps.{after-some, leaves-first}
use Rattle.nego_model.proofs.occurrence.ReachedMarkings.{IsReached, ready-after_party, ready-after_other, reached-after, reached-below}

-- how often the atoms of a list occur
abbrev pub times : List ℕ → List Occurrence → ℕ
times ns [] = 0
times ns (step ∷ steps) = if is_in step.0 ns then suc (times ns steps) else times ns steps

-- one of them has occurred once more
pub times-in : (ns : List ℕ) (step : Occurrence) (steps : List Occurrence) → IsTrue (is_in step.0 ns) → times ns (step ∷ steps) ≡ suc (times ns steps)
times-in ns step steps h = cond-true (is_in step.0 ns) (suc (times ns steps)) (times ns steps) h

-- another occurrence counts for nothing
pub times-out : (ns : List ℕ) (step : Occurrence) (steps : List Occurrence) → ¬ IsTrue (is_in step.0 ns) → times ns (step ∷ steps) ≡ times ns steps
times-out ns step steps h = cond-false (is_in step.0 ns) (suc (times ns steps)) (times ns steps) (false_from_ne_true (is_in step.0 ns) h)

-- no atoms occur never
pub times-none : (steps : List Occurrence) → times [] steps ≡ 0
times-none [] = refl
times-none (step ∷ steps) = times-out [] step steps (is_in_none step.0 [] refl) ∙ times-none steps

-- one atom and others occur as often as they do together, at least
times-cons : (n : ℕ) (ns : List ℕ) (steps : List Occurrence) → times (n ∷ ns) steps ≤ times (n ∷ []) steps + times ns steps
times-cons n ns [] = omega arith
times-cons n ns (step ∷ steps) = one_more (times-cons n ns steps) (in_or_not step.0 (n ∷ ns))
  where
    less : (ms : List ℕ) → times ms steps ≤ times ms (step ∷ steps)
    less ms = ⊎_elim (λ h. let e = times-in ms step steps h in omega (arith, e)) (λ h. let e = times-out ms step steps h in omega (arith, e)) (in_or_not step.0 ms)

    one_more : times (n ∷ ns) steps ≤ times (n ∷ []) steps + times ns steps → IsTrue (is_in step.0 (n ∷ ns)) ⊎ ¬ IsTrue (is_in step.0 (n ∷ ns)) →
        times (n ∷ ns) (step ∷ steps) ≤ times (n ∷ []) (step ∷ steps) + times ns (step ∷ steps)
    one_more more (inl h) =
        let e = times-in (n ∷ ns) step steps h in
        ⊎_elim
        (λ same.
        let one = times-in (n ∷ []) step steps (subst (λ m. IsTrue (is_in step.0 (m ∷ []))) same (is_in-head step.0 [])) in
        let rest = less ns in
        omega (arith, more, e, one, rest))
        (λ later. let one = less (n ∷ []) in let rest = times-in ns step steps later in omega (arith, more, e, one, rest))
        (is_in-cases step.0 n ns h)
    one_more more (inr h) = let e = times-out (n ∷ ns) step steps h in let one = less (n ∷ []) in let rest = less ns in omega (arith, more, e, one, rest)

-- the sum of numbers of atoms
abbrev pub total : (ℕ → ℕ) → List ℕ → ℕ
total count [] = 0
total count (n ∷ ns) = count n + total count ns

-- atoms occur together at most as often as each does
times-total : (count : ℕ → ℕ) (ns : List ℕ) (steps : List Occurrence) → ((n : ℕ) → IsTrue (is_in n ns) → times (n ∷ []) steps ≤ count n) → times ns steps ≤ total count ns
times-total count [] steps h = let none = times-none steps in omega (arith, none)
times-total count (n ∷ ns) steps h =
    let rest = times-total count ns steps (λ m k. h m (is_in-tail m n ns k)) in
    let one = h n (is_in-head n ns) in
    let both = times-cons n ns steps in
    omega (arith, rest, one, both)

-- each occurrence is of an atom
all_times : (nego : Negotiation) (steps : List Occurrence) (from to : PlainMarking) → leaves nego from steps ≡ Some to → length steps ≡ times nego.atoms steps
all_times nego [] from to e = refl
all_times nego (step ∷ steps) from to e =
    let k = leaves-first nego from step steps to e in
    ap suc (all_times nego steps k.0 to k.2) ∙ sym (times-in nego.atoms step steps (enables-atom nego from step.0 (after-some nego from step k.0 k.1).0))

-- Choices of an outcome and a guide, one of its parties, for each atom.
pub record Guided (nego : Negotiation) : Type 0 where
  pub choice : ℕ → ℕ
  pub guide : ℕ → ℕ
  pub own : (n : ℕ) → IsTrue (is_in n nego.atoms) → IsTrue (is_in (choice n) (nego.outcomes n))
  pub party : (n : ℕ) → IsTrue (is_in n nego.atoms) → IsTrue (is_in (guide n) (nego.parties n))

module _ (nego : Negotiation) (ok : IsNegotiation nego) (single : IsDeterministic nego) (guided : Guided nego) where
  -- where the chosen outcome of an atom sends its guide
  abbrev pub targets : ℕ → List ℕ
  targets n = nego.next (guided.choice n) (guided.guide n)

  outcome : (n : ℕ) → IsTrue (is_in n nego.atoms) → IsOutcome nego n (guided.choice n)
  outcome n there = (there, guided.own n there)

  -- An atom occurs at most once more often than the target of its guide, and not more often where the guide waits there.
  abbrev Between : ℕ → PlainMarking → List Occurrence → Type 0
  Between n from steps = (times (n ∷ []) steps ≤ times (targets n) steps + 1) × (ready from (guided.guide n) ≡ targets n → times (n ∷ []) steps ≤ times (targets n) steps)

  -- so it is with an occurrence before, where the guide isn't sent back
  module _ (n : ℕ) (there : IsTrue (is_in n nego.atoms)) (no_return : ¬ IsTrue (is_in n (targets n))) (step : Occurrence) (steps : List Occurrence) (from to : PlainMarking) (reached : IsReached nego from) (chosen : step.1 ≡ guided.choice step.0)
      (e : after nego from step ≡ Some to) (more : Between n to steps) where
    below : guided.guide n < length from
    below = reached-below nego from (guided.guide n) reached (ok.party_below n (guided.guide n) there (guided.party n there))

    -- of the atom itself
    between_itself : IsTrue (is_in (guided.guide n) (nego.parties step.0)) → step.0 ≡ n → Between n from (step ∷ steps)
    between_itself party same = (
      let one = times-in (n ∷ []) step steps (subst (λ m. IsTrue (is_in step.0 (m ∷ []))) same (is_in-head step.0 [])) in
          let none = times-out (targets n) step steps back in
          let rest = more.1 waits in
          omega (arith, one, none, rest),
      λ waits'. absurd (back (subst (λ here. IsTrue (is_in step.0 here)) waits' (enables-party nego from step.0 (guided.guide n) (after-some nego from step to e).0 party))),
    )
      where
        back : ¬ IsTrue (is_in step.0 (targets n))
        back h = no_return (subst (λ m. IsTrue (is_in m (targets n))) same h)

        waits : ready to (guided.guide n) ≡ targets n
        waits = ready-after_party nego from to step (guided.guide n) below e party ∙ ap (λ o. nego.next o (guided.guide n)) (chosen ∙ ap guided.choice same)

    -- of another in which the guide takes part
    between_other : IsTrue (is_in (guided.guide n) (nego.parties step.0)) → step.0 ≢ n → Between n from (step ∷ steps)
    between_other party other = ⊎_elim
        (λ h. let met = times-in (targets n) step steps h in (omega (arith, one, met, rest), λ waits. omega (arith, one, met, rest)))
        (λ h.
        let none = times-out (targets n) step steps h in (
          omega (arith, one, none, rest),
          λ waits. absurd (h (subst (λ here. IsTrue (is_in step.0 here)) waits (enables-party nego from step.0 (guided.guide n) (after-some nego from step to e).0 party))),
        ))
        (in_or_not step.0 (targets n))
      where
        one : times (n ∷ []) (step ∷ steps) ≡ times (n ∷ []) steps
        one = times-out (n ∷ []) step steps (λ h. other (is_in_single step.0 n h))

        rest : times (n ∷ []) steps ≤ times (targets n) steps + 1
        rest = more.0

    -- of another in which it doesn't
    between_stranger : ¬ IsTrue (is_in (guided.guide n) (nego.parties step.0)) → Between n from (step ∷ steps)
    between_stranger other =
        let one = times-out (n ∷ []) step steps (λ h. other (subst (λ m. IsTrue (is_in (guided.guide n) (nego.parties m))) (sym (is_in_single step.0 n h)) (guided.party n there))) in
        let none = times-out (targets n) step steps (λ h. other (ok.next_party n (guided.choice n) (guided.guide n) step.0 (outcome n there) h).1) in
        let rest = more.0 in (
          omega (arith, one, none, rest),
          λ waits. let waited = more.1 (ready-after_other nego from to step (guided.guide n) below e other ∙ waits) in omega (arith, one, none, waited),
        )

    between_first : Between n from (step ∷ steps)
    between_first = ⊎_elim (λ party. ⊎_elim (between_itself party) (between_other party) (cases_eq step.0 n)) between_stranger (in_or_not (guided.guide n) (nego.parties step.0))

  pub between : (n : ℕ) → IsTrue (is_in n nego.atoms) → ¬ IsTrue (is_in n (targets n)) → (steps : List Occurrence) (from to : PlainMarking) → IsReached nego from → AreChosen guided.choice steps → leaves nego from steps ≡ Some to → Between n from steps
  between n there no_return [] from to reached chosen e = (omega arith, λ same. omega arith)
  between n there no_return (step ∷ steps) from to reached chosen e =
      let k = leaves-first nego from step steps to e in
      between_first n there no_return step steps from k.0 reached (All-head (λ s. s.1 ≡ guided.choice s.0) step steps chosen) k.1
      (between n there no_return steps k.0 to (reached-after nego from k.0 step reached k.1) (All-tail (λ s. s.1 ≡ guided.choice s.0) step steps chosen) k.2)

  -- an atom's guide has one target, or none
  one_target : (n : ℕ) → IsTrue (is_in n nego.atoms) → (targets n ≡ []) ⊎ ((m : ℕ) × (targets n ≡ m ∷ []))
  one_target n there = go (targets n) refl
    where
      go : (ms : List ℕ) → targets n ≡ ms → (targets n ≡ []) ⊎ ((m : ℕ) × (targets n ≡ m ∷ []))
      go [] is = inl is
      go (m ∷ ms) is =
          let at : IsTrue (is_in m (targets n)) = subst (λ xs. IsTrue (is_in m xs)) (sym is) (is_in-head m ms) in
          inr (m, rising-single (targets n) m (ok.next_rise n (guided.choice n) (guided.guide n) (outcome n there)) at (λ p h. single n (guided.choice n) (guided.guide n) p m (outcome n there) h at))

  -- it occurs as seldom as each target
  targets_at_most : (n bound : ℕ) → IsTrue (is_in n nego.atoms) → (steps : List Occurrence) → ((m : ℕ) → IsTrue (is_in m nego.atoms) → IsTrue (is_in m (targets n)) → times (m ∷ []) steps ≤ bound) → times (targets n) steps ≤ bound
  targets_at_most n bound there steps h = ⊎_elim
      (λ is. let none : times (targets n) steps ≡ 0 = ap (λ ms. times ms steps) is ∙ times-none steps in omega (arith, none))
      (λ t.
      let at : IsTrue (is_in t.0 (targets n)) = subst (λ xs. IsTrue (is_in t.0 xs)) (sym t.1) (is_in-head t.0 []) in
      let rest = h t.0 (ok.next_party n (guided.choice n) (guided.guide n) t.0 (outcome n there) at).0 at in
      let same : times (targets n) steps ≡ times (t.0 ∷ []) steps = ap (λ ms. times ms steps) t.1 in
      omega (arith, rest, same))
      (one_target n there)

  -- Where each atom but one sends its guide nearer to this one, or on a way that ends, an atom occurs at most so much more
  -- often as it is far.
  module _ (end : ℕ) (distance : ℕ → ℕ) (nearer : (n m : ℕ) → IsTrue (is_in n nego.atoms) → n ≢ end → IsTrue (is_in m (targets n)) → distance m < distance n) (steps : List Occurrence) (from to : PlainMarking) (reached : IsReached nego from)
      (chosen : AreChosen guided.choice steps) (e : leaves nego from steps ≡ Some to) (bound : ℕ) (some : 0 < bound) (seldom : times (end ∷ []) steps ≤ bound) where
    once_more : (n : ℕ) → IsTrue (is_in n nego.atoms) → n ≢ end → times (n ∷ []) steps ≤ times (targets n) steps + 1
    once_more n there other = (between n there (λ back. let near = nearer n n there other back in let no_more : ⊥ = omega (arith, near) in no_more) steps from to reached chosen e).0

    occurs_at_most : (far n : ℕ) → IsTrue (is_in n nego.atoms) → distance n ≤ far → times (n ∷ []) steps ≤ far + bound
    occurs_at_most zero n there near =
        ⊎_elim
        (λ same. let few = subst (λ m. times (m ∷ []) steps ≤ bound) (sym same) seldom in omega (arith, few))
        (λ other.
        let more = once_more n there other in
        let rest = targets_at_most n 0 there steps (λ m h at. absurd (let closer = nearer n m there other at in let no_more : ⊥ = omega (arith, closer, near) in no_more)) in
        omega (arith, more, rest, some))
        (cases_eq n end)
    occurs_at_most (suc far) n there near =
        ⊎_elim
        (λ same. let few = subst (λ m. times (m ∷ []) steps ≤ bound) (sym same) seldom in omega (arith, few))
        (λ other.
        let more = once_more n there other in
        let rest = targets_at_most n (far + bound) there steps (λ m h at. let closer = nearer n m there other at in occurs_at_most far m h (omega (arith, closer, near))) in
        omega (arith, more, rest))
        (cases_eq n end)

    -- so chosen occurrences are not more than this
    pub at_most : length steps ≤ total (λ n. distance n + bound) nego.atoms
    at_most =
        let count = times-total (λ n. distance n + bound) nego.atoms steps (λ n there. occurs_at_most (distance n) n there (omega arith)) in
        let all = all_times nego steps from to e in
        omega (arith, count, all)
