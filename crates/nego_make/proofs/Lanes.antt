-- Negotiations in which each agent goes through its atoms in their order are sound: each party of an atom goes to an atom
-- behind that has it as a party, and passes none between.
use Rattle.std.proofs.Common.{◌≡◌, ◌∙◌, ⊎_elim, ℕ, zero, suc, ◌+◌, ◌<◌, ◌≤◌, false, List, [], ◌∷◌, Some, IsTrue, sym, subst, arith, lt-ltb, ltb-true}
use Rattle.std.proofs.lemmas.Bool.{cases_lt, cases_Bool, true≢false, false_from_ne_true}
use Rattle.std.proofs.lemmas.Option.{same_Some}
use Rattle.std.specs.List.{list_any, range_with_len}
use Rattle.nego_base.specs.Members.{is_in}
use Rattle.nego_base.proofs.Members.{any_at, any_from, in_or_not, is_in-head, is_in-range_zero, nil_from_none, some_member}
use Rattle.nego_model.specs.Negotiation.{Negotiation, IsNegotiation, IsDeterministic, IsOutcome}
use Rattle.nego_model.specs.Occurring.{PlainMarking, Occurrence, ready, moved, enables, after, leaves, opening_marking, final_marking, IsSound}
use Rattle.nego_model.proofs.occurrence.Markings.{ready-replicate, same_for_all, enables-party, enables_from}
use Rattle.nego_model.proofs.occurrence.Steps.{after-some, after-outcome, after_from, leaves-first}
use Rattle.nego_model.proofs.occurrence.Reached.{Leads, Leads-itself, Leads_one, Leads_through}
use Rattle.nego_model.proofs.occurrence.ReachedMarkings.{IsReached, ready-after_party, ready-after_other, reached-after, reached-below, reached-proper, reached-single}
use Rattle.nego_model.proofs.occurrence.Ways.{Sound_from_leads}

-- After an outcome of m each party goes to an atom behind, and is no party of an atom between.
abbrev pub IsLane : Negotiation → Type 0
IsLane nego = (m o a k : ℕ) → IsOutcome nego m o → IsTrue (is_in k (nego.next o a)) → (m < k) × ((j : ℕ) → m < j → j < k → IsTrue (is_in a (nego.parties j)) → ⊥)

-- No atom is before the first, and none behind the last.
pub record IsEnclosed (nego : Negotiation) : Type 0 where
  pub least : (n : ℕ) → IsTrue (is_in n nego.atoms) → nego.first ≤ n
  pub greatest : (n : ℕ) → IsTrue (is_in n nego.atoms) → n ≤ nego.last

module _ (nego : Negotiation) (ok : IsNegotiation nego) (single : IsDeterministic nego) (lane : IsLane nego) (ends : IsEnclosed nego) where
  -- the agent is ready for atoms behind this one alone
  abbrev Passed : PlainMarking → ℕ → ℕ → Type 0
  Passed marking a j = (k : ℕ) → IsTrue (is_in k (ready marking a)) → j < k

  -- who shares an atom has passed it or not as the others have
  abbrev IsEven : PlainMarking → Type 0
  IsEven marking = (j a b : ℕ) → IsTrue (is_in j nego.atoms) → IsTrue (is_in a (nego.parties j)) → IsTrue (is_in b (nego.parties j)) → Passed marking a j → Passed marking b j

  -- nobody is ready for an atom before this one
  abbrev IsAbove : ℕ → PlainMarking → Type 0
  IsAbove j marking = (a k : ℕ) → a < nego.agents → IsTrue (is_in k (ready marking a)) → j ≤ k

  -- the agent is ready for some atom up to this one
  abbrev IsBehind : PlainMarking → ℕ → ℕ → Type 0
  IsBehind marking a n = (k : ℕ) × IsTrue (is_in k (ready marking a)) × (k ≤ n)

  opening_ready : (a : ℕ) → a < nego.agents → IsTrue (is_in nego.first (ready (opening_marking nego) a))
  opening_ready a below = subst (λ xs. IsTrue (is_in nego.first xs)) (sym (ready-replicate nego.agents a (nego.first ∷ []) below)) (is_in-head nego.first [])

  opening_even : IsEven (opening_marking nego)
  opening_even j a b there own own' passed =
      let before : j < nego.first = passed nego.first (opening_ready a (ok.party_below j a there own)) in
      let from = ends.least j there in
      absurd (let never : ⊥ = omega (arith, before, from) in never)

  -- an atom before the last has for each party a next one
  goes_on : (m o a n : ℕ) → IsOutcome nego m o → IsTrue (is_in a (nego.parties m)) → m < n → IsTrue (is_in n nego.atoms) → (k : ℕ) × IsTrue (is_in k (nego.next o a))
  goes_on m o a n outcome party up there =
      some_member (nego.next o a) (ok.others_lead m o a outcome (λ same. let most = ends.greatest n there in omega (arith, same, up, most)) party)

  -- and doesn't pass an atom of which it is a party
  goes_up_to : (m o a n : ℕ) → IsOutcome nego m o → IsTrue (is_in a (nego.parties m)) → m < n → IsTrue (is_in n nego.atoms) → IsTrue (is_in a (nego.parties n)) → (k : ℕ) × IsTrue (is_in k (nego.next o a)) × (k ≤ n)
  goes_up_to m o a n outcome party up there own =
      let next = goes_on m o a n outcome party up there in
      ⊎_elim (λ past. absurd ((lane m o a next.0 outcome next.1).1 n up past own)) (λ within. (next.0, next.1, within)) (cases_lt n next.0)

  -- ---- an occurrence

  module _ (marking to : PlainMarking) (m o : ℕ) (reached : IsReached nego marking) (occurs : after nego marking (m, o) ≡ Some to) where
    outcome : IsOutcome nego m o
    outcome = after-outcome nego marking (m, o) to occurs

    enabled : IsTrue (enables nego marking m)
    enabled = (after-some nego marking (m, o) to occurs).0

    party_now : (a : ℕ) → IsTrue (is_in a (nego.parties m)) → ready to a ≡ nego.next o a
    party_now a party = ready-after_party nego marking to (m, o) a (reached-below nego marking a reached (ok.party_below m a outcome.0 party)) occurs party

    other_now : (a : ℕ) → a < nego.agents → ¬ IsTrue (is_in a (nego.parties m)) → ready to a ≡ ready marking a
    other_now a below other = ready-after_other nego marking to (m, o) a (reached-below nego marking a reached below) occurs other

    party_passed : (a : ℕ) → IsTrue (is_in a (nego.parties m)) → Passed to a m
    party_passed a party k h = (lane m o a k outcome (subst (λ xs. IsTrue (is_in k xs)) (party_now a party) h)).0

    -- what was passed stays so
    passed_on : (a j : ℕ) → a < nego.agents → Passed marking a j → Passed to a j
    passed_on a j below passed k h =
        ⊎_elim
        (λ party. let up = party_passed a party k h in let here : j < m = passed m (enables-party nego marking m a enabled party) in omega (arith, up, here))
        (λ other. passed k (subst (λ xs. IsTrue (is_in k xs)) (other_now a below other) h))
        (in_or_not a (nego.parties m))

    -- a party that passed an atom has passed this one, or it passed it before
    even_party : IsEven marking → (j a b : ℕ) → IsTrue (is_in j nego.atoms) → IsTrue (is_in a (nego.parties j)) → IsTrue (is_in b (nego.parties j)) → IsTrue (is_in a (nego.parties m)) → Passed to a j → Passed to b j
    even_party even j a b there own own' party passed =
        ⊎_elim
        (λ before.
        passed_on b j (ok.party_below j b there own')
        (even j a b there own own' (λ k h. let same : k ≡ m = reached-single nego single marking reached a k m (ok.party_below j a there own) h (enables-party nego marking m a enabled party) in omega (arith, same, before))))
        (λ from.
        ⊎_elim
        (λ up.
        (let next = goes_up_to m o a j outcome party up there own in
        let past : j < next.0 = passed next.0 (subst (λ xs. IsTrue (is_in next.0 xs)) (sym (party_now a party)) next.1) in
        absurd (let never : ⊥ = omega (arith, past, next.2) in never)))
        (λ to_here.
        (let same : j ≡ m = omega (arith, from, to_here) in
        λ k h. (let up = party_passed b (subst (λ i. IsTrue (is_in b (nego.parties i))) same own') k h in omega (arith, up, same))))
        (cases_lt m j))
        (cases_lt j m)

    even_after : IsEven marking → IsEven to
    even_after even j a b there own own' passed =
        let below = ok.party_below j a there own in
        ⊎_elim
        (λ party. even_party even j a b there own own' party passed)
        (λ other. passed_on b j (ok.party_below j b there own') (even j a b there own own' (λ k h. passed k (subst (λ xs. IsTrue (is_in k xs)) (sym (other_now a below other)) h))))
        (in_or_not a (nego.parties m))

  even_leads : (steps : List Occurrence) (from to : PlainMarking) → IsReached nego from → IsEven from → leaves nego from steps ≡ Some to → IsEven to
  even_leads [] from to reached even e = subst IsEven (same_Some from to e) even
  even_leads (step ∷ steps) from to reached even e =
      let k = leaves-first nego from step steps to e in
      even_leads steps k.0 to (reached-after nego from k.0 step reached k.1) (even_after from k.0 step.0 step.1 reached k.1 even) k.2

  -- ---- the atoms, one after the other

  -- A marking behind which nobody is ready for this atom, nor for one before it; nobody has passed an atom behind it by the
  -- way there.
  record Swept (marking : PlainMarking) (j : ℕ) : Type 0 where
    to : PlainMarking
    leads : Leads nego marking to
    even : IsEven to
    above : IsAbove (j + 1) to
    keeps : (n a : ℕ) → IsTrue (is_in n nego.atoms) → IsTrue (is_in a (nego.parties n)) → j < n → IsBehind marking a n → IsBehind to a n

  module _ (marking : PlainMarking) (j : ℕ) (reached : IsReached nego marking) (even : IsEven marking) (above : IsAbove j marking) where
    -- an atom for which somebody is ready, and nobody for one before it, is enabled
    enabled_at : (a : ℕ) → a < nego.agents → IsTrue (is_in j (ready marking a)) → IsTrue (enables nego marking j)
    enabled_at a below h =
        let at = (reached-proper nego ok marking reached).atoms a j below h in
        enables_from nego marking j at.0
        (λ b party.
        ⊎_elim (λ here. here)
        (λ away.
        (let passed : Passed marking a j =
        even j b a at.0 party at.1 (λ k k_ready. (let from = above b k (ok.party_below j b at.0 party) k_ready in
        ⊎_elim (λ up. up) (λ to_here. absurd (away (subst (λ i. IsTrue (is_in i (ready marking b))) (let same : k ≡ j = omega (arith, from, to_here) in same) k_ready))) (cases_lt j k))) in
        absurd (let up : j < j = passed j h in let never : ⊥ = omega (arith, up) in never)))
        (in_or_not j (ready marking b)))

    fires : (a : ℕ) → a < nego.agents → IsTrue (is_in j (ready marking a)) → Swept marking j
    fires a below h =
        let proper = reached-proper nego ok marking reached in
        let there = (proper.atoms a j below h).0 in
        let o = some_member (nego.outcomes j) (ok.some_outcome j there) in
        let to : PlainMarking = moved 0 (nego.parties j) (nego.next o.0) marking in
        let occurs : after nego marking (j, o.0) ≡ Some to = after_from nego marking (j, o.0) (enabled_at a below h) o.1 in
        record {
          to = to;
          leads = Leads_one nego marking to (j, o.0) occurs;
          even = even_after marking to j o.0 reached occurs even;
          above = λ b k lower k_ready.
              ⊎_elim (λ party. let up = party_passed marking to j o.0 reached occurs b party k k_ready in omega (arith, up))
              (λ other.
              (let before = subst (λ xs. IsTrue (is_in k xs)) (other_now marking to j o.0 reached occurs b lower other) k_ready in
              let from = above b k lower before in
              ⊎_elim (λ up. omega (arith, up))
              (λ to_here. absurd (other (subst (λ i. IsTrue (is_in b (nego.parties i))) (let same : k ≡ j = omega (arith, from, to_here) in same) (proper.atoms b k lower before).1))) (cases_lt j k)))
              (in_or_not b (nego.parties j));
          keeps = λ n b n_there own up behind.
              ⊎_elim
              (λ party.
              (let next = goes_up_to j o.0 b n (there, o.1) party up n_there own in
              (next.0, subst (λ xs. IsTrue (is_in next.0 xs)) (sym (party_now marking to j o.0 reached occurs b party)) next.1, next.2)))
              (λ other. (behind.0, subst (λ xs. IsTrue (is_in behind.0 xs)) (sym (other_now marking to j o.0 reached occurs b (ok.party_below n b n_there own) other)) behind.1, behind.2))
              (in_or_not b (nego.parties j));
        }

    stays : list_any (λ a. is_in j (ready marking a)) (range_with_len 0 nego.agents) ≡ false → Swept marking j
    stays none = record {
      to = marking;
      leads = Leads-itself nego marking;
      even = even;
      above = λ a k below h.
          (let from = above a k below h in
          ⊎_elim (λ up. omega (arith, up))
          (λ to_here.
          (let at : IsTrue (is_in j (ready marking a)) = subst (λ i. IsTrue (is_in i (ready marking a))) (let same : k ≡ j = omega (arith, from, to_here) in same) h in
          absurd (true≢false (sym (any_from (λ b. is_in j (ready marking b)) (range_with_len 0 nego.agents) a (is_in-range_zero a nego.agents ∙ lt-ltb a nego.agents below) at) ∙ none))))
          (cases_lt j k));
      keeps = λ n a there own up behind. behind;
    }

    sweep : Swept marking j
    sweep =
        ⊎_elim
        (λ some. let at = any_at (λ a. is_in j (ready marking a)) (range_with_len 0 nego.agents) some in fires at.0 (ltb-true at.0 nego.agents (sym (is_in-range_zero at.0 nego.agents) ∙ at.1)) at.2)
        stays
        (cases_Bool (list_any (λ a. is_in j (ready marking a)) (range_with_len 0 nego.agents)))

  -- ---- soundness

  -- where all atoms are behind, nobody is ready for one
  all_final : (marking : PlainMarking) → IsReached nego marking → IsAbove (nego.last + 1) marking → marking ≡ final_marking nego
  all_final marking reached above =
      let proper = reached-proper nego ok marking reached in
      same_for_all nego.agents [] marking proper.as_many
      (λ a below. nil_from_none (ready marking a) (λ k. false_from_ne_true (is_in k (ready marking a)) (λ h.
      (let from = above a k below h in let most = ends.greatest k (proper.atoms a k below h).0 in omega (arith, from, most)))))

  completes : (left j : ℕ) (marking : PlainMarking) → j + left ≡ nego.last + 1 → IsReached nego marking → IsEven marking → IsAbove j marking → Leads nego marking (final_marking nego)
  completes zero j marking count reached even above =
      let all : j ≡ nego.last + 1 = omega (arith, count) in
      subst (λ to. Leads nego marking to) (all_final marking reached (subst (λ i. IsAbove i marking) all above)) (Leads-itself nego marking)
  completes (suc left) j marking count reached even above =
      let s = sweep marking j reached even above in
      Leads_through nego marking s.to (final_marking nego) s.leads
      (completes left (j + 1) s.to (omega (arith, count)) (Leads_through nego (opening_marking nego) marking s.to reached s.leads) s.even s.above)

  module _ (n : ℕ) (there : IsTrue (is_in n nego.atoms)) where
    occurs_behind : (left j : ℕ) (marking : PlainMarking) → j + left ≡ n → IsReached nego marking → IsEven marking → IsAbove j marking → ((a : ℕ) → IsTrue (is_in a (nego.parties n)) → IsBehind marking a n) →
        (to : PlainMarking) × IsReached nego to × IsTrue (enables nego to n)
    occurs_behind zero j marking count reached even above behind = (
      marking,
      reached,
      enables_from nego marking n there (λ a party.
          (let at = behind a party in
          let from = above a at.0 (ok.party_below n a there party) at.1 in
          subst (λ k. IsTrue (is_in k (ready marking a))) (let same : at.0 ≡ n = omega (arith, from, at.2, count) in same) at.1)),
    )
    occurs_behind (suc left) j marking count reached even above behind =
        let s = sweep marking j reached even above in
        occurs_behind left (j + 1) s.to (omega (arith, count)) (Leads_through nego (opening_marking nego) marking s.to reached s.leads) s.even s.above
        (λ a party. s.keeps n a there party (omega (arith, count)) (behind a party))

  pub lanes_sound : IsSound nego
  lanes_sound =
      Sound_from_leads nego
      (λ n there.
      occurs_behind n there n 0 (opening_marking nego) (omega arith) (Leads-itself nego (opening_marking nego)) opening_even (λ a k below h. omega arith)
      (λ a party. (nego.first, opening_ready a (ok.party_below n a there party), ends.least n there)))
      (λ marking reached.
      completes (nego.last + 1) 0 marking (omega arith) reached (even_leads reached.steps (opening_marking nego) marking (Leads-itself nego (opening_marking nego)) opening_even reached.leads) (λ a k below h. omega arith))
