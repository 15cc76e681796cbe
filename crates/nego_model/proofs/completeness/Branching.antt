-- A sound negotiation whose edges go forward, of which no two outcomes merge and no outcome enters an atom of one outcome:
-- no atom but the last has two outcomes.
use Rattle.std.proofs.Common.{◌≡◌, ◌≢◌, ◌⊎◌, inl, inr, ⊎_elim, ℕ, zero, suc, ◌+◌, ◌<◌, ◌≤◌, List, [], ◌∷◌, length, Some, IsTrue, sym, subst, ap, ◌∙◌, arith}
use Rattle.std.proofs.lemmas.Bool.{cases_eq, cases_lt}
use Rattle.std.proofs.lemmas.Option.{same_Some}
use Rattle.nego_base.specs.Members.{is_in}
use Rattle.nego_base.proofs.Members.{in_or_not, is_in-head, rising-single, some_member}
use Rattle.nego_model.specs.Negotiation.{Negotiation, IsNegotiation, IsDeterministic, IsOutcome}
use Rattle.nego_model.specs.Occurring.{PlainMarking, Occurrence, ready, moved, enables, after, leaves, final_marking, IsSound}
use Rattle.nego_model.specs.Acyclic.{rank_in, IsRankedBy}
use Rattle.nego_model.specs.Reduced.{HasOne, SendAlike, Enters, EntersNone, IsReduced}
use Rattle.nego_model.proofs.occurrence.Markings.{ready-replicate, enables-atom, enables-party}
use Rattle.nego_model.proofs.occurrence.Steps.{after-some, after_from, leaves-first}
use Rattle.nego_model.proofs.occurrence.ReachedMarkings.{IsReached, ready-after_party, reached-after, reached-below}
use Rattle.nego_model.proofs.occurrence.Ways.{sound_leads}
use Rattle.nego_model.proofs.completeness.Ranks.{ranked, first_is_least}
use Rattle.nego_model.proofs.completeness.OneWayOut.{one_way_out}

-- all numbers below a count are in a list, or one isn't
all_or_one : (count : ℕ) (xs : List ℕ) → ((a : ℕ) → a < count → IsTrue (is_in a xs)) ⊎ ((a : ℕ) × (a < count) × ¬ IsTrue (is_in a xs))
all_or_one zero xs = inl (λ a l. absurd (let no_more : ⊥ = omega (arith, l) in no_more))
all_or_one (suc count) xs =
    ⊎_elim
    (λ all.
    ⊎_elim
    (λ h.
    inl (λ a l. ⊎_elim (all a) (λ past. let e : count ≡ a = omega (arith, l, past) in let P : ℕ → Type 0 = λ b. IsTrue (is_in b xs) in subst P e h) (cases_lt a count)))
    (λ out. inr (count, omega arith, out))
    (in_or_not count xs))
    (λ one. let l = one.1 in inr (one.0, omega (arith, l), one.2))
    (all_or_one count xs)

module _ (nego : Negotiation) (ok : IsNegotiation nego) (single : IsDeterministic nego) (sound : IsSound nego) where
  -- an outcome sends a party to one atom
  sent_alone : (n o a p : ℕ) → IsOutcome nego n o → IsTrue (is_in p (nego.next o a)) → nego.next o a ≡ p ∷ []
  sent_alone n o a p outcome h = rising-single (nego.next o a) p (ok.next_rise n o a outcome) h (λ q m. single n o a q p outcome m h)

  -- An outcome of an atom of which everyone is a party sends everyone to the last atom, where it can enter this alone.
  module _ (n o : ℕ) (outcome : IsOutcome nego n o) (other : n ≢ nego.last) (everyone : (a : ℕ) → a < nego.agents → IsTrue (is_in a (nego.parties n)))
      (last_alone : (p : ℕ) → IsTrue (is_in p nego.atoms) → Enters nego n o p → p ≡ nego.last) (start : PlainMarking) (reached : IsReached nego start) (enabled : IsTrue (enables nego start n)) where
    abbrev behind : PlainMarking
    behind = moved 0 (nego.parties n) (nego.next o) start

    occurs : after nego start (n, o) ≡ Some behind
    occurs = after_from nego start (n, o) enabled outcome.1

    ready-behind : (a : ℕ) → a < nego.agents → ready behind a ≡ nego.next o a
    ready-behind a below = ready-after_party nego start behind (n, o) a (reached-below nego start a reached below) occurs (everyone a below)

    sent_where_ready : (a p : ℕ) → a < nego.agents → IsTrue (is_in p (ready behind a)) → nego.next o a ≡ p ∷ []
    sent_where_ready a p below h = sent_alone n o a p outcome (subst (λ xs. IsTrue (is_in p xs)) (ready-behind a below) h)

    enabled_last : (p : ℕ) → IsTrue (enables nego behind p) → p ≡ nego.last
    enabled_last p h =
        let there = enables-atom nego behind p h in
        last_alone p there (λ a party. let below = ok.party_below p a there party in (everyone a below, sent_where_ready a p below (enables-party nego behind p a h party)))

    to_last : (a : ℕ) → a < nego.agents → nego.next o a ≡ nego.last ∷ []
    to_last a below = let way = sound_leads nego sound behind (reached-after nego start behind (n, o) reached occurs) in go way.steps way.leads
      where
        go : (steps : List Occurrence) → leaves nego behind steps ≡ Some (final_marking nego) → nego.next o a ≡ nego.last ∷ []
        go [] e =
            let none : nego.next o a ≡ [] = sym (ready-behind a below) ∙ (ap (λ m. ready m a) (same_Some behind (final_marking nego) e) ∙ ready-replicate nego.agents a [] below) in
            absurd (ok.others_lead n o a outcome other (everyone a below) none)
        go (step ∷ steps) e =
            let k = leaves-first nego behind step steps (final_marking nego) e in
            let h = (after-some nego behind step k.0 k.1).0 in
            let at : IsTrue (enables nego behind nego.last) = subst (λ p. IsTrue (enables nego behind p)) (enabled_last step.0 h) h in
            sent_where_ready a nego.last below (enables-party nego behind nego.last a at (ok.all_end a below))

  pub sends_to_last : (n o : ℕ) → IsOutcome nego n o → n ≢ nego.last → ((a : ℕ) → a < nego.agents → IsTrue (is_in a (nego.parties n))) → ((p : ℕ) → IsTrue (is_in p nego.atoms) → Enters nego n o p → p ≡ nego.last) →
      (a : ℕ) → a < nego.agents → nego.next o a ≡ nego.last ∷ []
  sends_to_last n o outcome other everyone last_alone =
      let start = sound.alive n outcome.0 in
      to_last n o outcome other everyone last_alone start.marking (record { steps = start.run; leads = start.leads }) start.enabled

  module _ (order : List ℕ) (ranks : IsRankedBy nego order) (reduced : IsReduced nego) where
    -- An outcome of an atom enters the last atom alone, where the atoms of a greater rank have one outcome.
    pub enters_last : (n o p : ℕ) → IsOutcome nego n o → IsTrue (is_in p nego.atoms) → ((m : ℕ) → IsTrue (is_in m nego.atoms) → m ≢ nego.last → rank_in order n < rank_in order m → HasOne nego m) →
        Enters nego n o p → p ≡ nego.last
    enters_last n o p outcome there above enters = ⊎_elim (λ e. e) (λ other. absurd (reduced.no_shortcut n o p outcome there differ not_first other (above p there other up) enters)) (cases_eq p nego.last)
      where
        agent : (a : ℕ) × IsTrue (is_in a (nego.parties p))
        agent = some_member (nego.parties p) (ok.some_party p there)

        up : rank_in order n < rank_in order p
        up = ranks.forward n p (record { outcome = o; agent = agent.0; own = outcome; leads = subst (λ xs. IsTrue (is_in p xs)) (sym (enters agent.0 agent.1).1) (is_in-head p []) })

        differ : n ≢ p
        differ e = let equal : rank_in order n ≡ rank_in order p = ap (rank_in order) e in let l = up in let no_more : ⊥ = omega (arith, equal, l) in no_more

        not_first : p ≢ nego.first
        not_first e =
            let start = sound.alive n outcome.0 in
            let party = (enters agent.0 agent.1).0 in
            let least : rank_in order nego.first ≤ rank_in order n =
            first_is_least nego order ranks start.marking (record { steps = start.run; leads = start.leads }) agent.0 n (ok.party_below n agent.0 outcome.0 party) (enables-party nego start.marking n agent.0 start.enabled party) in
            let equal : rank_in order p ≡ rank_in order nego.first = ap (rank_in order) e in
            let l = up in
            let no_more : ⊥ = omega (arith, least, equal, l) in
            no_more

    -- so all outcomes of such an atom send alike
    all_alike : (n x y : ℕ) → n ≢ nego.last → IsOutcome nego n x → IsOutcome nego n y → ((m : ℕ) → IsTrue (is_in m nego.atoms) → m ≢ nego.last → rank_in order n < rank_in order m → HasOne nego m) → SendAlike nego n x y
    all_alike n x y other first second above = ⊎_elim
        (λ everyone a party.
        let below = ok.party_below n a first.0 party in
        sends_to_last n x first other everyone (λ p there enters. enters_last n x p first there above enters) a below
        ∙ sym (sends_to_last n y second other everyone (λ p there enters. enters_last n y p second there above enters) a below))
        (λ out. one_way_out nego n x y ok single sound first second (none x first out) (none y second out))
        (all_or_one nego.agents (nego.parties n))
      where
        none : (o : ℕ) → IsOutcome nego n o → (a : ℕ) × (a < nego.agents) × ¬ IsTrue (is_in a (nego.parties n)) → EntersNone nego n o
        none o outcome out p there enters =
            let last = enters_last n o p outcome there above enters in
            out.2 (enters out.0 (subst (λ m. IsTrue (is_in out.0 (nego.parties m))) (sym last) (ok.all_end out.0 out.1))).0

    -- No atom but the last has two outcomes.
    pub all_have_one : (n : ℕ) → IsTrue (is_in n nego.atoms) → n ≢ nego.last → HasOne nego n
    all_have_one n there other = go (length order) n there other (omega arith)
      where
        go : (left n : ℕ) → IsTrue (is_in n nego.atoms) → n ≢ nego.last → length order ≤ rank_in order n + left → HasOne nego n
        go zero n there other h = absurd (let l = (ranked n order (ranks.atoms n there)).0 in let no_more : ⊥ = omega (arith, l, h) in no_more)
        go (suc left) n there other h = λ x y own own'. ⊎_elim (λ e. e)
            (λ differ. absurd (reduced.no_merge n x y other (there, own) (there, own') differ (all_alike n x y other (there, own) (there, own') (λ m is last up. go left m is last (omega (arith, h, up))))))
            (cases_eq x y)
