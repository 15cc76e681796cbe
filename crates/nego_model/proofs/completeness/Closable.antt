-- What is left of a sound negotiation of which no two outcomes merge and no outcome enters an atom of one outcome: the last
-- atom alone, or the first and the last.
use Rattle.std.proofs.Common.{◌≡◌, ◌≢◌, ◌⊎◌, inl, inr, ℕ, ◌<◌, List, [], ◌∷◌, replicate, Some, IsTrue, refl, sym, subst, ap, ◌∙◌}
use Rattle.std.proofs.lemmas.Option.{same_Some}
use Rattle.nego_base.specs.Members.{is_in}
use Rattle.nego_base.proofs.Members.{is_in-head, is_in_none, is_in_single, some_member}
use Rattle.nego_model.specs.Negotiation.{Negotiation, IsNegotiation, IsDeterministic, IsOutcome}
use Rattle.nego_model.specs.Occurring.{PlainMarking, Occurrence, enables, after, leaves, opening_marking, final_marking, IsSound}
use Rattle.nego_model.specs.Reaching.{all_at_last}
use Rattle.nego_model.specs.Acyclic.{IsRankedBy}
use Rattle.nego_model.specs.Reduced.{HasOne, IsReduced, IsClosable}
use Rattle.nego_model.proofs.occurrence.Steps.{after-outcome, leaves-first}
use Rattle.nego_model.proofs.occurrence.Gathered.{all_ready-enabled, after_gathered, after_nothing_ready, after_all_sent}
use Rattle.nego_model.proofs.occurrence.Ways.{after_all_at_last}
use Rattle.nego_model.proofs.completeness.Branching.{sends_to_last, enters_last, all_have_one}

module _ (nego : Negotiation) (ok : IsNegotiation nego) where
  -- behind the final marking nothing is enabled
  from_final : (steps : List Occurrence) (marking : PlainMarking) (n : ℕ) → leaves nego (final_marking nego) steps ≡ Some marking → ¬ IsTrue (enables nego marking n)
  from_final [] marking n e h =
      is_in_none n [] refl (all_ready-enabled nego ok [] n (subst (λ m. IsTrue (enables nego m n)) (sym (same_Some (final_marking nego) marking e)) h))
  from_final (step ∷ steps) marking n e h = let k = leaves-first nego (final_marking nego) step steps marking e in after_nothing_ready nego ok step k.0 k.1

  -- behind everyone at the last atom nothing but this atom is
  from_last : (steps : List Occurrence) (marking : PlainMarking) (n : ℕ) → leaves nego (all_at_last nego) steps ≡ Some marking → IsTrue (enables nego marking n) → n ≡ nego.last
  from_last [] marking n e h =
      is_in_single n nego.last (all_ready-enabled nego ok (nego.last ∷ []) n (subst (λ m. IsTrue (enables nego m n)) (sym (same_Some (all_at_last nego) marking e)) h))
  from_last (step ∷ steps) marking n e h =
      let k = leaves-first nego (all_at_last nego) step steps marking e in
      let same : step.0 ≡ nego.last = after_gathered nego ok nego.last step k.0 k.1 in
      let outcome : IsOutcome nego nego.last step.1 = subst (λ m. IsOutcome nego m step.1) same (after-outcome nego (all_at_last nego) step k.0 k.1) in
      let occurs : after nego (all_at_last nego) (nego.last, step.1) ≡ Some k.0 = subst (λ m. after nego (all_at_last nego) (m, step.1) ≡ Some k.0) same k.1 in
      let final : k.0 ≡ final_marking nego = same_Some k.0 (final_marking nego) (sym occurs ∙ after_all_at_last nego ok step.1 outcome) in
      absurd (from_final steps marking n (subst (λ m. leaves nego m steps ≡ Some marking) final k.2) h)

  -- a sound negotiation whose first atom is the last has no other
  pub first_alone : IsSound nego → nego.first ≡ nego.last → (n : ℕ) → IsTrue (is_in n nego.atoms) → n ≡ nego.last
  first_alone sound same n there =
      let start = sound.alive n there in
      let opening : opening_marking nego ≡ all_at_last nego = ap (λ m. replicate nego.agents (m ∷ [])) same in
      from_last start.run start.marking n (subst (λ m. leaves nego m start.run ≡ Some start.marking) opening start.leads) start.enabled

module _ (nego : Negotiation) (order : List ℕ) (ok : IsNegotiation nego) (single : IsDeterministic nego) (sound : IsSound nego) (ranks : IsRankedBy nego order) (reduced : IsReduced nego) (apart : nego.first ≢ nego.last) where
  first_one : HasOne nego nego.first
  first_one = all_have_one nego ok single sound order ranks reduced nego.first ok.first_there apart

  -- the one outcome of the first atom
  first_outcome : (o : ℕ) × IsTrue (is_in o (nego.outcomes nego.first))
  first_outcome = some_member (nego.outcomes nego.first) (ok.some_outcome nego.first ok.first_there)

  abbrev o : ℕ
  o = first_outcome.0

  own : IsOutcome nego nego.first o
  own = (ok.first_there, first_outcome.1)

  -- everyone is sent to the last atom, since an outcome enters no other
  everyone : (a : ℕ) → a < nego.agents → nego.next o a ≡ nego.last ∷ []
  everyone = sends_to_last nego ok single sound nego.first o own apart ok.all_begin
      (λ p there enters. enters_last nego ok single sound order ranks reduced nego.first o p own there (λ m is other up. all_have_one nego ok single sound order ranks reduced m is other) enters)

  -- Where the first atom isn't the last, only these two are left, and closing is allowed.
  pub closable : IsClosable nego
  closable = record {
    outcome = o;
    own = own;
    one = first_one;
    sends = everyone;
    atoms = λ n there. let start = sound.alive n there in go start.run start.marking n start.leads start.enabled;
  }
    where
      go : (steps : List Occurrence) (marking : PlainMarking) (n : ℕ) → leaves nego (opening_marking nego) steps ≡ Some marking → IsTrue (enables nego marking n) → (n ≡ nego.first) ⊎ (n ≡ nego.last)
      go [] marking n e h =
          inl (is_in_single n nego.first (all_ready-enabled nego ok (nego.first ∷ []) n (subst (λ m. IsTrue (enables nego m n)) (sym (same_Some (opening_marking nego) marking e)) h)))
      go (step ∷ steps) marking n e h =
          let k = leaves-first nego (opening_marking nego) step steps marking e in
          let same : step.0 ≡ nego.first = after_gathered nego ok nego.first step k.0 k.1 in
          let outcome : IsOutcome nego nego.first step.1 = subst (λ m. IsOutcome nego m step.1) same (after-outcome nego (opening_marking nego) step k.0 k.1) in
          let is : step.1 ≡ o = first_one step.1 o outcome.1 own.1 in
          let occurred : after nego (opening_marking nego) (nego.first, o) ≡ Some k.0 =
          subst (λ q. after nego (opening_marking nego) (nego.first, q) ≡ Some k.0) is (subst (λ m. after nego (opening_marking nego) (m, step.1) ≡ Some k.0) same k.1) in
          let gathered : k.0 ≡ all_at_last nego =
          same_Some k.0 (all_at_last nego) (sym occurred ∙ after_all_sent nego ok nego.first o (nego.first ∷ []) (nego.last ∷ []) ok.first_there (is_in-head nego.first []) own.1 (λ a l. (ok.all_begin a l, everyone a l))) in
          inr (from_last nego ok steps marking n (subst (λ m. leaves nego m steps ≡ Some marking) gathered k.2) h)
