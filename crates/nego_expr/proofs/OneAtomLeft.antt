-- A negotiation of which one atom is left is sound, and its complete runs are the outcomes of this atom.
use Rattle.std.proofs.Common.{◌≡◌, ◌⊎◌, ◌↔◌, inl, inr, ⊎_elim, ℕ, List, [], ◌∷◌, ◌++◌, length, map, replicate, Some, IsTrue, refl, sym, subst, ap, ◌∙◌, arith}
use Rattle.std.proofs.lemmas.Option.{same_Some}
use Rattle.std.proofs.lemmas.List.{same_from_push}
use Rattle.nego_base.specs.Members.{is_in}
use Rattle.nego_model.specs.Negotiation.{Negotiation, IsNegotiation}
use Rattle.nego_model.specs.Occurring.{PlainMarking, Occurrence, enables, after, leaves, opening_marking, final_marking, IsComplete, IsSound}
use Rattle.nego_model.specs.Joining.{Relation, EndsWith, Joins, Runs}
use Rattle.nego_model.specs.Reaching.{all_at_last}
use Rattle.nego_base.proofs.Members.{is_in_none, is_in_single, some_member}
use Rattle.nego_model.proofs.occurrence.Markings.{enables-atom, enables-party, ready-replicate}
use Rattle.nego_model.proofs.occurrence.Steps.{after-some, after-outcome, leaves-first, leaves_one, run_leaves}
use Rattle.nego_model.proofs.occurrence.Joined.{Joins_one, related_from_one}
use Rattle.nego_model.proofs.occurrence.CompleteRuns.{opening_not_final}
use Rattle.nego_model.proofs.occurrence.Ways.{all_at_last-enables, after_all_at_last}
use Rattle.nego_expr.specs.Work.{WorkAtom, PlainWork, IsWork, negotiation_of_work, ByWork}
use Rattle.nego_expr.specs.Finish.{OneAtomWorksAreSound}

-- nothing occurs in the final marking
pub nothing_after_final : (nego : Negotiation) → IsNegotiation nego → (step : Occurrence) (left : PlainMarking) → after nego (final_marking nego) step ≡ Some left → ⊥
nothing_after_final nego ok step left e =
    let h = after-some nego (final_marking nego) step left e in
    let there = enables-atom nego (final_marking nego) step.0 h.0 in
    let p = some_member (nego.parties step.0) (ok.some_party step.0 there) in
    is_in_none step.0 [] refl
    (subst (λ xs. IsTrue (is_in step.0 xs)) (ready-replicate nego.agents p.0 [] (ok.party_below step.0 p.0 there p.1))
    (enables-party nego (final_marking nego) step.0 p.0 h.0 p.1))

module _ (nego : Negotiation) (ok : IsNegotiation nego) (only : (n : ℕ) → IsTrue (is_in n nego.atoms) → n ≡ nego.last) where
  -- at the opening everyone is at the last atom
  pub opening_at_last : opening_marking nego ≡ all_at_last nego
  opening_at_last = ap (λ n. replicate nego.agents (n ∷ [])) (only nego.first ok.first_there)

  -- each outcome of the atom is a complete run
  pub one_step_complete : (o : ℕ) → IsTrue (is_in o (nego.outcomes nego.last)) → IsComplete nego ((nego.last, o) ∷ [])
  one_step_complete o h =
      leaves_one nego (opening_marking nego) (nego.last, o)
      ∙ (ap (λ m. after nego m (nego.last, o)) opening_at_last ∙ after_all_at_last nego ok o (ok.last_there, h))

  -- what occurs first is an outcome of the atom, and leaves the final marking
  first_left : (step : Occurrence) (left : PlainMarking) → after nego (opening_marking nego) step ≡ Some left →
      (step.0 ≡ nego.last) × IsTrue (is_in step.1 (nego.outcomes nego.last)) × (left ≡ final_marking nego)
  first_left step left e =
      let o = after-outcome nego (opening_marking nego) step left e in
      let n : step.0 ≡ nego.last = only step.0 o.0 in
      let h : IsTrue (is_in step.1 (nego.outcomes nego.last)) = subst (λ m. IsTrue (is_in step.1 (nego.outcomes m))) n o.1 in (
        n,
        h,
        sym (same_Some (final_marking nego) left
            (sym (ap (λ m. after nego m (nego.last, step.1)) opening_at_last ∙ after_all_at_last nego ok step.1 (ok.last_there, h))
            ∙ subst (λ m. after nego (opening_marking nego) (m, step.1) ≡ Some left) n e)),
      )

  -- a run is nothing, or one outcome of the atom
  pub one_step_at_most : (run : List Occurrence) (left : PlainMarking) → leaves nego (opening_marking nego) run ≡ Some left →
      (run ≡ []) ⊎ ((o : ℕ) × IsTrue (is_in o (nego.outcomes nego.last)) × (run ≡ (nego.last, o) ∷ []))
  one_step_at_most [] left e = inl refl
  one_step_at_most (step ∷ []) left e =
      let h = leaves-first nego (opening_marking nego) step [] left e in
      let k = first_left step h.0 h.1 in
      inr (step.1, k.1, ap (λ n. (n, step.1) ∷ []) k.0)
  one_step_at_most (step ∷ next ∷ steps) left e =
      let h = leaves-first nego (opening_marking nego) step (next ∷ steps) left e in
      let k = first_left step h.0 h.1 in
      let l = leaves-first nego h.0 next steps left h.2 in
      absurd (nothing_after_final nego ok next l.0 (subst (λ m. after nego m next ≡ Some l.0) k.2 l.1))

  -- a negotiation of one atom is sound
  pub one_atom_left_sound : IsSound nego
  one_atom_left_sound = record {
    alive = λ n h. record {
      run = [];
      marking = opening_marking nego;
      leads = refl;
      enabled = subst (λ m. IsTrue (enables nego (opening_marking nego) m)) (sym (only n h))
          (subst (λ m. IsTrue (enables nego m nego.last)) (sym opening_at_last) (all_at_last-enables nego ok));
    };
    completes = λ run h.
        let k = run_leaves nego (opening_marking nego) run h in
        let some = some_member (nego.outcomes nego.last) (ok.some_outcome nego.last ok.last_there) in
        ⊎_elim
        (λ e. ((nego.last, some.0) ∷ [], subst (λ r. IsComplete nego (r ++ (nego.last, some.0) ∷ [])) (sym e) (one_step_complete some.0 some.1)))
        (λ e. ([], subst (λ r. IsComplete nego (r ++ [])) (sym e.2) (one_step_complete e.0 e.1)))
        (one_step_at_most run k.0 k.1);
  }

  -- a complete run that ends with an outcome is this outcome
  pub one_step_run : (run : List Occurrence) (n f : ℕ) → IsComplete nego run → EndsWith run (n, f) → run ≡ (nego.last, f) ∷ []
  one_step_run run n f complete ends = ⊎_elim
      (λ e. absurd (opening_not_final nego ok (same_Some (opening_marking nego) (final_marking nego) (subst (IsComplete nego) e complete))))
      (λ e.
      let same : (ends.0 ≡ []) × ◌≡◌ {A = Occurrence} (n, f) (nego.last, e.0) = same_from_push ends.0 [] (n, f) (nego.last, e.0) (sym ends.1 ∙ e.2) in
      e.2 ∙ ap (λ o. (nego.last, o) ∷ []) (sym (ap (λ step. step.1) same.1)))
      (one_step_at_most run (final_marking nego) complete)

  -- the complete runs with an outcome of the atom join what this outcome relates
  pub one_step_runs : (relation : Relation) (f d e : ℕ) → IsTrue (is_in f (nego.outcomes nego.last)) → Runs nego relation f d e ↔ relation f d e
  one_step_runs relation f d e h = (
    λ r. related_from_one relation (nego.last, f) d e
        (subst (λ run. Joins relation run d e) (one_step_run r.run r.ends.0 f r.complete r.ends.1) r.joins),
    λ r. record {
      run = (nego.last, f) ∷ [];
      complete = one_step_complete f h;
      ends = (nego.last, ([], refl));
      joins = Joins_one relation (nego.last, f) d e r;
    },
  )

-- of one atom each two are the same
same_of_one : (atoms : List WorkAtom) (m n : ℕ) → length atoms ≡ 1 → IsTrue (is_in m (map (λ atom. atom.number) atoms)) → IsTrue (is_in n (map (λ atom. atom.number) atoms)) → m ≡ n
same_of_one [] m n e h k = absurd (is_in_none m [] refl h)
same_of_one (atom ∷ []) m n e h k = is_in_single m atom.number h ∙ sym (is_in_single n atom.number k)
same_of_one (atom ∷ other ∷ atoms) m n e h k = absurd (let no_more : ⊥ = omega (arith, e) in no_more)

-- each atom of a work of one atom is the last
pub only_last : (work : PlainWork) → IsWork work → length work.atoms ≡ 1 → (n : ℕ) → IsTrue (is_in n (negotiation_of_work work).atoms) → n ≡ work.last
only_last work ok one n h = same_of_one work.atoms n work.last one h ok.form.last_there

-- a work of one atom is sound, and its outcomes' expressions are what its complete runs relate
pub one_atom_works : OneAtomWorksAreSound
one_atom_works work ok one = (
  one_atom_left_sound (negotiation_of_work work) ok.form (only_last work ok one),
  λ test f d e h. one_step_runs (negotiation_of_work work) ok.form (only_last work ok one) (ByWork test work) f d e h,
)
