-- One occurrence of a negotiation and of another in which an outcome has become itself and then the outcomes of an atom
-- that it enters.
use Rattle.std.proofs.Common.{◌≡◌, ◌≢◌, inl, inr, ⊎_elim, ℕ, ◌<◌, ◌≤◌, false, [], length, Some, IsTrue, refl, sym, subst, ap, ◌∙◌}
use Rattle.std.proofs.lemmas.Bool.{cases_lt, cond-true, cond-false, false_from_ne_true}
use Rattle.std.proofs.lemmas.List.{get_or_past}
use Rattle.nego_base.specs.Members.{is_in}
use Rattle.nego_model.specs.Negotiation.{Negotiation, IsOutcome}
use Rattle.nego_model.specs.Occurring.{PlainMarking, Occurrence, ready, moved, enables, after}
use Rattle.nego_model.specs.Joining.{Relation}
use Rattle.nego_model.specs.Reaching.{Reaches}
use Rattle.nego_base.proofs.Members.{is_in-head, in_or_not}
use Rattle.nego_model.proofs.occurrence.Markings.{length-moved, ready-moved_party, ready-moved_other, same_markings, enables_from}
use Rattle.nego_model.proofs.occurrence.Steps.{after-some, after-outcome, after_from}
use Rattle.nego_model.proofs.occurrence.Commuting.{enables-below}
use Rattle.nego_model.proofs.occurrence.Reached.{reached_by_last}
use Rattle.nego_model.proofs.simulation.Simulations.{as-enabled, as-after}
use Rattle.nego_shortcut.proofs.Shortens.{Shortens}
use Rattle.nego_shortcut.proofs.ShortReaches.{MayStart}

module _ {one two : Negotiation} {relation relation' : Relation} {m n o : ℕ} {behind : ℕ → ℕ} (short : Shortens one two relation relation' m n o behind) where
  -- the atom whose outcome has become others stays
  entering_stays : IsTrue (is_in m two.atoms)
  entering_stays = short.atoms_kept m short.own.0 short.apart

  -- ---- an occurrence with another outcome than o

  -- of an atom that stays, it leaves in the second what it leaves in the first
  pub after_kept : (from to : PlainMarking) (step : Occurrence) → step.1 ≢ o → IsTrue (is_in step.0 two.atoms) → after one from step ≡ Some to → after two from step ≡ Some to
  after_kept from to step other there h =
      let k = after-outcome one from step to h in
      as-after one two from to step.0 step.1 step.1 h there (short.parties step.0 there) (short.kept step.0 step.1 k other there).1 (λ a p. short.next step.0 step.1 a k other there p)

  -- of an atom of the first, it leaves in the first what it leaves in the second
  pub kept_before : (from to : PlainMarking) (step : Occurrence) → IsOutcome one step.0 step.1 → step.1 ≢ o → after two from step ≡ Some to → after one from step ≡ Some to
  kept_before from to step k other h =
      let there = (after-outcome two from step to h).0 in
      let same = sym (short.parties step.0 there) in
      as-after two one from to step.0 step.1 step.1 h k.0 same k.1 (λ a p. sym (short.next step.0 step.1 a k other there (subst (λ xs. IsTrue (is_in a xs)) same p)))

  -- ---- o and then an outcome of n

  -- o leaves n enabled
  pub entered : (from to : PlainMarking) → after one from (m, o) ≡ Some to → IsTrue (enables one to n)
  entered from to h =
      let s = after-some one from (m, o) to h in
      subst (λ left. IsTrue (enables one left n)) s.2 (enables_from one (moved 0 (one.parties m) (one.next o) from) n short.atom (λ a p.
      let q = short.within a p in
      subst (λ xs. IsTrue (is_in n xs)) (sym (ready-moved_party (one.parties m) (one.next o) from a (enables-below one from m a s.0 q) q ∙ short.enters a p)) (is_in-head n [])))

  -- an agent is ready for the same after the two moves and after the one that they have become
  ready_joined : (x : ℕ) (from : PlainMarking) (a : ℕ) → IsOutcome one n x → a < length from →
      ready (moved 0 (one.parties n) (one.next x) (moved 0 (one.parties m) (one.next o) from)) a ≡ ready (moved 0 (one.parties m) (two.next (behind x)) from) a
  ready_joined x from a k l = ⊎_elim in_m not_m (in_or_not a (one.parties m))
    where
      between : a < length (moved 0 (one.parties m) (one.next o) from)
      between = subst (λ c. a < c) (sym (length-moved 0 (one.parties m) (one.next o) from)) l

      in_m : IsTrue (is_in a (one.parties m)) →
          ready (moved 0 (one.parties n) (one.next x) (moved 0 (one.parties m) (one.next o) from)) a ≡ ready (moved 0 (one.parties m) (two.next (behind x)) from) a
      in_m p = ⊎_elim
          (λ q. ready-moved_party (one.parties n) (one.next x) (moved 0 (one.parties m) (one.next o) from) a between q
          ∙ sym (ready-moved_party (one.parties m) (two.next (behind x)) from a l p
          ∙ (short.next_behind x a k p ∙ cond-true (is_in a (one.parties n)) (one.next x a) (one.next o a) q)))
          (λ other. ready-moved_other (one.parties n) (one.next x) (moved 0 (one.parties m) (one.next o) from) a between other
          ∙ (ready-moved_party (one.parties m) (one.next o) from a l p
          ∙ sym (ready-moved_party (one.parties m) (two.next (behind x)) from a l p
          ∙ (short.next_behind x a k p ∙ cond-false (is_in a (one.parties n)) (one.next x a) (one.next o a) (false_from_ne_true (is_in a (one.parties n)) other)))))
          (in_or_not a (one.parties n))

      not_m : ¬ IsTrue (is_in a (one.parties m)) →
          ready (moved 0 (one.parties n) (one.next x) (moved 0 (one.parties m) (one.next o) from)) a ≡ ready (moved 0 (one.parties m) (two.next (behind x)) from) a
      not_m other = ready-moved_other (one.parties n) (one.next x) (moved 0 (one.parties m) (one.next o) from) a between (λ q. other (short.within a q))
          ∙ (ready-moved_other (one.parties m) (one.next o) from a l other ∙ sym (ready-moved_other (one.parties m) (two.next (behind x)) from a l other))

  -- the two moves leave what the one leaves that they have become
  moves_joined : (x : ℕ) (from : PlainMarking) → IsOutcome one n x →
      moved 0 (one.parties n) (one.next x) (moved 0 (one.parties m) (one.next o) from) ≡ moved 0 (two.parties m) (two.next (behind x)) from
  moves_joined x from k =
      let as_many = length-moved 0 (one.parties n) (one.next x) (moved 0 (one.parties m) (one.next o) from) ∙ length-moved 0 (one.parties m) (one.next o) from in
      same_markings (moved 0 (one.parties n) (one.next x) (moved 0 (one.parties m) (one.next o) from)) (moved 0 (one.parties m) (two.next (behind x)) from)
      (as_many ∙ sym (length-moved 0 (one.parties m) (two.next (behind x)) from)) (λ a l. ready_joined x from a k (subst (λ c. a < c) as_many l))
      ∙ ap (λ xs. moved 0 xs (two.next (behind x)) from) (short.parties m entering_stays)

  -- what o and then an outcome of n leave in the first, the outcome that they have become leaves in the second
  pub after_made : (from between to : PlainMarking) (x : ℕ) → after one from (m, o) ≡ Some between → after one between (n, x) ≡ Some to → after two from (m, behind x) ≡ Some to
  after_made from between to x h k =
      let s = after-some one from (m, o) between h in
      let t = after-some one between (n, x) to k in
      let outcome = after-outcome one between (n, x) to k in
      after_from two from (m, behind x) (as-enabled one two from m s.0 entering_stays (short.parties m entering_stays)) (short.made x outcome).1
      ∙ ap (λ left. Some left) (sym (moves_joined x from outcome) ∙ (ap (λ left. moved 0 (one.parties n) (one.next x) left) s.2 ∙ t.2))

  -- and the other way round
  pub made_before : (from to : PlainMarking) (x : ℕ) → IsOutcome one n x → after two from (m, behind x) ≡ Some to →
      (between : PlainMarking) × (after one from (m, o) ≡ Some between) × (after one between (n, x) ≡ Some to)
  made_before from to x outcome h =
      let s = after-some two from (m, behind x) to h in
      let first = after_from one from (m, o) (as-enabled two one from m s.0 short.own.0 (sym (short.parties m entering_stays))) short.own.1 in (
        moved 0 (one.parties m) (one.next o) from,
        first,
        after_from one (moved 0 (one.parties m) (one.next o) from) (n, x) (entered from (moved 0 (one.parties m) (one.next o) from) first) outcome.1
            ∙ ap (λ left. Some left) (moves_joined x from outcome ∙ s.2),
      )

  -- ---- who is ready for n

  -- where n is gone and nobody is ready for it, nobody is after an occurrence of the second
  none_ready : (from to : PlainMarking) (step : Occurrence) → ¬ IsTrue (is_in n two.atoms) → after two from step ≡ Some to → ((a : ℕ) → is_in n (ready from a) ≡ false) → (a : ℕ) → is_in n (ready to a) ≡ false
  none_ready from to step away h none a = subst (λ left. is_in n (ready left a) ≡ false) (after-some two from step to h).2 (⊎_elim placed past (cases_lt a (length from)))
    where
      placed : a < length from → is_in n (ready (moved 0 (two.parties step.0) (two.next step.1) from) a) ≡ false
      placed l = ⊎_elim
          (λ p. subst (λ xs. is_in n xs ≡ false) (sym (ready-moved_party (two.parties step.0) (two.next step.1) from a l p))
          (false_from_ne_true (is_in n (two.next step.1 a)) (short.gone away step.0 step.1 a (after-outcome two from step to h))))
          (λ other. subst (λ xs. is_in n xs ≡ false) (sym (ready-moved_other (two.parties step.0) (two.next step.1) from a l other)) (none a))
          (in_or_not a (two.parties step.0))

      past : length from ≤ a → is_in n (ready (moved 0 (two.parties step.0) (two.next step.1) from) a) ≡ false
      past l = subst (λ xs. is_in n xs ≡ false)
          (sym (get_or_past (moved 0 (two.parties step.0) (two.next step.1) from) a [] (subst (λ c. c ≤ a) (sym (length-moved 0 (two.parties step.0) (two.next step.1) from)) l)))
          refl

  start_kept : (from to : PlainMarking) (step : Occurrence) → after two from step ≡ Some to → MayStart two n from → MayStart two n to
  start_kept from to step h (inl there) = inl there
  start_kept from to step h (inr none) = ⊎_elim (λ there. inl there) (λ away. inr (none_ready from to step away h none)) (in_or_not n two.atoms)

  -- nobody is ready for n in what the second reaches, or n stays
  pub start_reached : (from : PlainMarking) (d : ℕ) (to : PlainMarking) (e : ℕ) → MayStart two n from → Reaches two relation' from d to e → MayStart two n to
  start_reached from d to e start h =
      reached_by_last two relation' from d (λ left c. MayStart two n left) start (λ between c left b step more p k r. start_kept between left step k p) to e h
