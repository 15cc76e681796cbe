-- After the order's shortcut only the outcome that made it has new uses: what the others may do they could do before.
use Rattle.std.proofs.Common.{◌≡◌, ◌≢◌, inl, ⊎_elim, ℕ, zero, suc, ◌==◌, ◌&&◌, not, nat_lt, Bool, true, false, List, [], ◌∷◌, length, map, option_map, slice_get, Option, Some, None, Bor, IfSome, IsTrue, sym, subst, ap, ◌∙◌, append-nil, arith}
use Rattle.std.specs.List.{All, filter}
use Rattle.std.specs.Option.{option_map_or}
use Rattle.std.proofs.lemmas.Bool.{and_parts, and_from, false_from_ne_true, true≢false}
use Rattle.std.proofs.lemmas.List.{length-map}
use Rattle.std.proofs.lemmas.List.Elements.{All-weaker}
use Rattle.std.proofs.lemmas.Option.{none-some, same_Some}
use Rattle.nego_base.specs.Members.{is_in, all_in}
use Rattle.nego_expr.specs.Work.{WorkOutcome, PlainWork, outcome_at, outcomes_at, work_parties, IsWork}
use Rattle.nego_expr.specs.declared.outcome.Outcome.{Outcome}
use Rattle.nego_expr.specs.WorkView.{plain_outcome}
use Rattle.nego_expr.specs.Edits.{with_outcome}
use Rattle.nego_expr.specs.Use.{PlainUse, Merge, Iterate, Shortcut, Close, allows, after_use, merges, iterates, enters, through, gone_through, without_unentered, send_alike, sends_all}
use Rattle.nego_expr.proofs.Alive.{each_found}
use Rattle.nego_expr.proofs.EditCalls.{allowed_at, found_itself}
use Rattle.nego_expr.proofs.WorkEdits.{numbers_of, All-found, found-number, passing-with_outcome}
use Rattle.nego_merge.proofs.MergeKeeps.{allowed-pair}
use Rattle.nego_shortcut.proofs.ShortForm.{entered_work}
use Rattle.nego_shortcut.proofs.ShortWorks.{IsEntry, entry_from, number_at, found-entered}
use Rattle.nego_shortcut.proofs.ShortShows.{shortcut_is, shortcut_allowed}
use Rattle.nego_shortcut.proofs.Unentered.{Leaves, unentered_leaves}
use Rattle.nego_reduce.specs.Order.{IsNextUse, has_passed, takes_shortcut}
use Rattle.nego_reduce.specs.Changed.{OthersAreDone, MayOffer, entering}
use Rattle.nego_reduce.proofs.NextUses.{next_allowed}
use Rattle.nego_reduce.proofs.UsesLead.{uses_keep}
use Rattle.nego_reduce.proofs.bound.NextUsesLower.{shortcut_parts}

-- An outcome has gone through an atom of one outcome, and the atom is gone where it isn't entered any more.
module _ (work : PlainWork) (ok : IsWork work) (n : ℕ) (x y : WorkOutcome) (entry : IsEntry work x n) (one : outcomes_at work n ≡ y ∷ []) (new : PlainWork) (new_ok : IsWork new)
    (leaves : Leaves (gone_through work n x (y ∷ [])) new n) where
  -- what is found by another number was found before
  found : (p : ℕ) (z : WorkOutcome) → p ≢ x.number → outcome_at new p ≡ Some z → outcome_at work p ≡ Some z
  found p z other h = ⊎_elim (λ k. k.0) (λ k. absurd (itself k.0 k.1 k.2 k.3)) (found-entered work n x y [] ok entry one p z (leaves.found_only p z h))
    where
      itself : (k : ℕ) (w : WorkOutcome) → slice_get (y ∷ []) k ≡ Some w → p ≡ number_at x.number work.numbers k → ⊥
      itself zero w e q = other q
      itself (suc k) w e q = none-some w e

  -- its atom is left
  left : (p : ℕ) (z : WorkOutcome) → outcome_at new p ≡ Some z → IsTrue (is_in z.atom (map (λ atom. atom.number) new.atoms))
  left p z h = All-found (λ w. IsTrue (is_in w.atom (map (λ atom. atom.number) new.atoms))) new.outcomes p z new_ok.own_atom h

  -- an atom that is left has as many outcomes as before
  as_many : (p : ℕ) → IsTrue (is_in p (map (λ atom. atom.number) new.atoms)) → length (outcomes_at new p) ≡ length (outcomes_at work p)
  as_many p there =
      sym (length-map (outcomes_at new p) (λ z. z.number))
      ∙ (ap length (sym (leaves.outcomes p there)
      ∙ (ap (λ zs. numbers_of (filter (λ z. z.atom == p) zs)) (append-nil (with_outcome changed work.outcomes)) ∙ passing-with_outcome (λ z. z.atom == p) changed work.outcomes same))
      ∙ length-map (outcomes_at work p) (λ z. z.number))
    where
      changed : WorkOutcome
      changed = through work n x y x.number (length work.nodes)

      Same : WorkOutcome → Type 0
      Same z = z.number ≡ changed.number → (z.atom == p) ≡ (changed.atom == p)

      same : All Same work.outcomes
      same = All-weaker (λ z. outcome_at work z.number ≡ Some z) Same (λ z h e. ap (λ w. w.atom == p) (same_Some z x (sym h ∙ (ap (outcome_at work) e ∙ entry.alive)))) work.outcomes (each_found work.outcomes ok.numbers_rise)

  -- ---- what the others may do

  -- they could be merged before
  merged_before : (p q : ℕ) → p ≢ x.number → q ≢ x.number → IsTrue (allows new (Merge p q)) → IsTrue (allows work (Merge p q))
  merged_before p q first second h =
      let z = allowed_at (λ v. option_map_or (merges new v) (outcome_at new q) false) (outcome_at new p) h in
      let w = allowed_at (merges new z.0) (outcome_at new q) z.2 in
      let same : merges new z.0 w.0 ≡ merges work z.0 w.0 =
      ap (λ l. nat_lt z.0.number w.0.number && ((z.0.atom == w.0.atom) && (not (z.0.atom == l) && send_alike (work_parties new z.0.atom) z.0 w.0))) (sym leaves.last)
      ∙ ap (λ ps. nat_lt z.0.number w.0.number && ((z.0.atom == w.0.atom) && (not (z.0.atom == work.last) && send_alike ps z.0 w.0))) (sym (leaves.parties z.0.atom (left p z.0 z.1))) in
      allowed-pair work p q z.0 w.0 (found p z.0 first z.1) (found q w.0 second w.1) ∙ (sym same ∙ w.2)

  -- each could be iterated before
  iterated_before : (p : ℕ) → p ≢ x.number → IsTrue (allows new (Iterate p)) → IsTrue (allows work (Iterate p))
  iterated_before p other h =
      let z = allowed_at (iterates new) (outcome_at new p) h in
      let there = left p z.0 z.1 in
      let same : iterates new z.0 ≡ iterates work z.0 =
      ap (λ l. not (z.0.atom == l) && (sends_all (work_parties new z.0.atom) z.0.atom z.0 && nat_lt 1 (length (outcomes_at new z.0.atom)))) (sym leaves.last)
      ∙ (ap (λ ps. not (z.0.atom == work.last) && (sends_all ps z.0.atom z.0 && nat_lt 1 (length (outcomes_at new z.0.atom)))) (sym (leaves.parties z.0.atom there))
      ∙ ap (λ k. not (z.0.atom == work.last) && (sends_all (work_parties work z.0.atom) z.0.atom z.0 && nat_lt 1 k)) (as_many z.0.atom there)) in
      ap (λ f. option_map_or (iterates work) f false) (found p z.0 other z.1) ∙ (sym same ∙ z.2)

  -- an atom that it enters it entered before
  enters_before : (m : ℕ) (z : WorkOutcome) → IsTrue (is_in z.atom (map (λ atom. atom.number) new.atoms)) → IsTrue (enters new z m) → IsTrue (is_in m (map (λ atom. atom.number) new.atoms)) × IsTrue (enters work z m)
  enters_before m z there h =
      let Rest : ℕ → ℕ → List ℕ → List ℕ → Bool = λ f l own ps. not (m == f) && (not (m == l) && (all_in own ps && sends_all own m z)) in
      let parts = and_parts (not (z.atom == m)) (is_in m (map (λ atom. atom.number) new.atoms) && Rest new.first new.last (work_parties new m) (work_parties new z.atom)) h in
      let more = and_parts (is_in m (map (λ atom. atom.number) new.atoms)) (Rest new.first new.last (work_parties new m) (work_parties new z.atom)) parts.1 in
      let rest : Rest work.first work.last (work_parties work m) (work_parties work z.atom) ≡ true =
      ap (λ f. Rest f work.last (work_parties work m) (work_parties work z.atom)) leaves.first
      ∙ (ap (λ l. Rest new.first l (work_parties work m) (work_parties work z.atom)) leaves.last
      ∙ (ap (λ own. Rest new.first new.last own (work_parties work z.atom)) (leaves.parties m more.0)
      ∙ (ap (λ ps. Rest new.first new.last (work_parties new m) ps) (leaves.parties z.atom there) ∙ more.1))) in (
        more.0,
        and_from (not (z.atom == m)) (is_in m (map (λ atom. atom.number) work.atoms) && Rest work.first work.last (work_parties work m) (work_parties work z.atom)) parts.0
            (and_from (is_in m (map (λ atom. atom.number) work.atoms)) (Rest work.first work.last (work_parties work m) (work_parties work z.atom)) (leaves.atoms_only m more.0) rest),
      )

  -- so the order took its shortcuts before
  taken_before : (p m : ℕ) → p ≢ x.number → IsTrue (takes_shortcut new p m) → IsTrue (takes_shortcut work p m)
  taken_before p m other h =
      let parts = and_parts (allows new (Shortcut p m)) ((length (outcomes_at new m) == 1) && not (has_passed new p m)) h in
      let more = and_parts (length (outcomes_at new m) == 1) (not (has_passed new p m)) parts.1 in
      let z = allowed_at (λ v. enters new v m) (outcome_at new p) parts.0 in
      let before = found p z.0 other z.1 in
      let enters = enters_before m z.0 (left p z.0 z.1) z.2 in
      let passed : has_passed work p m ≡ has_passed new p m = ap (λ f. option_map_or (λ v. is_in m v.passed) f false) (before ∙ sym z.1) in
      and_from (allows work (Shortcut p m)) ((length (outcomes_at work m) == 1) && not (has_passed work p m)) (shortcut_allowed work p m z.0 before ∙ enters.1)
      (and_from (length (outcomes_at work m) == 1) (not (has_passed work p m)) (ap (λ k. k == 1) (sym (as_many m enters.0)) ∙ more.0) (ap not passed ∙ more.1))

-- After the order's shortcut nothing else is new.
others_done : (work : PlainWork) (o n : ℕ) → IsWork work → IsNextUse work (Shortcut o n) → OthersAreDone (after_use work (Shortcut o n)) o
others_done work o n ok h =
    let k = shortcut_parts work o n h.2.taken in
    let x = k.outcome in
    let same : x.number ≡ o = found-number work.outcomes o x k.found in
    let entry = entry_from work x n (found_itself work o x k.found) k.enters in
    let after : after_use work (Shortcut o n) ≡ without_unentered n (gone_through work n x (k.through ∷ [])) = shortcut_is work o n x k.found ∙ ap (λ ys. without_unentered n (gone_through work n x ys)) k.one in
    let grown_ok = entered_work work n x k.through [] ok entry k.one in
    let leaves : Leaves (gone_through work n x (k.through ∷ [])) (without_unentered n (gone_through work n x (k.through ∷ []))) n = unentered_leaves (gone_through work n x (k.through ∷ [])) n grown_ok entry.not_first entry.not_last entry.there in
    let new_ok : IsWork (without_unentered n (gone_through work n x (k.through ∷ []))) = subst IsWork after (uses_keep (Shortcut o n) work ok (next_allowed work (Shortcut o n) h)).0 in
    let other : (p : ℕ) → p ≢ o → p ≢ x.number = λ p q e. q (e ∙ same) in
    subst (λ w. OthersAreDone w o) (sym after) (record {
      merges = λ p q first second. false_from_ne_true (allows (without_unentered n (gone_through work n x (k.through ∷ []))) (Merge p q)) (λ e.
          true≢false (sym (merged_before work ok n x k.through entry k.one (without_unentered n (gone_through work n x (k.through ∷ []))) new_ok leaves p q (other p first) (other q second) e) ∙ h.0 p q));
      iterations = λ p q. false_from_ne_true (allows (without_unentered n (gone_through work n x (k.through ∷ []))) (Iterate p)) (λ e.
          true≢false (sym (iterated_before work ok n x k.through entry k.one (without_unentered n (gone_through work n x (k.through ∷ []))) new_ok leaves p (other p q) e) ∙ h.1 p));
      shortcuts = λ p m l. false_from_ne_true (takes_shortcut (without_unentered n (gone_through work n x (k.through ∷ []))) p m) (λ e.
          true≢false (sym (taken_before work ok n x k.through entry k.one (without_unentered n (gone_through work n x (k.through ∷ []))) new_ok leaves p m (other p (λ q. let no_more : ⊥ = omega (arith, l, q) in no_more)) e) ∙ h.2.least p m (inl l)));
    })

-- What the next use leaves offers no more.
pub may_offer : (work : PlainWork) (next : PlainUse) → IsWork work → IsNextUse work next → MayOffer (after_use work next) (entering next)
may_offer work (Merge o1 o2) ok h = tt
may_offer work (Iterate o) ok h = tt
may_offer work (Shortcut o n) ok h = others_done work o n ok h
may_offer work Close ok h = tt

-- ---- the changed outcome, as it is lent

pub lent_alive : (work : PlainWork) (o : ℕ) (lent : Option (Bor Outcome)) → option_map (λ x. plain_outcome x.now) lent ≡ outcome_at work o → IfSome lent (λ x. outcome_at work x.now.number.0 ≡ Some (plain_outcome x.now))
lent_alive work o None e = tt
lent_alive work o (Some x) e = found_itself work o (plain_outcome x.now) (sym e)

pub lent_known : (work : PlainWork) (o : ℕ) (lent : Option (Bor Outcome)) → option_map (λ x. plain_outcome x.now) lent ≡ outcome_at work o → MayOffer work (Some o) → MayOffer work (option_map (λ x. x.now.number.0) lent)
lent_known work o None e known = tt
lent_known work o (Some x) e known = subst (OthersAreDone work) (sym (found-number work.outcomes o (plain_outcome x.now) (sym e))) known
