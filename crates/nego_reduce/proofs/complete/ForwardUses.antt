-- Uses that a work allows keep that its outcomes go forward.
use Rattle.std.proofs.Common.{◌≡◌, ◌≢◌, ◌⊎◌, inl, inr, ⊎_elim, ℕ, ◌+◌, ◌<◌, ◌≤◌, ◌==◌, Bool, true, not, cond, List, [], ◌∷◌, length, map, Some, None, IsTrue, false, refl, sym, subst, ap, ◌∙◌, arith, eqb-true, ne_eqb}
use Rattle.std.proofs.lemmas.Bool.{and_parts, or_cases, cases_eq, cases_lt, cond-true, cond-false, false_from_ne_true, not_from_false, true≢false}
use Rattle.std.proofs.lemmas.Option.{none-some}
use Rattle.std.proofs.lemmas.List.{get_or_past}
use Rattle.std.proofs.lemmas.List.Elements.{All-filter, All-weaker}
use Rattle.std.specs.List.{filter}
use Rattle.std.specs.Option.{option_map_or}
use Rattle.nego_base.specs.Members.{is_in, united}
use Rattle.nego_base.proofs.Members.{in_or_not, is_in-filter, is_in-united, is_in-with, is_in_none}
use Rattle.nego_model.specs.Acyclic.{rank_in}
use Rattle.nego_expr.specs.Work.{WorkAtom, WorkOutcome, PlainWork, IsWork, parties_among, outcome_at, outcomes_at, work_parties, sent_to}
use Rattle.nego_expr.specs.Edits.{without_atom, without_outcome, then_each}
use Rattle.nego_expr.specs.Use.{PlainUse, Merge, Iterate, Shortcut, Close, merges, merged, enters, targets_through, through, gone_through, is_entered, without_unentered, entered, opening_outcome, closes, closed, allows, after_use}
use Rattle.nego_expr.specs.Lead.{Allowed, Lead}
use Rattle.nego_expr.proofs.EditCalls.{allowed_at, found_itself}
use Rattle.nego_expr.proofs.NodesAt.{of_atom, All-with_nodes_at}
use Rattle.nego_expr.proofs.WorkEdits.{All-at_place, All-found, All-with_outcome, All-without_outcome, atoms-filter, parties-filter}
use Rattle.nego_expr.proofs.WorkForm.{OutcomeFits, fits_from_work}
use Rattle.nego_merge.proofs.MergeKeeps.{Merges, merges_parts, merged-pair}
use Rattle.nego_shortcut.proofs.CloseKeeps.{closed-one}
use Rattle.nego_shortcut.proofs.ShortShows.{first_of, shortcut_is}
use Rattle.nego_shortcut.proofs.ShortWorks.{IsEntry, entry_from, number_at, sent-through, length-through, at_place, of_atom as at_entered, each_entered}
use Rattle.nego_reduce.proofs.UsesLead.{uses_keep}
use Rattle.nego_reduce.proofs.complete.GoingForward.{GoesForward, IsForward, forward-ranked, ranked_iterates_none}

-- ---- merges

-- an outcome that joins two which send alike goes forward where both do
merged_forward : (order : List ℕ) (work : PlainWork) (x y : WorkOutcome) → IsWork work → Merges work x y → IsForward order work → IsForward order (merged work x y)
merged_forward order work x y ok two forward = record {
  atoms = forward.atoms;
  outcomes = All-with_outcome (GoesForward order work.atoms) joined (without_outcome y.number work.outcomes) joined_goes (All-without_outcome (GoesForward order work.atoms) y.number work.outcomes forward.outcomes);
}
  where
    joined : WorkOutcome
    joined = record x { node = length work.nodes; passed = united x.passed y.passed }

    one : GoesForward order work.atoms x
    one = All-found (GoesForward order work.atoms) work.outcomes x.number x forward.outcomes two.first

    other : GoesForward order work.atoms y
    other = All-found (GoesForward order work.atoms) work.outcomes y.number y forward.outcomes two.second

    fits : OutcomeFits work x
    fits = All-found (OutcomeFits work) work.outcomes x.number x (fits_from_work work ok) two.first

    sent_alike : (a m : ℕ) → sent_to x a ≡ Some m → sent_to y a ≡ Some m
    sent_alike a m sends = ⊎_elim (λ party. sym (two.alike a party) ∙ sends) (λ none. absurd (none-some m (sym none ∙ sends))) (fits.stays a)

    joined_goes : GoesForward order work.atoms joined
    joined_goes = record {
      own = one.own;
      passed = λ p a m h party sends. ⊎_elim
          (λ k. one.passed p a m k party sends)
          (λ k. other.passed p a m k party (sent_alike a m sends))
          (or_cases (is_in p x.passed) (is_in p y.passed) (sym (is_in-united p x.passed y.passed) ∙ h));
    }

-- ---- an atom is gone

-- an atom that is gone has no parties
parties_gone : (n : ℕ) (atoms : List WorkAtom) → parties_among (filter (λ atom. not (atom.number == n)) atoms) n ≡ []
parties_gone n [] = refl
parties_gone n (y ∷ ys) = go (y.number == n) refl (parties_gone n ys)
  where
    go : (b : Bool) → (y.number == n) ≡ b → parties_among (filter (λ atom. not (atom.number == n)) ys) n ≡ [] →
        parties_among (cond (not b) (y ∷ filter (λ atom. not (atom.number == n)) ys) (filter (λ atom. not (atom.number == n)) ys)) n ≡ []
    go true e k = k
    go false e k = cond-false (y.number == n) y.parties (parties_among (filter (λ atom. not (atom.number == n)) ys) n) e ∙ k

-- so no atom has more parties
parties_left : (n : ℕ) (atoms : List WorkAtom) (p a : ℕ) → IsTrue (is_in a (parties_among (filter (λ atom. not (atom.number == n)) atoms) p)) → IsTrue (is_in a (parties_among atoms p))
parties_left n atoms p a h = ⊎_elim
    (λ e. absurd (is_in_none a (parties_among (filter (λ atom. not (atom.number == n)) atoms) p) (ap (parties_among (filter (λ atom. not (atom.number == n)) atoms)) e ∙ parties_gone n atoms) h))
    (λ other. subst (λ ps. IsTrue (is_in a ps)) (parties-filter (λ m. not (m == n)) atoms p (not_from_false (p == n) (ne_eqb p n other))) h)
    (cases_eq p n)

without_forward : (order : List ℕ) (work : PlainWork) (n : ℕ) → IsForward order work → IsForward order (without_atom n work)
without_forward order work n forward = record {
  atoms = λ m h. forward.atoms m (and_parts (not (m == n)) (is_in m (map (λ atom. atom.number) work.atoms))
      (sym (is_in-filter (λ p. not (p == n)) m (map (λ atom. atom.number) work.atoms)) ∙ subst (λ xs. IsTrue (is_in m xs)) (atoms-filter (λ p. not (p == n)) work.atoms) h)).1;
  outcomes = All-weaker (GoesForward order work.atoms) (GoesForward order left) (λ x goes. record { own = goes.own; passed = λ p a m h party sends. goes.passed p a m h (parties_left n work.atoms p a party) sends })
      (filter (λ x. not (x.atom == n)) work.outcomes) (All-filter (λ x. not (x.atom == n)) (GoesForward order work.atoms) work.outcomes forward.outcomes);
}
  where
    left : List WorkAtom
    left = filter (λ atom. not (atom.number == n)) work.atoms

-- ---- shortcuts

module _ (order : List ℕ) (work : PlainWork) (n : ℕ) (x : WorkOutcome) (ok : IsWork work) (entry : IsEntry work x n) (forward : IsForward order work) where
  abbrev rank : ℕ → ℕ
  rank m = rank_in order m

  entering : GoesForward order work.atoms x
  entering = All-found (GoesForward order work.atoms) work.outcomes x.number x forward.outcomes entry.alive

  -- who is sent somewhere by the outcome that enters and then by one of the entered atom is sent there by the one or the other
  sent_through : (z : WorkOutcome) (number node a m : ℕ) → sent_to (through work n x z number node) a ≡ Some m →
      (IsTrue (is_in a (work_parties work n)) × (sent_to z a ≡ Some m)) ⊎ ((¬ IsTrue (is_in a (work_parties work n))) × (sent_to x a ≡ Some m))
  sent_through z number node a m sends = ⊎_elim within past (cases_lt a work.agents)
    where
      Sent : Type 0
      Sent = (IsTrue (is_in a (work_parties work n)) × (sent_to z a ≡ Some m)) ⊎ ((¬ IsTrue (is_in a (work_parties work n))) × (sent_to x a ≡ Some m))

      within : a < work.agents → Sent
      within l =
          let k = sent-through work n x z number node a l in
          ⊎_elim
          (λ p. inl (p, sym (k ∙ cond-true (is_in a (work_parties work n)) (sent_to z a) (sent_to x a) p) ∙ sends))
          (λ p. inr (p, sym (k ∙ cond-false (is_in a (work_parties work n)) (sent_to z a) (sent_to x a) (false_from_ne_true (is_in a (work_parties work n)) p)) ∙ sends))
          (in_or_not a (work_parties work n))

      past : work.agents ≤ a → Sent
      past l = absurd (none-some m (sym (get_or_past (targets_through work n x z) a None (subst (λ count. count ≤ a) (sym (length-through work n x z)) l)) ∙ sends))

  -- such an outcome goes forward
  through_goes : (z : WorkOutcome) (number node : ℕ) → z.atom ≡ n → GoesForward order work.atoms z → GoesForward order work.atoms (through work n x z number node)
  through_goes z number node of_n goes = record {
    own = λ a m sends. ⊎_elim
        (λ k. let up = entering.own a n (entry.sends a k.0) in let further = further a m k.1 in omega (arith, up, further))
        (λ k. entering.own a m k.1)
        (sent_through z number node a m sends);
    passed = λ p a m h party sends. ⊎_elim
        (λ k. let further = further a m k.1 in ⊎_elim
        (λ e. subst (λ q. rank q < rank m) (eqb-true n p e) further)
        (λ old. let up = entering.passed p a n old party (entry.sends a k.0) in omega (arith, up, further))
        (or_cases (n == p) (is_in p x.passed) (sym (is_in-with p n x.passed) ∙ h)))
        (λ k. ⊎_elim
        (λ e. absurd (k.0 (subst (λ q. IsTrue (is_in a (work_parties work q))) (sym (eqb-true n p e)) party)))
        (λ old. entering.passed p a m old party k.1)
        (or_cases (n == p) (is_in p x.passed) (sym (is_in-with p n x.passed) ∙ h)))
        (sent_through z number node a m sends);
  }
    where
      further : (a m : ℕ) → sent_to z a ≡ Some m → rank n < rank m
      further a m sends = subst (λ q. rank q < rank m) of_n (goes.own a m sends)

  gone_forward : (y : WorkOutcome) (ys : List WorkOutcome) → outcomes_at work n ≡ y ∷ ys → IsForward order (gone_through work n x (y ∷ ys))
  gone_forward y ys at_n = record {
    atoms = forward.atoms;
    outcomes = each_entered work n x y ys ok entry at_n (GoesForward order work.atoms) forward.outcomes
        (λ k z e. through_goes z (number_at x.number work.numbers k) (length work.nodes + k) (at_entered work n x y ys ok entry at_n k z e) (at_place work n x y ys ok entry at_n (GoesForward order work.atoms) k z forward.outcomes e));
  }

  entered_forward : IsForward order (entered work x n)
  entered_forward =
      let first = first_of (outcomes_at work n) (λ e. ok.form.some_outcome n entry.there (ap (λ outcomes. map (λ z. z.number) outcomes) e)) in
      subst (λ outcomes. IsForward order (without_unentered n (gone_through work n x outcomes))) (sym first.2)
      (go (gone_through work n x (first.0 ∷ first.1)) (is_entered (gone_through work n x (first.0 ∷ first.1)) n) (gone_forward first.0 first.1 first.2))
    where
      go : (grown : PlainWork) (b : Bool) → IsForward order grown → IsForward order (cond b grown (without_atom n grown))
      go grown true h = h
      go grown false h = without_forward order grown n h

-- ---- nodes

-- other nodes change nothing
then_forward : (order : List ℕ) (work : PlainWork) (x n : ℕ) → IsForward order work → IsForward order (then_each x n work)
then_forward order work x n forward = record {
  atoms = forward.atoms;
  outcomes = All-with_nodes_at Goes n (length work.nodes) work.outcomes (All-weaker Goes (λ z. z.atom ≢ n → Goes z) (λ z goes other. goes) work.outcomes forward.outcomes)
      (λ k z e. let goes = All-at_place Goes (of_atom n work.outcomes) k z (All-filter (λ w. w.atom == n) Goes work.outcomes forward.outcomes) e in record { own = goes.own; passed = goes.passed });
}
  where
    Goes : WorkOutcome → Type 0
    Goes = GoesForward order work.atoms

closed_forward : (order : List ℕ) (work : PlainWork) (x : WorkOutcome) → IsForward order work → IsForward order (closed work x)
closed_forward order work x forward =
    let left = without_forward order work work.first forward in
    then_forward order (record (without_atom work.first work) { first = work.last }) x.node work.last (record { atoms = left.atoms; outcomes = left.outcomes })

-- ---- all uses

-- a use that a work allows keeps that it goes forward
pub use_forward : (order : List ℕ) (work : PlainWork) (next : PlainUse) → IsWork work → IsTrue (allows work next) → IsForward order work → IsForward order (after_use work next)
use_forward order work (Merge o1 o2) ok allowed forward =
    let one = allowed_at (λ z. option_map_or (merges work z) (outcome_at work o2) false) (outcome_at work o1) allowed in
    let two = allowed_at (merges work one.0) (outcome_at work o2) one.2 in
    subst (IsForward order) (sym (merged-pair work o1 o2 one.0 two.0 one.1 two.1))
    (merged_forward order work one.0 two.0 ok (merges_parts work one.0 two.0 (found_itself work o1 one.0 one.1) (found_itself work o2 two.0 two.1) two.2) forward)
use_forward order work (Iterate o) ok allowed forward = absurd (true≢false (sym allowed ∙ ranked_iterates_none order work ok (forward-ranked order work ok forward) o))
use_forward order work (Shortcut o n) ok allowed forward =
    let k = allowed_at (λ x. enters work x n) (outcome_at work o) allowed in
    subst (IsForward order) (sym (shortcut_is work o n k.0 k.1)) (entered_forward order work n k.0 ok (entry_from work k.0 n (found_itself work o k.0 k.1) k.2) forward)
use_forward order work Close ok allowed forward =
    let k = allowed_at (closes work) (opening_outcome work) allowed in
    subst (IsForward order) (sym (closed-one work k.0 k.1)) (closed_forward order work k.0 forward)

-- so do uses that lead
pub leading_forward : (order : List ℕ) (work end : PlainWork) (uses : List PlainUse) → IsWork work → IsForward order work → Lead Allowed work uses end → IsWork end × IsForward order end
leading_forward order work end [] ok forward leads = subst (λ w. IsWork w × IsForward order w) leads (ok, forward)
leading_forward order work end (next ∷ uses) ok forward leads =
    leading_forward order (after_use work next) end uses (uses_keep next work ok leads.0).0 (use_forward order work next ok leads.0 forward) leads.2
