-- A work in which an outcome has become itself and then each outcome of the atom that it enters is a work.
use Rattle.std.proofs.Common.{◌≡◌, ◌≢◌, ◌⊎◌, inl, inr, ⊎_elim, ℕ, zero, suc, ◌+◌, ◌<◌, ◌≤◌, ◌==◌, List, [], ◌∷◌, length, map, slice_get, slice_index_or, Some, None, IsTrue, refl, sym, subst, ap, ◌∙◌, arith}
use Rattle.std.proofs.lemmas.Bool.{cond-true, cond-false, cases_eq, cases_lt, false_from_ne_true}
use Rattle.std.proofs.lemmas.Option.{none-some, slice_get_within}
use Rattle.std.proofs.lemmas.List.{length-append, get_or_past}
use Rattle.std.proofs.lemmas.List.Elements.{All-weaker, All-filter}
use Rattle.std.specs.List.{All}
use Rattle.nego_base.specs.Members.{is_in}
use Rattle.nego_base.proofs.Members.{is_in_none, in_or_not, some_member, all_in-member, all_in-members}
use Rattle.nego_model.specs.Expression.{PlainNode}
use Rattle.nego_model.proofs.expressions.Nodes.{EachBase-weaker}
use Rattle.nego_expr.specs.Work.{outcomes_at, WorkOutcome, PlainWork, work_parties, work_outcomes, sent_to, IsWork}
use Rattle.nego_expr.specs.Edits.{nodes_then}
use Rattle.nego_expr.specs.Use.{targets_through, through, gone_through}
use Rattle.nego_expr.proofs.EditedWorks.{IsWithin, IsOutcomeOf, outcomes_of_work, edited_work, outcome_kept, then_further, EachBase-then}
use Rattle.nego_expr.proofs.AddedNodes.{length-nodes_then}
use Rattle.nego_expr.proofs.WorkEdits.{All-found}
use Rattle.nego_expr.proofs.WorkForm.{OutcomeFits, found-atom, fits_from_work}
use Rattle.nego_shortcut.proofs.ShortWorks.{IsEntry, number_at, sent-through, length-through, at_place, of_atom, each_entered, rise, kept_is, made_is, outcomes-other}

module _ (work : PlainWork) (n : ℕ) (x y : WorkOutcome) (ys : List WorkOutcome) (ok : IsWork work) (entry : IsEntry work x n) (at_n : outcomes_at work n ≡ y ∷ ys) where
  abbrev grown : PlainWork
  grown = gone_through work n x (y ∷ ys)

  abbrev added : List PlainNode
  added = nodes_then x.node (y ∷ ys)

  abbrev made : ℕ → WorkOutcome → WorkOutcome
  made k z = through work n x z (number_at x.number work.numbers k) (length work.nodes + k)

  -- what holds of each outcome holds of the one that enters
  at_entry : (P : WorkOutcome → Type 0) → All P work.outcomes → P x
  at_entry P h = All-found P work.outcomes x.number x h entry.alive

  -- and of each of the entered atom's
  at_atom : (P : WorkOutcome → Type 0) (k : ℕ) (z : WorkOutcome) → All P work.outcomes → slice_get (y ∷ ys) k ≡ Some z → P z
  at_atom P k z h e = at_place work n x y ys ok entry at_n P k z h e

  atom_is : (k : ℕ) (z : WorkOutcome) → slice_get (y ∷ ys) k ≡ Some z → z.atom ≡ n
  atom_is k z e = of_atom work n x y ys ok entry at_n k z e

  each : (P : WorkOutcome → Type 0) → All P work.outcomes → ((k : ℕ) (z : WorkOutcome) → slice_get (y ∷ ys) k ≡ Some z → P (made k z)) → All P grown.outcomes
  each P h m = each_entered work n x y ys ok entry at_n P h m

  entry_fits : OutcomeFits work x
  entry_fits = at_entry (OutcomeFits work) (fits_from_work work ok)

  -- the outcome that enters isn't one of the last atom, since it sends the parties of the one that it enters
  pub entry_leads : x.atom ≢ work.last
  entry_leads e =
      let p = some_member (work_parties work n) (ok.form.some_party n entry.there) in
      none-some n (sym (entry_fits.ends e p.0) ∙ entry.sends p.0 p.1)

  -- ---- where a made outcome sends the agents

  module _ (k : ℕ) (z : WorkOutcome) (place : slice_get (y ∷ ys) k ≡ Some z) where
    sent-party : (a : ℕ) → a < work.agents → IsTrue (is_in a (work_parties work n)) → sent_to (made k z) a ≡ sent_to z a
    sent-party a l p = sent-through work n x z (number_at x.number work.numbers k) (length work.nodes + k) a l ∙ cond-true (is_in a (work_parties work n)) (sent_to z a) (sent_to x a) p

    sent-other : (a : ℕ) → a < work.agents → ¬ IsTrue (is_in a (work_parties work n)) → sent_to (made k z) a ≡ sent_to x a
    sent-other a l p =
        sent-through work n x z (number_at x.number work.numbers k) (length work.nodes + k) a l
        ∙ cond-false (is_in a (work_parties work n)) (sent_to z a) (sent_to x a) (false_from_ne_true (is_in a (work_parties work n)) p)

    sent-past : (a : ℕ) → work.agents ≤ a → sent_to (made k z) a ≡ None
    sent-past a l = get_or_past (targets_through work n x z) a None (subst (λ count. count ≤ a) (sym (length-through work n x z)) l)

    place_fits : OutcomeFits work z
    place_fits = at_atom (OutcomeFits work) k z (fits_from_work work ok) place

    made_leads : (a : ℕ) → IsTrue (is_in a (work_parties work x.atom)) → sent_to (made k z) a ≢ None
    made_leads a p e =
        let l : a < work.agents = ok.form.party_below x.atom a entry_fits.there p in
        ⊎_elim
        (λ q. place_fits.leads (λ f. entry.not_last (sym (atom_is k z place) ∙ f)) a (subst (λ m. IsTrue (is_in a (work_parties work m))) (sym (atom_is k z place)) q) (sym (sent-party a l q) ∙ e))
        (λ q. entry_fits.leads entry_leads a p (sym (sent-other a l q) ∙ e))
        (in_or_not a (work_parties work n))

    made_stays : (a : ℕ) → IsTrue (is_in a (work_parties work x.atom)) ⊎ (sent_to (made k z) a ≡ None)
    made_stays a = ⊎_elim
        (λ q. inl (entry.within a q))
        (λ q. ⊎_elim (λ p. inl p) (λ e. ⊎_elim (λ l. inr (sent-other a l q ∙ e)) (λ l. inr (sent-past a l)) (cases_lt a work.agents)) (entry_fits.stays a))
        (in_or_not a (work_parties work n))

    made_sends : (a m : ℕ) → sent_to (made k z) a ≡ Some m → IsTrue (is_in m (map (λ atom. atom.number) work.atoms)) × IsTrue (is_in a (work_parties work m))
    made_sends a m e = ⊎_elim
        (λ l. ⊎_elim (λ q. place_fits.sends a m (sym (sent-party a l q) ∙ e)) (λ q. entry_fits.sends a m (sym (sent-other a l q) ∙ e)) (in_or_not a (work_parties work n)))
        (λ l. absurd (none-some m (sym (sent-past a l) ∙ e)))
        (cases_lt a work.agents)

    made_fits : OutcomeFits grown (made k z)
    made_fits = record {
      there = entry_fits.there;
      ends = λ e a. absurd (entry_leads e);
      leads = λ l a p. made_leads a p;
      stays = made_stays;
      sends = made_sends;
    }

  -- ---- the work

  -- each atom keeps an outcome
  some_left : (p : ℕ) → IsTrue (is_in p (map (λ atom. atom.number) work.atoms)) → work_outcomes grown p ≢ []
  some_left p h e =
      let o = some_member (work_outcomes work p) (ok.form.some_outcome p h) in
      ⊎_elim
      (λ q.
      let same : x.atom ≡ p = found-atom work ok.numbers_rise p x.number x entry.alive (subst (λ m. IsTrue (is_in m (work_outcomes work p))) q o.1) in
      is_in_none x.number (work_outcomes grown p) e (subst (λ m. IsTrue (is_in x.number (work_outcomes grown m))) same (made_is work n x y ys ok entry at_n 0 y refl)))
      (λ q. is_in_none o.0 (work_outcomes grown p) e (kept_is work n x y ys ok entry at_n p o.0 o.1 q))
      (cases_eq o.0 x.number)

  -- a made outcome's number is below the least number never used now
  number_used : (k : ℕ) (z : WorkOutcome) → slice_get (y ∷ ys) k ≡ Some z → number_at x.number work.numbers k < work.numbers + length ys
  number_used zero z e = let l : x.number < work.numbers = at_entry (λ w. w.number < work.numbers) ok.numbers_used in omega (arith, l)
  number_used (suc k) z e = let l : k < length ys = slice_get_within ys k z e in omega (arith, l)

  pub length-nodes : length (gone_through work n x (y ∷ ys)).nodes ≡ length work.nodes + length (y ∷ ys)
  length-nodes = length-append work.nodes added ∙ ap (λ count. length work.nodes + count) (length-nodes_then x.node (y ∷ ys))

  entry_outcome : IsOutcomeOf work x
  entry_outcome = at_entry (IsOutcomeOf work) (outcomes_of_work work ok)

  -- a made outcome is what a work asks of one
  made_outcome : (k : ℕ) (z : WorkOutcome) → slice_get (y ∷ ys) k ≡ Some z → IsOutcomeOf grown (made k z)
  made_outcome k z e = record {
    fits = made_fits k z e;
    used = number_used k z e;
    one_each = length-through work n x z;
    there = let l = slice_get_within (y ∷ ys) k z e in omega (arith, l, length-nodes);
    within = EachBase-then (IsWithin work x.atom) work.nodes x.node (y ∷ ys) k z e entry_outcome.there place_outcome.there entry_outcome.within
        (EachBase-weaker (IsWithin work z.atom) (IsWithin work x.atom) within work.nodes z.node place_outcome.within);
  }
    where
      place_outcome : IsOutcomeOf work z
      place_outcome = at_atom (IsOutcomeOf work) k z (outcomes_of_work work ok) e

      -- who is a party of the entered atom is one of the outcome's
      within : (o : ℕ) → IsWithin work z.atom o → IsWithin work x.atom o
      within o h = all_in-members (slice_index_or work.bases o []) (work_parties work x.atom) (λ a m.
          entry.within a (subst (λ p. IsTrue (is_in a (work_parties work p))) (atom_is k z e) (all_in-member a (slice_index_or work.bases o []) (work_parties work z.atom) h m)))

  pub entered_work : IsWork (gone_through work n x (y ∷ ys))
  entered_work = edited_work work added (work.numbers + length ys) grown.outcomes ok
      (then_further work x.node (y ∷ ys) entry_outcome.there
      (subst (All (λ w. w.node < length work.nodes)) at_n (All-filter (λ w. w.atom == n) (λ w. w.node < length work.nodes) work.outcomes ok.nodes_there)))
      (rise work n x y ys ok entry at_n) some_left (outcomes-other work n x y ys ok entry at_n work.last (λ e. entry_leads (sym e)))
      (each (IsOutcomeOf grown)
      (All-weaker (IsOutcomeOf work) (IsOutcomeOf grown) (outcome_kept work added (work.numbers + length ys) grown.outcomes ok (omega arith)) work.outcomes (outcomes_of_work work ok)) made_outcome)
