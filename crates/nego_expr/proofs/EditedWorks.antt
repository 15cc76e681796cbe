-- When a work that was edited is a work: each of its alive outcomes is what a work asks of one.
use Rattle.std.specs.Prelude.{⊤}
use Rattle.std.proofs.Common.{◌≡◌, ◌≢◌, ⊎_elim, inl, inr, ℕ, ◌+◌, ◌<◌, ◌≤◌, true, not, ◌==◌, List, [], ◌∷◌, ◌++◌, length, map, slice_get, slice_index_or, Some, IsTrue, refl, sym, subst, ap, ◌∙◌, arith, eqb-true, ne_eqb}
use Rattle.std.proofs.lemmas.Bool.{and_parts, and_from, eqb-false, not-true, not_from_false}
use Rattle.std.proofs.lemmas.Option.{slice_get_within}
use Rattle.std.proofs.lemmas.List.{length-append}
use Rattle.std.proofs.lemmas.List.Elements.{All-nil, All-cons, All-filter, All-weaker, filter_passes}
use Rattle.std.specs.List.{All, filter}
use Rattle.nego_base.specs.Members.{is_in, all_in, IsRising}
use Rattle.nego_base.proofs.Members.{is_in-filter, rises-filter}
use Rattle.nego_model.specs.Expression.{PlainNode, Then, IsNodeList, NodeBases, EachBase, AllBases, children}
use Rattle.nego_model.proofs.expressions.Bases.{AllBases-append}
use Rattle.nego_expr.specs.Work.{WorkOutcome, PlainWork, IsWork, outcome_at, work_parties, work_outcomes, sent_to, negotiation_of_work}
use Rattle.nego_expr.specs.Edits.{nodes_then, with_nodes_at, then_each, without_atom}
use Rattle.nego_expr.proofs.AddedNodes.{IsNodeList-append, EachBase-append, EachBase-added, length-nodes_then, node_then, nodes_then-older}
use Rattle.nego_expr.proofs.Alive.{each_found}
use Rattle.nego_expr.proofs.NodesAt.{of_atom, passing-with_nodes_at, numbers-with_nodes_at, All-with_nodes_at}
use Rattle.nego_expr.proofs.WorkEdits.{numbers_of, All-at_place, All-found, found-number, found-passing, rises-passing, filter-within, atoms-filter, parties-filter}
use Rattle.nego_expr.proofs.WorkForm.{OutcomeFits, AtomsFit, AtomsFit_from, negotiation_from_fits, fits_from_work}

-- the parties of an outcome that was read are parties of the atom
abbrev pub IsWithin : PlainWork → ℕ → ℕ → Type 0
IsWithin work n o = IsTrue (all_in (slice_index_or work.bases o []) (work_parties work n))

-- What a work asks of an alive outcome.
pub record IsOutcomeOf (work : PlainWork) (x : WorkOutcome) : Type 0 where
  pub fits : OutcomeFits work x
  pub used : x.number < work.numbers
  pub one_each : length x.targets ≡ work.agents
  pub there : x.node < length work.nodes
  pub within : EachBase (IsWithin work x.atom) work.nodes x.node

-- each alive outcome of a work is so
pub outcomes_of_work : (work : PlainWork) → IsWork work → All (IsOutcomeOf work) work.outcomes
outcomes_of_work work ok k d l = record {
  fits = fits_from_work work ok k d l;
  used = ok.numbers_used k d l;
  one_each = ok.targets_fit k d l;
  there = ok.nodes_there k d l;
  within = ok.bases_within k d l;
}

-- and it is a work where they are, and its atoms, numbers, nodes and names are those of one
pub work_from_outcomes : (work : PlainWork) → AtomsFit (negotiation_of_work work) → IsRising (numbers_of work.outcomes) →
    ((n : ℕ) → IsTrue (is_in n (map (λ atom. atom.number) work.atoms)) → work_outcomes work n ≢ []) → IsNodeList work.nodes → AllBases (λ o. o < length work.bases) work.nodes →
    length work.names ≡ length (work_outcomes work work.last) → All (IsOutcomeOf work) work.outcomes → IsWork work
work_from_outcomes work atoms rise some nodes read named each = record {
  form = negotiation_from_fits work atoms rise (All-weaker (IsOutcomeOf work) (OutcomeFits work) (λ x h. h.fits) work.outcomes each) some;
  numbers_rise = rise;
  own_atom = λ k d l. (each k d l).fits.there;
  numbers_used = λ k d l. (each k d l).used;
  targets_fit = λ k d l. (each k d l).one_each;
  nodes = nodes;
  nodes_there = λ k d l. (each k d l).there;
  named = named;
  bases_read = read;
  bases_within = λ k d l. (each k d l).within;
}

-- ---- other outcomes, and nodes behind the old ones

-- the work with further nodes, and with these numbers and outcomes
abbrev pub edited : PlainWork → List PlainNode → ℕ → List WorkOutcome → PlainWork
edited work more numbers outcomes = record work { nodes = work.nodes ++ more; numbers = numbers; outcomes = outcomes }

-- What is asked of the further nodes: they are made of old ones, and their outcomes were read.
pub record AreFurther (work : PlainWork) (more : List PlainNode) : Type 0 where
  pub older : All (λ node. All (λ child. child < length work.nodes) (children node)) more
  pub read : AllBases (λ o. o < length work.bases) more

module _ (work : PlainWork) (more : List PlainNode) (numbers : ℕ) (outcomes : List WorkOutcome) (ok : IsWork work) where
  abbrev new : PlainWork
  new = edited work more numbers outcomes

  -- It is a work where the further nodes are so, each atom has an outcome, the last its own, and each outcome is what a
  -- work asks of one.
  pub edited_work : AreFurther work more → IsRising (numbers_of outcomes) → ((n : ℕ) → IsTrue (is_in n (map (λ atom. atom.number) work.atoms)) → work_outcomes (edited work more numbers outcomes) n ≢ []) →
      work_outcomes (edited work more numbers outcomes) work.last ≡ work_outcomes work work.last → All (IsOutcomeOf (edited work more numbers outcomes)) outcomes → IsWork (edited work more numbers outcomes)
  edited_work further rise some finals each =
      work_from_outcomes new atoms rise some (IsNodeList-append work.nodes more ok.nodes further.older) (AllBases-append (λ o. o < length work.bases) work.nodes more ok.bases_read further.read)
      (ok.named ∙ ap length (sym finals)) each
    where
      atoms : AtomsFit (negotiation_of_work new)
      atoms = let k = AtomsFit_from (negotiation_of_work work) ok.form in record {
        first_there = k.first_there;
        last_there = k.last_there;
        atoms_rise = k.atoms_rise;
        parties_rise = k.parties_rise;
        party_below = k.party_below;
        some_party = k.some_party;
        all_begin = k.all_begin;
        all_end = k.all_end;
      }

  longer : length (work.nodes ++ more) ≡ length work.nodes + length more
  longer = length-append work.nodes more

  -- an old outcome's form is that of one which sends the agents alike
  pub fits_again : (x z : WorkOutcome) → z.atom ≡ x.atom → ((a : ℕ) → sent_to z a ≡ sent_to x a) → OutcomeFits work x → OutcomeFits (edited work more numbers outcomes) z
  fits_again x z e s h = record {
    there = subst (λ n. IsTrue (is_in n (map (λ atom. atom.number) work.atoms))) (sym e) h.there;
    ends = λ l a. s a ∙ h.ends (sym e ∙ l) a;
    leads = λ l a p q. h.leads (λ k. l (e ∙ k)) a (subst (λ n. IsTrue (is_in a (work_parties work n))) e p) (sym (s a) ∙ q);
    stays = λ a. ⊎_elim (λ p. inl (subst (λ n. IsTrue (is_in a (work_parties work n))) (sym e) p)) (λ q. inr (s a ∙ q)) (h.stays a);
    sends = λ a m q. h.sends a m (sym (s a) ∙ q);
  }

  -- an old outcome is one of the new work
  pub outcome_kept : work.numbers ≤ numbers → (x : WorkOutcome) → IsOutcomeOf work x → IsOutcomeOf (edited work more numbers outcomes) x
  outcome_kept few x h = record {
    fits = fits_again x x refl (λ a. refl) h.fits;
    used = let l : x.number < work.numbers = h.used in omega (arith, l, few);
    one_each = h.one_each;
    there = let l : x.node < length work.nodes = h.there in omega (arith, l, longer);
    within = (EachBase-append (IsWithin work x.atom) work.nodes more x.node h.there).1 h.within;
  }

  -- so is one that sends the agents alike and has another node, passed atoms and number
  pub outcome_renewed : (x : WorkOutcome) (number node : ℕ) (passed : List ℕ) → IsOutcomeOf work x → number < numbers → node < length (work.nodes ++ more) → EachBase (IsWithin work x.atom) (work.nodes ++ more) node →
      IsOutcomeOf (edited work more numbers outcomes) (record x { number = number; node = node; passed = passed })
  outcome_renewed x number node passed h used there within =
      record { fits = fits_again x (record x { number = number; node = node; passed = passed }) refl (λ a. refl) h.fits; used = used; one_each = h.one_each; there = there; within = within }

-- ---- a node before the node of each outcome of an atom

-- nodes that put one before others are further ones
pub then_further : (work : PlainWork) (x : ℕ) (outcomes : List WorkOutcome) → x < length work.nodes → All (λ z. z.node < length work.nodes) outcomes → AreFurther work (nodes_then x outcomes)
then_further work x outcomes there older = record { older = nodes_then-older x (length work.nodes) outcomes there older; read = read outcomes }
  where
    Read : PlainNode → Type 0
    Read node = NodeBases (λ o. o < length work.bases) (λ i. ⊤) node

    read : (ys : List WorkOutcome) → All Read (nodes_then x ys)
    read [] = All-nil Read
    read (y ∷ ys) = All-cons Read (Then x y.node) (nodes_then x ys) (tt, tt) (read ys)

-- the outcomes under the node that puts one before another are under the one or the other
pub EachBase-then : (P : ℕ → Type 0) (nodes : List PlainNode) (x : ℕ) (outcomes : List WorkOutcome) (k : ℕ) (z : WorkOutcome) → slice_get outcomes k ≡ Some z → x < length nodes → z.node < length nodes →
    EachBase P nodes x → EachBase P nodes z.node → EachBase P (nodes ++ nodes_then x outcomes) (length nodes + k)
EachBase-then P nodes x outcomes k z e there older p q =
    EachBase-added P nodes (nodes_then x outcomes) k (Then x z.node) (All-cons Older x (z.node ∷ []) there (All-cons Older z.node [] older (All-nil Older))) (node_then x outcomes k z e) (p, q)
  where
    Older : ℕ → Type 0
    Older child = child < length nodes

-- such a work is one
pub then_each_work : (work : PlainWork) (x n : ℕ) → IsWork work → x < length work.nodes → EachBase (IsWithin work n) work.nodes x → IsWork (then_each x n work)
then_each_work work x n ok there within =
    edited_work work more work.numbers outcomes ok
    (then_further work x own there (All-filter (λ z. z.atom == n) (λ z. z.node < length work.nodes) work.outcomes ok.nodes_there))
    (subst IsRising (sym (numbers-with_nodes_at n (length work.nodes) work.outcomes)) ok.numbers_rise)
    (λ p h e. ok.form.some_outcome p h (sym (same p) ∙ e))
    (same work.last)
    (All-with_nodes_at (IsOutcomeOf new) n (length work.nodes) work.outcomes
    (All-weaker (IsOutcomeOf work) (λ z. z.atom ≢ n → IsOutcomeOf new z) (λ z h other. outcome_kept work more work.numbers outcomes ok (omega arith) z h) work.outcomes (outcomes_of_work work ok))
    (λ k z e.
    let h : IsOutcomeOf work z = at_own (IsOutcomeOf work) k z e (outcomes_of_work work ok) in
    let a : z.atom ≡ n = eqb-true z.atom n (All-at_place (λ w. (w.atom == n) ≡ true) own k z (filter_passes (λ w. w.atom == n) work.outcomes) e) in
    outcome_renewed work more work.numbers outcomes ok z z.number (length work.nodes + k) z.passed h h.used
    (let l = length-append work.nodes more in let c = length-nodes_then x own in omega (arith, l, c, slice_get_within own k z e))
    (EachBase-then (IsWithin work z.atom) work.nodes x own k z e there h.there (subst (λ m. EachBase (IsWithin work m) work.nodes x) (sym a) within) h.within)))
  where
    own : List WorkOutcome
    own = of_atom n work.outcomes

    more : List PlainNode
    more = nodes_then x own

    outcomes : List WorkOutcome
    outcomes = with_nodes_at n (length work.nodes) work.outcomes

    new : PlainWork
    new = edited work more work.numbers outcomes

    same : (p : ℕ) → work_outcomes new p ≡ work_outcomes work p
    same p = passing-with_nodes_at (λ z. z.atom == p) (λ i z. refl) n (length work.nodes) work.outcomes

    at_own : (P : WorkOutcome → Type 0) (k : ℕ) (z : WorkOutcome) → slice_get own k ≡ Some z → All P work.outcomes → P z
    at_own P k z e h = All-at_place P own k z (All-filter (λ w. w.atom == n) P work.outcomes h) e

-- ---- an atom is gone

-- An atom other than the last, to which no outcome of another leads, is gone with its outcomes; this one is the first
-- now, of which everyone is a party.
module _ (work : PlainWork) (n first : ℕ) (ok : IsWork work) (not_last : n ≢ work.last) (other_first : first ≢ n) (first_there : IsTrue (is_in first (map (λ atom. atom.number) work.atoms)))
    (all_begin : (a : ℕ) → a < work.agents → IsTrue (is_in a (work_parties work first))) (unled : All (λ z. z.atom ≢ n → (a : ℕ) → sent_to z a ≢ Some n) work.outcomes) where
  abbrev left_work : PlainWork
  left_work = record (without_atom n work) { first = first }

  abbrev atoms : List ℕ
  atoms = map (λ atom. atom.number) work.atoms

  abbrev left : List ℕ
  left = map (λ atom. atom.number) (filter (λ atom. not (atom.number == n)) work.atoms)

  -- the other atoms are left
  pub is_in-left : (p : ℕ) → IsTrue (is_in p (map (λ atom. atom.number) (filter (λ atom. not (atom.number == n)) work.atoms))) → (p ≢ n) × IsTrue (is_in p (map (λ atom. atom.number) work.atoms))
  is_in-left p h =
      let k = and_parts (not (p == n)) (is_in p atoms) (sym (is_in-filter (λ m. not (m == n)) p atoms) ∙ subst (λ xs. IsTrue (is_in p xs)) (atoms-filter (λ m. not (m == n)) work.atoms) h) in
      (eqb-false p n (not-true (p == n) k.0), k.1)

  pub is_in_left : (p : ℕ) → p ≢ n → IsTrue (is_in p (map (λ atom. atom.number) work.atoms)) → IsTrue (is_in p (map (λ atom. atom.number) (filter (λ atom. not (atom.number == n)) work.atoms)))
  is_in_left p other h = subst (λ xs. IsTrue (is_in p xs)) (sym (atoms-filter (λ m. not (m == n)) work.atoms))
      (is_in-filter (λ m. not (m == n)) p atoms ∙ and_from (not (p == n)) (is_in p atoms) (not_from_false (p == n) (ne_eqb p n other)) h)

  -- they have their parties and their outcomes
  pub parties-left : (p : ℕ) → p ≢ n → work_parties (record (without_atom n work) { first = first }) p ≡ work_parties work p
  parties-left p other = parties-filter (λ m. not (m == n)) work.atoms p (not_from_false (p == n) (ne_eqb p n other))

  pub outcomes-left : (p : ℕ) → p ≢ n → work_outcomes (record (without_atom n work) { first = first }) p ≡ work_outcomes work p
  outcomes-left p other = ap numbers_of (filter-within (λ z. z.atom == p) (λ z. not (z.atom == n))
      (λ z e. not_from_false (z.atom == n) (ne_eqb z.atom n (λ k. other (sym (eqb-true z.atom p e) ∙ k)))) work.outcomes)

  -- what holds of each outcome holds of each that is left, which is of another atom
  each_left : (P : WorkOutcome → Type 0) → All P work.outcomes → All (λ z. P z × (z.atom ≢ n)) left_work.outcomes
  each_left P h k d l =
      let z = slice_index_or left_work.outcomes k d in
      (All-filter (λ w. not (w.atom == n)) P work.outcomes h k d l, eqb-false z.atom n (not-true (z.atom == n) (filter_passes (λ w. not (w.atom == n)) work.outcomes k d l)))

  -- an outcome is found where it was found and is of another atom
  pub found-left : (q : ℕ) (z : WorkOutcome) → outcome_at (record (without_atom n work) { first = first }) q ≡ Some z → (outcome_at work q ≡ Some z) × (z.atom ≢ n)
  found-left q z h =
      let Found : WorkOutcome → Type 0 = λ w. (outcome_at work w.number ≡ Some w) × (w.atom ≢ n) in
      let k : Found z = All-found Found left_work.outcomes q z (each_left (λ w. outcome_at work w.number ≡ Some w) (each_found work.outcomes ok.numbers_rise)) h in
      (subst (λ o. outcome_at work o ≡ Some z) (found-number left_work.outcomes q z h) k.0, k.1)

  pub found_left : (q : ℕ) (z : WorkOutcome) → outcome_at work q ≡ Some z → z.atom ≢ n → outcome_at (record (without_atom n work) { first = first }) q ≡ Some z
  found_left q z h other = found-passing (λ w. not (w.atom == n)) work.outcomes q z ok.numbers_rise h (not_from_false (z.atom == n) (ne_eqb z.atom n other))

  atoms_fit : AtomsFit (negotiation_of_work left_work)
  atoms_fit = record {
    first_there = is_in_left first other_first first_there;
    last_there = is_in_left work.last (λ e. not_last (sym e)) ok.form.last_there;
    atoms_rise = subst IsRising (sym (atoms-filter (λ m. not (m == n)) work.atoms)) (rises-filter (λ m. not (m == n)) 0 atoms ok.form.atoms_rise);
    parties_rise = λ p h. let k = is_in-left p h in subst IsRising (sym (parties-left p k.0)) (ok.form.parties_rise p k.1);
    party_below = λ p a h m. let k = is_in-left p h in ok.form.party_below p a k.1 (subst (λ xs. IsTrue (is_in a xs)) (parties-left p k.0) m);
    some_party = λ p h e. let k = is_in-left p h in ok.form.some_party p k.1 (sym (parties-left p k.0) ∙ e);
    all_begin = λ a h. subst (λ xs. IsTrue (is_in a xs)) (sym (parties-left first other_first)) (all_begin a h);
    all_end = λ a h. subst (λ xs. IsTrue (is_in a xs)) (sym (parties-left work.last (λ e. not_last (sym e)))) (ok.form.all_end a h);
  }

  -- an outcome of another atom leads to atoms that are left
  fits_left : (z : WorkOutcome) → OutcomeFits work z → (z.atom ≢ n → (a : ℕ) → sent_to z a ≢ Some n) → z.atom ≢ n → OutcomeFits left_work z
  fits_left z h unled_by other = record {
    there = is_in_left z.atom other h.there;
    ends = h.ends;
    leads = λ l a p. h.leads l a (subst (λ xs. IsTrue (is_in a xs)) (parties-left z.atom other) p);
    stays = λ a. ⊎_elim (λ p. inl (subst (λ xs. IsTrue (is_in a xs)) (sym (parties-left z.atom other)) p)) (λ e. inr e) (h.stays a);
    sends = λ a m e.
        let k = h.sends a m e in
        let apart : m ≢ n = λ q. unled_by other a (e ∙ ap Some q) in
        (is_in_left m apart k.0, subst (λ xs. IsTrue (is_in a xs)) (sym (parties-left m apart)) k.1);
  }

  outcome_left : (z : WorkOutcome) → (IsOutcomeOf work z × (z.atom ≢ n → (a : ℕ) → sent_to z a ≢ Some n)) × (z.atom ≢ n) → IsOutcomeOf left_work z
  outcome_left z h = record {
    fits = fits_left z h.0.0.fits h.0.1 h.1;
    used = h.0.0.used;
    one_each = h.0.0.one_each;
    there = h.0.0.there;
    within = subst (λ parties. EachBase (λ o. IsTrue (all_in (slice_index_or work.bases o []) parties)) work.nodes z.node) (sym (parties-left z.atom h.1)) h.0.0.within;
  }

  -- the work that is left
  pub without_atom_work : IsWork (record (without_atom n work) { first = first })
  without_atom_work =
      work_from_outcomes left_work atoms_fit (rises-passing (λ z. not (z.atom == n)) 0 work.outcomes ok.numbers_rise)
      (λ p h e. let k = is_in-left p h in ok.form.some_outcome p k.1 (sym (outcomes-left p k.0) ∙ e)) ok.nodes ok.bases_read
      (ok.named ∙ ap length (sym (outcomes-left work.last (λ e. not_last (sym e)))))
      (All-weaker (λ z. Each z × (z.atom ≢ n)) (IsOutcomeOf left_work) outcome_left left_work.outcomes (each_left Each (λ k d l. (outcomes_of_work work ok k d l, unled k d l))))
    where
      Each : WorkOutcome → Type 0
      Each z = IsOutcomeOf work z × (z.atom ≢ n → (a : ℕ) → sent_to z a ≢ Some n)
