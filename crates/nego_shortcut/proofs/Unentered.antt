-- An atom to which no outcome of another leads: a work without it is a work, and all else is as it was.
use Rattle.std.proofs.Common.{◌≡◌, ◌≢◌, ⊎_elim, ℕ, zero, suc, Bool, true, false, not, ◌==◌, ◌&&◌, ◌||◌, nat_lt, cond, List, [], ◌∷◌, length, map, slice_get, slice_index_or, Option, Some, None, IsTrue, refl, sym, subst, ◌∙◌, arith, eq-eqb, lt-ltb, ne_eqb}
use Rattle.std.proofs.lemmas.Bool.{and_parts, and_cases, or_cases, or_parts, eqb-false, false≢true, true≢false, not-true, not_from_false}
use Rattle.std.proofs.lemmas.Option.{none-some}
use Rattle.std.proofs.lemmas.List.Elements.{All-weaker}
use Rattle.std.specs.List.{All, filter, list_any}
use Rattle.nego_base.specs.Members.{is_in}
use Rattle.nego_expr.specs.Work.{WorkOutcome, PlainWork, outcome_at, work_parties, work_outcomes, sent_to, IsWork}
use Rattle.nego_expr.specs.Use.{same_target, is_entered, without_unentered, leads_to}
use Rattle.nego_expr.specs.Edits.{without_atom}
use Rattle.nego_expr.proofs.EditedWorks.{is_in-left, is_in_left, parties-left, outcomes-left, found-left, found_left, without_atom_work}
use Rattle.nego_expr.proofs.Places.{found-place}
use Rattle.nego_expr.proofs.Searching.{target_is, some_any, none_any}
use Rattle.nego_expr.proofs.WorkEdits.{All-found}

-- ---- who is led to the atom

-- where a target is the atom, an agent is sent to it
some_sent : (n : ℕ) (targets : List (Option ℕ)) → list_any (λ target. same_target target (Some n)) targets ≡ true → (a : ℕ) × (slice_index_or targets a None ≡ Some n)
some_sent n [] h = absurd (false≢true h)
some_sent n (t ∷ ts) h = ⊎_elim (λ e. (0, target_is t n e)) (λ m. let q = some_sent n ts m in (suc q.0, q.1)) (or_cases (same_target t (Some n)) (list_any (λ target. same_target target (Some n)) ts) h)

-- where none is, no agent is
none_sent : (n : ℕ) (targets : List (Option ℕ)) → list_any (λ target. same_target target (Some n)) targets ≡ false → (a : ℕ) → slice_index_or targets a None ≢ Some n
none_sent n [] h a e = none-some n e
none_sent n (t ∷ ts) h zero e =
    true≢false (sym (subst (λ s. IsTrue (same_target s (Some n))) (sym e) (eq-eqb n n refl)) ∙ (or_parts (same_target t (Some n)) (list_any (λ target. same_target target (Some n)) ts) h).0)
none_sent n (t ∷ ts) h (suc a) e = none_sent n ts (or_parts (same_target t (Some n)) (list_any (λ target. same_target target (Some n)) ts) h).1 a e

-- some pass a test exactly where they are counted
pub counted_any : {A : Type 0} (p : A → Bool) (xs : List A) → nat_lt 0 (length (filter p xs)) ≡ list_any p xs
counted_any p [] = refl
counted_any p (x ∷ xs) = go (p x) (counted_any p xs)
  where
    go : (b : Bool) → nat_lt 0 (length (filter p xs)) ≡ list_any p xs → nat_lt 0 (length (cond b (x ∷ filter p xs) (filter p xs))) ≡ (b || list_any p xs)
    go true h = lt-ltb 0 (length (x ∷ filter p xs)) (omega arith)
    go false h = h

-- where the atom is entered, an outcome of another sends an agent to it
entered_one : (work : PlainWork) (n : ℕ) → is_entered work n ≡ true → (k : ℕ) × (z : WorkOutcome) × (a : ℕ) × (slice_get work.outcomes k ≡ Some z) × (z.atom ≢ n) × (sent_to z a ≡ Some n)
entered_one work n h =
    let q = some_any (λ z. not (z.atom == n) && leads_to n z) work.outcomes h in
    let p = and_parts (not (q.1.atom == n)) (leads_to n q.1) q.3 in
    let s = some_sent n q.1.targets p.1 in
    (q.0, q.1, s.0, q.2, eqb-false q.1.atom n (not-true (q.1.atom == n) p.0), s.1)

-- where it isn't, none does
none_entered : (work : PlainWork) (n : ℕ) → is_entered work n ≡ false → All (λ z. z.atom ≢ n → (a : ℕ) → sent_to z a ≢ Some n) work.outcomes
none_entered work n h =
    All-weaker (λ z. (not (z.atom == n) && leads_to n z) ≡ false) (λ z. z.atom ≢ n → (a : ℕ) → sent_to z a ≢ Some n)
    (λ z k other. none_sent n z.targets (⊎_elim (λ q. absurd (true≢false (sym (not_from_false (z.atom == n) (ne_eqb z.atom n other)) ∙ q))) (λ q. q) (and_cases (not (z.atom == n)) (leads_to n z) k)))
    work.outcomes (none_any (λ z. not (z.atom == n) && leads_to n z) work.outcomes h)

-- The second work is the first, or the first without the atom and its outcomes. Where the atom is gone nothing leads to
-- it; where it stays an outcome of another atom does.
pub record Leaves (old new : PlainWork) (n : ℕ) : Type 0 where
  pub agents : old.agents ≡ new.agents
  pub first : old.first ≡ new.first
  pub last : old.last ≡ new.last
  pub nodes : old.nodes ≡ new.nodes
  pub names : old.names ≡ new.names
  pub bases : old.bases ≡ new.bases
  pub atoms_kept : (p : ℕ) → IsTrue (is_in p (map (λ atom. atom.number) old.atoms)) → p ≢ n → IsTrue (is_in p (map (λ atom. atom.number) new.atoms))
  pub atoms_only : (p : ℕ) → IsTrue (is_in p (map (λ atom. atom.number) new.atoms)) → IsTrue (is_in p (map (λ atom. atom.number) old.atoms))
  pub parties : (p : ℕ) → IsTrue (is_in p (map (λ atom. atom.number) new.atoms)) → work_parties old p ≡ work_parties new p
  pub outcomes : (p : ℕ) → IsTrue (is_in p (map (λ atom. atom.number) new.atoms)) → work_outcomes old p ≡ work_outcomes new p
  pub found : (q : ℕ) (z : WorkOutcome) → outcome_at old q ≡ Some z → IsTrue (is_in z.atom (map (λ atom. atom.number) new.atoms)) → outcome_at new q ≡ Some z
  pub found_only : (q : ℕ) (z : WorkOutcome) → outcome_at new q ≡ Some z → outcome_at old q ≡ Some z
  pub gone : ¬ IsTrue (is_in n (map (λ atom. atom.number) new.atoms)) → (q a : ℕ) (z : WorkOutcome) → outcome_at new q ≡ Some z → sent_to z a ≢ Some n
  pub stays : IsTrue (is_in n (map (λ atom. atom.number) new.atoms)) → (q : ℕ) × (a : ℕ) × (z : WorkOutcome) × (z.atom ≢ n) × (outcome_at new q ≡ Some z) × (sent_to z a ≡ Some n)

-- an atom that is entered stays
atom_stays : (work : PlainWork) (n : ℕ) → IsWork work → IsTrue (is_in n (map (λ atom. atom.number) work.atoms)) → is_entered work n ≡ true → Leaves work work n
atom_stays work n ok there entered = record {
  agents = refl;
  first = refl;
  last = refl;
  nodes = refl;
  names = refl;
  bases = refl;
  atoms_kept = λ p h other. h;
  atoms_only = λ p h. h;
  parties = λ p h. refl;
  outcomes = λ p h. refl;
  found = λ q z h k. h;
  found_only = λ q z h. h;
  gone = λ no q a z h e. no there;
  stays = λ h. let k = entered_one work n entered in (k.1.number, k.2, k.1, k.4, found-place work.outcomes k.0 k.1 ok.numbers_rise k.3, k.5);
}

module _ (work : PlainWork) (n : ℕ) (ok : IsWork work) (none : is_entered work n ≡ false) (not_first : n ≢ work.first) (not_last : n ≢ work.last) where
  abbrev new : PlainWork
  new = without_atom n work

  unled : All (λ z. z.atom ≢ n → (a : ℕ) → sent_to z a ≢ Some n) work.outcomes
  unled = none_entered work n none

  other_first : work.first ≢ n
  other_first e = not_first (sym e)

  work_left : IsWork new
  work_left = without_atom_work work n work.first ok not_last other_first ok.form.first_there ok.form.all_begin unled

  left : (p : ℕ) → IsTrue (is_in p (map (λ atom. atom.number) new.atoms)) → (p ≢ n) × IsTrue (is_in p (map (λ atom. atom.number) work.atoms))
  left = is_in-left work n work.first ok not_last other_first ok.form.first_there ok.form.all_begin unled

  atom_gone : Leaves work new n
  atom_gone = record {
    agents = refl;
    first = refl;
    last = refl;
    nodes = refl;
    names = refl;
    bases = refl;
    atoms_kept = λ p h other. is_in_left work n work.first ok not_last other_first ok.form.first_there ok.form.all_begin unled p other h;
    atoms_only = λ p h. (left p h).1;
    parties = λ p h. sym (parties-left work n work.first ok not_last other_first ok.form.first_there ok.form.all_begin unled p (left p h).0);
    outcomes = λ p h. sym (outcomes-left work n work.first ok not_last other_first ok.form.first_there ok.form.all_begin unled p (left p h).0);
    found = λ q z h k. found_left work n work.first ok not_last other_first ok.form.first_there ok.form.all_begin unled q z h (left z.atom k).0;
    found_only = λ q z h. (found-left work n work.first ok not_last other_first ok.form.first_there ok.form.all_begin unled q z h).0;
    gone = λ no q a z h.
        let k = found-left work n work.first ok not_last other_first ok.form.first_there ok.form.all_begin unled q z h in
        All-found (λ w. w.atom ≢ n → (b : ℕ) → sent_to w b ≢ Some n) work.outcomes q z (none_entered work n none) k.0 k.1 a;
    stays = λ h. absurd ((left n h).0 refl);
  }

-- A work without an atom that isn't entered is a work.
pub unentered_work : (work : PlainWork) (n : ℕ) → IsWork work → n ≢ work.first → n ≢ work.last → IsWork (without_unentered n work)
unentered_work work n ok not_first not_last = go (is_entered work n) refl
  where
    go : (b : Bool) → is_entered work n ≡ b → IsWork (cond b work (without_atom n work))
    go true e = ok
    go false e = work_left work n ok e not_first not_last

-- All else is as it was.
pub unentered_leaves : (work : PlainWork) (n : ℕ) → IsWork work → n ≢ work.first → n ≢ work.last → IsTrue (is_in n (map (λ atom. atom.number) work.atoms)) → Leaves work (without_unentered n work) n
unentered_leaves work n ok not_first not_last there = go (is_entered work n) refl
  where
    go : (b : Bool) → is_entered work n ≡ b → Leaves work (cond b work (without_atom n work)) n
    go true e = atom_stays work n ok there e
    go false e = atom_gone work n ok e not_first not_last
