-- A work of one atom allows no use.
use Rattle.std.proofs.Common.{◌≡◌, ℕ, not, ◌==◌, ◌&&◌, length, map, Some, IsTrue, arith}
use Rattle.std.specs.Prelude.{nat_lt}
use Rattle.std.proofs.lemmas.Bool.{and_parts, eqb-false, not-true, false_from_ne_true}
use Rattle.nego_base.specs.Members.{is_in}
use Rattle.nego_expr.specs.Work.{WorkOutcome, PlainWork, outcome_at, outcomes_at, work_parties, IsWork}
use Rattle.nego_expr.specs.Use.{PlainUse, Merge, Iterate, Shortcut, Close, allows, iterates, enters, sends_all}
use Rattle.nego_expr.proofs.EditCalls.{allowed_at, found_itself}
use Rattle.nego_expr.proofs.OneAtomLeft.{only_last}
use Rattle.nego_expr.proofs.WorkEdits.{All-found}
use Rattle.nego_shortcut.proofs.ShortWorks.{entry_from}
use Rattle.nego_reduce.specs.Laws.{OneAtomAllowsNoUse}
use Rattle.nego_reduce.proofs.Guards.{merging_two, closing_two}

-- where one atom is left, it is that of each alive outcome, and the last
at_last : (work : PlainWork) → IsWork work → length work.atoms ≡ 1 → (o : ℕ) (x : WorkOutcome) → outcome_at work o ≡ Some x → x.atom ≡ work.last
at_last work ok one o x found = only_last work ok one x.atom (All-found (λ z. IsTrue (is_in z.atom (map (λ atom. atom.number) work.atoms))) work.outcomes o x ok.own_atom found)

-- a work of one atom allows no use
pub one_atom_none : OneAtomAllowsNoUse
one_atom_none work ok one next = false_from_ne_true (allows work next) (go next)
  where
    go : (next : PlainUse) → IsTrue (allows work next) → ⊥
    go (Merge o1 o2) h = let t = merging_two work o1 o2 h in t.4.not_last (at_last work ok one o1 t.0 t.2)
    go (Iterate o) h =
        let k = allowed_at (iterates work) (outcome_at work o) h in
        let p = and_parts (not (k.0.atom == work.last)) (sends_all (work_parties work k.0.atom) k.0.atom k.0 && nat_lt 1 (length (outcomes_at work k.0.atom))) k.2 in
        eqb-false k.0.atom work.last (not-true (k.0.atom == work.last) p.0) (at_last work ok one o k.0 k.1)
    go (Shortcut o n) h =
        let k = allowed_at (λ x. enters work x n) (outcome_at work o) h in
        let e = entry_from work k.0 n (found_itself work o k.0 k.1) k.2 in
        e.not_last (only_last work ok one n e.there)
    go Close h =
        let two : length work.atoms ≡ 2 = closing_two work h in
        let no_more : ⊥ = omega (arith, two, one) in
        no_more
