-- When a work is a negotiation: what may be asked of its atoms, and of each alive outcome.
use Rattle.std.proofs.Common.{◌≡◌, ◌≢◌, ◌⊎◌, inl, inr, ⊎_elim, ℕ, ◌<◌, ◌==◌, [], map, Option, Some, None, IsTrue, refl, sym, subst, ap, ◌∙◌, arith, eq-eqb, eqb-true}
use Rattle.std.proofs.lemmas.Option.{same_Some}
use Rattle.std.proofs.lemmas.List.Elements.{All-weaker}
use Rattle.std.specs.List.{All}
use Rattle.std.specs.Option.{option_map_or, option_to_list}
use Rattle.nego_base.specs.Members.{is_in, IsRising}
use Rattle.nego_model.specs.Negotiation.{Negotiation, IsNegotiation, IsDeterministic, IsOutcome}
use Rattle.nego_base.proofs.Members.{is_in_single, is_in_none, is_in-head}
use Rattle.nego_expr.specs.Work.{WorkOutcome, PlainWork, outcome_at, work_parties, work_outcomes, sent_to, negotiation_of_work, IsWork}
use Rattle.nego_expr.proofs.Alive.{each_found}
use Rattle.nego_expr.proofs.WorkEdits.{numbers_of, All-found, passing_at, found_passing, rises-passing}

-- an agent's target as the list of its next atoms is one at most
pub is_in-target : (target : Option ℕ) (m : ℕ) → IsTrue (is_in m (option_to_list target)) → target ≡ Some m
is_in-target None m h = absurd (is_in_none m [] refl h)
is_in-target (Some n) m h = ap Some (sym (is_in_single m n h))

rising-target : (target : Option ℕ) → IsRising (option_to_list target)
rising-target None = tt
rising-target (Some n) = (omega arith, tt)

some-target : (target : Option ℕ) → target ≢ None → option_to_list target ≢ []
some-target None h e = h refl
some-target (Some n) h e = cc

none-target : (target : Option ℕ) → option_to_list target ≡ [] → target ≡ None
none-target None e = refl
none-target (Some n) e = cc

-- What may be asked of an alive outcome: its atom is there; an outcome of the last atom sends nobody; another sends each
-- party, and no one else; who is sent to an atom is a party of it.
pub record OutcomeFits (work : PlainWork) (x : WorkOutcome) : Type 0 where
  pub there : IsTrue (is_in x.atom (map (λ atom. atom.number) work.atoms))
  pub ends : x.atom ≡ work.last → (a : ℕ) → sent_to x a ≡ None
  pub leads : x.atom ≢ work.last → (a : ℕ) → IsTrue (is_in a (work_parties work x.atom)) → sent_to x a ≢ None
  pub stays : (a : ℕ) → IsTrue (is_in a (work_parties work x.atom)) ⊎ (sent_to x a ≡ None)
  pub sends : (a m : ℕ) → sent_to x a ≡ Some m → IsTrue (is_in m (map (λ atom. atom.number) work.atoms)) × IsTrue (is_in a (work_parties work m))

-- What may be asked of the atoms of a negotiation.
pub record AtomsFit (nego : Negotiation) : Type 0 where
  pub first_there : IsTrue (is_in nego.first nego.atoms)
  pub last_there : IsTrue (is_in nego.last nego.atoms)
  pub atoms_rise : IsRising nego.atoms
  pub parties_rise : (n : ℕ) → IsTrue (is_in n nego.atoms) → IsRising (nego.parties n)
  pub party_below : (n a : ℕ) → IsTrue (is_in n nego.atoms) → IsTrue (is_in a (nego.parties n)) → a < nego.agents
  pub some_party : (n : ℕ) → IsTrue (is_in n nego.atoms) → nego.parties n ≢ []
  pub all_begin : (a : ℕ) → a < nego.agents → IsTrue (is_in a (nego.parties nego.first))
  pub all_end : (a : ℕ) → a < nego.agents → IsTrue (is_in a (nego.parties nego.last))

-- the atoms of a negotiation fit
pub AtomsFit_from : (nego : Negotiation) → IsNegotiation nego → AtomsFit nego
AtomsFit_from nego ok = record {
  first_there = ok.first_there;
  last_there = ok.last_there;
  atoms_rise = ok.atoms_rise;
  parties_rise = ok.parties_rise;
  party_below = ok.party_below;
  some_party = ok.some_party;
  all_begin = ok.all_begin;
  all_end = ok.all_end;
}

module _ (work : PlainWork) (rise : IsRising (numbers_of work.outcomes)) where
  -- an outcome of an atom is found by its number
  pub outcome_found : (P : WorkOutcome → Type 0) (n o : ℕ) → All P work.outcomes → IsTrue (is_in o (work_outcomes work n)) → (x : WorkOutcome) × (outcome_at work o ≡ Some x) × (x.atom ≡ n) × P x
  outcome_found P n o h k =
      let q = passing_at (λ x. x.atom == n) (λ x. outcome_at work x.number ≡ Some x) work.outcomes o (each_found work.outcomes rise) k in
      let found : outcome_at work o ≡ Some q.0 = subst (λ p. outcome_at work p ≡ Some q.0) q.1 q.3 in
      (q.0, found, eqb-true q.0.atom n q.2, All-found P work.outcomes o q.0 h found)

  -- the atom of what is found by a number is the one of which the number is an outcome
  pub found-atom : (n o : ℕ) (x : WorkOutcome) → outcome_at work o ≡ Some x → IsTrue (is_in o (work_outcomes work n)) → x.atom ≡ n
  found-atom n o x h k =
      let y = outcome_found (λ z. outcome_at work z.number ≡ Some z) n o (each_found work.outcomes rise) k in
      ap (λ z. z.atom) (same_Some x y.0 (sym h ∙ y.1)) ∙ y.2

  -- what is found by a number is an outcome of its atom
  pub found_outcome : (n o : ℕ) (x : WorkOutcome) → outcome_at work o ≡ Some x → x.atom ≡ n → IsTrue (is_in o (work_outcomes work n))
  found_outcome n o x h e = found_passing (λ y. y.atom == n) work.outcomes o x h (eq-eqb x.atom n e)

-- where an outcome that is found sends an agent
pub next-found : (work : PlainWork) (o a : ℕ) (x : WorkOutcome) → outcome_at work o ≡ Some x → (negotiation_of_work work).next o a ≡ option_to_list (sent_to x a)
next-found work o a x h = ap (λ found. option_map_or (λ outcome. option_to_list (sent_to outcome a)) found []) h

-- a work sends each agent to one atom at most
pub work-deterministic : (work : PlainWork) → IsDeterministic (negotiation_of_work work)
work-deterministic work n o a m p outcome h k = one (outcome_at work o) h k
  where
    one : (found : Option WorkOutcome) → IsTrue (is_in m (option_map_or (λ x. option_to_list (sent_to x a)) found [])) → IsTrue (is_in p (option_map_or (λ x. option_to_list (sent_to x a)) found [])) → m ≡ p
    one None q r = absurd (is_in_none m [] refl q)
    one (Some x) q r = same_Some m p (sym (is_in-target (sent_to x a) m q) ∙ is_in-target (sent_to x a) p r)

-- A work is a negotiation where its atoms and its alive outcomes fit, their numbers rise, and each atom has an outcome.
pub negotiation_from_fits : (work : PlainWork) → AtomsFit (negotiation_of_work work) → IsRising (numbers_of work.outcomes) → All (OutcomeFits work) work.outcomes →
    ((n : ℕ) → IsTrue (is_in n (map (λ atom. atom.number) work.atoms)) → work_outcomes work n ≢ []) → IsNegotiation (negotiation_of_work work)
negotiation_from_fits work atoms rise fits some = record {
  first_there = atoms.first_there;
  last_there = atoms.last_there;
  atoms_rise = atoms.atoms_rise;
  parties_rise = atoms.parties_rise;
  outcomes_rise = λ n h. rises-passing (λ x. x.atom == n) 0 work.outcomes rise;
  next_rise = λ n o a h. let x = found n o h in subst IsRising (sym (next-found work o a x.0 x.1)) (rising-target (sent_to x.0 a));
  one_atom = λ m n o h k.
      let x = found m o h in
      let y = found n o k in
      sym x.2 ∙ (ap (λ z. z.atom) (same_Some x.0 y.0 (sym x.1 ∙ y.1)) ∙ y.2);
  party_below = atoms.party_below;
  some_party = atoms.some_party;
  some_outcome = some;
  all_begin = atoms.all_begin;
  all_end = atoms.all_end;
  last_ends = λ o a h. let x = found work.last o h in next-found work o a x.0 x.1 ∙ ap option_to_list (x.3.ends x.2 a);
  others_lead = λ n o a h other party.
      let x = found n o h in
      let target : sent_to x.0 a ≢ None = x.3.leads (λ e. other (sym x.2 ∙ e)) a (subst (λ m. IsTrue (is_in a (work_parties work m))) (sym x.2) party) in
      λ e. some-target (sent_to x.0 a) target (sym (next-found work o a x.0 x.1) ∙ e);
  strangers_stay = λ n o a h.
      let x = found n o h in
      ⊎_elim (λ p. inl (subst (λ m. IsTrue (is_in a (work_parties work m))) x.2 p)) (λ e. inr (next-found work o a x.0 x.1 ∙ ap option_to_list e)) (x.3.stays a);
  next_party = λ n o a m h k.
      let x = found n o h in
      x.3.sends a m (is_in-target (sent_to x.0 a) m (subst (λ xs. IsTrue (is_in m xs)) (next-found work o a x.0 x.1) k));
}
  where
    found : (n o : ℕ) → IsOutcome (negotiation_of_work work) n o → (x : WorkOutcome) × (outcome_at work o ≡ Some x) × (x.atom ≡ n) × OutcomeFits work x
    found n o h = outcome_found work rise (OutcomeFits work) n o fits h.1

-- The alive outcomes of a work fit.
pub fits_from_work : (work : PlainWork) → IsWork work → All (OutcomeFits work) work.outcomes
fits_from_work work ok = λ k d l. All-weaker Q (OutcomeFits work) fits work.outcomes each k d l
  where
    Q : WorkOutcome → Type 0
    Q x = (outcome_at work x.number ≡ Some x) × IsTrue (is_in x.atom (map (λ atom. atom.number) work.atoms))

    each : All Q work.outcomes
    each k d l = (each_found work.outcomes ok.numbers_rise k d l, ok.own_atom k d l)

    fits : (x : WorkOutcome) → Q x → OutcomeFits work x
    fits x h =
        let is : IsOutcome (negotiation_of_work work) x.atom x.number = (h.1, found_outcome work ok.numbers_rise x.atom x.number x h.0 refl) in
        let next : (a : ℕ) → (negotiation_of_work work).next x.number a ≡ option_to_list (sent_to x a) = λ a. next-found work x.number a x h.0 in
        record {
          there = h.1;
          ends = λ e a. none-target (sent_to x a) (sym (next a) ∙ ok.form.last_ends x.number a (subst (λ n. IsOutcome (negotiation_of_work work) n x.number) e is));
          leads = λ other a p e. ok.form.others_lead x.atom x.number a is other p (next a ∙ ap option_to_list e);
          stays = λ a. ⊎_elim (λ p. inl p) (λ e. inr (none-target (sent_to x a) (sym (next a) ∙ e))) (ok.form.strangers_stay x.atom x.number a is);
          sends = λ a m e. ok.form.next_party x.atom x.number a m is
              (subst (λ xs. IsTrue (is_in m xs)) (sym (next a ∙ ap option_to_list e)) (is_in-head m []));
        }
