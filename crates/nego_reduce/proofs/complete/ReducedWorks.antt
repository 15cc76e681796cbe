-- A work that allows no merge, no shortcut into an atom of one outcome and no closing is what is left at the end, where it is
-- sound and an order ranks it: one atom.
use Rattle.std.proofs.Common.{◌≡◌, ◌≢◌, ◌⊎◌, inl, inr, ⊎_elim, ℕ, ◌<◌, ◌==◌, Bool, true, false, not, ◌&&◌, cond, nat_lt, List, [], ◌∷◌, length, map, Option, Some, None, IsTrue, refl, sym, subst, ap, ◌∙◌, arith, eq-eqb, ne_eqb, lt-ltb, ltb-true}
use Rattle.std.proofs.lemmas.Bool.{and_from, and_parts, cases_eq, cases_order, not_from_false, true≢false, eqb-false, not-true}
use Rattle.std.proofs.lemmas.List.{length-map}
use Rattle.std.specs.List.{filter, find, range_with_len}
use Rattle.std.specs.Option.{option_to_list}
use Rattle.nego_base.specs.Members.{is_in, all_in, without_member, IsRising}
use Rattle.nego_base.proofs.Members.{all_from, all_in-members, is_in-head, is_in-range_zero, is_in-without, length-without, rises-without, rising-single, some_member}
use Rattle.nego_model.specs.Negotiation.{Negotiation, IsOutcome}
use Rattle.nego_model.specs.Occurring.{IsSound}
use Rattle.nego_model.specs.Acyclic.{IsRankedBy}
use Rattle.nego_model.specs.Reduced.{HasOne, SendAlike, Enters, IsReduced, IsClosable}
use Rattle.nego_model.proofs.completeness.Closable.{first_alone, closable}
use Rattle.nego_expr.specs.Work.{WorkOutcome, PlainWork, IsWork, outcome_at, outcomes_at, work_parties, work_outcomes, sent_to, negotiation_of_work}
use Rattle.nego_expr.specs.Use.{Merge, Shortcut, Close, same_target, send_alike, sends_all, opening_outcome, allows}
use Rattle.nego_expr.proofs.Alive.{each_found}
use Rattle.nego_expr.proofs.Searching.{find_all}
use Rattle.nego_expr.proofs.WorkEdits.{found-number}
use Rattle.nego_expr.proofs.WorkForm.{outcome_found, next-found, work-deterministic}
use Rattle.nego_merge.proofs.MergeKeeps.{allowed-pair}
use Rattle.nego_shortcut.proofs.CloseKeeps.{closes-one}
use Rattle.nego_shortcut.proofs.ShortShows.{first_of, shortcut_allowed}
use Rattle.nego_reduce.specs.Order.{HasNoMerge}

-- ---- targets and lists

-- the same next atoms are the same target
same_from_lists : (s t : Option ℕ) → option_to_list s ≡ option_to_list t → IsTrue (same_target s t)
same_from_lists None None e = refl
same_from_lists None (Some n) e = cc
same_from_lists (Some m) None e = cc
same_from_lists (Some m) (Some n) e = eq-eqb m n (head e)
  where
    head : m ∷ [] ≡ n ∷ [] → m ≡ n
    head q = cc

-- the first of those that pass a test is found
find_first : (test : WorkOutcome → Bool) (zs : List WorkOutcome) (y : WorkOutcome) (ys : List WorkOutcome) → filter test zs ≡ y ∷ ys → find test zs ≡ Some y
find_first test [] y ys e = cc
find_first test (z ∷ zs) y ys e = go (test z) e (find_first test zs y ys)
  where
    go : (b : Bool) → cond b (z ∷ filter test zs) (filter test zs) ≡ y ∷ ys → (filter test zs ≡ y ∷ ys → find test zs ≡ Some y) → cond b (Some z) (find test zs) ≡ Some y
    go true h more = cc
    go false h more = more h

-- a rising list of two members and no others has two
two_only : (xs : List ℕ) (a b : ℕ) → IsRising xs → a ≢ b → IsTrue (is_in a xs) → IsTrue (is_in b xs) → ((n : ℕ) → IsTrue (is_in n xs) → (n ≡ a) ⊎ (n ≡ b)) → length xs ≡ 2
two_only xs a b rise apart p q only =
    let single : without_member a xs ≡ b ∷ [] = rising-single (without_member a xs) b (rises-without a 0 xs rise)
    (is_in-without b a xs ∙ and_from (not (b == a)) (is_in b xs) (not_from_false (b == a) (ne_eqb b a (λ e. apart (sym e)))) q)
    (λ n h. let k = and_parts (not (n == a)) (is_in n xs) (sym (is_in-without n a xs) ∙ h) in
    ⊎_elim (λ e. absurd (eqb-false n a (not-true (n == a) k.0) e)) (λ e. e) (only n k.1)) in
    let one : length (without_member a xs) ≡ 1 = ap length single in
    let more = length-without 0 a xs rise p in
    omega (arith, one, more)

module _ (work : PlainWork) (ok : IsWork work) where
  abbrev nego : Negotiation
  nego = negotiation_of_work work

  -- the alive outcome of an atom's outcome
  alive : (n o : ℕ) → IsOutcome nego n o → (x : WorkOutcome) × (outcome_at work o ≡ Some x) × (x.atom ≡ n)
  alive n o h = let x = outcome_found work ok.numbers_rise (λ z. Unit {0}) n o (λ k d l. tt) h.1 in (x.0, x.1, x.2)

  -- where it sends an agent that has this one next atom
  sent_one : (o a p : ℕ) (x : WorkOutcome) → outcome_at work o ≡ Some x → nego.next o a ≡ p ∷ [] → IsTrue (same_target (sent_to x a) (Some p))
  sent_one o a p x found h = same_from_lists (sent_to x a) (Some p) (sym (next-found work o a x found) ∙ h)

  -- ---- what a work allows

  -- two outcomes that send alike merge
  alike_merge : (n o1 o2 : ℕ) → n ≢ work.last → IsOutcome nego n o1 → IsOutcome nego n o2 → o1 < o2 → SendAlike nego n o1 o2 → IsTrue (allows work (Merge o1 o2))
  alike_merge n o1 o2 not_last one two less alike =
      allowed-pair work o1 o2 x.0 y.0 x.1 y.1
      ∙ and_from (nat_lt x.0.number y.0.number) ((x.0.atom == y.0.atom) && (not (x.0.atom == work.last) && send_alike (work_parties work x.0.atom) x.0 y.0))
      (lt-ltb x.0.number y.0.number (let e = found-number work.outcomes o1 x.0 x.1 in let f = found-number work.outcomes o2 y.0 y.1 in omega (arith, e, f, less)))
      (and_from (x.0.atom == y.0.atom) (not (x.0.atom == work.last) && send_alike (work_parties work x.0.atom) x.0 y.0)
      (eq-eqb x.0.atom y.0.atom (x.2 ∙ sym y.2))
      (and_from (not (x.0.atom == work.last)) (send_alike (work_parties work x.0.atom) x.0 y.0)
      (not_from_false (x.0.atom == work.last) (ne_eqb x.0.atom work.last (λ e. not_last (sym x.2 ∙ e))))
      (all_from (λ a. same_target (sent_to x.0 a) (sent_to y.0 a)) (work_parties work x.0.atom) same)))
    where
      x : (z : WorkOutcome) × (outcome_at work o1 ≡ Some z) × (z.atom ≡ n)
      x = alive n o1 one

      y : (z : WorkOutcome) × (outcome_at work o2 ≡ Some z) × (z.atom ≡ n)
      y = alive n o2 two

      same : (a : ℕ) → IsTrue (is_in a (work_parties work x.0.atom)) → IsTrue (same_target (sent_to x.0 a) (sent_to y.0 a))
      same a party = same_from_lists (sent_to x.0 a) (sent_to y.0 a)
          (sym (next-found work o1 a x.0 x.1) ∙ (alike a (subst (λ m. IsTrue (is_in a (work_parties work m))) x.2 party) ∙ next-found work o2 a y.0 y.1))

  -- an outcome that enters an atom which is neither its own, nor the first, nor the last, may be shortened
  enters_allowed : (n o p : ℕ) → IsOutcome nego n o → IsTrue (is_in p nego.atoms) → n ≢ p → p ≢ work.first → p ≢ work.last → Enters nego n o p → IsTrue (allows work (Shortcut o p))
  enters_allowed n o p outcome there apart not_first not_last into =
      shortcut_allowed work o p x.0 x.1
      ∙ and_from (not (x.0.atom == p)) (is_in p nego.atoms && (not (p == work.first) && (not (p == work.last) && (inside && sends))))
      (not_from_false (x.0.atom == p) (ne_eqb x.0.atom p (λ e. apart (sym x.2 ∙ e))))
      (and_from (is_in p nego.atoms) (not (p == work.first) && (not (p == work.last) && (inside && sends))) there
      (and_from (not (p == work.first)) (not (p == work.last) && (inside && sends)) (not_from_false (p == work.first) (ne_eqb p work.first not_first))
      (and_from (not (p == work.last)) (inside && sends) (not_from_false (p == work.last) (ne_eqb p work.last not_last))
      (and_from inside sends
      (all_in-members (work_parties work p) (work_parties work x.0.atom) (λ a m. subst (λ q. IsTrue (is_in a (work_parties work q))) (sym x.2) (into a m).0))
      (all_from (λ a. same_target (sent_to x.0 a) (Some p)) (work_parties work p) (λ a m. sent_one o a p x.0 x.1 (into a m).1))))))
    where
      x : (z : WorkOutcome) × (outcome_at work o ≡ Some z) × (z.atom ≡ n)
      x = alive n o outcome

      inside : Bool
      inside = all_in (work_parties work p) (work_parties work x.0.atom)

      sends : Bool
      sends = sends_all (work_parties work p) p x.0

  -- an atom has one alive outcome where each two of its outcomes are one
  one_alive : (n : ℕ) → IsTrue (is_in n nego.atoms) → HasOne nego n → length (outcomes_at work n) ≡ 1
  one_alive n there one =
      let o = some_member (work_outcomes work n) (ok.form.some_outcome n there) in
      sym (length-map (outcomes_at work n) (λ z. z.number)) ∙ ap length (rising-single (work_outcomes work n) o.0 (ok.form.outcomes_rise n there) o.1 (λ p m. one p o.0 m o.1))

  -- a closable work allows closing
  closable_closes : work.first ≢ work.last → IsClosable nego → IsTrue (allows work Close)
  closable_closes apart closing =
      closes-one work x found
      ∙ and_from (length work.atoms == 2) (not (work.first == work.last) && ((length (outcomes_at work work.first) == 1) && sends))
      (eq-eqb (length work.atoms) 2 (sym (length-map work.atoms (λ atom. atom.number)) ∙ two_only nego.atoms work.first work.last ok.form.atoms_rise apart ok.form.first_there ok.form.last_there closing.atoms))
      (and_from (not (work.first == work.last)) ((length (outcomes_at work work.first) == 1) && sends)
      (not_from_false (work.first == work.last) (ne_eqb work.first work.last apart))
      (and_from (length (outcomes_at work work.first) == 1) sends
      (eq-eqb (length (outcomes_at work work.first)) 1 (one_alive work.first ok.form.first_there closing.one))
      (all_from (λ a. same_target (sent_to x a) (Some work.last)) (range_with_len 0 work.agents) to_last)))
    where
      first : (y : WorkOutcome) × (ys : List WorkOutcome) × (outcomes_at work work.first ≡ y ∷ ys)
      first = first_of (outcomes_at work work.first) (λ e. ok.form.some_outcome work.first ok.form.first_there (ap (λ outcomes. map (λ z. z.number) outcomes) e))

      x : WorkOutcome
      x = first.0

      found : opening_outcome work ≡ Some x
      found = find_first (λ z. z.atom == work.first) work.outcomes x first.1 first.2

      sends : Bool
      sends = sends_all (range_with_len 0 work.agents) work.last x

      -- it is the one that sends everyone to the last atom
      own : IsTrue (is_in x.number (work_outcomes work work.first))
      own = subst (λ zs. IsTrue (is_in x.number (map (λ z. z.number) zs))) (sym first.2) (is_in-head x.number (map (λ z. z.number) first.1))

      x_found : outcome_at work x.number ≡ Some x
      x_found = find_all (λ z. outcome_at work z.number ≡ Some z) (λ z. z.atom == work.first) work.outcomes x found (each_found work.outcomes ok.numbers_rise)

      to_last : (a : ℕ) → IsTrue (is_in a (range_with_len 0 work.agents)) → IsTrue (same_target (sent_to x a) (Some work.last))
      to_last a m = sent_one x.number a work.last x x_found
          (ap (λ o. nego.next o a) (closing.one x.number closing.outcome own closing.own.1) ∙ closing.sends a (ltb-true a work.agents (sym (is_in-range_zero a work.agents) ∙ m)))

  -- ---- what is left

  module _ (no_merge : HasNoMerge work) (no_shortcut : (o n : ℕ) → IsTrue (allows work (Shortcut o n)) → length (outcomes_at work n) ≡ 1 → ⊥) where
    -- a work that allows neither is reduced
    reduced : IsReduced nego
    reduced = record {
      no_merge = λ n x y not_last one two other alike. ⊎_elim
          (λ e. other e)
          (λ h. ⊎_elim
          (λ l. true≢false (sym (alike_merge n x y not_last one two l alike) ∙ no_merge x y))
          (λ l. true≢false (sym (alike_merge n y x not_last two one l (λ a m. sym (alike a m))) ∙ no_merge y x))
          h)
          (cases_order x y);
      no_shortcut = λ n x p outcome there apart not_first not_last one into. no_shortcut x p (enters_allowed n x p outcome there apart not_first not_last into) (one_alive p there one);
    }

    -- Where it is sound and an order ranks it, one atom is left, or closing is allowed.
    pub one_or_closing : (order : List ℕ) → IsRankedBy nego order → IsSound nego → (length work.atoms ≡ 1) ⊎ IsTrue (allows work Close)
    one_or_closing order ranks sound = ⊎_elim
        (λ same. inl (sym (length-map work.atoms (λ atom. atom.number)) ∙ ap length (rising-single nego.atoms work.last ok.form.atoms_rise ok.form.last_there (first_alone nego ok.form sound same))))
        (λ apart. inr (closable_closes apart (closable nego order ok.form (work-deterministic work) sound ranks reduced apart)))
        (cases_eq work.first work.last)
