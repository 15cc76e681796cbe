-- A merge keeps soundness and what the runs relate: what one occurrence reaches before, one occurrence reaches behind it,
-- and the other way round.
use Rattle.std.proofs.Common.{◌≡◌, ◌≢◌, ◌⊎◌, ◌↔◌, inl, inr, ⊎_elim, ℕ, ◌<◌, Bool, not, ◌==◌, ◌&&◌, List, [], ◌∷◌, length, nat_lt, Option, Some, None, IsTrue, false, refl, sym, subst, ap, ◌∙◌, arith, ne_eqb, eqb-true}
use Rattle.std.proofs.lemmas.Bool.{and_parts, and_from, cases_eq, eqb-false, false≢true, not-true, not_from_false, ltb-true, false_from_ne_true}
use Rattle.std.proofs.lemmas.Option.{same_Some}
use Rattle.std.proofs.lemmas.List.{length-append}
use Rattle.std.proofs.lemmas.List.Elements.{All-nil, All-cons, All-weaker}
use Rattle.std.specs.List.{All}
use Rattle.std.specs.Option.{option_map_or, option_to_list}
use Rattle.nego_base.specs.Members.{is_in, without_member, united, IsRising}
use Rattle.nego_model.specs.Negotiation.{Negotiation}
use Rattle.nego_model.specs.Occurring.{PlainMarking, after}
use Rattle.nego_model.specs.Joining.{RelationTest, By}
use Rattle.nego_model.specs.Expression.{PlainNode, Join, EachBase, children}
use Rattle.nego_model.specs.Reaching.{Reaches}
use Rattle.nego_base.proofs.Members.{is_in_none, all_at, some_member, is_in-without, rises-without, without-other}
use Rattle.nego_model.proofs.occurrence.Steps.{after-outcome}
use Rattle.nego_model.proofs.expressions.Bases.{AllBases_one}
use Rattle.nego_model.proofs.expressions.Nodes.{Means-newest, EachBase-newest}
use Rattle.nego_model.proofs.occurrence.Reached.{Leads_one, Reaches_one}
use Rattle.nego_model.proofs.simulation.Simulations.{SameAtoms, SameAtoms-turned, same-after, Anywhere, StepsLed, StepsReached, Sound-same, Runs-same}
use Rattle.nego_expr.specs.Work.{WorkOutcome, PlainWork, outcome_at, work_parties, work_outcomes, sent_to, negotiation_of_work, ByWork, IsWork}
use Rattle.nego_expr.specs.Use.{Merge, same_target, send_alike, merges, merged, allows, after_use}
use Rattle.nego_expr.specs.Edits.{without_outcome}
use Rattle.nego_expr.specs.Keeps.{Keeps}
use Rattle.nego_expr.proofs.Alive.{each_found, ByWork-found}
use Rattle.nego_expr.proofs.EditCalls.{allowed_at, found_itself}
use Rattle.nego_expr.proofs.EditedWorks.{IsWithin, IsOutcomeOf, AreFurther, outcomes_of_work, edited_work, outcome_kept, outcome_renewed}
use Rattle.nego_expr.proofs.AddedNodes.{ByWork-kept}
use Rattle.nego_expr.proofs.WorkEdits.{numbers_of, All-found, there_found, numbers-with_outcome, passing-with_outcome, found-with_outcome, found-with_other, All-with_outcome, numbers-without_outcome, passing-without_outcome, found-without_other, All-without_outcome}
use Rattle.nego_expr.proofs.WorkForm.{outcome_found, found-atom, found_outcome, next-found, work-deterministic}
use Rattle.nego_merge.specs.Law.{MergingKeeps}

-- two alive outcomes of one atom that isn't the last, which send each party to the same atom
pub record Merges (work : PlainWork) (x y : WorkOutcome) : Type 0 where
  pub first : outcome_at work x.number ≡ Some x
  pub second : outcome_at work y.number ≡ Some y
  pub apart : x.number ≢ y.number
  pub one_atom : x.atom ≡ y.atom
  pub not_last : x.atom ≢ work.last
  pub alike : (a : ℕ) → IsTrue (is_in a (work_parties work x.atom)) → sent_to x a ≡ sent_to y a

-- targets that are the same by the test are the same
pub same-target : (s t : Option ℕ) → IsTrue (same_target s t) → s ≡ t
same-target None None h = refl
same-target None (Some n) h = absurd (false≢true h)
same-target (Some m) None h = absurd (false≢true h)
same-target (Some m) (Some n) h = ap Some (eqb-true m n h)

-- what the guard says
pub merges_parts : (work : PlainWork) (x y : WorkOutcome) → outcome_at work x.number ≡ Some x → outcome_at work y.number ≡ Some y → IsTrue (merges work x y) → Merges work x y
merges_parts work x y first second h = record {
  first = first;
  second = second;
  apart = λ q. let no_more : ⊥ = omega (arith, ltb-true x.number y.number k.0, q) in no_more;
  one_atom = eqb-true x.atom y.atom p.0;
  not_last = eqb-false x.atom work.last (not-true (x.atom == work.last) q.0);
  alike = λ a m. same-target (sent_to x a) (sent_to y a) (all_at (λ b. same_target (sent_to x b) (sent_to y b)) (work_parties work x.atom) a q.1 m);
}
  where
    alike : Bool
    alike = send_alike (work_parties work x.atom) x y

    k : IsTrue (nat_lt x.number y.number) × IsTrue ((x.atom == y.atom) && (not (x.atom == work.last) && alike))
    k = and_parts (nat_lt x.number y.number) ((x.atom == y.atom) && (not (x.atom == work.last) && alike)) h

    p : IsTrue (x.atom == y.atom) × IsTrue (not (x.atom == work.last) && alike)
    p = and_parts (x.atom == y.atom) (not (x.atom == work.last) && alike) k.1

    q : IsTrue (not (x.atom == work.last)) × IsTrue alike
    q = and_parts (not (x.atom == work.last)) alike p.1

module _ (work : PlainWork) (x y : WorkOutcome) (ok : IsWork work) (two : Merges work x y) where
  abbrev new : PlainWork
  new = merged work x y

  abbrev node : PlainNode
  node = Join x.node y.node

  -- the one outcome that the two become
  abbrev joined : WorkOutcome
  joined = record x { node = length work.nodes; passed = united x.passed y.passed }

  abbrev before : Negotiation
  before = negotiation_of_work work

  abbrev behind : Negotiation
  behind = negotiation_of_work new

  abbrev left : List WorkOutcome
  left = without_outcome y.number work.outcomes

  -- ---- what is found

  -- by other numbers the same is found
  found-other : (o : ℕ) → o ≢ x.number → o ≢ y.number → outcome_at new o ≡ outcome_at work o
  found-other o h k = found-with_other joined left o h ∙ found-without_other y.number work.outcomes o k

  -- by the first's number the one that the two become is found
  found-joined : outcome_at new x.number ≡ Some joined
  found-joined = found-with_outcome joined left (there_found left x.number x (found-without_other y.number work.outcomes x.number two.apart ∙ two.first))

  -- an atom has the outcomes that it had, but for the second
  outcomes-new : (n : ℕ) → work_outcomes new n ≡ without_member y.number (work_outcomes work n)
  outcomes-new n =
      passing-with_outcome (λ z. z.atom == n) joined left (All-without_outcome SameTest y.number work.outcomes same_atom)
      ∙ passing-without_outcome (λ z. z.atom == n) y.number work.outcomes
    where
      SameTest : WorkOutcome → Type 0
      SameTest z = z.number ≡ joined.number → (z.atom == n) ≡ (joined.atom == n)

      same_atom : All SameTest work.outcomes
      same_atom = All-weaker (λ z. outcome_at work z.number ≡ Some z) SameTest
          (λ z h e. ap (λ w. w.atom == n) (same_Some z x (sym h ∙ (ap (outcome_at work) e ∙ two.first))))
          work.outcomes (each_found work.outcomes ok.numbers_rise)

  is_in-new : (n o : ℕ) → IsTrue (is_in o (work_outcomes new n)) → (o ≢ y.number) × IsTrue (is_in o (work_outcomes work n))
  is_in-new n o h =
      let k = and_parts (not (o == y.number)) (is_in o (work_outcomes work n)) (sym (is_in-without o y.number (work_outcomes work n)) ∙ subst (λ xs. IsTrue (is_in o xs)) (outcomes-new n) h) in
      (eqb-false o y.number (not-true (o == y.number) k.0), k.1)

  is_in_new : (n o : ℕ) → o ≢ y.number → IsTrue (is_in o (work_outcomes work n)) → IsTrue (is_in o (work_outcomes new n))
  is_in_new n o h m =
      subst (λ xs. IsTrue (is_in o xs)) (sym (outcomes-new n))
      (is_in-without o y.number (work_outcomes work n) ∙ and_from (not (o == y.number)) (is_in o (work_outcomes work n)) (not_from_false (o == y.number) (ne_eqb o y.number h)) m)

  -- the first is an outcome of its atom, and so is the second
  first_is : IsTrue (is_in x.number (work_outcomes work x.atom))
  first_is = found_outcome work ok.numbers_rise x.atom x.number x two.first refl

  second_is : IsTrue (is_in y.number (work_outcomes work x.atom))
  second_is = found_outcome work ok.numbers_rise x.atom y.number y two.second (sym two.one_atom)

  -- ---- the work that is left

  rise : IsRising (numbers_of new.outcomes)
  rise = subst IsRising (sym (numbers-with_outcome joined left ∙ numbers-without_outcome y.number work.outcomes)) (rises-without y.number 0 (numbers_of work.outcomes) ok.numbers_rise)

  -- what holds of each outcome, and of the one that the two become, holds of each that is left
  each_left : (P : WorkOutcome → Type 0) → P joined → All P work.outcomes → All P new.outcomes
  each_left P p h = All-with_outcome P joined left p (All-without_outcome P y.number work.outcomes h)

  -- what holds of each outcome holds of the first and of the second
  at_first : (P : WorkOutcome → Type 0) → All P work.outcomes → P x
  at_first P h = All-found P work.outcomes x.number x h two.first

  at_second : (P : WorkOutcome → Type 0) → All P work.outcomes → P y
  at_second P h = All-found P work.outcomes y.number y h two.second

  -- each atom keeps an outcome
  some : (n : ℕ) → IsTrue (is_in n before.atoms) → work_outcomes new n ≢ []
  some n h e =
      let o = some_member (work_outcomes work n) (ok.form.some_outcome n h) in
      ⊎_elim
      (λ q. is_in_none x.number (work_outcomes new n) e
      (is_in_new n x.number two.apart (subst (λ m. IsTrue (is_in x.number (work_outcomes work m)))
      (two.one_atom ∙ found-atom work ok.numbers_rise n y.number y two.second (subst (λ p. IsTrue (is_in p (work_outcomes work n))) q o.1)) first_is)))
      (λ q. is_in_none o.0 (work_outcomes new n) e (is_in_new n o.0 q o.1))
      (cases_eq o.0 y.number)

  -- the last atom keeps its outcomes
  finals : work_outcomes work work.last ≡ work_outcomes new new.last
  finals = sym (outcomes-new work.last ∙ without-other y.number (work_outcomes work work.last)
      (false_from_ne_true (is_in y.number (work_outcomes work work.last)) (λ h. two.not_last (two.one_atom ∙ found-atom work ok.numbers_rise work.last y.number y two.second h))))

  merged_work : IsWork new
  merged_work = edited_work work (node ∷ []) work.numbers new.outcomes ok further rise some (sym finals)
      (each_left (IsOutcomeOf new) one (All-weaker (IsOutcomeOf work) (IsOutcomeOf new) (outcome_kept work (node ∷ []) work.numbers new.outcomes ok (omega arith)) work.outcomes each))
    where
      each : All (IsOutcomeOf work) work.outcomes
      each = outcomes_of_work work ok

      Older : ℕ → Type 0
      Older child = child < length work.nodes

      further : AreFurther work (node ∷ [])
      further = record {
        older = All-cons (λ z. All Older (children z)) node [] (All-cons Older x.node (y.node ∷ []) (at_first (IsOutcomeOf work) each).there (All-cons Older y.node [] (at_second (IsOutcomeOf work) each).there (All-nil Older)))
            (All-nil (λ z. All Older (children z)));
        read = AllBases_one (λ o. o < length work.bases) node (tt, tt);
      }

      one : IsOutcomeOf new joined
      one = outcome_renewed work (node ∷ []) work.numbers new.outcomes ok x x.number (length work.nodes) (united x.passed y.passed) (at_first (IsOutcomeOf work) each) (at_first (IsOutcomeOf work) each).used
          (omega (arith, length-append work.nodes (node ∷ [])))
          ((EachBase-newest (IsWithin work x.atom) work.nodes node).1 (
            (at_first (IsOutcomeOf work) each).within,
            subst (λ n. EachBase (IsWithin work n) work.nodes y.node) (sym two.one_atom) (at_second (IsOutcomeOf work) each).within,
          ))

  -- ---- what occurs

  same_atoms : SameAtoms before behind
  same_atoms = record { agents = refl; atoms = λ n. refl; parties = λ n h. refl; first = refl; last = refl }

  -- an outcome but for the second sends the agents where it did
  next-kept : (o a : ℕ) → o ≢ y.number → before.next o a ≡ behind.next o a
  next-kept o a k = ⊎_elim
      (λ e. subst (λ p. before.next p a ≡ behind.next p a) (sym e) (next-found work x.number a x two.first ∙ sym (next-found new x.number a joined found-joined)))
      (λ h. ap (λ found. option_map_or (λ z. option_to_list (sent_to z a)) found []) (sym (found-other o h k)))
      (cases_eq o x.number)

  -- the second sends the parties of its atom where the first does
  next-second : (n a : ℕ) → n ≡ x.atom → IsTrue (is_in a (before.parties n)) → before.next y.number a ≡ behind.next x.number a
  next-second n a e p =
      next-found work y.number a y two.second
      ∙ (ap option_to_list (sym (two.alike a (subst (λ m. IsTrue (is_in a (work_parties work m))) e p))) ∙ sym (next-found new x.number a joined found-joined))

  -- each occurrence is one behind the merge, but for the second's
  after-kept : (from to : PlainMarking) (n o : ℕ) → o ≢ y.number → after before from (n, o) ≡ Some to → after behind from (n, o) ≡ Some to
  after-kept from to n o k h = same-after before behind same_atoms from to n o o h (is_in_new n o k (after-outcome before from (n, o) to h).1) (λ a p. next-kept o a k)

  -- what the second left the first leaves
  after-first : (from to : PlainMarking) (n : ℕ) → after before from (n, y.number) ≡ Some to → after behind from (n, x.number) ≡ Some to
  after-first from to n h =
      let e : x.atom ≡ n = two.one_atom ∙ found-atom work ok.numbers_rise n y.number y two.second (after-outcome before from (n, y.number) to h).1 in
      same-after before behind same_atoms from to n y.number x.number h
      (is_in_new n x.number two.apart (subst (λ m. IsTrue (is_in x.number (work_outcomes work m))) e first_is))
      (λ a p. next-second n a (sym e) p)

  -- each occurrence behind the merge was one before
  after-back : (from to : PlainMarking) (n o : ℕ) → after behind from (n, o) ≡ Some to → after before from (n, o) ≡ Some to
  after-back from to n o h =
      let k = is_in-new n o (after-outcome behind from (n, o) to h).1 in
      same-after behind before (SameAtoms-turned before behind same_atoms) from to n o o h k.1 (λ a p. sym (next-kept o a k.0))

  -- what the first leaves behind the merge the second left before
  after-second : (from to : PlainMarking) (n : ℕ) → after behind from (n, x.number) ≡ Some to → after before from (n, y.number) ≡ Some to
  after-second from to n h =
      let k = is_in-new n x.number (after-outcome behind from (n, x.number) to h).1 in
      let e : x.atom ≡ n = found-atom work ok.numbers_rise n x.number x two.first k.1 in
      same-after behind before (SameAtoms-turned before behind same_atoms) from to n x.number y.number h
      (subst (λ m. IsTrue (is_in y.number (work_outcomes work m))) e second_is)
      (λ a p. sym (next-second n a (sym e) p))

  -- ---- what is related

  -- the one that the two become relates what either did
  related-joined : (test : RelationTest) (d e : ℕ) → ByWork test new x.number d e ↔ (ByWork test work x.number d e ⊎ ByWork test work y.number d e)
  related-joined test d e =
      let b = ByWork-found test new x.number joined d e found-joined in
      let m = Means-newest (By test) work.nodes node d e in
      let u = ByWork-found test work x.number x d e two.first in
      let v = ByWork-found test work y.number y d e two.second in
      (λ h. ⊎_elim (λ q. inl (u.1 q)) (λ q. inr (v.1 q)) (m.0 (b.0 h)), λ h. b.1 (m.1 (⊎_elim (λ q. inl (u.0 q)) (λ q. inr (v.0 q)) h)))

  -- the others relate what they did
  related-kept : (test : RelationTest) (n o d e : ℕ) → IsTrue (is_in o (work_outcomes work n)) → o ≢ x.number → o ≢ y.number → ByWork test work o d e ↔ ByWork test new o d e
  related-kept test n o d e h k l =
      let z = outcome_found work ok.numbers_rise (λ w. w.node < length work.nodes) n o ok.nodes_there h in
      ByWork-kept test work new (node ∷ []) o z.0 d e refl z.1 (found-other o k l ∙ z.1) z.3

  -- ---- what is reached

  reached : (test : RelationTest) → StepsReached before (ByWork test work) behind (ByWork test new) Anywhere
  reached test from to d e step p h r = ⊎_elim
      (λ q. one x.number (after-first from to step.0 (subst (λ o. after before from (step.0, o) ≡ Some to) q h)) ((related-joined test d e).1 (inr (subst (λ o. ByWork test work o d e) q r))))
      (λ k. ⊎_elim
      (λ q. one step.1 (after-kept from to step.0 step.1 k h) (subst (λ o. ByWork test new o d e) (sym q) ((related-joined test d e).1 (inl (subst (λ o. ByWork test work o d e) q r)))))
      (λ l. one step.1 (after-kept from to step.0 step.1 k h) ((related-kept test step.0 step.1 d e (after-outcome before from step to h).1 l k).0 r))
      (cases_eq step.1 x.number))
      (cases_eq step.1 y.number)
    where
      one : (o : ℕ) → after behind from (step.0, o) ≡ Some to → ByWork test new o d e → Reaches behind (ByWork test new) from d to e
      one o a b = Reaches_one behind (ByWork test new) from d to e (step.0, o) a b

  reached-back : (test : RelationTest) → StepsReached behind (ByWork test new) before (ByWork test work) Anywhere
  reached-back test from to d e step p h r = ⊎_elim
      (λ q.
      let h' = subst (λ o. after behind from (step.0, o) ≡ Some to) q h in
      ⊎_elim (λ u. one x.number (after-back from to step.0 x.number h') u) (λ v. one y.number (after-second from to step.0 h') v)
      ((related-joined test d e).0 (subst (λ o. ByWork test new o d e) q r)))
      (λ l.
      let k = is_in-new step.0 step.1 (after-outcome behind from step to h).1 in
      one step.1 (after-back from to step.0 step.1 h) ((related-kept test step.0 step.1 d e k.1 l k.0).1 r))
      (cases_eq step.1 x.number)
    where
      one : (o : ℕ) → after before from (step.0, o) ≡ Some to → ByWork test work o d e → Reaches before (ByWork test work) from d to e
      one o a b = Reaches_one before (ByWork test work) from d to e (step.0, o) a b

  led : StepsLed before behind Anywhere
  led from to step p h = ⊎_elim
      (λ q. Leads_one behind from to (step.0, x.number) (after-first from to step.0 (subst (λ o. after before from (step.0, o) ≡ Some to) q h)))
      (λ k. Leads_one behind from to step (after-kept from to step.0 step.1 k h))
      (cases_eq step.1 y.number)

  led-back : StepsLed behind before Anywhere
  led-back from to step p h = Leads_one before from to step (after-back from to step.0 step.1 h)

  -- a final outcome is neither of the two
  final_kept : (test : RelationTest) (f d e : ℕ) → IsTrue (is_in f (work_outcomes work work.last)) → ByWork test work f d e ↔ ByWork test new f d e
  final_kept test f d e h = related-kept test work.last f d e h
      (λ q. two.not_last (found-atom work ok.numbers_rise work.last x.number x two.first (subst (λ o. IsTrue (is_in o (work_outcomes work work.last))) q h)))
      (λ q. two.not_last (two.one_atom ∙ found-atom work ok.numbers_rise work.last y.number y two.second (subst (λ o. IsTrue (is_in o (work_outcomes work work.last))) q h)))

  merged_keeps : Keeps work new
  merged_keeps = record {
    sound = (
      Sound-same before behind Anywhere Anywhere same_atoms tt tt (λ from to step p h. tt) (λ from to step p h. tt) led led-back,
      Sound-same behind before Anywhere Anywhere (SameAtoms-turned before behind same_atoms) tt tt (λ from to step p h. tt) (λ from to step p h. tt) led-back led,
    );
    names = refl;
    bases = refl;
    finals = finals;
    runs = λ sizes test f d e _ _ h. (
      Runs-same before (ByWork test work) behind (ByWork test new) Anywhere same_atoms ok.form (work-deterministic work) merged_work.form tt (λ from to step p q. tt) (reached test) f
          (λ k. subst (λ xs. IsTrue (is_in f xs)) finals h) (λ c b. (final_kept test f c b h).0) d e,
      Runs-same behind (ByWork test new) before (ByWork test work) Anywhere (SameAtoms-turned before behind same_atoms) merged_work.form (work-deterministic new) ok.form tt (λ from to step p q. tt) (reached-back test) f
          (λ k. h) (λ c b. (final_kept test f c b h).1) d e,
    );
  }

-- A merge that is allowed leaves a work, and keeps.
pub merged_is : (work : PlainWork) (x y : WorkOutcome) → IsWork work → outcome_at work x.number ≡ Some x → outcome_at work y.number ≡ Some y → IsTrue (merges work x y) → IsWork (merged work x y) × Keeps work (merged work x y)
merged_is work x y ok first second h =
    let two = merges_parts work x y first second h in
    (merged_work work x y ok two, merged_keeps work x y ok two)

-- the work after a merge of two outcomes that are found
pub merged-pair : (work : PlainWork) (o1 o2 : ℕ) (x y : WorkOutcome) → outcome_at work o1 ≡ Some x → outcome_at work o2 ≡ Some y → after_use work (Merge o1 o2) ≡ merged work x y
merged-pair work o1 o2 x y e k =
    ap (λ f. option_map_or (λ z. option_map_or (merged work z) (outcome_at work o2) work) f work) e
    ∙ ap (λ g. option_map_or (merged work x) g work) k

-- it is allowed where they merge
pub allowed-pair : (work : PlainWork) (o1 o2 : ℕ) (x y : WorkOutcome) → outcome_at work o1 ≡ Some x → outcome_at work o2 ≡ Some y → allows work (Merge o1 o2) ≡ merges work x y
allowed-pair work o1 o2 x y e k =
    ap (λ f. option_map_or (λ z. option_map_or (merges work z) (outcome_at work o2) false) f false) e
    ∙ ap (λ g. option_map_or (merges work x) g false) k

pub merging : MergingKeeps
merging o1 o2 work ok allowed =
    let one = allowed_at (λ z. option_map_or (merges work z) (outcome_at work o2) false) (outcome_at work o1) allowed in
    let two = allowed_at (merges work one.0) (outcome_at work o2) one.2 in
    let P : PlainWork → Type 0 = λ w. IsWork w × Keeps work w in
    subst P (sym (merged-pair work o1 o2 one.0 two.0 one.1 two.1)) (merged_is work one.0 two.0 ok (found_itself work o1 one.0 one.1) (found_itself work o2 two.0 two.1) two.2)
