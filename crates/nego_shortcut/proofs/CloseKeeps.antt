-- A closing keeps soundness and what the runs relate: before it, the one outcome of the first atom sends everyone to the
-- last atom; behind it, everyone is there from the beginning.
use Rattle.std.proofs.Common.{◌≡◌, ◌≢◌, ◌⊎◌, ◌↔◌, inl, inr, ⊎_elim, ℕ, ◌+◌, ◌<◌, true, not, ◌==◌, ◌&&◌, List, [], ◌∷◌, length, slice_get, slice_index_or, Some, IsTrue, refl, sym, subst, ap, ◌∙◌, arith, eqb-true, Bool, false, ne_eqb, map}
use Rattle.std.proofs.lemmas.Bool.{and_parts, and_from, lt-ltb, eqb-false, not-true, not_from_false}
use Rattle.std.proofs.lemmas.Option.{none-some, same_Some}
use Rattle.std.proofs.lemmas.List.{length-append, length-map}
use Rattle.std.proofs.lemmas.List.Elements.{All-head, All-filter, filter_passes}
use Rattle.std.specs.List.{All, filter, range_with_len}
use Rattle.std.specs.Option.{option_map_or, option_to_list}
use Rattle.nego_base.specs.Members.{is_in}
use Rattle.nego_model.specs.Negotiation.{Negotiation}
use Rattle.nego_model.specs.Occurring.{PlainMarking, Occurrence, enables, after, opening_marking, final_marking, IsSound}
use Rattle.nego_model.specs.Joining.{RelationTest, By}
use Rattle.nego_model.specs.Expression.{PlainNode, Then, Means}
use Rattle.nego_model.specs.Reaching.{all_at_last, Reaches}
use Rattle.nego_base.proofs.Members.{is_in-head, is_in-cases, is_in_none, is_in_single, all_at, some_member, is_in-filter, is_in-range_zero, all_in-member, all_in-members}
use Rattle.nego_model.proofs.occurrence.Steps.{after-outcome}
use Rattle.nego_model.proofs.expressions.Nodes.{Means-append, EachBase-weaker}
use Rattle.nego_model.proofs.occurrence.Reached.{Leads, Leads-itself, Leads_one, Leads_through, Reaches_one, reached_by_last}
use Rattle.nego_model.proofs.occurrence.Ways.{after_all_at_last, runs_pass_all_at_last, Runs-from_all_at_last, Sound_from_leads}
use Rattle.nego_model.proofs.occurrence.Gathered.{all_ready-enables, after_gathered, after_nothing_ready, after_all_sent, all_ready-same}
use Rattle.nego_model.proofs.simulation.Simulations.{Lasts, Lasts-led}
use Rattle.nego_expr.specs.Work.{outcomes_at, WorkOutcome, PlainWork, outcome_at, work_parties, work_outcomes, sent_to, negotiation_of_work, ByWork, IsWork}
use Rattle.nego_expr.specs.Edits.{nodes_then, without_atom}
use Rattle.nego_expr.specs.Use.{Close, same_target, sends_all, closes, closed, opening_outcome, allows, after_use}
use Rattle.nego_expr.specs.Keeps.{Keeps}
use Rattle.nego_expr.proofs.Alive.{each_found, ByWork-found}
use Rattle.nego_expr.proofs.OneAtomLeft.{one_atom_left_sound, one_step_runs}
use Rattle.nego_expr.proofs.AddedNodes.{ByWork-added, length-nodes_then, node_then}
use Rattle.nego_expr.proofs.EditCalls.{allowed_at}
use Rattle.nego_expr.proofs.EditedWorks.{IsWithin, IsOutcomeOf, outcomes_of_work, then_each_work, is_in-left, outcomes-left, found_left, without_atom_work}
use Rattle.nego_expr.proofs.NodesAt.{of_atom, passing-with_nodes_at, found-nodes_at}
use Rattle.nego_expr.proofs.WorkEdits.{numbers_of, with_node, filter-within, atoms-filter}
use Rattle.nego_expr.proofs.Searching.{target_is, only_passing}
use Rattle.nego_expr.proofs.WorkForm.{OutcomeFits, outcome_found, next-found, work-deterministic, fits_from_work}
use Rattle.nego_shortcut.specs.Law.{ClosingKeeps}

-- exactly the first and the last atom are left, and the first has one outcome, which sends everyone to the last
pub record Closes (work : PlainWork) (x : WorkOutcome) : Type 0 where
  pub two : length work.atoms ≡ 2
  pub apart : work.first ≢ work.last
  pub only : outcomes_at work work.first ≡ x ∷ []
  pub sends : (a : ℕ) → a < work.agents → sent_to x a ≡ Some work.last

-- of two numbers in a list of two, which differ, one is any third
pub one_of_two : (xs : List ℕ) (a b n : ℕ) → length xs ≡ 2 → a ≢ b → IsTrue (is_in a xs) → IsTrue (is_in b xs) → IsTrue (is_in n xs) → (n ≡ a) ⊎ (n ≡ b)
one_of_two [] a b n l h p q r = absurd (is_in_none n [] refl r)
one_of_two (x ∷ []) a b n l h p q r = absurd (h (is_in_single a x p ∙ sym (is_in_single b x q)))
one_of_two (x ∷ y ∷ z ∷ zs) a b n l h p q r = absurd (let no_more : ⊥ = omega (arith, l) in no_more)
one_of_two (x ∷ y ∷ []) a b n l h p q r = places (place a p) (place b q) (place n r)
  where
    place : (m : ℕ) → IsTrue (is_in m (x ∷ y ∷ [])) → (m ≡ x) ⊎ (m ≡ y)
    place m k = ⊎_elim (λ e. inl e) (λ t. inr (is_in_single m y t)) (is_in-cases m x (y ∷ []) k)

    places : (a ≡ x) ⊎ (a ≡ y) → (b ≡ x) ⊎ (b ≡ y) → (n ≡ x) ⊎ (n ≡ y) → (n ≡ a) ⊎ (n ≡ b)
    places (inl e) (inl f) g = absurd (h (e ∙ sym f))
    places (inr e) (inr f) g = absurd (h (e ∙ sym f))
    places (inl e) (inr f) (inl g) = inl (g ∙ sym e)
    places (inl e) (inr f) (inr g) = inr (g ∙ sym f)
    places (inr e) (inl f) (inl g) = inr (g ∙ sym f)
    places (inr e) (inl f) (inr g) = inl (g ∙ sym e)

module _ (work : PlainWork) (x : WorkOutcome) (ok : IsWork work) (closes : Closes work x) where
  abbrev new : PlainWork
  new = closed work x

  abbrev before : Negotiation
  before = negotiation_of_work work

  abbrev behind : Negotiation
  behind = negotiation_of_work new

  -- the last atom alone, which is the first now
  abbrev left : PlainWork
  left = record (without_atom work.first work) { first = work.last }

  -- its outcomes
  abbrev finals : List WorkOutcome
  finals = of_atom work.last left.outcomes

  abbrev added : List PlainNode
  added = nodes_then x.node finals

  -- ---- the outcome of the first atom

  -- what holds of each outcome holds of that of the first atom
  at_first : (P : WorkOutcome → Type 0) → All P work.outcomes → P x
  at_first P h = All-head P x [] (subst (All P) closes.only (All-filter (λ z. z.atom == work.first) P work.outcomes h))

  first_found : outcome_at work x.number ≡ Some x
  first_found = at_first (λ z. outcome_at work z.number ≡ Some z) (each_found work.outcomes ok.numbers_rise)

  first_atom : x.atom ≡ work.first
  first_atom = eqb-true x.atom work.first (All-head Passes x [] (subst (All Passes) closes.only (filter_passes (λ z. z.atom == work.first) work.outcomes)))
    where
      Passes : WorkOutcome → Type 0
      Passes z = (z.atom == work.first) ≡ true

  first_outcomes : work_outcomes work work.first ≡ x.number ∷ []
  first_outcomes = ap numbers_of closes.only

  -- ---- the work that is left

  other : work.last ≢ work.first
  other e = closes.apart (sym e)

  -- an atom is the first or the last
  first_or_last : (n : ℕ) → IsTrue (is_in n before.atoms) → (n ≡ work.first) ⊎ (n ≡ work.last)
  first_or_last n h = one_of_two before.atoms work.first work.last n (length-map work.atoms (λ atom. atom.number) ∙ closes.two) closes.apart ok.form.first_there ok.form.last_there h

  -- an outcome of the last atom sends nobody
  unled : All (λ z. z.atom ≢ work.first → (a : ℕ) → sent_to z a ≢ Some work.first) work.outcomes
  unled k d l = λ apart a e.
      let h : OutcomeFits work (slice_index_or work.outcomes k d) = fits_from_work work ok k d l in
      let at_last : (slice_index_or work.outcomes k d).atom ≡ work.last = ⊎_elim (λ q. absurd (apart q)) (λ q. q) (first_or_last (slice_index_or work.outcomes k d).atom h.there) in
      none-some work.first (sym (h.ends at_last a) ∙ e)

  left_work : IsWork left
  left_work = without_atom_work work work.first work.last ok closes.apart other ok.form.last_there ok.form.all_end unled

  -- the last atom is left alone
  atom-left : (n : ℕ) → IsTrue (is_in n behind.atoms) → n ≡ work.last
  atom-left n h =
      let k = is_in-left work work.first work.last ok closes.apart other ok.form.last_there ok.form.all_end unled n h in
      ⊎_elim (λ e. absurd (k.0 e)) (λ e. e) (first_or_last n k.1)

  first_older : x.node < length work.nodes
  first_older = at_first (λ z. z.node < length work.nodes) ok.nodes_there

  closed_work : IsWork new
  closed_work = then_each_work left x.node work.last left_work first_older (EachBase-weaker (IsWithin work x.atom) (IsWithin left work.last) within work.nodes x.node (at_first (IsOutcomeOf work) (outcomes_of_work work ok)).within)
    where
      -- who is a party of an atom is a party of the last
      within : (o : ℕ) → IsWithin work x.atom o → IsWithin left work.last o
      within o h = all_in-members (slice_index_or work.bases o []) (work_parties left work.last) (λ a m.
          left_work.form.all_end a (ok.form.party_below x.atom a (at_first (λ w. IsTrue (is_in w.atom before.atoms)) ok.own_atom) (all_in-member a (slice_index_or work.bases o []) (work_parties work x.atom) h m)))

  -- the last atom keeps its outcomes
  same_finals : work_outcomes work work.last ≡ work_outcomes new new.last
  same_finals = sym (passing-with_nodes_at (λ z. z.atom == work.last) (λ i z. refl) work.last (length work.nodes) left.outcomes
      ∙ outcomes-left work work.first work.last ok closes.apart other ok.form.last_there ok.form.all_end unled work.last other)

  -- ---- what occurs before the closing

  abbrev opening : PlainMarking
  opening = opening_marking before

  abbrev gathered : PlainMarking
  gathered = all_at_last before

  -- the first atom's outcome sends everyone to the last atom
  first_leaves : after before opening (work.first, x.number) ≡ Some gathered
  first_leaves = after_all_sent before ok.form work.first x.number (work.first ∷ []) (work.last ∷ []) ok.form.first_there (is_in-head work.first [])
      (subst (λ xs. IsTrue (is_in x.number xs)) (sym first_outcomes) (is_in-head x.number []))
      (λ a h. (ok.form.all_begin a h, next-found work x.number a x first_found ∙ ap option_to_list (closes.sends a h)))

  -- nothing else occurs first
  opening_step : (step : Occurrence) (left : PlainMarking) → after before opening step ≡ Some left → (step.1 ≡ x.number) × (left ≡ gathered)
  opening_step step left h =
      let n : step.0 ≡ work.first = after_gathered before ok.form work.first step left h in
      let o : step.1 ≡ x.number =
      is_in_single step.1 x.number (subst (λ xs. IsTrue (is_in step.1 xs)) (ap (work_outcomes work) n ∙ first_outcomes) (after-outcome before opening step left h).1) in
      let k : after before opening (work.first, x.number) ≡ Some left =
      subst (λ p. after before opening (work.first, p) ≡ Some left) o (subst (λ m. after before opening (m, step.1) ≡ Some left) n h) in
      (o, same_Some left gathered (sym k ∙ first_leaves))

  -- then an outcome of the last atom occurs, and leaves the final marking
  gathered_step : (step : Occurrence) (left : PlainMarking) → after before gathered step ≡ Some left → left ≡ final_marking before
  gathered_step step left h =
      let n : step.0 ≡ work.last = after_gathered before ok.form work.last step left h in
      let k : after before gathered (work.last, step.1) ≡ Some left = subst (λ m. after before gathered (m, step.1) ≡ Some left) n h in
      same_Some left (final_marking before) (sym k ∙ after_all_at_last before ok.form step.1 (after-outcome before gathered (work.last, step.1) left k))

  -- the markings that occur
  abbrev Occurs : PlainMarking → Type 0
  Occurs m = (m ≡ opening) ⊎ ((m ≡ gathered) ⊎ (m ≡ final_marking before))

  occurs_lasts : Lasts before Occurs
  occurs_lasts from to step (inl e) h = inr (inl (opening_step step to (subst (λ m. after before m step ≡ Some to) e h)).1)
  occurs_lasts from to step (inr (inl e)) h = inr (inr (gathered_step step to (subst (λ m. after before m step ≡ Some to) e h)))
  occurs_lasts from to step (inr (inr e)) h = absurd (after_nothing_ready before ok.form step to (subst (λ m. after before m step ≡ Some to) e h))

  opening_leads : Leads before opening gathered
  opening_leads = Leads_one before opening gathered (work.first, x.number) first_leaves

  gathered_leads : Leads before gathered (final_marking before)
  gathered_leads =
      let f = some_member (work_outcomes work work.last) (ok.form.some_outcome work.last ok.form.last_there) in
      Leads_one before gathered (final_marking before) (work.last, f.0) (after_all_at_last before ok.form f.0 (ok.form.last_there, f.1))

  sound_before : IsSound before
  sound_before = Sound_from_leads before alive (λ m h. completes m (Lasts-led before Occurs occurs_lasts opening m (inl refl) h))
    where
      Enabled : ℕ → Type 0
      Enabled n = (m : PlainMarking) × Leads before opening m × IsTrue (enables before m n)

      alive : (n : ℕ) → IsTrue (is_in n before.atoms) → Enabled n
      alive n h = ⊎_elim
          (λ e. subst Enabled (sym e) (opening, Leads-itself before opening, all_ready-enables before ok.form (work.first ∷ []) work.first ok.form.first_there (is_in-head work.first [])))
          (λ e. subst Enabled (sym e) (gathered, opening_leads, all_ready-enables before ok.form (work.last ∷ []) work.last ok.form.last_there (is_in-head work.last [])))
          (first_or_last n h)

      completes : (m : PlainMarking) → Occurs m → Leads before m (final_marking before)
      completes m (inl e) = subst (λ from. Leads before from (final_marking before)) (sym e) (Leads_through before opening gathered (final_marking before) opening_leads gathered_leads)
      completes m (inr (inl e)) = subst (λ from. Leads before from (final_marking before)) (sym e) gathered_leads
      completes m (inr (inr e)) = subst (λ from. Leads before from (final_marking before)) (sym e) (Leads-itself before (final_marking before))

  -- ---- what is related

  -- everyone comes to the last atom exactly by what the first atom's outcome relates
  way : (test : RelationTest) (d c : ℕ) → Reaches before (ByWork test work) opening d gathered c ↔ ByWork test work x.number d c
  way test d c = (
    λ h. here (reached_by_last before (ByWork test work) opening d P (inl (refl, refl)) step_holds gathered c h),
    λ r. Reaches_one before (ByWork test work) opening d gathered c (work.first, x.number) first_leaves r,
  )
    where
      P : PlainMarking → ℕ → Type 0
      P m e = ((m ≡ opening) × (e ≡ d)) ⊎ (((m ≡ gathered) × ByWork test work x.number d e) ⊎ (m ≡ final_marking before))

      step_holds : (between : PlainMarking) (b : ℕ) (to : PlainMarking) (e : ℕ) (step : Occurrence) → Reaches before (ByWork test work) opening d between b → P between b →
          after before between step ≡ Some to → ByWork test work step.1 b e → P to e
      step_holds between b to e step h (inl p) s r =
          let k = opening_step step to (subst (λ m. after before m step ≡ Some to) p.0 s) in
          inr (inl (k.1, subst (λ o. ByWork test work o d e) k.0 (subst (λ a. ByWork test work step.1 a e) p.1 r)))
      step_holds between b to e step h (inr (inl p)) s r = inr (inr (gathered_step step to (subst (λ m. after before m step ≡ Some to) p.0 s)))
      step_holds between b to e step h (inr (inr p)) s r = absurd (after_nothing_ready before ok.form step to (subst (λ m. after before m step ≡ Some to) p s))

      here : P gathered c → ByWork test work x.number d c
      here (inl p) = absurd (closes.apart (let e : work.last ∷ [] ≡ work.first ∷ [] = all_ready-same before ok.form (work.last ∷ []) (work.first ∷ []) p.0 in cc))
      here (inr (inl p)) = p.1
      here (inr (inr p)) = absurd (let e : work.last ∷ [] ≡ [] = all_ready-same before ok.form (work.last ∷ []) [] p in let no_more : ⊥ = cc in no_more)

  -- an outcome relates now what the first atom's outcome and then it did
  related : (test : RelationTest) (f d e : ℕ) → IsTrue (is_in f (work_outcomes work work.last)) → ByWork test new f d e ↔ ((c : ℕ) × ByWork test work x.number d c × ByWork test work f c e)
  related test f d e h = (
    λ r. let m = a.0 r in (m.0, (bx m.0).1 ((older x.node d m.0 first_older).0 m.1), (bz m.0).1 ((older z.0.node m.0 e z.3).0 m.2)),
    λ m. a.1 (m.0, (older x.node d m.0 first_older).1 ((bx m.0).0 m.1), (older z.0.node m.0 e z.3).1 ((bz m.0).0 m.2)),
  )
    where
      z : (w : WorkOutcome) × (outcome_at work f ≡ Some w) × (w.atom ≡ work.last) × (w.node < length work.nodes)
      z = outcome_found work ok.numbers_rise (λ w. w.node < length work.nodes) work.last f ok.nodes_there h

      p : (k : ℕ) × (slice_get finals k ≡ Some z.0) × (outcome_at new f ≡ Some (with_node (length work.nodes + k) z.0))
      p = found-nodes_at work.last (length work.nodes) left.outcomes f z.0
          (found_left work work.first work.last ok closes.apart other ok.form.last_there ok.form.all_end unled f z.0 z.1 (λ e. other (sym z.2 ∙ e))) z.2

      a : ByWork test new f d e ↔ ((c : ℕ) × Means (By test) new.nodes x.node d c × Means (By test) new.nodes z.0.node c e)
      a = ByWork-added test new work.nodes added f p.0 (with_node (length work.nodes + p.0) z.0) (Then x.node z.0.node) d e closed_work.nodes refl p.2 refl (node_then x.node finals p.0 z.0 p.1)

      older : (i b c : ℕ) → i < length work.nodes → Means (By test) new.nodes i b c ↔ Means (By test) work.nodes i b c
      older i b c l = Means-append (By test) work.nodes added i b c l

      bx : (c : ℕ) → ByWork test work x.number d c ↔ Means (By test) work.nodes x.node d c
      bx c = ByWork-found test work x.number x d c first_found

      bz : (c : ℕ) → ByWork test work f c e ↔ Means (By test) work.nodes z.0.node c e
      bz c = ByWork-found test work f z.0 c e z.1

  -- behind the closing only the last atom is left
  only_last : (n : ℕ) → IsTrue (is_in n behind.atoms) → n ≡ behind.last
  only_last n h = atom-left n h

  closed_keeps : Keeps work new
  closed_keeps = record {
    sound = (λ s. one_atom_left_sound behind closed_work.form only_last, λ s. sound_before);
    names = refl;
    bases = refl;
    finals = same_finals;
    runs = λ sizes test f d e _ _ h.
        let now = one_step_runs behind closed_work.form only_last (ByWork test new) f d e (subst (λ xs. IsTrue (is_in f xs)) same_finals h) in
        let r = related test f d e h in (
          λ k.
              let w = runs_pass_all_at_last before (ByWork test work) f d e ok.form (work-deterministic work) k in
              now.1 (r.1 (w.before, (way test d w.before).0 w.way, w.last)),
          λ k.
              let m = r.0 (now.0 k) in
              Runs-from_all_at_last before (ByWork test work) f d e ok.form (record { before = m.0; way = (way test d m.0).1 m.1; last = m.2; outcome = (ok.form.last_there, h) }),
        );
  }

-- what the guard says
pub closes_parts : (work : PlainWork) (x : WorkOutcome) → opening_outcome work ≡ Some x → IsTrue (closes work x) → Closes work x
closes_parts work x found h = record {
  two = eqb-true (length work.atoms) 2 p.0;
  apart = eqb-false work.first work.last (not-true (work.first == work.last) q.0);
  only = only_passing (λ z. z.atom == work.first) work.outcomes x found (eqb-true (length (outcomes_at work work.first)) 1 r.0);
  sends = λ a l. target_is (sent_to x a) work.last (all_at (λ b. same_target (sent_to x b) (Some work.last)) (range_with_len 0 work.agents) a r.1 (is_in-range_zero a work.agents ∙ lt-ltb a work.agents l));
}
  where
    sends : Bool
    sends = sends_all (range_with_len 0 work.agents) work.last x

    one : Bool
    one = length (outcomes_at work work.first) == 1

    p : IsTrue (length work.atoms == 2) × IsTrue (not (work.first == work.last) && (one && sends))
    p = and_parts (length work.atoms == 2) (not (work.first == work.last) && (one && sends)) h

    q : IsTrue (not (work.first == work.last)) × IsTrue (one && sends)
    q = and_parts (not (work.first == work.last)) (one && sends) p.1

    r : IsTrue one × IsTrue sends
    r = and_parts one sends q.1

-- the work after a closing by what is found
pub closed-one : (work : PlainWork) (x : WorkOutcome) → opening_outcome work ≡ Some x → after_use work Close ≡ closed work x
closed-one work x e = ap (λ f. option_map_or (closed work) f work) e

-- it is allowed where what is found closes
pub closes-one : (work : PlainWork) (x : WorkOutcome) → opening_outcome work ≡ Some x → allows work Close ≡ closes work x
closes-one work x e = ap (λ f. option_map_or (closes work) f false) e

-- without the first atom's outcomes the last atom has those that it had
pub finals-left : (work : PlainWork) → work.first ≢ work.last → of_atom work.last (filter (λ z. not (z.atom == work.first)) work.outcomes) ≡ outcomes_at work work.last
finals-left work apart = filter-within (λ z. z.atom == work.last) (λ z. not (z.atom == work.first))
    (λ z e. not_from_false (z.atom == work.first) (ne_eqb z.atom work.first (λ k. apart (sym k ∙ eqb-true z.atom work.last e)))) work.outcomes

-- a closing adds a node for each outcome of the last atom
pub nodes-closed : (work : PlainWork) (x : WorkOutcome) → work.first ≢ work.last → length (closed work x).nodes ≡ length work.nodes + length (outcomes_at work work.last)
nodes-closed work x apart =
    let left = of_atom work.last (filter (λ z. not (z.atom == work.first)) work.outcomes) in
    length-append work.nodes (nodes_then x.node left) ∙ ap (λ n. length work.nodes + n) (length-nodes_then x.node left ∙ ap length (finals-left work apart))

-- the last atom is left where the first is gone
pub last_left : (work : PlainWork) → IsWork work → work.first ≢ work.last → IsTrue (is_in work.last (map (λ atom. atom.number) (without_atom work.first work).atoms))
last_left work ok apart = subst (λ xs. IsTrue (is_in work.last xs)) (sym (atoms-filter (λ m. not (m == work.first)) work.atoms))
    (is_in-filter (λ m. not (m == work.first)) work.last (map (λ atom. atom.number) work.atoms)
    ∙ and_from (not (work.last == work.first)) (is_in work.last (map (λ atom. atom.number) work.atoms)) (not_from_false (work.last == work.first) (ne_eqb work.last work.first (λ e. apart (sym e)))) ok.form.last_there)

-- A closing that is allowed leaves a work, and keeps.
pub closing : ClosingKeeps
closing work ok allowed =
    let k = allowed_at (closes work) (opening_outcome work) allowed in
    let parts = closes_parts work k.0 k.1 k.2 in
    let P : PlainWork → Type 0 = λ w. IsWork w × Keeps work w in
    subst P (sym (closed-one work k.0 k.1)) (closed_work work k.0 ok parts, closed_keeps work k.0 ok parts)
