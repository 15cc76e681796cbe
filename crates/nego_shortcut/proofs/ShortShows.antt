-- A shortcut of works: what is left is a work, and the negotiations differ as an entered atom's outcomes make them.
use Rattle.std.proofs.Common.{◌≡◌, ◌≢◌, ◌⊎◌, ◌↔◌, inl, inr, ⊎_elim, ℕ, ◌+◌, ◌<◌, Bool, true, false, cond, List, [], ◌∷◌, ◌++◌, length, map, slice_get, Option, Some, IsTrue, refl, sym, subst, ap, ap₂, ◌∙◌}
use Rattle.std.specs.Option.{option_map_or, option_to_list}
use Rattle.nego_base.specs.Members.{is_in}
use Rattle.nego_base.proofs.Members.{is_in-head}
use Rattle.nego_model.specs.Negotiation.{Negotiation, IsOutcome}
use Rattle.nego_model.specs.Joining.{RelationTest, By}
use Rattle.nego_model.specs.Expression.{PlainNode, Then, Means}
use Rattle.nego_model.proofs.expressions.Nodes.{Means-append}
use Rattle.nego_expr.specs.Work.{outcomes_at, WorkOutcome, PlainWork, outcome_at, work_parties, work_outcomes, sent_to, negotiation_of_work, ByWork, IsWork}
use Rattle.nego_expr.specs.Edits.{nodes_then}
use Rattle.nego_expr.specs.Use.{enters, through, gone_through, without_unentered, Shortcut, entered, allows, after_use}
use Rattle.nego_expr.proofs.Alive.{ByWork-found}
use Rattle.nego_expr.proofs.AddedNodes.{ByWork-kept, ByWork-added, node_then}
use Rattle.nego_expr.proofs.WorkEdits.{All-found}
use Rattle.nego_expr.proofs.WorkForm.{is_in-target, outcome_found, found_outcome, next-found}
use Rattle.nego_shortcut.proofs.Shortens.{Shortens}
use Rattle.nego_shortcut.proofs.Unentered.{Leaves, unentered_work, unentered_leaves}
use Rattle.nego_shortcut.proofs.ShortWorks.{IsEntry, entry_from, made_number, made_number-place, number_at, sent-through, entered_rise, place_of, place_is, found-made, found-kept, found-entered, kept_is, made_is, outcomes-other}
use Rattle.nego_shortcut.proofs.ShortForm.{entry_leads, length-nodes, entered_work}

-- the one target of a choice is the choice of the targets
option_to_list-cond : (b : Bool) (s t : Option ℕ) → option_to_list (cond b s t) ≡ cond b (option_to_list s) (option_to_list t)
option_to_list-cond true s t = refl
option_to_list-cond false s t = refl

module _ (work new : PlainWork) (n : ℕ) (x y : WorkOutcome) (ys : List WorkOutcome) (ok : IsWork work) (entry : IsEntry work x n) (at_n : outcomes_at work n ≡ y ∷ ys)
    (left : IsWork new) (leaves : Leaves (gone_through work n x (y ∷ ys)) new n) where
  abbrev one : Negotiation
  one = negotiation_of_work work

  abbrev two : Negotiation
  two = negotiation_of_work new

  abbrev added : List PlainNode
  added = nodes_then x.node (y ∷ ys)

  abbrev number : ℕ → ℕ
  number k = number_at x.number work.numbers k

  abbrev made : ℕ → WorkOutcome → WorkOutcome
  made k z = through work n x z (number k) (length work.nodes + k)

  abbrev behind : ℕ → ℕ
  behind q = made_number x.number work.numbers (y ∷ ys) q

  entry_there : IsTrue (is_in x.atom one.atoms)
  entry_there = All-found (λ w. IsTrue (is_in w.atom one.atoms)) work.outcomes x.number x ok.own_atom entry.alive

  entry_left : IsTrue (is_in x.atom two.atoms)
  entry_left = leaves.atoms_kept x.atom entry_there entry.apart

  -- ---- what is found

  -- an outcome of the second negotiation
  found_new : (p q : ℕ) → IsTrue (is_in q (work_outcomes new p)) → (z : WorkOutcome) × (outcome_at new q ≡ Some z) × (z.atom ≡ p)
  found_new p q h = let z = outcome_found new left.numbers_rise (λ w. Unit {0}) p q (λ k d l. tt) h in (z.0, z.1, z.2)

  -- an outcome of the first that is alive in both
  found_both : (p q : ℕ) → IsOutcome one p q → q ≢ x.number → IsTrue (is_in p two.atoms) → (z : WorkOutcome) × (outcome_at work q ≡ Some z) × (outcome_at new q ≡ Some z) × (z.node < length work.nodes)
  found_both p q h other there =
      let z = outcome_found work ok.numbers_rise (λ w. w.node < length work.nodes) p q ok.nodes_there h.1 in
      (z.0, z.1, leaves.found q z.0 (found-kept work n x y ys ok entry at_n q z.0 z.1 other) (subst (λ m. IsTrue (is_in m two.atoms)) (sym z.2) there), z.3)

  -- an outcome of the entered atom, and what it made
  found_behind : (q : ℕ) → IsTrue (is_in q (work_outcomes work n)) →
      (k : ℕ) × (z : WorkOutcome) × (slice_get (y ∷ ys) k ≡ Some z) × (outcome_at work q ≡ Some z) × (outcome_at new (number k) ≡ Some (made k z)) × (behind q ≡ number k)
  found_behind q h =
      let k = place_of work n x y ys ok entry at_n q h in (
        k.0,
        k.1,
        k.2,
        k.3,
        leaves.found (number k.0) (made k.0 k.1) (found-made work n x y ys ok entry at_n k.0 k.1 k.2) entry_left,
        ap behind (sym k.4) ∙ made_number-place 0 x.number work.numbers (y ∷ ys) k.0 k.1 (entered_rise work n x y ys ok entry at_n) k.2,
      )

  -- each outcome of the second was one of the first, or is what one of the entered atom's made
  only_these : (p q : ℕ) → IsOutcome two p q → (IsOutcome one p q × (q ≢ x.number)) ⊎ ((p ≡ x.atom) × ((v : ℕ) × IsOutcome one n v × (q ≡ behind v)))
  only_these p q h =
      let z = found_new p q h.1 in
      ⊎_elim
      (λ k. inl ((leaves.atoms_only p h.0, found_outcome work ok.numbers_rise p q z.0 k.0 z.2), k.1))
      (λ k. inr (
        sym z.2 ∙ ap (λ w. w.atom) k.4,
        (k.1.number, (entry.there, place_is work n x y ys ok entry at_n k.0 k.1 k.2), k.3 ∙ sym (made_number-place 0 x.number work.numbers (y ∷ ys) k.0 k.1 (entered_rise work n x y ys ok entry at_n) k.2)),
      ))
      (found-entered work n x y ys ok entry at_n q z.0 (leaves.found_only q z.0 z.1))

  next_made : (q a : ℕ) → IsOutcome one n q → IsTrue (is_in a (one.parties x.atom)) → two.next (behind q) a ≡ cond (is_in a (one.parties n)) (one.next q a) (one.next x.number a)
  next_made q a h party =
      let k = found_behind q h.1 in
      ap (λ o. two.next o a) k.5
      ∙ (next-found new (number k.0) a (made k.0 k.1) k.4
      ∙ (ap option_to_list (sent-through work n x k.1 (number k.0) (length work.nodes + k.0) a (ok.form.party_below x.atom a entry_there party))
      ∙ (option_to_list-cond (is_in a (work_parties work n)) (sent_to k.1 a) (sent_to x a)
      ∙ ap₂ (λ s t. cond (is_in a (work_parties work n)) s t) (sym (next-found work q a k.1 k.3)) (sym (next-found work x.number a x entry.alive)))))

  -- ---- what is related

  same_nodes : new.nodes ≡ work.nodes ++ added
  same_nodes = sym leaves.nodes

  -- an older node means among the new ones what its outcome relates
  related_older : (test : RelationTest) (o : ℕ) (z : WorkOutcome) (d e : ℕ) → outcome_at work o ≡ Some z → z.node < length work.nodes → Means (By test) new.nodes z.node d e ↔ ByWork test work o d e
  related_older test o z d e found older =
      let b = ByWork-found test work o z d e found in
      let m = Means-append (By test) work.nodes added z.node d e older in (
        λ h. b.1 (m.0 (subst (λ ns. Means (By test) ns z.node d e) same_nodes h)),
        λ h. subst (λ ns. Means (By test) ns z.node d e) (sym same_nodes) (m.1 (b.0 h)),
      )

  related_made : (test : RelationTest) (q d e : ℕ) → IsTrue (is_in q (work_outcomes work n)) → ByWork test new (behind q) d e ↔ ((c : ℕ) × ByWork test work x.number d c × ByWork test work q c e)
  related_made test q d e h = (
    λ r.
        let m = a.0 (subst (λ o. ByWork test new o d e) k.5 r) in
        (m.0, (first m.0).0 m.1, (second m.0).0 m.2),
    λ m. subst (λ o. ByWork test new o d e) (sym k.5) (a.1 (m.0, (first m.0).1 m.1, (second m.0).1 m.2)),
  )
    where
      k : (k : ℕ) × (z : WorkOutcome) × (slice_get (y ∷ ys) k ≡ Some z) × (outcome_at work q ≡ Some z) × (outcome_at new (number k) ≡ Some (made k z)) × (behind q ≡ number k)
      k = found_behind q h

      a : ByWork test new (number k.0) d e ↔ ((c : ℕ) × Means (By test) new.nodes x.node d c × Means (By test) new.nodes k.1.node c e)
      a = ByWork-added test new work.nodes added (number k.0) k.0 (made k.0 k.1) (Then x.node k.1.node) d e left.nodes same_nodes k.4 refl (node_then x.node (y ∷ ys) k.0 k.1 k.2)

      first : (c : ℕ) → Means (By test) new.nodes x.node d c ↔ ByWork test work x.number d c
      first c = related_older test x.number x d c entry.alive (All-found (λ w. w.node < length work.nodes) work.outcomes x.number x ok.nodes_there entry.alive)

      second : (c : ℕ) → Means (By test) new.nodes k.1.node c e ↔ ByWork test work q c e
      second c = related_older test q k.1 c e k.3 (All-found (λ w. w.node < length work.nodes) work.outcomes q k.1 ok.nodes_there k.3)

  -- ---- together

  shortens_by : (test : RelationTest) → Shortens one two (ByWork test work) (ByWork test new) x.atom n x.number behind
  shortens_by test = record {
    agents = leaves.agents;
    first = leaves.first;
    last = leaves.last;
    own = (entry_there, found_outcome work ok.numbers_rise x.atom x.number x entry.alive refl);
    atom = entry.there;
    apart = entry.apart;
    not_first = entry.not_first;
    not_last = entry.not_last;
    within = entry.within;
    enters = λ a m. next-found work x.number a x entry.alive ∙ ap option_to_list (entry.sends a m);
    atoms_kept = leaves.atoms_kept;
    atoms_only = leaves.atoms_only;
    parties = leaves.parties;
    gone = λ no p q a h m.
        let z = found_new p q h.1 in
        leaves.gone no q a z.0 z.1 (is_in-target (sent_to z.0 a) n (subst (λ ms. IsTrue (is_in n ms)) (next-found new q a z.0 z.1) m));
    stays = λ h.
        let k = leaves.stays h in (
          k.2.atom,
          k.0,
          k.1,
          k.3,
          (All-found (λ w. IsTrue (is_in w.atom two.atoms)) new.outcomes k.0 k.2 left.own_atom k.4, found_outcome new left.numbers_rise k.2.atom k.0 k.2 k.4 refl),
          subst (λ ms. IsTrue (is_in n ms)) (sym (next-found new k.0 k.1 k.2 k.4 ∙ ap option_to_list k.5)) (is_in-head n []),
        );
    kept = λ p q h other there. (there, subst (λ os. IsTrue (is_in q os)) (leaves.outcomes p there) (kept_is work n x y ys ok entry at_n p q h.1 other));
    made = λ q h.
        let k = found_behind q h.1 in (
          entry_left,
          subst (λ o. IsTrue (is_in o (work_outcomes new x.atom))) (sym k.5)
              (subst (λ os. IsTrue (is_in (number k.0) os)) (leaves.outcomes x.atom entry_left) (made_is work n x y ys ok entry at_n k.0 k.1 k.2)),
        );
    only = only_these;
    next = λ p q a h other there party. let z = found_both p q h other there in next-found work q a z.0 z.1 ∙ sym (next-found new q a z.0 z.2);
    next_behind = next_made;
    same = λ p q d e h other there. let z = found_both p q h other there in ByWork-kept test work new added q z.0 d e same_nodes z.1 z.2 z.3;
    composed = λ q d e h. related_made test q d e h.1;
  }

  same_finals : work_outcomes work work.last ≡ work_outcomes new new.last
  same_finals =
      sym (outcomes-other work n x y ys ok entry at_n work.last (λ e. entry_leads work n x y ys ok entry at_n (sym e)))
      ∙ (leaves.outcomes work.last (leaves.atoms_kept work.last ok.form.last_there (λ e. entry.not_last (sym e)))
      ∙ ap (work_outcomes new) leaves.last)

-- ---- a shortcut

-- A list that isn't empty has a first item.
pub first_of : (outcomes : List WorkOutcome) → outcomes ≢ [] → (y : WorkOutcome) × (ys : List WorkOutcome) × (outcomes ≡ y ∷ ys)
first_of [] h = absurd (h refl)
first_of (y ∷ ys) h = (y, ys, refl)

-- the number of the outcome that an entered atom's outcome made by a shortcut: the first of them has the number of the
-- outcome that enters, the others have the next numbers never used
abbrev pub behind_shortcut : PlainWork → ℕ → WorkOutcome → ℕ → ℕ
behind_shortcut work n x q = made_number x.number work.numbers (outcomes_at work n) q

module _ (work : PlainWork) (n : ℕ) (x : WorkOutcome) (ok : IsWork work) (alive : outcome_at work x.number ≡ Some x) (guard : IsTrue (enters work x n)) where
  entry : IsEntry work x n
  entry = entry_from work x n alive guard

  first_outcome : (y : WorkOutcome) × (ys : List WorkOutcome) × (outcomes_at work n ≡ y ∷ ys)
  first_outcome = first_of (outcomes_at work n) (λ e. ok.form.some_outcome n entry.there (ap (λ outcomes. map (λ z. z.number) outcomes) e))

  abbrev y : WorkOutcome
  y = first_outcome.0

  abbrev ys : List WorkOutcome
  ys = first_outcome.1

  abbrev at_n : outcomes_at work n ≡ y ∷ ys
  at_n = first_outcome.2

  -- what is left by these outcomes of the entered atom
  abbrev left_by : List WorkOutcome → PlainWork
  left_by outcomes = without_unentered n (gone_through work n x outcomes)

  made_work : IsWork (gone_through work n x (y ∷ ys))
  made_work = entered_work work n x y ys ok entry at_n

  left_work : IsWork (left_by (y ∷ ys))
  left_work = unentered_work (gone_through work n x (y ∷ ys)) n made_work entry.not_first entry.not_last

  left_leaves : Leaves (gone_through work n x (y ∷ ys)) (left_by (y ∷ ys)) n
  left_leaves = unentered_leaves (gone_through work n x (y ∷ ys)) n made_work entry.not_first entry.not_last entry.there

  -- it is a work
  pub shortcut_work : IsWork (entered work x n)
  shortcut_work = subst (λ outcomes. IsWork (left_by outcomes)) (sym at_n) left_work

  -- it differs as the entered atom's outcomes make it
  pub shortcut_shortens : (test : RelationTest) →
      Shortens (negotiation_of_work work) (negotiation_of_work (entered work x n)) (ByWork test work) (ByWork test (entered work x n)) x.atom n x.number (behind_shortcut work n x)
  shortcut_shortens test =
      subst (λ outcomes. Shortens (negotiation_of_work work) (negotiation_of_work (left_by outcomes)) (ByWork test work) (ByWork test (left_by outcomes)) x.atom n x.number (made_number x.number work.numbers outcomes))
      (sym at_n) (shortens_by work (left_by (y ∷ ys)) n x y ys ok entry at_n left_work left_leaves test)

  -- the last atom keeps its outcomes
  pub shortcut_finals : work_outcomes work work.last ≡ work_outcomes (entered work x n) (entered work x n).last
  shortcut_finals = subst (λ outcomes. work_outcomes work work.last ≡ work_outcomes (left_by outcomes) (left_by outcomes).last) (sym at_n)
      (same_finals work (left_by (y ∷ ys)) n x y ys ok entry at_n left_work left_leaves)

  -- there is a node more for each outcome of the entered atom
  pub shortcut_nodes : length (entered work x n).nodes ≡ length work.nodes + length (outcomes_at work n)
  shortcut_nodes = subst (λ outcomes. length (left_by outcomes).nodes ≡ length work.nodes + length outcomes) (sym at_n)
      (ap length (sym left_leaves.nodes) ∙ length-nodes work n x y ys ok entry at_n)

  -- what was read, and the names, stay
  pub shortcut_names : work.names ≡ (entered work x n).names
  shortcut_names = subst (λ outcomes. work.names ≡ (left_by outcomes).names) (sym at_n) left_leaves.names

  pub shortcut_bases : work.bases ≡ (entered work x n).bases
  shortcut_bases = subst (λ outcomes. work.bases ≡ (left_by outcomes).bases) (sym at_n) left_leaves.bases

-- the work after a shortcut of an outcome that is found
pub shortcut_is : (work : PlainWork) (o n : ℕ) (x : WorkOutcome) → outcome_at work o ≡ Some x → after_use work (Shortcut o n) ≡ entered work x n
shortcut_is work o n x e = ap (λ found. option_map_or (λ z. entered work z n) found work) e

-- it is allowed where the outcome enters the atom
pub shortcut_allowed : (work : PlainWork) (o n : ℕ) (x : WorkOutcome) → outcome_at work o ≡ Some x → allows work (Shortcut o n) ≡ enters work x n
shortcut_allowed work o n x e = ap (λ found. option_map_or (λ z. enters work z n) found false) e
