-- An iteration leaves a work, and keeps soundness and what the runs relate.
use Rattle.std.proofs.Common.{◌≡◌, ◌≢◌, ◌↔◌, ⊎_elim, ℕ, ◌+◌, ◌<◌, Bool, false, not, ◌==◌, ◌&&◌, List, [], ◌∷◌, ◌++◌, length, slice_get, nat_lt, Some, IsTrue, refl, sym, subst, ap, ◌∙◌, arith, ne_eqb, append_assoc}
use Rattle.std.proofs.lemmas.Bool.{and_parts, and_from, cases_eq, eqb-false, not-true, not_from_false, ltb-true, false_from_ne_true}
use Rattle.std.proofs.lemmas.List.{length-append, length-map}
use Rattle.std.proofs.lemmas.List.Elements.{All-nil, All-cons, All-weaker}
use Rattle.std.specs.List.{All}
use Rattle.std.specs.Option.{option_map_or, option_to_list}
use Rattle.nego_base.specs.Members.{is_in, without_member, IsRising}
use Rattle.nego_model.specs.Negotiation.{Negotiation, IsOutcome}
use Rattle.nego_model.specs.Joining.{RelationTest, By}
use Rattle.nego_model.specs.Expression.{PlainNode, Then, Star, IsPath, Means, children}
use Rattle.nego_base.proofs.Members.{all_at, is_in-without, rises-without, without-other, length-without}
use Rattle.nego_model.proofs.expressions.Bases.{AllBases_one}
use Rattle.nego_model.proofs.expressions.Nodes.{IsPath-wider, Means-newest, Means-append, EachBase-newest}
use Rattle.nego_expr.specs.Work.{WorkOutcome, PlainWork, outcome_at, outcomes_at, work_parties, work_outcomes, sent_to, negotiation_of_work, ByWork, IsWork}
use Rattle.nego_expr.specs.Use.{Iterate, same_target, sends_all, iterates, iterated, after_use}
use Rattle.nego_expr.specs.Edits.{nodes_then, without_outcome}
use Rattle.nego_expr.specs.Keeps.{Keeps}
use Rattle.nego_expr.proofs.Alive.{ByWork-found}
use Rattle.nego_expr.proofs.EditCalls.{allowed_at, found_itself}
use Rattle.nego_expr.proofs.EditedWorks.{IsWithin, IsOutcomeOf, AreFurther, edited, outcomes_of_work, edited_work, outcome_kept, then_each_work}
use Rattle.nego_expr.proofs.AddedNodes.{ByWork-kept, ByWork-added, length-nodes_then, node_then}
use Rattle.nego_expr.proofs.WorkEdits.{numbers_of, with_node, All-found, rises-passing, numbers-without_outcome, passing-without_outcome, found-without_other, All-without_outcome}
use Rattle.nego_expr.proofs.WorkForm.{outcome_found, found-atom, found_outcome, next-found, work-deterministic}
use Rattle.nego_expr.proofs.Searching.{target_is}
use Rattle.nego_expr.proofs.LocalWorks.{works_local}
use Rattle.nego_iterate.specs.Law.{IteratingKeeps}
use Rattle.nego_iterate.proofs.Iterates.{Iterates}
use Rattle.nego_expr.proofs.NodesAt.{of_atom, passing-with_nodes_at, found-nodes_at, found-nodes_other}
use Rattle.nego_iterate.proofs.Repeating.{iterates_sound, iterates_runs}

-- an alive outcome of an atom that isn't the last sends every party back, and the atom has another one
pub record MayRepeat (work : PlainWork) (x : WorkOutcome) : Type 0 where
  pub found : outcome_at work x.number ≡ Some x
  pub not_last : x.atom ≢ work.last
  pub back : (a : ℕ) → IsTrue (is_in a (work_parties work x.atom)) → sent_to x a ≡ Some x.atom
  pub another : 1 < length (outcomes_at work x.atom)

-- what the guard says
may_repeat : (work : PlainWork) (x : WorkOutcome) → outcome_at work x.number ≡ Some x → IsTrue (iterates work x) → MayRepeat work x
may_repeat work x found h = record {
  found = found;
  not_last = eqb-false x.atom work.last (not-true (x.atom == work.last) p.0);
  back = λ a m. target_is (sent_to x a) x.atom (all_at (λ b. same_target (sent_to x b) (Some x.atom)) (work_parties work x.atom) a q.0 m);
  another = ltb-true 1 (length (outcomes_at work x.atom)) q.1;
}
  where
    back : Bool
    back = sends_all (work_parties work x.atom) x.atom x

    p : IsTrue (not (x.atom == work.last)) × IsTrue (back && nat_lt 1 (length (outcomes_at work x.atom)))
    p = and_parts (not (x.atom == work.last)) (back && nat_lt 1 (length (outcomes_at work x.atom))) h

    q : IsTrue back × IsTrue (nat_lt 1 (length (outcomes_at work x.atom)))
    q = and_parts back (nat_lt 1 (length (outcomes_at work x.atom))) p.1

module _ (work : PlainWork) (x : WorkOutcome) (ok : IsWork work) (may : MayRepeat work x) where
  abbrev new : PlainWork
  new = iterated work x

  abbrev before : Negotiation
  before = negotiation_of_work work

  abbrev behind : Negotiation
  behind = negotiation_of_work new

  abbrev count : ℕ
  count = length work.nodes

  -- the outcomes but for this one
  abbrev left : List WorkOutcome
  left = without_outcome x.number work.outcomes

  -- the other outcomes of its atom
  abbrev others : List WorkOutcome
  others = of_atom x.atom left

  abbrev star : PlainNode
  star = Star x.node

  -- the nodes with that for any number of times
  abbrev starred : List PlainNode
  starred = work.nodes ++ star ∷ []

  -- the nodes for the other outcomes
  abbrev added : List PlainNode
  added = nodes_then count others

  pub whole : new.nodes ≡ starred ++ added
  whole = refl

  new_nodes : new.nodes ≡ work.nodes ++ star ∷ added
  new_nodes = append_assoc work.nodes (star ∷ []) added

  pub one_more : length starred ≡ count + 1
  one_more = length-append work.nodes (star ∷ [])

  -- the work without this outcome, and with that node
  abbrev without : PlainWork
  without = edited work (star ∷ []) work.numbers left

  -- ---- what is found

  -- what holds of each outcome holds of this one
  at_this : (P : WorkOutcome → Type 0) → All P work.outcomes → P x
  at_this P h = All-found P work.outcomes x.number x h may.found

  -- an outcome of another atom is found as it was
  found-kept : (o : ℕ) (y : WorkOutcome) → outcome_at work o ≡ Some y → o ≢ x.number → y.atom ≢ x.atom → outcome_at new o ≡ Some y
  found-kept o y h other apart = found-nodes_other x.atom (length starred) left o y (found-without_other x.number work.outcomes o other ∙ h) apart

  -- another outcome of its atom is found with a new node
  found-own : (o : ℕ) (y : WorkOutcome) → outcome_at work o ≡ Some y → o ≢ x.number → y.atom ≡ x.atom →
      (k : ℕ) × (slice_get others k ≡ Some y) × (outcome_at new o ≡ Some (with_node (length starred + k) y))
  found-own o y h other e = found-nodes_at x.atom (length starred) left o y (found-without_other x.number work.outcomes o other ∙ h) e

  -- each other outcome is found with some node
  found-some : (o : ℕ) (y : WorkOutcome) → outcome_at work o ≡ Some y → o ≢ x.number → (i : ℕ) × (outcome_at new o ≡ Some (with_node i y))
  found-some o y h other = ⊎_elim
      (λ e. let k = found-own o y h other e in (length starred + k.0, k.2))
      (λ apart. (y.node, found-kept o y h other apart))
      (cases_eq y.atom x.atom)

  -- each atom has the outcomes that are left
  same_left : (n : ℕ) → work_outcomes new n ≡ work_outcomes without n
  same_left n = passing-with_nodes_at (λ z. z.atom == n) (λ i z. refl) x.atom (length starred) left

  -- which are those that it had, but for this one
  outcomes-new : (n : ℕ) → work_outcomes new n ≡ without_member x.number (work_outcomes work n)
  outcomes-new n = same_left n ∙ passing-without_outcome (λ z. z.atom == n) x.number work.outcomes

  is_in-new : (n o : ℕ) → IsTrue (is_in o (work_outcomes new n)) → (o ≢ x.number) × IsTrue (is_in o (work_outcomes work n))
  is_in-new n o h =
      let k = and_parts (not (o == x.number)) (is_in o (work_outcomes work n)) (sym (is_in-without o x.number (work_outcomes work n)) ∙ subst (λ xs. IsTrue (is_in o xs)) (outcomes-new n) h) in
      (eqb-false o x.number (not-true (o == x.number) k.0), k.1)

  is_in_new : (n o : ℕ) → o ≢ x.number → IsTrue (is_in o (work_outcomes work n)) → IsTrue (is_in o (work_outcomes new n))
  is_in_new n o h m =
      subst (λ xs. IsTrue (is_in o xs)) (sym (outcomes-new n))
      (is_in-without o x.number (work_outcomes work n) ∙ and_from (not (o == x.number)) (is_in o (work_outcomes work n)) (not_from_false (o == x.number) (ne_eqb o x.number h)) m)

  own_is : IsTrue (is_in x.number (work_outcomes work x.atom))
  own_is = found_outcome work ok.numbers_rise x.atom x.number x may.found refl

  -- an atom of which it is no outcome keeps all
  outcomes-other : (n : ℕ) → n ≢ x.atom → work_outcomes new n ≡ work_outcomes work n
  outcomes-other n other = outcomes-new n ∙ without-other x.number (work_outcomes work n)
      (false_from_ne_true (is_in x.number (work_outcomes work n)) (λ h. other (sym (found-atom work ok.numbers_rise n x.number x may.found h))))

  -- ---- the work that is left

  -- each atom keeps an outcome
  some : (n : ℕ) → IsTrue (is_in n before.atoms) → work_outcomes new n ≢ []
  some n h e = ⊎_elim
      (λ q.
      let all : length (work_outcomes work x.atom) ≡ length (outcomes_at work x.atom) = length-map (outcomes_at work x.atom) (λ z. z.number) in
      let more : 1 < length (outcomes_at work x.atom) = may.another in
      let none : length (without_member x.number (work_outcomes work x.atom)) ≡ 0 = ap length (sym (outcomes-new x.atom) ∙ subst (λ m. work_outcomes new m ≡ []) q e) in
      let less = length-without 0 x.number (work_outcomes work x.atom) (rises-passing (λ z. z.atom == x.atom) 0 work.outcomes ok.numbers_rise) own_is in
      let no_more : ⊥ = omega (arith, all, more, none, less) in no_more)
      (λ other. ok.form.some_outcome n h (sym (outcomes-other n other) ∙ e))
      (cases_eq n x.atom)

  -- the last atom keeps its outcomes
  finals : work_outcomes work work.last ≡ work_outcomes new new.last
  finals = sym (outcomes-other work.last (λ e. may.not_last (sym e)))

  this_outcome : IsOutcomeOf work x
  this_outcome = at_this (IsOutcomeOf work) (outcomes_of_work work ok)

  star_there : count < length starred
  star_there = omega (arith, one_more)

  without_work : IsWork without
  without_work = edited_work work (star ∷ []) work.numbers left ok further
      (subst IsRising (sym (numbers-without_outcome x.number work.outcomes)) (rises-without x.number 0 (numbers_of work.outcomes) ok.numbers_rise))
      (λ n h e. some n h (same_left n ∙ e)) (sym (same_left work.last) ∙ sym finals)
      (All-without_outcome (IsOutcomeOf without) x.number work.outcomes
      (All-weaker (IsOutcomeOf work) (IsOutcomeOf without) (outcome_kept work (star ∷ []) work.numbers left ok (omega arith)) work.outcomes (outcomes_of_work work ok)))
    where
      Older : ℕ → Type 0
      Older child = child < count

      further : AreFurther work (star ∷ [])
      further = record {
        older = All-cons (λ node. All Older (children node)) star [] (All-cons Older x.node [] this_outcome.there (All-nil Older)) (All-nil (λ node. All Older (children node)));
        read = AllBases_one (λ o. o < length work.bases) star tt;
      }

  iterated_work : IsWork new
  iterated_work = then_each_work without count x.atom without_work star_there ((EachBase-newest (IsWithin work x.atom) work.nodes star).1 this_outcome.within)

  -- ---- what is related

  -- an outcome, with what is found by its number
  found : (n o : ℕ) → IsOutcome before n o → (y : WorkOutcome) × (outcome_at work o ≡ Some y) × (y.atom ≡ n) × (y.node < count)
  found n o h = outcome_found work ok.numbers_rise (λ z. z.node < count) n o ok.nodes_there h.1

  module _ (test : RelationTest) where
    -- older nodes mean what they did
    older : (i d e : ℕ) → i < count → Means (By test) new.nodes i d e ↔ Means (By test) work.nodes i d e
    older i d e l =
        let k = Means-append (By test) work.nodes (star ∷ added) i d e l in
        (λ m. k.0 (subst (λ ns. Means (By test) ns i d e) new_nodes m), λ m. subst (λ ns. Means (By test) ns i d e) (sym new_nodes) (k.1 m))

    -- the first new node means what the outcome does, any number of times
    star_means : (d e : ℕ) → Means (By test) new.nodes count d e ↔ ((path : List ℕ) × IsPath (ByWork test work x.number) d path e)
    star_means d e = (
      λ m.
          let p = n.0 (k.0 (subst (λ ns. Means (By test) ns count d e) whole m)) in
          (p.0, IsPath-wider (Means (By test) work.nodes x.node) (ByWork test work x.number) (λ a b. (here a b).1) p.0 d e p.1),
      λ p.
          subst (λ ns. Means (By test) ns count d e) (sym whole)
          (k.1 (n.1 (p.0, IsPath-wider (ByWork test work x.number) (Means (By test) work.nodes x.node) (λ a b. (here a b).0) p.0 d e p.1))),
    )
      where
        here : (a b : ℕ) → ByWork test work x.number a b ↔ Means (By test) work.nodes x.node a b
        here a b = ByWork-found test work x.number x a b may.found

        k : Means (By test) (starred ++ added) count d e ↔ Means (By test) starred count d e
        k = Means-append (By test) starred added count d e star_there

        n : Means (By test) starred count d e ↔ ((path : List ℕ) × IsPath (Means (By test) work.nodes x.node) d path e)
        n = Means-newest (By test) work.nodes star d e

    related-kept : (p o d e : ℕ) → IsOutcome before p o → p ≢ x.atom → ByWork test work o d e ↔ ByWork test new o d e
    related-kept p o d e h other =
        let y = found p o h in
        let apart : y.0.atom ≢ x.atom = λ q. other (sym y.2 ∙ q) in
        let differs : o ≢ x.number = λ q. other (sym (found-atom work ok.numbers_rise p x.number x may.found (subst (λ m. IsTrue (is_in m (work_outcomes work p))) q h.1))) in
        ByWork-kept test work new (star ∷ added) o y.0 d e new_nodes y.1 (found-kept o y.0 y.1 differs apart) y.3

    related-again : (o d e : ℕ) → IsOutcome before x.atom o → o ≢ x.number →
        ByWork test new o d e ↔ ((c : ℕ) × ((path : List ℕ) × IsPath (ByWork test work x.number) d path c) × ByWork test work o c e)
    related-again o d e h other = (
      λ r. let m = a.0 r in (m.0, (star_means d m.0).0 m.1, (own m.0).1 ((older y.0.node m.0 e y.3).0 m.2)),
      λ m. a.1 (m.0, (star_means d m.0).1 m.1, (older y.0.node m.0 e y.3).1 ((own m.0).0 m.2)),
    )
      where
        y : (z : WorkOutcome) × (outcome_at work o ≡ Some z) × (z.atom ≡ x.atom) × (z.node < count)
        y = found x.atom o h

        p : (k : ℕ) × (slice_get others k ≡ Some y.0) × (outcome_at new o ≡ Some (with_node (length starred + k) y.0))
        p = found-own o y.0 y.1 other y.2

        a : ByWork test new o d e ↔ ((c : ℕ) × Means (By test) new.nodes count d c × Means (By test) new.nodes y.0.node c e)
        a = ByWork-added test new starred added o p.0 (with_node (length starred + p.0) y.0) (Then count y.0.node) d e iterated_work.nodes whole p.2 refl (node_then count others p.0 y.0 p.1)

        own : (c : ℕ) → ByWork test work o c e ↔ Means (By test) work.nodes y.0.node c e
        own c = ByWork-found test work o y.0 c e y.1

    differ : Iterates before behind (ByWork test work) (ByWork test new) x.atom x.number
    differ = record {
      agents = refl;
      first = refl;
      last = refl;
      atoms = λ p. refl;
      parties = λ p h. refl;
      own = (at_this (λ z. IsTrue (is_in z.atom before.atoms)) ok.own_atom, own_is);
      not_last = may.not_last;
      back = λ a h. next-found work x.number a x may.found ∙ ap option_to_list (may.back a h);
      kept = λ p q h other. (h.0, is_in_new p q other h.1);
      only = λ p q h. let k = is_in-new p q h.1 in ((h.0, k.1), k.0);
      next = λ p q a h other m.
          let y = found p q h in
          let k = found-some q y.0 y.1 other in
          next-found work q a y.0 y.1 ∙ sym (next-found new q a (with_node k.0 y.0) k.1);
      same = λ p q d e h other. related-kept p q d e h other;
      again = λ q d e h other. related-again q d e h other;
    }

  iterated_keeps : Keeps work new
  iterated_keeps = record {
    sound = iterates_sound before behind (ByWork none work) (ByWork none new) x.atom x.number (differ none) ok.form (work-deterministic work);
    names = refl;
    bases = refl;
    finals = finals;
    runs = λ sizes test f d e acts below h.
        iterates_runs before behind (ByWork test work) (ByWork test new) x.atom x.number (differ test) ok.form (work-deterministic work) iterated_work.form (work-deterministic new) f d e
        sizes (works_local work sizes test ok acts) below (ok.form.last_there, h);
  }
    where
      none : RelationTest
      none o d e = false

-- An iteration that is allowed leaves a work, and keeps.
pub iterated_is : (work : PlainWork) (x : WorkOutcome) → IsWork work → outcome_at work x.number ≡ Some x → IsTrue (iterates work x) → IsWork (iterated work x) × Keeps work (iterated work x)
iterated_is work x ok found h =
    let may = may_repeat work x found h in
    (iterated_work work x ok may, iterated_keeps work x ok may)

-- ---- how many nodes there are

module _ (work : PlainWork) (x : WorkOutcome) (ok : IsWork work) (found : outcome_at work x.number ≡ Some x) where
  -- without the outcome its atom has one outcome fewer
  pub one_fewer : length (of_atom x.atom (without_outcome x.number work.outcomes)) + 1 ≡ length (outcomes_at work x.atom)
  one_fewer =
      let left = length-map (of_atom x.atom (without_outcome x.number work.outcomes)) (λ z. z.number) in
      let all = length-map (outcomes_at work x.atom) (λ z. z.number) in
      let same = ap length (passing-without_outcome (λ z. z.atom == x.atom) x.number work.outcomes) in
      let fewer = length-without 0 x.number (work_outcomes work x.atom) (rises-passing (λ z. z.atom == x.atom) 0 work.outcomes ok.numbers_rise) (found_outcome work ok.numbers_rise x.atom x.number x found refl) in
      omega (arith, left, all, same, fewer)

  -- an iteration adds a node for each outcome of the atom
  pub nodes-iterated : length (iterated work x).nodes ≡ length work.nodes + length (outcomes_at work x.atom)
  nodes-iterated =
      let more = length-append (work.nodes ++ Star x.node ∷ []) (nodes_then (length work.nodes) (of_atom x.atom (without_outcome x.number work.outcomes))) in
      let one = length-append work.nodes (Star x.node ∷ []) in
      let each = length-nodes_then (length work.nodes) (of_atom x.atom (without_outcome x.number work.outcomes)) in
      let count = one_fewer in
      omega (arith, more, one, each, count)

-- the work after an iteration of an outcome that is found
pub iterated-one : (work : PlainWork) (o : ℕ) (x : WorkOutcome) → outcome_at work o ≡ Some x → after_use work (Iterate o) ≡ iterated work x
iterated-one work o x e = ap (λ f. option_map_or (iterated work) f work) e

pub iterating : IteratingKeeps
iterating o work ok allowed =
    let k = allowed_at (iterates work) (outcome_at work o) allowed in
    let P : PlainWork → Type 0 = λ w. IsWork w × Keeps work w in
    subst P (sym (iterated-one work o k.0 k.1)) (iterated_is work k.0 ok (found_itself work o k.0 k.1) k.2)
