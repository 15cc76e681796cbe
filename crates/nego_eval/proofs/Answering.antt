-- Laws of lists of answers.
use Rattle.std.proofs.Common.{◌≡◌, ◌⊎◌, ℕ, ◌+◌, ◌<◌, ◌≤◌, ◌&&◌, nat_lt, suc, Bool, true, false, List, [], ◌∷◌, ◌++◌, length, map, get_or, slice_get, slice_index_or, Option, Some, ◌↔◌, inl, inr, refl, sym, subst, ap, ◌∙◌, arith, zero-add, append_assoc, append-nil}
use Rattle.std.specs.Prelude.{MatchOption, if◌then◌else◌}
use Rattle.std.specs.List.{Contains, filter, range_with_len}
use Rattle.std.proofs.lemmas.Bool.{cases_lt, lt-ltb, and_parts, and_from}
use Rattle.std.proofs.lemmas.Option.{slice_get_past, slice_get_within, slice_get-get_or, get_or_from_slice_get}
use Rattle.std.proofs.lemmas.List.{get_or-map, length-map, map-append}
use Rattle.std.proofs.lemmas.List.Elements.{Contains-append_left, Contains-append_right, Contains-append_cases, All-append, All-map, All-nil, filter-append}
use Rattle.std.proofs.lemmas.List.Kept.{AllPairs-from_increasing}
use Rattle.nego_base.specs.Bits.{range-suc}
use Rattle.nego_base.specs.Members.{is_in, IsRising}
use Rattle.nego_base.proofs.Members.{Contains-member, member-Contains, increasing_from_rising, is_in-filter, is_in-range_zero, rises-filter, rises-range}
use Rattle.nego_base.proofs.PairLaws.{AllPairs-nil, AllPairs-append, AllPairs-map}
use Rattle.nego_model.specs.Joining.{RelationTest, By}
use Rattle.nego_model.specs.Expression.{Means}
use Rattle.nego_base.specs.declared.ids.NodeId.{NodeId}
use Rattle.nego_base.proofs.ListLaws.{mapped_at}
use Rattle.nego_data.specs.Data.{data_count}
use Rattle.nego_model.specs.Diagram.{PlainDiagram, relation_of}
use Rattle.nego_model.specs.Summary.{PlainFinal, PlainSummary, IsFormed}
use Rattle.nego_expr.specs.declared.summary.Final.{Final}
use Rattle.nego_expr.specs.SummaryText.{plain_final}
use Rattle.nego_eval.specs.declared.rows.Rows.{Rows}
use Rattle.nego_eval.specs.Frames.{AreRows, IsPair, meaning}
use Rattle.nego_eval.specs.Begun.{IsRowOf}
use Rattle.nego_eval.specs.Answers.{IsAnswer, ComesBefore, AreAnswers, AreAnswersBelow}

-- the numbers of a range of one more that pass a test
filter-range_more : (test : ℕ → Bool) (e : ℕ) → filter test (range_with_len 0 (e + 1)) ≡ filter test (range_with_len 0 e) ++ (if test e then e ∷ [] else [])
filter-range_more test e =
    let next : e + 1 ≡ suc e = omega arith in
    ap (λ n. filter test (range_with_len 0 n)) next ∙ ap (filter test) (range-suc 0 e ∙ ap (λ n. range_with_len 0 e ++ n ∷ []) (zero-add e)) ∙ filter-append test (range_with_len 0 e) (e ∷ [])

module _ (place : ℕ) (row : List ℕ) where
  -- a pair of the place is one of its row
  in_row : (p e : ℕ) → Contains (map {A = ℕ} {B = ℕ × ℕ} (λ e. (place, e)) row) (p, e) → (p ≡ place) × (is_in e row ≡ true)
  in_row p e h =
      let here : h.0 < length row = rw (sym (length-map {B = ℕ × ℕ} row (λ e. (place, e)))) h.1 in
      let same : (place, get_or row h.0 e) ≡ (p, e) = sym (get_or-map (λ e. (place, e)) row h.0 e (p, e) here) ∙ h.2 in
      (sym (ap (λ q. q.0) same), member-Contains e row (h.0, here, ap (λ q. q.1) same))

  -- each of a row makes a pair
  from_row : (e : ℕ) → is_in e row ≡ true → Contains (map {A = ℕ} {B = ℕ × ℕ} (λ e. (place, e)) row) (place, e)
  from_row e m =
      let c = Contains-member e row m in
      (c.0, rw (length-map {B = ℕ × ℕ} row (λ e. (place, e))) c.1, get_or-map (λ e. (place, e)) row c.0 e (place, e) c.1 ∙ ap (λ x. (place, x)) c.2)

module _ (test : RelationTest) (summary : PlainSummary) (start : ℕ) where
  -- an answer is what the node of its final outcome means
  pub answer_means : (place e : ℕ) (outcome : PlainFinal) → slice_get summary.finals place ≡ Some outcome → IsAnswer test summary start place e ↔ Means (By test) summary.nodes outcome.node start e
  answer_means place e outcome here =
      let P = λ (o : Option PlainFinal). MatchOption o ⊥ (λ outcome. Means (By test) summary.nodes outcome.node start e) in
      (λ m. subst P here m, λ m. subst P (sym here) m)

  -- no answer of no place
  pub no_answers : AreAnswersBelow test summary start 0 []
  no_answers = record {
    each = λ place e. (λ h. absurd (omega (arith, h.1)), λ h. absurd (omega (arith, h.0)));
    before = All-nil (λ pair. pair.0 < 0);
    rise = AllPairs-nil ComesBefore;
  }

  -- the answers of one more place
  pub more_answers : (places : ℕ) (answers : List (ℕ × ℕ)) (outcome : PlainFinal) (count : ℕ) (row : List ℕ) → slice_get summary.finals places ≡ Some outcome → IsRowOf (Means (By test) summary.nodes outcome.node) count start row →
      AreAnswersBelow test summary start places answers → AreAnswersBelow test summary start (places + 1) (answers ++ map (λ e. (places, e)) (filter (λ e. is_in e row) (range_with_len 0 count)))
  more_answers places answers outcome count row here made old = record {
    each = λ place e. (λ h. forth place e (Contains-append_cases answers new (place, e) h), λ h. back place e (cases_lt place places) h);
    before = All-append (λ pair. pair.0 < places + 1) answers new (λ k d q. let less = old.before k d q in omega (arith, less)) (All-map (λ pair. pair.0 < places + 1) (λ e. (places, e)) found (λ k d q. omega arith));
    rise = AllPairs-append ComesBefore answers new old.rise
        (AllPairs-map ComesBefore (λ e. (places, e)) found (λ i j d q r. inr (refl, AllPairs-from_increasing found (increasing_from_rising 0 found rising) i j d q r)))
        (λ k d q. All-map (λ later. ComesBefore (slice_index_or answers k d) later) (λ e. (places, e)) found (λ i c r. inl (old.before k d q)));
  }
    where
      found : List ℕ
      found = filter (λ e. is_in e row) (range_with_len 0 count)

      rising : IsRising found
      rising = rises-filter (λ e. is_in e row) 0 (range_with_len 0 count) (rises-range 0 count)

      in_found : (e : ℕ) → is_in e found ≡ (is_in e row && nat_lt e count)
      in_found e = is_in-filter (λ x. is_in x row) e (range_with_len 0 count) ∙ ap (λ b. is_in e row && b) (is_in-range_zero e count)

      new : List (ℕ × ℕ)
      new = map (λ e. (places, e)) found

      forth : (place e : ℕ) → Contains answers (place, e) ⊎ Contains new (place, e) → (place < places + 1) × IsAnswer test summary start place e
      forth place e (inl h) = let k = (old.each place e).0 h in (omega (arith, k.0), k.1)
      forth place e (inr h) =
          let k = in_row places found place e h in
          let m = (and_parts (is_in e row) (nat_lt e count) (sym (in_found e) ∙ k.1)).0 in
          (omega (arith, k.0), subst (λ p. IsAnswer test summary start p e) (sym k.0) ((answer_means places e outcome here).1 ((made.exact e).0 m)))

      back : (place e : ℕ) → (place < places) ⊎ (places ≤ place) → (place < places + 1) × IsAnswer test summary start place e → Contains (answers ++ new) (place, e)
      back place e (inl less) h = Contains-append_left answers new (place, e) ((old.each place e).1 (less, h.1))
      back place e (inr more) h =
          let same : place ≡ places = omega (arith, more, h.0) in
          let m = (made.exact e).1 ((answer_means places e outcome here).0 (subst (λ p. IsAnswer test summary start p e) same h.1)) in
          Contains-append_right answers new (place, e) (subst (λ p. Contains new (p, e)) (sym same) (from_row places found e (in_found e ∙ and_from (is_in e row) (nat_lt e count) m (lt-ltb e count (made.below e m)))))

  -- the answers of all places are the answers
  pub all_answers : (places : ℕ) (answers : List (ℕ × ℕ)) → length summary.finals ≤ places → AreAnswersBelow test summary start places answers → AreAnswers test summary start answers
  all_answers places answers all below = record {
    each = λ place e. (λ h. ((below.each place e).0 h).1, λ h. (below.each place e).1 (there place e h, h));
    rise = below.rise;
  }
    where
      there : (place e : ℕ) → IsAnswer test summary start place e → place < places
      there place e h = elim (cases_lt place places) [
        | inl less ↦ less
        | inr more ↦ absurd (subst (λ o. MatchOption o ⊥ (λ outcome. Means (By test) summary.nodes outcome.node start e)) (slice_get_past summary.finals place (omega (arith, all, more))) h)
      ]

module _ (answers : List (ℕ × ℕ)) (place : ℕ) (test : ℕ → Bool) (e : ℕ) where
  -- the pairs of one more number, which passes the test
  pub one_more : test e ≡ true → (answers ++ map {A = ℕ} {B = ℕ × ℕ} (λ x. (place, x)) (filter test (range_with_len 0 e))) ++ (place, e) ∷ [] ≡ answers ++ map {A = ℕ} {B = ℕ × ℕ} (λ x. (place, x)) (filter test (range_with_len 0 (e + 1)))
  one_more h =
      let longer : filter test (range_with_len 0 (e + 1)) ≡ filter test (range_with_len 0 e) ++ e ∷ [] = filter-range_more test e ∙ ap (λ b. filter test (range_with_len 0 e) ++ (if b then e ∷ [] else [])) h in
      append_assoc answers (map {A = ℕ} {B = ℕ × ℕ} (λ x. (place, x)) (filter test (range_with_len 0 e))) ((place, e) ∷ [])
      ∙ ap (λ xs. answers ++ xs) (sym (map-append {B = ℕ × ℕ} (λ x. (place, x)) (filter test (range_with_len 0 e)) (e ∷ [])) ∙ ap (map {A = ℕ} {B = ℕ × ℕ} (λ x. (place, x))) (sym longer))

  -- the pairs of one more number, which doesn't pass the test
  pub one_less : test e ≡ false → answers ++ map {A = ℕ} {B = ℕ × ℕ} (λ x. (place, x)) (filter test (range_with_len 0 e)) ≡ answers ++ map {A = ℕ} {B = ℕ × ℕ} (λ x. (place, x)) (filter test (range_with_len 0 (e + 1)))
  one_less h =
      let same : filter test (range_with_len 0 (e + 1)) ≡ filter test (range_with_len 0 e) = filter-range_more test e ∙ ap (λ b. filter test (range_with_len 0 e) ++ (if b then e ∷ [] else [])) h ∙ append-nil (filter test (range_with_len 0 e)) in
      ap (λ xs. answers ++ map {A = ℕ} {B = ℕ × ℕ} (λ x. (place, x)) xs) (sym same)

-- the final outcome at a place, among those of the program
pub final_at : (finals : List Final) (place : ℕ) (outcome : Final) → place < length finals → outcome ≡ get_or finals place outcome → slice_get (map plain_final finals) place ≡ Some (plain_final outcome)
final_at finals place outcome h is = mapped_at plain_final finals place outcome (slice_get-get_or finals place outcome h ∙ ap Some (sym is))

-- the node of a final outcome is there
pub final_node : (outcomes : ℕ) (summary : PlainSummary) (place : ℕ) (outcome : PlainFinal) → IsFormed outcomes summary → slice_get summary.finals place ≡ Some outcome → outcome.node < length summary.nodes
final_node outcomes summary place outcome formed here =
    subst (λ o. o.node < length summary.nodes) (get_or_from_slice_get summary.finals place outcome outcome here) (formed.there place outcome (slice_get_within summary.finals place outcome here))

-- the pair of a final outcome's node and a start is one of the rows
pub final_pair : (diagram : PlainDiagram) (summary : PlainSummary) (rows : Rows) (node : NodeId) (start : ℕ) → AreRows rows → rows.diagram.now ≡ diagram → rows.nodes.now.nodes ≡ summary.nodes → node.0 < length summary.nodes → start < data_count diagram.sizes →
    IsPair rows (record { node = node; start = start })
final_pair diagram summary rows node start ok same same' there small = record {
  node = rw same' there;
  start = rw (ok.joint, same) small;
}

-- a row of a final outcome's node means what the node means
pub final_row : (diagram : PlainDiagram) (summary : PlainSummary) (rows : Rows) (node start : ℕ) (row : List ℕ) → rows.diagram.now ≡ diagram → rows.nodes.now.nodes ≡ summary.nodes → IsRowOf (meaning rows node) rows.joint start row →
    IsRowOf (Means (By (relation_of diagram)) summary.nodes node) rows.joint start row
final_row diagram summary rows node start row same same' made =
    subst (λ d. IsRowOf (Means (By (relation_of d)) summary.nodes node) rows.joint start row) same (subst (λ ns. IsRowOf (Means (By (relation_of rows.diagram.now)) ns node) rows.joint start row) same' made)
