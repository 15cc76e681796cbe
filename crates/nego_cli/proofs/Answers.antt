-- The answers of the summary of a sound diagram are the ends of its complete runs.
use Rattle.std.proofs.Common.{Bool, true, false, suc, ◌==◌, if◌then◌else◌, Result, Ok, Err, ◌⊎◌, ◌≡◌, ◌↔◌, ◌∙◌, ⊎_elim, inl, inr, ℕ, ◌+◌, ◌<◌, ◌≤◌, List, [], ◌∷◌, ◌++◌, length, map, get_or, slice_get, slice_index, Some, refl, sym, ap, subst, arith}
use Rattle.std.specs.Prelude.{⊤, IfOk, All, Contains, MatchOption}
use Rattle.std.specs.List.{range_with_len}
use Rattle.std.proofs.lemmas.Bool.{cases_lt, lt-ltb}
use Rattle.std.proofs.lemmas.List.{length-map, get_or-map, get_or_default}
use Rattle.std.proofs.lemmas.List.Elements.{All-weaker, Contains-get_or}
use Rattle.std.proofs.lemmas.List.FromFn.{get_or-range_with_len, length-range_with_len}
use Rattle.std.proofs.lemmas.List.Kept.{AllPairs-from_increasing}
use Rattle.std.proofs.lemmas.Option.{get_or_from_slice_get, slice_get-get_or, slice_get_past}
use Rattle.nego_base.proofs.Members.{Contains-member, increasing_from_rising, is_in-range_zero}
use Rattle.nego_base.proofs.ListLaws.{mapped_at}
use Rattle.nego_base.proofs.PairLaws.{AllPairs-map}
use Rattle.nego_data.specs.Data.{data_count}
use Rattle.nego_data.specs.Locality.{ActsOn}
use Rattle.nego_data.proofs.Acting.{ActsOn-more}
use Rattle.nego_model.specs.Negotiation.{IsDeterministic}
use Rattle.nego_model.specs.Occurring.{opening_marking, final_marking, leaves}
use Rattle.nego_model.specs.Joining.{steps_of, By, Runs}
use Rattle.nego_model.specs.Expression.{PlainNode, Base, Join, Then, Star, Means, NodeBases}
use Rattle.nego_model.specs.Diagram.{PlainOutcome, PlainDiagram, IsDiagram, negotiation_of, relation_of, outcome_name, outcomes_from}
use Rattle.nego_model.specs.Summary.{PlainFinal, PlainSummary, final_outcomes, Tells}
use Rattle.nego_model.proofs.diagrams.Readers.{own_outcome}
use Rattle.nego_model.proofs.expressions.Acting.{Means-acts}
use Rattle.nego_model.proofs.expressions.Bases.{EachBase-from_all}
use Rattle.nego_model.proofs.occurrence.Histories.{joint_after-below}
use Rattle.nego_model.proofs.occurrence.Ways.{runs_pass_all_at_last}
use Rattle.nego_eval.specs.Answers.{IsAnswer, ComesBefore, AreAnswers}
use Rattle.nego_eval.proofs.Answering.{answer_means}
use Rattle.nego_expr.specs.UseView.{plain_use}
use Rattle.nego_expr.specs.declared.uses.Use.{Use}
use Rattle.nego_expr.specs.Room.{RoomyWork}
use Rattle.nego_reduce.specs.declared.reduced.Reduced.{Reduced}
use Rattle.nego_reduce.specs.declared.reduced.Reduced.TheVariants as reduced
use Rattle.nego_reduce.specs.Reducing.{uses_of}
use Rattle.nego_cli.specs.declared.verdict.Verdict.{Verdict}
use Rattle.nego_cli.specs.declared.verdict.Verdict.TheVariants.{Sound, Unsound, Stuck, NodeLimit}
use Rattle.nego_cli.specs.Verdict.{IsVerdictOn, verdict_line}
use Rattle.nego_cli.specs.Ask.{AreEnds, IsAnswerIn, IsAnswerTo, answer_line, answer_lines, lines_of_answers, numbered}

-- what stands at a place
there_at : {X : Type 0} (xs : List X) (i : ℕ) → i < length xs → (x : X) × (slice_get xs i ≡ Some x)
there_at [] i h = absurd (let never : ⊥ = omega (arith, h) in never)
there_at (x ∷ xs) i h = (get_or (x ∷ xs) i x, slice_get-get_or (x ∷ xs) i x h)

module _ (d : PlainDiagram) (diagram : IsDiagram d) where
  -- all agents
  abbrev everyone : List ℕ
  everyone = range_with_len 0 (length d.agents)

  -- an outcome acts on agents
  outcome_acts : (o : ℕ) → o < length d.outcomes → ActsOn d.sizes everyone (By (relation_of d) o)
  outcome_acts o h =
      let found = there_at d.outcomes o h in
      let own = own_outcome d diagram o found.0 found.1 in
      ActsOn-more d.sizes ((negotiation_of d).parties found.0.atom) everyone (By (relation_of d) o)
      (λ a party. is_in-range_zero a (length d.agents) ∙ lt-ltb a (length d.agents) (diagram.form.party_below found.0.atom a own.0 party)) (diagram.local found.0.atom o own)

  node_acts : (node : PlainNode) → NodeBases (λ o. o < length d.outcomes) (λ i. ⊤) node → NodeBases (λ o. ActsOn d.sizes everyone (By (relation_of d) o)) (λ i. ⊤) node
  node_acts (Base o) h = outcome_acts o h
  node_acts (Join x y) h = h
  node_acts (Then x y) h = h
  node_acts (Star x) h = h

  module _ (summary : PlainSummary) (determined : IsDeterministic (negotiation_of d)) (tells : Tells summary d) (start : ℕ) (small : start < data_count d.sizes) where
    -- ---- joint data

    -- what a node relates to the start is joint data
    means_below : (node e : ℕ) → Means (By (relation_of d)) summary.nodes node start e → e < data_count d.sizes
    means_below node e m =
        (Means-acts d.sizes everyone (By (relation_of d)) summary.nodes node (EachBase-from_all (λ o. ActsOn d.sizes everyone (By (relation_of d) o)) summary.nodes node
        (All-weaker (NodeBases (λ o. o < length d.outcomes) (λ i. ⊤)) (NodeBases (λ o. ActsOn d.sizes everyone (By (relation_of d) o)) (λ i. ⊤)) node_acts summary.nodes tells.formed.bases))).stays start e small m

    -- what is at the end of a complete run is joint data
    run_below : (f e : ℕ) → Runs (negotiation_of d) (By (relation_of d)) f start e → e < data_count d.sizes
    run_below f e r =
        let nego = negotiation_of d in
        let leads : leaves nego (opening_marking nego) (steps_of r.joins.entries) ≡ Some (final_marking nego) = ap (leaves nego (opening_marking nego)) r.joins.occurrences ∙ r.complete in
        subst (λ x. x < data_count d.sizes) r.joins.ends
        (joint_after-below nego d.sizes (By (relation_of d)) diagram.local r.joins.entries start (opening_marking nego) (final_marking nego) small leads r.joins.related)

    -- ---- each answer

    pub as_many : length summary.finals ≡ length (final_outcomes d)
    as_many = sym (length-map summary.finals (λ outcome. outcome.name)) ∙ (ap length tells.named ∙ length-map (final_outcomes d) (outcome_name d))

    -- the node at a place
    node_at : (place : ℕ) (outcome : PlainFinal) → slice_get summary.finals place ≡ Some outcome → slice_index (map (λ outcome. outcome.node) summary.finals) place ≡ outcome.node
    node_at place outcome at = get_or_from_slice_get (map (λ outcome. outcome.node) summary.finals) place outcome.node 0 (mapped_at (λ outcome. outcome.node) summary.finals place outcome at)

    module _ (place : ℕ) (there : place < length (final_outcomes d)) where
      found : (outcome : PlainFinal) × (slice_get summary.finals place ≡ Some outcome)
      found = there_at summary.finals place (subst (λ n. place < n) (sym as_many) there)

      -- what is an answer at a place is what its node relates to the start, and so the end of a complete run
      answer_node : (e : ℕ) → IsAnswer (relation_of d) summary start place e ↔ Means (By (relation_of d)) summary.nodes (slice_index (map (λ outcome. outcome.node) summary.finals) place) start e
      answer_node e =
          let node = node_at place found.0 found.1 in
          let means = answer_means (relation_of d) summary start place e found.0 found.1 in
          (λ h. subst (λ n. Means (By (relation_of d)) summary.nodes n start e) (sym node) (means.0 h), λ h. means.1 (subst (λ n. Means (By (relation_of d)) summary.nodes n start e) node h))

      answer_runs : (e : ℕ) → IsAnswer (relation_of d) summary start place e → (e < data_count d.sizes) × Runs (negotiation_of d) (By (relation_of d)) (slice_index (final_outcomes d) place) start e
      answer_runs e h =
          let m = (answer_node e).0 h in
          let below = means_below (slice_index (map (λ outcome. outcome.node) summary.finals) place) e m in
          (below, (tells.each place start e there small below).0 m)

      runs_answer : (e : ℕ) → Runs (negotiation_of d) (By (relation_of d)) (slice_index (final_outcomes d) place) start e → IsAnswer (relation_of d) summary start place e
      runs_answer e r = (answer_node e).1 ((tells.each place start e there small (run_below (slice_index (final_outcomes d) place) e r)).1 r)

    -- an answer is at a place of a final outcome
    answer_there : (place e : ℕ) → IsAnswer (relation_of d) summary start place e → place < length (final_outcomes d)
    answer_there place e h = ⊎_elim (λ below. below)
        (λ past. (let beyond : length summary.finals ≤ place = subst (λ n. n ≤ place) (sym as_many) past in
        absurd (subst (λ o. MatchOption o ⊥ (λ outcome. Means (By (relation_of d)) summary.nodes outcome.node start e)) (slice_get_past summary.finals place beyond) h)))
        (cases_lt place (length (final_outcomes d)))

    -- the place of the outcome of a complete run
    place_of : (f e : ℕ) → Runs (negotiation_of d) (By (relation_of d)) f start e → (place : ℕ) × (place < length (final_outcomes d)) × (slice_index (final_outcomes d) place ≡ f)
    place_of f e r =
        let outcome = (runs_pass_all_at_last (negotiation_of d) (By (relation_of d)) f start e diagram.form determined r).outcome in
        let there = Contains-member f (final_outcomes d) outcome.1 in
        (there.0, there.1, get_or_default (final_outcomes d) there.0 0 f there.1 ∙ there.2)

    -- ---- all answers

    module _ (answers : List (ℕ × ℕ)) (all : AreAnswers (relation_of d) summary start answers) where
      -- each is in range
      pub each_in : All (IsAnswerIn d) answers
      each_in i x h =
          let answer = get_or answers i x in
          let is = (all.each answer.0 answer.1).0 (Contains-get_or answers i x h) in
          let there = answer_there answer.0 answer.1 is in
          (there, (answer_runs answer.0 there answer.1 is).0)

      -- with the number of its final outcome it is the end of a complete run
      is_end : (f e : ℕ) → Contains (map (numbered d) answers) (f, e) → Runs (negotiation_of d) (By (relation_of d)) f start e
      is_end f e h =
          let i = h.0 in
          let here : i < length answers = subst (λ n. i < n) (length-map answers (numbered d)) h.1 in
          let answer = get_or answers i (0, 0) in
          let same : numbered d answer ≡ (f, e) = sym (get_or-map (numbered d) answers i (0, 0) (f, e) here) ∙ h.2 in
          let is = (all.each answer.0 answer.1).0 (Contains-get_or answers i (0, 0) here) in
          let run = (answer_runs answer.0 (answer_there answer.0 answer.1 is) answer.1 is).1 in
          subst (λ (x : ℕ × ℕ). Runs (negotiation_of d) (By (relation_of d)) x.0 start x.1) same run

      end_is : (f e : ℕ) → Runs (negotiation_of d) (By (relation_of d)) f start e → Contains (map (numbered d) answers) (f, e)
      end_is f e r =
          let at = place_of f e r in
          let there = (all.each at.0 e).1 (runs_answer at.0 at.1 e (subst (λ o. Runs (negotiation_of d) (By (relation_of d)) o start e) (sym at.2) r)) in (
            there.0,
            subst (λ n. there.0 < n) (sym (length-map answers (numbered d))) there.1,
            get_or-map (numbered d) answers there.0 (at.0, e) (f, e) there.1 ∙ (ap (numbered d) there.2 ∙ ap (λ o. (o, e)) at.2),
          )

      -- final outcomes' numbers rise with their places
      number_rises : (x y : ℕ × ℕ) → y.0 < length (final_outcomes d) → ComesBefore x y → ComesBefore (numbered d x) (numbered d y)
      number_rises x y there (inl before) =
          inl (AllPairs-from_increasing (final_outcomes d) (increasing_from_rising 0 (final_outcomes d) (diagram.form.outcomes_rise d.last diagram.form.last_there)) x.0 y.0 0 before there)
      number_rises x y there (inr (same, before)) = inr (ap (slice_index (final_outcomes d)) same, before)

      -- they are the ends of the complete runs from the start
      pub are_ends : AreEnds d start (map (numbered d) answers)
      are_ends = record {
        each = λ f e. (is_end f e, end_is f e);
        rise = AllPairs-map ComesBefore (numbered d) answers (λ i j x before h. number_rises (get_or answers i x) (get_or answers j x) (each_in j x h).0 (all.rise i j x before h));
      }

-- the lines of answers and of one more
pub lines_of_answers-more : (d : PlainDiagram) (answers : List (ℕ × ℕ)) (last : ℕ × ℕ) (rest : List ℕ) → lines_of_answers d (answers ++ last ∷ []) rest ≡ lines_of_answers d answers (answer_line d last rest)
lines_of_answers-more d [] last rest = refl
lines_of_answers-more d (first ∷ answers) last rest = ap (answer_line d first) (lines_of_answers-more d answers last rest)

-- the number of the final outcome at a place, where they follow one another
pub number_at : (d : PlainDiagram) (start count place n : ℕ) → n ≡ d.last → range_with_len start count ≡ outcomes_from 0 d.outcomes n → place < length (final_outcomes d) →
    (place < count) × (start + place ≡ slice_index (final_outcomes d) place)
number_at d start count place n is numbers there =
    let same : range_with_len start count ≡ final_outcomes d = numbers ∙ ap (outcomes_from 0 d.outcomes) is in
    let below : place < count = subst (λ k. place < k) (sym (ap length same) ∙ length-range_with_len start count) there in
    (below, sym (get_or-range_with_len start count place 0 below) ∙ ap (λ os. slice_index os place) same)

few_from : (b : Bool) (o : ℕ) (os : List ℕ) (m : ℕ) → length os ≤ m → length (if b then o ∷ os else os) ≤ suc m
few_from true o os m h = omega (arith, h)
few_from false o os m h = omega (arith, h)

-- an atom has no more outcomes than there are
pub few_outcomes : (o : ℕ) (outcomes : List PlainOutcome) (n : ℕ) → length (outcomes_from o outcomes n) ≤ length outcomes
few_outcomes o [] n = omega arith
few_outcomes o (outcome ∷ outcomes) n = few_from (outcome.atom == n) o (outcomes_from (o + 1) outcomes n) (length outcomes) (few_outcomes (o + 1) outcomes n)

-- ---- what is told

-- the answers of a sound diagram are told
pub answers_told : {E : Type 0} (d : PlainDiagram) (start count : ℕ) (verdict : Verdict) (answers : List (ℕ × ℕ)) (r : Result (List ℕ) E) → verdict ≡ Sound → AreEnds d start answers →
    IfOk r (λ text. text ≡ answer_lines d answers) → IfOk r (IsAnswerTo d start count verdict)
answers_told d start count verdict answers (Ok text) is ends e = subst (λ v. IsAnswerTo d start count v text) (sym is) (answers, ends, e)
answers_told d start count verdict answers (Err fault) is ends e = tt

-- and the verdict on another
told_verdict : (d : PlainDiagram) (start count : ℕ) (verdict other : Verdict) (text : List ℕ) → verdict ≡ other → (text ≡ verdict_line other count [] → IsAnswerTo d start count other text) → text ≡ verdict_line verdict count [] →
    IsAnswerTo d start count verdict text
told_verdict d start count verdict other text is told e = subst (λ v. IsAnswerTo d start count v text) (sym is) (told (subst (λ v. text ≡ verdict_line v count []) is e))

left_told : (d : PlainDiagram) (start : ℕ) (left : RoomyWork) (uses : List Use) (r : Reduced) (verdict : Verdict) (text : List ℕ) → IsVerdictOn d r verdict → (r ≡ reduced.Stuck left uses) ⊎ (r ≡ reduced.NodeLimit left uses) →
    text ≡ verdict_line verdict (length (uses_of r)) [] → IsAnswerTo d start (length (uses_of r)) verdict text
left_told d start left uses r verdict text on (inl is) e = stuck (subst (λ x. IsVerdictOn d x verdict) is on)
  where
    stuck : IsVerdictOn d (reduced.Stuck left uses) verdict → IsAnswerTo d start (length (uses_of r)) verdict text
    stuck (inl (v, acyclic)) = told_verdict d start (length (uses_of r)) verdict Unsound text v (λ t. t) e
    stuck (inr (v, cyclic)) = told_verdict d start (length (uses_of r)) verdict Stuck text v (λ t. t) e
left_told d start left uses r verdict text on (inr is) e = told_verdict d start (length (uses_of r)) verdict NodeLimit text (subst (λ x. IsVerdictOn d x verdict) is on) (λ t. t) e

pub verdict_told : {E : Type 0} (d : PlainDiagram) (start : ℕ) (left : RoomyWork) (uses : List Use) (r : Reduced) (verdict : Verdict) (result : Result (List ℕ) E) → IsVerdictOn d r verdict → (r ≡ reduced.Stuck left uses) ⊎ (r ≡ reduced.NodeLimit left uses) →
    IfOk result (λ text. text ≡ verdict_line verdict (length uses) []) → IfOk result (IsAnswerTo d start (length (uses_of r)) verdict)
verdict_told d start left uses r verdict (Ok text) on is e = left_told d start left uses r verdict text on is (e ∙ ap (λ n. verdict_line verdict n []) (sym (count is)))
  where
    count : (r ≡ reduced.Stuck left uses) ⊎ (r ≡ reduced.NodeLimit left uses) → length (uses_of r) ≡ length uses
    count (inl same) = ap (λ x. length (uses_of x)) same ∙ length-map uses plain_use
    count (inr same) = ap (λ x. length (uses_of x)) same ∙ length-map uses plain_use
verdict_told d start left uses r verdict (Err fault) on is e = tt
