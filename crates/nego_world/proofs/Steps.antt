-- The records that a history gives an agent are steps of it, and an agent that steps leave is valid.
use Rattle.std.proofs.Common.{◌≡◌, ℕ, zero, suc, ◌<◌, ◌≤◌, ◌==◌, Bool, true, false, List, [], ◌∷◌, ◌++◌, length, map, take, cond, slice_get, Some, IsTrue, refl, sym, ap, subst, ◌∙◌, arith, append-nil, append_assoc, eqb-true, eq-eqb}
use Rattle.std.proofs.lemmas.Bool.{false≢true}
use Rattle.std.proofs.lemmas.Option.{same_Some, none-some, slice_get_within}
use Rattle.std.proofs.lemmas.List.{length-replicate, take-append-le}
use Rattle.std.proofs.lemmas.List.Elements.{All-map}
use Rattle.std.proofs.Math.Seq.{take-append_seam}
use Rattle.std.specs.Option.{option_map}
use Rattle.nego_base.specs.Members.{is_in}
use Rattle.nego_base.proofs.Members.{All-member, All-members}
use Rattle.nego_data.specs.Data.{data_count}
use Rattle.nego_data.proofs.JointData.{split-below}
use Rattle.nego_model.specs.Negotiation.{IsDeterministic, IsOutcome}
use Rattle.nego_model.specs.Occurring.{ready, after, leaves, opening_marking}
use Rattle.nego_model.specs.Joining.{Entry, By, steps_of}
use Rattle.nego_model.specs.Diagram.{PlainDiagram, IsDiagram, negotiation_of, relation_of, parties_of, leader_of, nexts_of}
use Rattle.nego_model.proofs.occurrence.Steps.{after-some, after-outcome, leaves_before}
use Rattle.nego_model.proofs.occurrence.Markings.{enables-party}
use Rattle.nego_model.proofs.occurrence.Proper.{leaves-single, opening-single, leaves-proper, opening-proper, ready_alone}
use Rattle.nego_model.proofs.occurrence.Histories.{steps_of-append, joint_after-append, history_leaves, History-front, joint_after-below}
use Rattle.nego_model.proofs.diagrams.Negotiations.{atom-below}
use Rattle.nego_model.proofs.diagrams.Readers.{first_member, parties-below}
use Rattle.agent_msg.specs.Records.{Share, Moved, Decided}
use Rattle.agent_msg.specs.Records as journal
use Rattle.agent_core.specs.Agents.{PlainAgent, size_of, share_of, record_atom, record_outcome, recorded, beginning, left_by, IsStep, AreSteps, IsValid}
use Rattle.agent_core.specs.Deciding.{value_in}
use Rattle.agent_core.specs.Agreement.{visits, share_in, record_of, records_behind, journal_of, Agrees, IsHistoryOf}
use Rattle.agent_core.proofs.Valid.{left_by-same, left_by-push, left_by-records, valid-recorded, none-held}
use Rattle.nego_world.proofs.Journals.{records_behind-append, length-records}
use Rattle.nego_world.proofs.Left.{left-history, share_in-party}
use Rattle.nego_world.proofs.Places.{OwnAt, own_at}
use Rattle.nego_world.proofs.Prefixes.{take-journal, lacks}

-- the item behind a front
pub at_seam : {A : Type 0} (xs ys : List A) (y : A) → slice_get (xs ++ y ∷ ys) (length xs) ≡ Some y
at_seam [] ys y = refl
at_seam (x ∷ xs) ys y = at_seam xs ys y

-- an item of a front
pub at_front : {A : Type 0} (xs ys : List A) (i : ℕ) (y : A) → slice_get xs i ≡ Some y → slice_get (xs ++ ys) i ≡ Some y
at_front [] ys i y h = absurd (none-some y h)
at_front (x ∷ xs) ys zero y h = h
at_front (x ∷ xs) ys (suc i) y h = at_front xs ys i y h

-- the agents of the shares of an entry
pub agents-shares : (diagram : PlainDiagram) (before : List Entry) (entry : Entry) (parties : List ℕ) → map (λ s. s.agent) (map (share_in diagram before entry) parties) ≡ parties
agents-shares diagram before entry [] = refl
agents-shares diagram before entry (p ∷ parties) = ap (λ ps. p ∷ ps) (agents-shares diagram before entry parties)

-- the first of some steps are steps
pub steps-front : (diagram : PlainDiagram) (a start : ℕ) (front rest : List journal.PlainRecord) → AreSteps diagram a start (front ++ rest) → AreSteps diagram a start front
steps-front diagram a start front rest steps i r at =
    let le : i ≤ length front = omega (arith, slice_get_within front i r at) in
    subst (λ rs. IsStep diagram (left_by diagram a start rs) r) (take-append-le i front rest le) (steps i r (at_front front rest i r at))

-- an agent that is valid, and a party of the atom at which it is
pub record IsWell (diagram : PlainDiagram) (agent : PlainAgent) : Type 0 where
  pub valid : IsValid diagram agent
  pub party : (n : ℕ) → agent.at ≡ Some n → IsTrue (is_in agent.id (parties_of diagram n))

module _ (diagram : PlainDiagram) (ok : IsDiagram diagram) where
  -- the outcome of a step is one of its atom's
  pub step-outcome : (agent : PlainAgent) (r : journal.PlainRecord) → IsStep diagram agent r → IsOutcome (negotiation_of diagram) (record_atom r) (record_outcome r)
  step-outcome agent (Moved n o after) s = s.outcome
  step-outcome agent (Decided n o shares) s = s.outcome

  -- an agent at the beginning is well
  well-beginning : (a start : ℕ) → a < length diagram.agents → start < size_of diagram a → IsWell diagram (beginning diagram a start)
  well-beginning a start known below = record {
    valid = record {
      known = known;
      place = λ n h. subst (λ m. m < length diagram.atoms) (same_Some diagram.first n h) (atom-below diagram diagram.first ok.form.first_there);
      value = below;
      steps = λ i r h. absurd (none-some r h);
      left = refl;
      room = refl;
      held = λ p ready h. absurd (none-held p ready h);
    };
    party = λ n h. subst (λ m. IsTrue (is_in a (parties_of diagram m))) (same_Some diagram.first n h) (ok.form.all_begin a known);
  }

  -- and stays so with a step
  well-recorded : (agent : PlainAgent) (r : journal.PlainRecord) → IsWell diagram agent → IsStep diagram agent r → IsWell diagram (recorded diagram agent r)
  well-recorded agent r was step =
      let next : (n : ℕ) → slice_get (nexts_of diagram (record_outcome r) agent.id) 0 ≡ Some n → IsTrue (is_in n (negotiation_of diagram).atoms) × IsTrue (is_in agent.id (parties_of diagram n)) =
      λ n h. ok.form.next_party (record_atom r) (record_outcome r) agent.id n (step-outcome agent r step) (first_member (nexts_of diagram (record_outcome r) agent.id) n h) in
      record { valid = valid-recorded diagram agent r was.valid step (λ n h. atom-below diagram n (next n h).0); party = λ n h. (next n h).1 }

  -- steps one after another
  well-more : (a start : ℕ) (front rest : List journal.PlainRecord) → AreSteps diagram a start (front ++ rest) → IsWell diagram (left_by diagram a start front) → IsWell diagram (left_by diagram a start (front ++ rest))
  well-more a start front [] steps was = subst (λ rs. IsWell diagram (left_by diagram a start rs)) (sym (append-nil front)) was
  well-more a start front (r ∷ rest) steps was =
      let same = append_assoc front (r ∷ []) rest in
      let step : IsStep diagram (left_by diagram a start front) r = subst (λ rs. IsStep diagram (left_by diagram a start rs) r) (take-append_seam front (r ∷ rest)) (steps (length front) r (at_seam front rest r)) in
      let next : IsWell diagram (left_by diagram a start (front ++ r ∷ [])) = subst (λ g. IsWell diagram g) (sym (left_by-push diagram a start front r)) (well-recorded (left_by diagram a start front) r was step) in
      subst (λ rs. IsWell diagram (left_by diagram a start rs)) same (well-more a start (front ++ r ∷ []) rest (subst (λ rs. AreSteps diagram a start rs) (sym same) steps) next)

  -- an agent that steps leave is well
  pub well-left : (a start : ℕ) (records : List journal.PlainRecord) → a < length diagram.agents → start < size_of diagram a → AreSteps diagram a start records → IsWell diagram (left_by diagram a start records)
  well-left a start records known below steps = well-more a start [] records steps (well-beginning a start known below)

module _ (diagram : PlainDiagram) (ok : IsDiagram diagram) (single : IsDeterministic (negotiation_of diagram)) (start : ℕ) (inside : start < data_count diagram.sizes) (a : ℕ) (known : a < length diagram.agents) where
  abbrev so_far : List Entry → PlainAgent
  so_far history = left_by diagram a (value_in diagram start a) (journal_of diagram history a)

  -- the record of an entry is a step where the agent is at its atom
  entry-step : (front : List Entry) (entry : Entry) → (so_far front).at ≡ Some entry.step.0 → IsOutcome (negotiation_of diagram) entry.step.0 entry.step.1 → entry.joint < data_count diagram.sizes → is_in a (parties_of diagram entry.step.0) ≡ true →
      IsStep diagram (so_far front) (record_of diagram front entry a)
  entry-step front entry at outcome joint party = go (leader_of diagram entry.step.0 == a) refl
    where
      below : (p : ℕ) → p < length diagram.agents → value_in diagram entry.joint p < size_of diagram p
      below p lt = split-below diagram.sizes entry.joint p joint (omega (arith, lt, ok.sized))

      id : (so_far front).id ≡ a
      id = (left_by-same diagram (beginning diagram a (value_in diagram start a)) (journal_of diagram front a)).0

      count : length (so_far front).records ≡ visits diagram a front
      count = ap length (left_by-records diagram a (value_in diagram start a) (journal_of diagram front a)) ∙ length-records diagram a [] front

      go : (b : Bool) → (leader_of diagram entry.step.0 == a) ≡ b →
          IsStep diagram (so_far front) (cond b (Decided entry.step.0 entry.step.1 (map (share_in diagram front entry) (parties_of diagram entry.step.0))) (Moved entry.step.0 entry.step.1 (value_in diagram entry.joint a)))
      go true e = record {
        at = at;
        outcome = outcome;
        leads = eqb-true (leader_of diagram entry.step.0) a e ∙ sym id;
        parties = agents-shares diagram front entry (parties_of diagram entry.step.0);
        below = All-map (λ s. s.after < size_of diagram s.agent) (share_in diagram front entry) (parties_of diagram entry.step.0)
            (All-members (λ p. value_in diagram entry.joint p < size_of diagram p) (parties_of diagram entry.step.0)
            (λ p m. below p (All-member (λ q. q < length diagram.agents) p (parties_of diagram entry.step.0) (parties-below diagram ok entry.step.0 (atom-below diagram entry.step.0 outcome.0)) m)));
        visit = ap (λ b. option_map (λ s. s.visit) (share_of b (map (share_in diagram front entry) (parties_of diagram entry.step.0)))) id
            ∙ (ap (option_map (λ s. s.visit)) (share_in-party diagram front entry a (parties_of diagram entry.step.0) party) ∙ ap (λ v. Some v) (sym count));
      }
      go false e = record {
        at = at;
        outcome = outcome;
        led = λ leads. false≢true (sym e ∙ eq-eqb (leader_of diagram entry.step.0) a (leads ∙ id));
        below = subst (λ b. value_in diagram entry.joint a < size_of diagram b) (sym id) (below a known);
      }

  -- the record of an entry is a step of the agent that the entries before it leave
  pub record-step : (front rest : List Entry) (entry : Entry) → IsHistoryOf diagram start (front ++ entry ∷ rest) → is_in a (parties_of diagram entry.step.0) ≡ true → IsStep diagram (so_far front) (record_of diagram front entry a)
  record-step front rest entry h party =
      let nego = negotiation_of diagram in
      let more = History-front nego (By (relation_of diagram)) start (front ++ entry ∷ []) rest (subst (λ es. IsHistoryOf diagram start es) (sym (append_assoc front (entry ∷ []) rest)) h) in
      let next = history_leaves nego (By (relation_of diagram)) start (front ++ entry ∷ []) more in
      let between = leaves_before nego (opening_marking nego) (steps_of front) entry.step next.0 (ap (leaves nego (opening_marking nego)) (sym (steps_of-append front (entry ∷ []))) ∙ next.1) in
      let left = left-history diagram ok start inside a known front (History-front nego (By (relation_of diagram)) start front (entry ∷ []) more) in
      let same : left.0 ≡ between.0 = same_Some left.0 between.0 (sym left.1 ∙ between.1) in
      let enabled = (after-some nego between.0 entry.step next.0 between.2).0 in
      let one = leaves-single nego single (opening_marking nego) between.0 (steps_of front) (length-replicate (length diagram.agents) (diagram.first ∷ [])) (opening-single nego) between.1 in
      let proper = leaves-proper nego ok.form (opening_marking nego) between.0 (steps_of front) (opening-proper nego ok.form) between.1 in
      let alone = ready_alone nego between.0 a entry.step.0 proper one known (enables-party nego between.0 entry.step.0 a enabled party) in
      let at : (so_far front).at ≡ Some entry.step.0 = left.2.at ∙ (ap (λ m. slice_get (ready m a) 0) same ∙ ap (λ xs. slice_get xs 0) alone) in
      let joint : entry.joint < data_count diagram.sizes =
      subst (λ d. d < data_count diagram.sizes) (joint_after-append start front (entry ∷ [])) (joint_after-below nego diagram.sizes (By (relation_of diagram)) ok.local (front ++ entry ∷ []) start (opening_marking nego) next.0 inside next.1 more.related) in
      entry-step front entry at (after-outcome nego between.0 entry.step next.0 between.2) joint party

  -- the records that a history gives the agent are steps
  pub journal-steps : (history : List Entry) → IsHistoryOf diagram start history → AreSteps diagram a (value_in diagram start a) (journal_of diagram history a)
  journal-steps history h i r at =
      one (own_at diagram a i history (omega (arith, slice_get_within (journal_of diagram history a) i r at, length-records diagram a [] history)))
    where
      one : OwnAt diagram a i history → IsStep diagram (left_by diagram a (value_in diagram start a) (take i (journal_of diagram history a))) r
      one o =
          let here = record_of diagram o.front o.entry a in
          let later = records_behind diagram a (o.front ++ o.entry ∷ []) o.rest in
          let gives : journal_of diagram history a ≡ journal_of diagram o.front a ++ here ∷ later =
          ap (λ es. journal_of diagram es a) o.there ∙ (records_behind-append diagram a [] o.front (o.entry ∷ o.rest) ∙ ap (λ b. journal_of diagram o.front a ++ cond b (here ∷ later) later) o.party) in
          let count : length (journal_of diagram o.front a) ≡ i = length-records diagram a [] o.front ∙ o.count in
          let same : here ≡ r = same_Some here r (sym (at_seam (journal_of diagram o.front a) later here) ∙ (ap (slice_get (journal_of diagram o.front a ++ here ∷ later)) count ∙ (ap (λ rs. slice_get rs i) (sym gives) ∙ at))) in
          let front : take i (journal_of diagram history a) ≡ journal_of diagram o.front a =
          ap (λ n. take n (journal_of diagram history a)) (sym o.count) ∙ (ap (λ es. take (visits diagram a o.front) (journal_of diagram es a)) o.there ∙ take-journal diagram a o.front (o.entry ∷ o.rest)) in
          subst (λ rs. IsStep diagram (left_by diagram a (value_in diagram start a) rs) r) (sym front)
          (subst (λ x. IsStep diagram (so_far o.front) x) same (record-step o.front o.rest o.entry (subst (λ es. IsHistoryOf diagram start es) o.there h) o.party))

  -- and those of a journal that agrees with it
  pub agreed-steps : (history : List Entry) (records : List journal.PlainRecord) → IsHistoryOf diagram start history → Agrees diagram history a records → AreSteps diagram a (value_in diagram start a) records
  agreed-steps history records h agrees =
      let l = lacks diagram history a records agrees in
      steps-front diagram a (value_in diagram start a) records l.tail (subst (λ rs. AreSteps diagram a (value_in diagram start a) rs) (sym l.all) (journal-steps history h))
