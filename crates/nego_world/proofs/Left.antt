-- Where a history leaves an agent.
use Rattle.std.proofs.Common.{◌≡◌, ⊎_elim, ℕ, ◌<◌, ◌==◌, ◌||◌, Bool, true, false, List, [], ◌∷◌, ◌++◌, length, map, cond, slice_get, Some, refl, sym, ap, subst, ◌∙◌, append-nil, append_assoc, eqb-true}
use Rattle.std.proofs.lemmas.Bool.{false≢true}
use Rattle.std.proofs.lemmas.Option.{same_Some}
use Rattle.std.specs.Option.{option_map_or}
use Rattle.nego_base.specs.Members.{is_in}
use Rattle.nego_base.proofs.Members.{in_or_not}
use Rattle.nego_data.specs.Data.{data_count}
use Rattle.nego_model.specs.Occurring.{PlainMarking, ready, after, leaves, opening_marking}
use Rattle.nego_model.specs.Joining.{Entry, By, steps_of, joint_after}
use Rattle.nego_model.specs.Diagram.{PlainDiagram, IsDiagram, negotiation_of, relation_of, parties_of, leader_of, nexts_of}
use Rattle.nego_model.proofs.occurrence.Steps.{after-outcome, leaves_before, length-run}
use Rattle.nego_model.proofs.occurrence.ReachedMarkings.{ready-after_party, ready-after_other}
use Rattle.nego_model.proofs.occurrence.Markings.{ready-replicate}
use Rattle.nego_model.proofs.occurrence.Joined.{related_parts}
use Rattle.nego_model.proofs.occurrence.Histories.{steps_of-append, joint_after-append, history_leaves, History-front, joint_after-below}
use Rattle.agent_msg.specs.Records.{Moved, Decided}
use Rattle.agent_core.specs.Agents.{share_of, value_after, record_outcome, recorded, beginning, left_by}
use Rattle.agent_core.specs.Deciding.{value_in}
use Rattle.agent_core.specs.Agreement.{share_in, record_of, journal_of, IsHistoryOf}
use Rattle.agent_core.proofs.Valid.{left_by-push, left_by-same}
use Rattle.agent_core.proofs.Numbers.{false_from}
use Rattle.nego_world.proofs.Journals.{journal_of-party, journal_of-other}

-- the share of a party among the shares of an entry
pub share_in-party : (diagram : PlainDiagram) (before : List Entry) (entry : Entry) (p : ℕ) (parties : List ℕ) → is_in p parties ≡ true → share_of p (map (share_in diagram before entry) parties) ≡ Some (share_in diagram before entry p)
share_in-party diagram before entry p [] h = absurd (false≢true h)
share_in-party diagram before entry p (q ∷ parties) h = go (q == p) refl (share_in-party diagram before entry p parties)
  where
    go : (b : Bool) → (q == p) ≡ b → (is_in p parties ≡ true → share_of p (map (share_in diagram before entry) parties) ≡ Some (share_in diagram before entry p)) →
        cond b (Some (share_in diagram before entry q)) (share_of p (map (share_in diagram before entry) parties)) ≡ Some (share_in diagram before entry p)
    go true e rest = ap (λ x. Some (share_in diagram before entry x)) (eqb-true q p e)
    go false e rest = rest (sym (ap (λ b. b || is_in p parties) e) ∙ h)

-- the value after a record of an entry is the agent's in the data after it
pub value_after-record : (diagram : PlainDiagram) (before : List Entry) (entry : Entry) (a : ℕ) → is_in a (parties_of diagram entry.step.0) ≡ true → value_after a (record_of diagram before entry a) ≡ value_in diagram entry.joint a
value_after-record diagram before entry a party =
    elim (leader_of diagram entry.step.0 == a) as (λ b.
    value_after a (cond b (Decided entry.step.0 entry.step.1 (map (share_in diagram before entry) (parties_of diagram entry.step.0))) (Moved entry.step.0 entry.step.1 (value_in diagram entry.joint a))) ≡ value_in diagram entry.joint a)
    [ true ↦ ap (λ o. option_map_or (λ s. s.after) o 0) (share_in-party diagram before entry a (parties_of diagram entry.step.0) party) | false ↦ refl ]

-- a record of an entry has its outcome
pub outcome-record : (diagram : PlainDiagram) (before : List Entry) (entry : Entry) (a : ℕ) → record_outcome (record_of diagram before entry a) ≡ entry.step.1
outcome-record diagram before entry a =
    elim (leader_of diagram entry.step.0 == a) as (λ b.
    record_outcome (cond b (Decided entry.step.0 entry.step.1 (map (share_in diagram before entry) (parties_of diagram entry.step.0))) (Moved entry.step.0 entry.step.1 (value_in diagram entry.joint a))) ≡ entry.step.1)
    [ true ↦ refl | false ↦ refl ]

module _ (diagram : PlainDiagram) (ok : IsDiagram diagram) (start : ℕ) (inside : start < data_count diagram.sizes) (a : ℕ) (known : a < length diagram.agents) where
  -- what a history leaves of the agent, beside the marking that it leaves
  pub record IsLeft (history : List Entry) (marking : PlainMarking) : Type 0 where
    pub at : (left_by diagram a (value_in diagram start a) (journal_of diagram history a)).at ≡ slice_get (ready marking a) 0
    pub value : (left_by diagram a (value_in diagram start a) (journal_of diagram history a)).value ≡ value_in diagram (joint_after start history) a

  -- nothing has happened
  pub left-none : IsLeft [] (opening_marking (negotiation_of diagram))
  left-none = record { at = ap (λ xs. slice_get xs 0) (sym (ready-replicate (length diagram.agents) a (diagram.first ∷ []) known)); value = refl }

  -- one entry more
  pub left-then : (history : List Entry) (entry : Entry) (marking left : PlainMarking) → IsHistoryOf diagram start (history ++ entry ∷ []) → leaves (negotiation_of diagram) (opening_marking (negotiation_of diagram)) (steps_of history) ≡ Some marking →
      after (negotiation_of diagram) marking entry.step ≡ Some left → IsLeft history marking → IsLeft (history ++ entry ∷ []) left
  left-then history entry marking left h leads occurs was =
      ⊎_elim party other (in_or_not a (parties_of diagram entry.step.0))
    where
      below : a < length marking
      below = subst (λ count. a < count) (sym (length-run (negotiation_of diagram) (steps_of history) marking leads)) known

      party : is_in a (parties_of diagram entry.step.0) ≡ true → IsLeft (history ++ entry ∷ []) left
      party own =
          let before = left_by diagram a (value_in diagram start a) (journal_of diagram history a) in
          let r = record_of diagram history entry a in
          let push : left_by diagram a (value_in diagram start a) (journal_of diagram (history ++ entry ∷ []) a) ≡ recorded diagram before r =
          ap (left_by diagram a (value_in diagram start a)) (journal_of-party diagram a history entry own) ∙ left_by-push diagram a (value_in diagram start a) (journal_of diagram history a) r in
          let id : before.id ≡ a = (left_by-same diagram (beginning diagram a (value_in diagram start a)) (journal_of diagram history a)).0 in
          record {
            at = ap (λ g. g.at) push ∙ (ap (λ o. slice_get (nexts_of diagram o before.id) 0) (outcome-record diagram history entry a)
                ∙ (ap (λ b. slice_get (nexts_of diagram entry.step.1 b) 0) id ∙ ap (λ xs. slice_get xs 0) (sym (ready-after_party (negotiation_of diagram) marking left entry.step a below occurs own))));
            value = ap (λ g. g.value) push ∙ (ap (λ b. value_after b r) id ∙ (value_after-record diagram history entry a own ∙ ap (λ j. value_in diagram j a) (sym (joint_after-append start history (entry ∷ [])))));
          }

      other : ¬ (is_in a (parties_of diagram entry.step.0) ≡ true) → IsLeft (history ++ entry ∷ []) left
      other absent =
          let same = journal_of-other diagram a history entry (false_from (is_in a (parties_of diagram entry.step.0)) absent) in
          let related = related_parts (By (relation_of diagram)) start history (entry ∷ []) h.related in
          let acts = ok.local entry.step.0 entry.step.1 (after-outcome (negotiation_of diagram) marking entry.step left occurs) in
          let before = joint_after-below (negotiation_of diagram) diagram.sizes (By (relation_of diagram)) ok.local history start (opening_marking (negotiation_of diagram)) marking inside leads related.0 in
          let kept = acts.changes (joint_after start history) entry.joint before related.1.0 a (subst (λ count. a < count) (sym ok.sized) known) absent in
          record {
            at = ap (λ xs. (left_by diagram a (value_in diagram start a) xs).at) same ∙ (was.at ∙ ap (λ xs. slice_get xs 0) (sym (ready-after_other (negotiation_of diagram) marking left entry.step a below occurs absent)));
            value = ap (λ xs. (left_by diagram a (value_in diagram start a) xs).value) same ∙ (was.value ∙ (kept ∙ ap (λ j. value_in diagram j a) (sym (joint_after-append start history (entry ∷ [])))));
          }

  -- what a history leaves of the agent
  pub left-more : (before rest : List Entry) (middle : PlainMarking) → IsHistoryOf diagram start (before ++ rest) → leaves (negotiation_of diagram) (opening_marking (negotiation_of diagram)) (steps_of before) ≡ Some middle → IsLeft before middle →
      (marking : PlainMarking) × (leaves (negotiation_of diagram) (opening_marking (negotiation_of diagram)) (steps_of (before ++ rest)) ≡ Some marking) × IsLeft (before ++ rest) marking
  left-more before [] middle h leads was =
      (middle, subst (λ es. leaves (negotiation_of diagram) (opening_marking (negotiation_of diagram)) (steps_of es) ≡ Some middle) (sym (append-nil before)) leads, subst (λ es. IsLeft es middle) (sym (append-nil before)) was)
  left-more before (entry ∷ rest) middle h leads was =
      let nego = negotiation_of diagram in
      let same = append_assoc before (entry ∷ []) rest in
      let all = subst (λ es. IsHistoryOf diagram start es) (sym same) h in
      let front = History-front nego (By (relation_of diagram)) start (before ++ entry ∷ []) rest all in
      let next = history_leaves nego (By (relation_of diagram)) start (before ++ entry ∷ []) front in
      let between = leaves_before nego (opening_marking nego) (steps_of before) entry.step next.0 (ap (leaves nego (opening_marking nego)) (sym (steps_of-append before (entry ∷ []))) ∙ next.1) in
      let same_middle : between.0 ≡ middle = same_Some between.0 middle (sym between.1 ∙ leads) in
      let occurs = subst (λ m. after nego m entry.step ≡ Some next.0) same_middle between.2 in
      let later = left-more (before ++ entry ∷ []) rest next.0 all next.1 (left-then before entry middle next.0 front leads occurs was) in
      (later.0, subst (λ es. leaves nego (opening_marking nego) (steps_of es) ≡ Some later.0) same later.1, subst (λ es. IsLeft es later.0) same later.2)

  -- a history leaves a marking, and the agent with its atom there and its value in the data
  pub left-history : (history : List Entry) → IsHistoryOf diagram start history → (marking : PlainMarking) × (leaves (negotiation_of diagram) (opening_marking (negotiation_of diagram)) (steps_of history) ≡ Some marking) × IsLeft history marking
  left-history history h = left-more [] history (opening_marking (negotiation_of diagram)) h refl left-none
