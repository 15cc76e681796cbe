-- Where the sender of a Ready stands on which its receiver hasn't decided.
use Rattle.std.proofs.Common.{◌≡◌, ⊎_elim, ℕ, ◌<◌, ◌≤◌, ◌||◌, true, false, List, [], ◌∷◌, ◌++◌, length, map, take, cond, nat_le, slice_get, Some, IsTrue, sym, ap, subst, ◌∙◌, append_assoc, arith, eq-eqb, le-leb}
use Rattle.std.proofs.lemmas.Bool.{false≢true, cases_lt}
use Rattle.std.proofs.lemmas.Option.{same_Some}
use Rattle.std.proofs.lemmas.List.{length-replicate}
use Rattle.std.proofs.lemmas.List.Folds.{list_any-append}
use Rattle.std.proofs.Math.Bool.{or-true}
use Rattle.std.specs.Option.{option_map_or}
use Rattle.std.specs.List.{list_any}
use Rattle.nego_base.specs.Members.{is_in}
use Rattle.nego_base.proofs.Members.{some_member}
use Rattle.nego_data.specs.Data.{data_count}
use Rattle.nego_model.specs.Negotiation.{IsDeterministic}
use Rattle.nego_model.specs.Occurring.{ready, leaves, opening_marking}
use Rattle.nego_model.specs.Joining.{Entry, By, steps_of}
use Rattle.nego_model.specs.Diagram.{PlainDiagram, IsDiagram, negotiation_of, relation_of, parties_of, leader_of}
use Rattle.nego_model.proofs.occurrence.Steps.{after-some, leaves_before}
use Rattle.nego_model.proofs.occurrence.Markings.{enables-atom, enables-party}
use Rattle.nego_model.proofs.occurrence.Proper.{leaves-single, opening-single}
use Rattle.nego_model.proofs.occurrence.Histories.{steps_of-append, history_leaves, History-front}
use Rattle.nego_model.proofs.diagrams.Readers.{first_member}
use Rattle.agent_msg.specs.Records.{Share, Moved, Decided}
use Rattle.agent_msg.specs.Records as journal
use Rattle.agent_core.specs.Agents.{left_by}
use Rattle.agent_core.specs.Acts.{has_visit}
use Rattle.agent_core.specs.Deciding.{value_in}
use Rattle.agent_core.specs.Agreement.{visits, share_in, record_of, records_behind, journal_of, Agrees, IsHistoryOf}
use Rattle.agent_core.proofs.Open.{index-member, length_from_member}
use Rattle.nego_world.proofs.Journals.{records_behind-append, length-records}
use Rattle.nego_world.proofs.Left.{left-history, share_in-party}
use Rattle.nego_world.proofs.Places.{OwnAt, own_at}
use Rattle.nego_world.proofs.Prefixes.{take-agreed, any-agreed, whole}

-- the leader of an atom is one of its parties
pub leader-party : (diagram : PlainDiagram) (n : ℕ) → IsDiagram diagram → IsTrue (is_in n (negotiation_of diagram).atoms) → IsTrue (is_in (leader_of diagram n) (parties_of diagram n))
leader-party diagram n ok atom =
    let some = some_member (parties_of diagram n) (ok.form.some_party n atom) in
    index-member (parties_of diagram n) 0 (length_from_member some.0 (parties_of diagram n) some.1)

-- the leader's record of an entry is a decision with each party's visit
pub leader-visit : (diagram : PlainDiagram) (before : List Entry) (entry : Entry) (l p v : ℕ) → leader_of diagram entry.step.0 ≡ l → is_in p (parties_of diagram entry.step.0) ≡ true → visits diagram p before ≡ v →
    has_visit p (nat_le v) (record_of diagram before entry l) ≡ true
leader-visit diagram before entry l p v leads party count =
    ap (λ b. has_visit p (nat_le v) (cond b (Decided entry.step.0 entry.step.1 (map (share_in diagram before entry) (parties_of diagram entry.step.0))) (Moved entry.step.0 entry.step.1 (value_in diagram entry.joint l)))) (eq-eqb (leader_of diagram entry.step.0) l leads)
    ∙ (ap (λ o. option_map_or (λ s. nat_le v s.visit) o false) (share_in-party diagram before entry p (parties_of diagram entry.step.0) party) ∙ le-leb v (visits diagram p before) (omega (arith, count)))

module _ (diagram : PlainDiagram) (ok : IsDiagram diagram) (single : IsDeterministic (negotiation_of diagram)) (start : ℕ) (inside : start < data_count diagram.sizes) where
  -- an agent that took part in an entry was at its atom before it
  pub was-at : (front rest : List Entry) (entry : Entry) (p n : ℕ) → p < length diagram.agents → IsHistoryOf diagram start (front ++ entry ∷ rest) → is_in p (parties_of diagram entry.step.0) ≡ true →
      (left_by diagram p (value_in diagram start p) (journal_of diagram front p)).at ≡ Some n → (entry.step.0 ≡ n) × IsTrue (is_in entry.step.0 (negotiation_of diagram).atoms)
  was-at front rest entry p n known h party at =
      let nego = negotiation_of diagram in
      let all = subst (λ es. IsHistoryOf diagram start es) (sym (append_assoc front (entry ∷ []) rest)) h in
      let more = History-front nego (By (relation_of diagram)) start (front ++ entry ∷ []) rest all in
      let next = history_leaves nego (By (relation_of diagram)) start (front ++ entry ∷ []) more in
      let between = leaves_before nego (opening_marking nego) (steps_of front) entry.step next.0 (ap (leaves nego (opening_marking nego)) (sym (steps_of-append front (entry ∷ []))) ∙ next.1) in
      let left = left-history diagram ok start inside p known front (History-front nego (By (relation_of diagram)) start front (entry ∷ []) more) in
      let same : left.0 ≡ between.0 = same_Some left.0 between.0 (sym left.1 ∙ between.1) in
      let ready_for : slice_get (ready between.0 p) 0 ≡ Some n = subst (λ m. slice_get (ready m p) 0 ≡ Some n) same (sym left.2.at ∙ at) in
      let enabled = (after-some nego between.0 entry.step next.0 between.2).0 in
      let one = leaves-single nego single (opening_marking nego) between.0 (steps_of front) (length-replicate (length diagram.agents) (diagram.first ∷ [])) (opening-single nego) between.1 in
      (one p entry.step.0 n known (enables-party nego between.0 entry.step.0 p enabled party) (first_member (ready between.0 p) n ready_for), enables-atom nego between.0 entry.step.0 enabled)

  -- A Ready with a visit that its receiver hasn't decided on, nor a later one: its sender has all records that the history
  -- gives it, and as many as the visit.
  pub stands : (history : List Entry) (records others : List journal.PlainRecord) (p l n v : ℕ) → p < length diagram.agents → IsHistoryOf diagram start history → Agrees diagram history p records → Agrees diagram history l others → v ≤ length records →
      (left_by diagram p (value_in diagram start p) (take v records)).at ≡ Some n → leader_of diagram n ≡ l → list_any (has_visit p (nat_le v)) others ≡ false → (records ≡ journal_of diagram history p) × (v ≡ length records)
  stands history records others p l n v known h agrees agrees_l le at leads undecided =
      ⊎_elim (λ below. absurd (passed (own_at diagram p v history below))) as_many (cases_lt v (visits diagram p history))
    where
      as_many : visits diagram p history ≤ v → (records ≡ journal_of diagram history p) × (v ≡ length records)
      as_many short =
          let count = length-records diagram p [] history in
          let all = whole diagram p history records agrees (omega (arith, short, le, count)) in
          (all, omega (arith, le, short, count, ap length all))

      passed : OwnAt diagram p v history → ⊥
      passed o =
          let h' = subst (λ es. IsHistoryOf diagram start es) o.there h in
          let le' : visits diagram p o.front ≤ length records = omega (arith, o.count, le) in
          let front = ap (λ u. take u records) (sym o.count) ∙ take-agreed diagram p o.front (o.entry ∷ o.rest) records (subst (λ es. Agrees diagram es p records) o.there agrees) le' in
          let here = was-at o.front o.rest o.entry p n known h' o.party (ap (λ rs. (left_by diagram p (value_in diagram start p) rs).at) (sym front) ∙ at) in
          let led : leader_of diagram o.entry.step.0 ≡ l = ap (leader_of diagram) here.0 ∙ leads in
          let party : is_in l (parties_of diagram o.entry.step.0) ≡ true = subst (λ a. is_in a (parties_of diagram o.entry.step.0) ≡ true) led (leader-party diagram o.entry.step.0 ok here.1) in
          let record_there = record_of diagram o.front o.entry l in
          let later = records_behind diagram l (o.front ++ o.entry ∷ []) o.rest in
          let gives : journal_of diagram history l ≡ journal_of diagram o.front l ++ record_there ∷ later =
          ap (λ es. journal_of diagram es l) o.there
          ∙ (records_behind-append diagram l [] o.front (o.entry ∷ o.rest) ∙ ap (λ b. journal_of diagram o.front l ++ cond b (record_there ∷ later) later) party) in
          let any : list_any (has_visit p (nat_le v)) (journal_of diagram history l) ≡ true =
          ap (list_any (has_visit p (nat_le v))) gives
          ∙ (list_any-append (has_visit p (nat_le v)) (journal_of diagram o.front l) (record_there ∷ later)
          ∙ (ap (λ b. list_any (has_visit p (nat_le v)) (journal_of diagram o.front l) || (b || list_any (has_visit p (nat_le v)) later)) (leader-visit diagram o.front o.entry l p v led o.party o.count) ∙ or-true (list_any (has_visit p (nat_le v)) (journal_of diagram o.front l)))) in
          false≢true (sym undecided ∙ (sym (any-agreed diagram l history others p (nat_le v) agrees_l) ∙ any))
