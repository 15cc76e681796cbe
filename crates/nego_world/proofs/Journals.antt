-- The journals that a history gives to agents.
use Rattle.std.proofs.Common.{◌≡◌, ℕ, suc, true, false, List, [], ◌∷◌, ◌++◌, length, cond, refl, sym, ap, ◌∙◌, append-nil, append_assoc}
use Rattle.std.proofs.lemmas.Bool.{cond-true, cond-false}
use Rattle.nego_base.specs.Members.{is_in}
use Rattle.nego_model.specs.Joining.{Entry}
use Rattle.nego_model.specs.Projection.{own_entries}
use Rattle.nego_model.specs.Diagram.{PlainDiagram, negotiation_of, parties_of}
use Rattle.agent_msg.specs.Records as journal
use Rattle.agent_core.specs.Agreement.{visits, record_of, records_behind, journal_of}

module _ (diagram : PlainDiagram) (a : ℕ) where
  -- the record that the agent makes of an entry behind others, if it takes part
  abbrev one_record : List Entry → Entry → List journal.PlainRecord
  one_record before entry = cond (is_in a (parties_of diagram entry.step.0)) (record_of diagram before entry a ∷ []) []

  -- the records of entries and one more
  pub records_behind-push : (before entries : List Entry) (entry : Entry) → records_behind diagram a before (entries ++ entry ∷ []) ≡ records_behind diagram a before entries ++ one_record (before ++ entries) entry
  records_behind-push before [] entry = sym (ap (λ front. one_record front entry) (append-nil before))
  records_behind-push before (e ∷ es) entry =
      let later = records_behind-push (before ++ e ∷ []) es entry ∙ ap (λ front. records_behind diagram a (before ++ e ∷ []) es ++ one_record front entry) (append_assoc before (e ∷ []) es) in
      elim (is_in a (parties_of diagram e.step.0)) as (λ b.
      cond b (record_of diagram before e a ∷ records_behind diagram a (before ++ e ∷ []) (es ++ entry ∷ [])) (records_behind diagram a (before ++ e ∷ []) (es ++ entry ∷ []))
      ≡ cond b (record_of diagram before e a ∷ records_behind diagram a (before ++ e ∷ []) es) (records_behind diagram a (before ++ e ∷ []) es) ++ one_record (before ++ e ∷ es) entry)
      [ true ↦ ap (λ rs. record_of diagram before e a ∷ rs) later | false ↦ later ]

  -- a party's journal has one record more after an entry
  pub journal_of-party : (history : List Entry) (entry : Entry) → is_in a (parties_of diagram entry.step.0) ≡ true → journal_of diagram (history ++ entry ∷ []) a ≡ journal_of diagram history a ++ record_of diagram history entry a ∷ []
  journal_of-party history entry party =
      records_behind-push [] history entry ∙ ap (λ rs. journal_of diagram history a ++ rs) (cond-true (is_in a (parties_of diagram entry.step.0)) (record_of diagram history entry a ∷ []) [] party)

  -- another's stays
  pub journal_of-other : (history : List Entry) (entry : Entry) → is_in a (parties_of diagram entry.step.0) ≡ false → journal_of diagram (history ++ entry ∷ []) a ≡ journal_of diagram history a
  journal_of-other history entry other =
      records_behind-push [] history entry
      ∙ (ap (λ rs. journal_of diagram history a ++ rs) (cond-false (is_in a (parties_of diagram entry.step.0)) (record_of diagram history entry a ∷ []) [] other) ∙ append-nil (journal_of diagram history a))

  -- it has as many records as entries in which the agent takes part
  pub length-records : (before entries : List Entry) → length (records_behind diagram a before entries) ≡ visits diagram a entries
  length-records before [] = refl
  length-records before (e ∷ es) =
      elim (is_in a (parties_of diagram e.step.0)) as (λ b.
      length (cond b (record_of diagram before e a ∷ records_behind diagram a (before ++ e ∷ []) es) (records_behind diagram a (before ++ e ∷ []) es)) ≡ length (cond b (e ∷ own_entries (negotiation_of diagram) a es) (own_entries (negotiation_of diagram) a es)))
      [ true ↦ ap suc (length-records (before ++ e ∷ []) es) | false ↦ length-records (before ++ e ∷ []) es ]

  -- the records of entries and then entries
  pub records_behind-append : (before xs ys : List Entry) → records_behind diagram a before (xs ++ ys) ≡ records_behind diagram a before xs ++ records_behind diagram a (before ++ xs) ys
  records_behind-append before [] ys = ap (λ front. records_behind diagram a front ys) (sym (append-nil before))
  records_behind-append before (e ∷ es) ys =
      let later = records_behind-append (before ++ e ∷ []) es ys ∙ ap (λ front. records_behind diagram a (before ++ e ∷ []) es ++ records_behind diagram a front ys) (append_assoc before (e ∷ []) es) in
      elim (is_in a (parties_of diagram e.step.0)) as (λ b.
      cond b (record_of diagram before e a ∷ records_behind diagram a (before ++ e ∷ []) (es ++ ys)) (records_behind diagram a (before ++ e ∷ []) (es ++ ys))
      ≡ cond b (record_of diagram before e a ∷ records_behind diagram a (before ++ e ∷ []) es) (records_behind diagram a (before ++ e ∷ []) es) ++ records_behind diagram a (before ++ e ∷ es) ys)
      [ true ↦ ap (λ rs. record_of diagram before e a ∷ rs) later | false ↦ later ]
