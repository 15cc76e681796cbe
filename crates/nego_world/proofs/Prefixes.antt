-- A journal that agrees with a history begins the one that the history gives.
use Rattle.std.proofs.Common.{◌≡◌, ⊎_elim, ℕ, ◌≤◌, ◌||◌, Bool, false, List, [], ◌∷◌, ◌++◌, length, take, refl, sym, ap, ◌∙◌, append-nil, arith, length-append}
use Rattle.std.proofs.lemmas.List.{take-append-le}
use Rattle.std.proofs.lemmas.List.Folds.{list_any-append}
use Rattle.std.proofs.Math.Seq.{take-append_seam}
use Rattle.std.proofs.Math.Bool.{or-false}
use Rattle.std.specs.List.{list_any}
use Rattle.nego_model.specs.Joining.{Entry}
use Rattle.nego_model.specs.Diagram.{PlainDiagram}
use Rattle.agent_msg.specs.Records.{Moved}
use Rattle.agent_msg.specs.Records as journal
use Rattle.agent_core.specs.Acts.{has_visit}
use Rattle.agent_core.specs.Agreement.{visits, records_behind, journal_of, Agrees}
use Rattle.nego_world.proofs.Journals.{records_behind-append, length-records}

-- What a journal lacks: nothing, or one move.
pub record Lacks (diagram : PlainDiagram) (history : List Entry) (a : ℕ) (records : List journal.PlainRecord) : Type 0 where
  pub tail : List journal.PlainRecord
  pub all : records ++ tail ≡ journal_of diagram history a
  pub moves : (p : ℕ) (test : ℕ → Bool) → list_any (has_visit p test) tail ≡ false
  pub short : length tail ≤ 1

pub lacks : (diagram : PlainDiagram) (history : List Entry) (a : ℕ) (records : List journal.PlainRecord) → Agrees diagram history a records → Lacks diagram history a records
lacks diagram history a records h =
    ⊎_elim
    (λ same. record { tail = []; all = append-nil records ∙ same; moves = λ p test. refl; short = omega arith })
    (λ more. record { tail = Moved more.0 more.1 more.2 ∷ []; all = more.3; moves = λ p test. refl; short = omega arith })
    h

module _ (diagram : PlainDiagram) (a : ℕ) where
  -- the first records of a history's journal are those of its first entries
  pub take-journal : (front rest : List Entry) → take (visits diagram a front) (journal_of diagram (front ++ rest) a) ≡ journal_of diagram front a
  take-journal front rest =
      ap (take (visits diagram a front)) (records_behind-append diagram a [] front rest)
      ∙ (ap (λ n. take n (journal_of diagram front a ++ records_behind diagram a front rest)) (sym (length-records diagram a [] front)) ∙ take-append_seam (journal_of diagram front a) (records_behind diagram a front rest))

  -- and those of a journal that agrees
  pub take-agreed : (front rest : List Entry) (records : List journal.PlainRecord) → Agrees diagram (front ++ rest) a records → visits diagram a front ≤ length records → take (visits diagram a front) records ≡ journal_of diagram front a
  take-agreed front rest records h le =
      let l = lacks diagram (front ++ rest) a records h in
      sym (take-append-le (visits diagram a front) records l.tail le) ∙ (ap (take (visits diagram a front)) l.all ∙ take-journal front rest)

  -- no decision of a journal that agrees has a visit that none of the history's has
  pub any-agreed : (history : List Entry) (records : List journal.PlainRecord) (p : ℕ) (test : ℕ → Bool) → Agrees diagram history a records → list_any (has_visit p test) (journal_of diagram history a) ≡ list_any (has_visit p test) records
  any-agreed history records p test h =
      let l = lacks diagram history a records h in
      ap (list_any (has_visit p test)) (sym l.all) ∙ (list_any-append (has_visit p test) records l.tail ∙ (ap (λ b. list_any (has_visit p test) records || b) (l.moves p test) ∙ or-false (list_any (has_visit p test) records)))

  -- a journal as long as the history's is the history's
  pub whole : (history : List Entry) (records : List journal.PlainRecord) → Agrees diagram history a records → length (journal_of diagram history a) ≤ length records → records ≡ journal_of diagram history a
  whole history records h le =
      let l = lacks diagram history a records h in
      none l.tail l.all (omega (arith, le, ap length l.all, length-append records l.tail))
    where
      none : (tail : List journal.PlainRecord) → records ++ tail ≡ journal_of diagram history a → length tail ≡ 0 → records ≡ journal_of diagram history a
      none [] e h = sym (append-nil records) ∙ e
      none (r ∷ rs) e h = absurd (omega (arith, h))
