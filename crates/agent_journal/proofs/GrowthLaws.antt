-- Images that stand for lists which begin with one go on so while records are appended.
use Rattle.std.proofs.Common.{◌≡◌, ℕ, ◌<◌, ◌≤◌, List, [], ◌∷◌, ◌++◌, inl, inr, ⊎_elim, IsTrue, sym, subst, arith}
use Rattle.std.proofs.lemmas.Bool.{cases_lt}
use Rattle.std.proofs.lemmas.List.{append_assoc}
use Rattle.nego_io.specs.Disks.{ToldDisks, LeavesNow, LeavesOnly, AreCallsOn}
use Rattle.agent_msg.specs.Records.{PlainRecord}
use Rattle.agent_msg.specs.Bytes.{RecordFits}
use Rattle.agent_journal.specs.Slots.{kept, StandsFor}
use Rattle.agent_journal.specs.Journal.{KeepsOrAdds, BeginsWith}
use Rattle.agent_journal.proofs.ListLaws.{stands-same, stands-more}

-- the list of an image that keeps what a file keeps, or that and one more record
stands-behind : (journal more : List PlainRecord) (e : PlainRecord) (file image : List ℕ) → RecordFits e → StandsFor file (journal ++ more) → KeepsOrAdds (kept file) e image →
    (others : List PlainRecord) × StandsFor image (journal ++ others)
stands-behind journal more e file image fits stands keeps =
    ⊎_elim
    (λ same. (more, stands-same image file (journal ++ more) same stands))
    (λ added. (more ++ e ∷ [], subst (StandsFor image) (append_assoc journal more (e ∷ [])) (stands-more image file (journal ++ more) e added fits stands)))
    keeps

pub begins-then : (journal : List PlainRecord) (from i : ℕ) (a b : ToldDisks) (e : PlainRecord) → AreCallsOn i a b → RecordFits e → (IsTrue a.telling → LeavesNow a i (a.content i)) →
    LeavesOnly (KeepsOrAdds (kept (a.content i)) e) i a b → BeginsWith journal from i a → BeginsWith journal from i b
begins-then journal from i a b e calls fits is_left leaves begins told =
    let was = begins (calls.told told) in
    let elapses = calls.elapses told in
    let now = was.1 a.moment (a.content i) was.0 (omega arith) (is_left (calls.told told)) in (
      omega (arith, was.0, elapses.later),
      λ t image after before left.
          elim (cases_lt a.moment t) [
            | inl later ↦ stands-behind journal now.0 e (a.content i) image fits now.1 (leaves told t image (record { from = omega (arith, later); to = before }) left)
            | inr sooner ↦ was.1 t image after sooner ((elapses.past t i image sooner).0 left)
          ],
    )
