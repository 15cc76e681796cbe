-- The calls that put a record on a disk.
use Rattle.std.proofs.Common.{◌≡◌, ℕ, ◌+◌, ◌*◌, ◌<◌, ◌≤◌, IsTrue, inl, List, [], ◌∷◌, ◌++◌, length, sym, ◌∙◌, ap, subst, length-append}
use Rattle.nego_io.specs.Disks.{ToldDisks, LeavesOnly, AreCallsOn, HasContent, IsSynced, overwritten, Torn}
use Rattle.agent_msg.specs.Records.{PlainRecord}
use Rattle.agent_msg.specs.Bytes.{entry_bytes}
use Rattle.agent_journal.specs.Slots.{kept, IsClosed}
use Rattle.agent_journal.specs.Journal.{IsSettled, KeepsOrAdds}
use Rattle.agent_journal.proofs.FileLaws.{IsWhole, gated, overwritten-both}
use Rattle.std.proofs.lemmas.Option.{slice_get_within}
use Rattle.agent_journal.proofs.PutLaws.{IsOpenEnded, open-ended, put-first, put-written, put_back, put-second, put-opened, put-kept, put-closed, put-place}

-- the file with the record behind its gate
abbrev pub with_gate : ℕ → List ℕ → ℕ → PlainRecord → List ℕ
with_gate gate file count e = gated (kept file) gate (entry_bytes e) (put_back file count (entry_bytes e))

module _ (a b : ToldDisks) (i count : ℕ) (e : PlainRecord) (calls : AreCallsOn i a b) (settled : IsSettled a i count) where
  ready : IsTrue b.telling → IsOpenEnded (a.content i) count
  ready told = open-ended (a.content i) count (settled.all (calls.told told)) (settled.closed (calls.told told))

  pub images-record : (slot : List ℕ) (at : ℕ) → at ≡ 128 * count + 1 → LeavesOnly (Torn at (length slot) (a.content i)) i a b → LeavesOnly (KeepsOrAdds (kept (a.content i)) e) i a b
  images-record slot at is torn told t image since left =
      inl (put-first (a.content i) count (length slot) image (ready told) (subst (λ (n : ℕ). Torn n (length slot) (a.content i) image) is (torn told t image since left)))

  pub content-record : (slot : List ℕ) (at : ℕ) → IsWhole (entry_bytes e) → at ≡ 128 * count + 1 → slot ≡ entry_bytes e ++ 0 ∷ [] → HasContent b i (overwritten at slot (a.content i)) → HasContent b i (with_gate 0 (a.content i) count e)
  content-record slot at whole is spelled has told =
      has told
      ∙ (ap (λ (n : ℕ). overwritten n slot (a.content i)) is
      ∙ (ap (λ (xs : List ℕ). overwritten (128 * count + 1) xs (a.content i)) spelled ∙ put-written (a.content i) count (entry_bytes e) (ready told) whole))

  pub place-gate-now : HasContent b i (with_gate 0 (a.content i) count e) → (at : ℕ) → at ≡ 128 * count → IsTrue b.telling → at ≤ length (b.content i)
  place-gate-now has at is told =
      subst (λ (n : ℕ). n ≤ length (b.content i)) (sym is)
      (subst (λ (xs : List ℕ). 128 * count ≤ length xs) (sym (has told)) (put-place (a.content i) count (entry_bytes e) (ready told)))

  pub content-both : (slot : List ℕ) → slot ≡ entry_bytes e ++ 0 ∷ [] → (at : ℕ) → at ≡ 128 * count + 1 → HasContent b i (overwritten at slot (a.content i)) →
      (c : ToldDisks) → AreCallsOn i b c → (gate : ℕ) → gate ≡ 128 * count → HasContent c i (overwritten gate (1 ∷ []) (b.content i)) → HasContent c i (overwritten (128 * count) (1 ∷ (entry_bytes e ++ 0 ∷ [])) (a.content i))
  content-both slot spelled at is first c more gate gate_is second told =
      let there = slice_get_within (a.content i) (128 * count) 0 (settled.closed (calls.told (more.told told))) in
      let was : b.content i ≡ overwritten (128 * count + 1) (entry_bytes e ++ 0 ∷ []) (a.content i) =
      first (more.told told) ∙ (ap (λ (n : ℕ). overwritten n slot (a.content i)) is ∙ ap (λ (xs : List ℕ). overwritten (128 * count + 1) xs (a.content i)) spelled) in
      second told
      ∙ (ap (λ (n : ℕ). overwritten n (1 ∷ []) (b.content i)) gate_is
      ∙ (ap (λ (xs : List ℕ). overwritten (128 * count) (1 ∷ []) xs) was ∙ overwritten-both (128 * count) 1 (entry_bytes e ++ 0 ∷ []) (a.content i) there))

  module _ (c : ToldDisks) (more : AreCallsOn i b c) (whole : IsWhole (entry_bytes e)) (few : count < 10000) (at : ℕ) (is : at ≡ 128 * count) (has : HasContent b i (with_gate 0 (a.content i) count e)) where
    pub images-gate : LeavesOnly (Torn at 1 (b.content i)) i b c → LeavesOnly (KeepsOrAdds (kept (a.content i)) e) i b c
    images-gate torn told t image since left =
        let told_b = more.told told in
        put-second (a.content i) count (entry_bytes e) image (ready told_b) whole few
        (subst (λ (xs : List ℕ). Torn (128 * count) 1 xs image) (has told_b) (subst (λ (n : ℕ). Torn n 1 (b.content i) image) is (torn told t image since left)))

    pub content-gate : HasContent c i (overwritten at (1 ∷ []) (b.content i)) → HasContent c i (with_gate 1 (a.content i) count e)
    content-gate now told =
        let told_b = more.told told in
        now told
        ∙ (ap (λ (n : ℕ). overwritten n (1 ∷ []) (b.content i)) is
        ∙ (ap (λ (xs : List ℕ). overwritten (128 * count) (1 ∷ []) xs) (has told_b) ∙ put-opened (a.content i) count (entry_bytes e) (ready told_b)))

    pub settled-gate : HasContent c i (overwritten at (1 ∷ []) (b.content i)) → IsSynced c i → IsSettled c i (count + 1)
    settled-gate now synced = record {
      synced = synced;
      all = λ told.
          ap (λ (file : List ℕ). length (kept file)) (content-gate now told)
          ∙ (ap (λ (rs : List (List ℕ)). length rs) (put-kept (a.content i) count (entry_bytes e) (ready (more.told told)) whole few)
          ∙ (length-append (kept (a.content i)) (entry_bytes e ∷ []) ∙ ap (λ (n : ℕ). n + 1) (settled.all (calls.told (more.told told)))));
      closed = λ told.
          subst (λ (file : List ℕ). IsClosed (count + 1) file) (sym (content-gate now told))
          (put-closed (a.content i) count (entry_bytes e) (ready (more.told told)) whole few);
    }

    pub added-gate : HasContent c i (overwritten at (1 ∷ []) (b.content i)) → IsTrue c.telling → kept (c.content i) ≡ kept (a.content i) ++ entry_bytes e ∷ []
    added-gate now told =
        ap (λ (file : List ℕ). kept file) (content-gate now told) ∙ put-kept (a.content i) count (entry_bytes e) (ready (more.told told)) whole few
