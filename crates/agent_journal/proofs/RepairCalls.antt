-- The calls that repair the end of a journal.
use Rattle.std.proofs.Common.{◌≡◌, ℕ, ◌+◌, ◌*◌, ◌≤◌, IsTrue, List, [], ◌∷◌, ◌++◌, length, take, sym, ◌∙◌, ap, subst, arith, length-take, slice_get, Some}
use Rattle.std.proofs.lemmas.List.{take-take}
use Rattle.nego_io.specs.Disks.{ToldDisks, LeavesOnly, AreCallsOn, HasContent, IsSynced, overwritten, Torn, Ragged}
use Rattle.agent_journal.specs.Slots.{kept, Closes}
use Rattle.agent_journal.specs.Journal.{IsSettled, KeepsAll}
use Rattle.agent_journal.proofs.FileLaws.{parts, ragged-keeps, torn-short, length-file, closed-end}

many : (file : List ℕ) (count : ℕ) → length (kept file) ≡ count → count ≡ length (parts 10000 file).recs
many file count all = sym all ∙ ap (λ (rs : List (List ℕ)). length rs) (parts 10000 file).are

-- what is cut off doesn't count
pub cut-keeps : (file : List ℕ) (count : ℕ) (image : List ℕ) → length (kept file) ≡ count → Ragged (128 * count + 1) file image → kept image ≡ kept file
cut-keeps file count image all ragged =
    ragged-keeps 10000 file (parts 10000 file) image (subst (λ (k : ℕ). Ragged (128 * k + 1) file image) (many file count all) ragged)

pub taken-keeps : (file : List ℕ) (count : ℕ) → length (kept file) ≡ count → kept (take (128 * count + 1) file) ≡ kept file
taken-keeps file count all =
    cut-keeps file count (take (128 * count + 1) file) all
    (record { front = take-take (128 * count + 1) (128 * count + 1) file (omega arith); no_longer = omega (arith, length-take (128 * count + 1) file) })

-- so many slots are there
pub slots-there : (file : List ℕ) (count : ℕ) → length (kept file) ≡ count → 128 * count ≤ length file
slots-there file count all = let n = length-file 10000 file (parts 10000 file) in let m = many file count all in omega (arith, n, m)

-- and the gate behind them may be written
pub close-keeps : (file : List ℕ) (count : ℕ) (image : List ℕ) → length (kept file) ≡ count → length file ≤ 128 * count + 1 → Torn (128 * count) 1 file image → kept image ≡ kept file
close-keeps file count image all short torn =
    torn-short 10000 file (parts 10000 file) image
    (subst (λ (k : ℕ). length file ≤ 128 * k + 1) (many file count all) short)
    (subst (λ (k : ℕ). Torn (128 * k) 1 file image) (many file count all) torn)

module _ (a b : ToldDisks) (i count : ℕ) (calls : AreCallsOn i a b) (all : IsTrue a.telling → length (kept (a.content i)) ≡ count) where
  pub images-cut : (at : ℕ) → at ≡ 128 * count + 1 → LeavesOnly (Ragged at (a.content i)) i a b → LeavesOnly (KeepsAll (kept (a.content i))) i a b
  images-cut at is ragged told t image since left =
      cut-keeps (a.content i) count image (all (calls.told told)) (subst (λ (n : ℕ). Ragged n (a.content i) image) is (ragged told t image since left))

  module _ (at : ℕ) (is : at ≡ 128 * count + 1) (has : HasContent b i (take at (a.content i))) where
    content-cut : IsTrue b.telling → b.content i ≡ take (128 * count + 1) (a.content i)
    content-cut told = has told ∙ ap (λ (n : ℕ). take n (a.content i)) is

    pub kept-cut : IsTrue b.telling → kept (b.content i) ≡ kept (a.content i)
    kept-cut told = ap (λ (file : List ℕ). kept file) (content-cut told) ∙ taken-keeps (a.content i) count (all (calls.told told))

    pub all-cut : IsTrue b.telling → length (kept (b.content i)) ≡ count
    all-cut told = ap (λ (rs : List (List ℕ)). length rs) (kept-cut told) ∙ all (calls.told told)

    short-cut : IsTrue b.telling → length (b.content i) ≤ 128 * count + 1
    short-cut told = let n = ap (λ (xs : List ℕ). length xs) (content-cut told) in omega (arith, n, length-take (128 * count + 1) (a.content i))

    pub place-cut : (gate : ℕ) → gate ≡ 128 * count → IsTrue b.telling → gate ≤ length (b.content i)
    place-cut gate gate_is told = let there = slots-there (b.content i) count (all-cut told) in omega (arith, there, gate_is)

    module _ (c : ToldDisks) (more : AreCallsOn i b c) (gate : ℕ) (gate_is : gate ≡ 128 * count) where
      torn-kept : IsTrue b.telling → (image : List ℕ) → Torn gate 1 (b.content i) image → kept image ≡ kept (a.content i)
      torn-kept told image torn =
          close-keeps (b.content i) count image (all-cut told) (short-cut told) (subst (λ (n : ℕ). Torn n 1 (b.content i) image) gate_is torn) ∙ kept-cut told

      pub images-close : LeavesOnly (Torn gate 1 (b.content i)) i b c → LeavesOnly (KeepsAll (kept (a.content i))) i b c
      images-close torn told t image since left = torn-kept (more.told told) image (torn told t image since left)

      pub kept-close : (IsTrue c.telling → Closes gate (b.content i) (c.content i)) → IsTrue c.telling → kept (c.content i) ≡ kept (a.content i)
      kept-close closes told = torn-kept (more.told told) (c.content i) (closes told).torn

      pub settled-close : (IsTrue c.telling → Closes gate (b.content i) (c.content i)) → IsSynced c i → IsSettled c i count
      settled-close closes synced = record {
        synced = synced;
        all = λ told. ap (λ (rs : List (List ℕ)). length rs) (kept-close closes told) ∙ all (calls.told (more.told told));
        closed = λ told. subst (λ (n : ℕ). slice_get (c.content i) n ≡ Some 0) gate_is (closes told).closed;
      }

      pub content-close : HasContent c i (overwritten gate (0 ∷ []) (b.content i)) → HasContent c i (take (128 * count) (a.content i) ++ 0 ∷ [])
      content-close now told =
          now told
          ∙ (ap (λ (n : ℕ). overwritten n (0 ∷ []) (b.content i)) gate_is
          ∙ (ap (λ (xs : List ℕ). overwritten (128 * count) (0 ∷ []) xs) (content-cut (more.told told)) ∙ closed-end (128 * count) (a.content i)))
