-- Records are read of a disk, one after another.
use Rattle.std.proofs.Common.{◌≡◌, ℕ, suc, ◌+◌, ◌-◌, ◌*◌, ◌<◌, ◌≤◌, IsTrue, true, false, List, [], ◌∷◌, ◌++◌, length, map, take, drop, refl, sym, ◌∙◌, ap, subst, arith, All, append_assoc, length-append, Some, None}
use Rattle.std.proofs.lemmas.List.{append-nil, map-append, drop-drop, length-map}
use Rattle.std.proofs.lemmas.List.Elements.{All-nil, All-push}
use Rattle.nego_io.specs.Disks.{ToldDisks, IsRead}
use Rattle.agent_msg.specs.declared.record.Record.{Record}
use Rattle.agent_msg.specs.Records.{PlainRecord, entry, entries, IsTidy}
use Rattle.agent_msg.specs.Bytes.{RecordFits, SpellsRecord, entry_bytes}
use Rattle.agent_journal.specs.Slots.{begins_kept, records_within, kept, StandsFor, IsFirstBad, IsBadFirst, SaysFirst}
use Rattle.agent_journal.specs.Journal.{IsOnlyRead, SlotFails, LoadFails}
use Rattle.agent_journal.specs.declared.fault.JournalFault.{JournalFault}
use Rattle.agent_journal.specs.declared.fault.JournalFault.TheVariants.{DiskFault, Full, BadRecord, MustReload, Memory}
use Rattle.nego_io.proofs.CallLaws.{read-then}
use Rattle.agent_journal.proofs.FileLaws.{within-none, within-some, within-zero}

-- So many records were read of a file; the others are those of what stands behind their slots.
pub record AreRead (file : List ℕ) (k : ℕ) (records : List Record) : Type 0 where
  pub fit : All RecordFits (entries records)
  pub split : kept file ≡ map entry_bytes (entries records) ++ records_within (10000 - k) (drop (128 * k) file)

-- The disk was only read so far with no fault, and where it tells these records were read of it.
pub record IsLoading (i : ℕ) (a b : ToldDisks) (k : ℕ) (records : List Record) : Type 0 where
  pub read : IsRead i a b
  pub stayed : b.faults i ≡ a.faults i
  pub count : length records ≡ k
  pub tidy : All IsTidy records
  pub are : IsTrue b.telling → AreRead (a.content i) k records

pub read-none-yet : (file : List ℕ) → AreRead file 0 []
read-none-yet file = record { fit = All-nil RecordFits; split = refl }

-- one more record
pub read-more : (file : List ℕ) (k : ℕ) (records : List Record) (r : Record) → AreRead file k records → k < 10000 → begins_kept (drop (128 * k) file) ≡ true →
    SpellsRecord (take 127 (drop 1 (drop (128 * k) file))) (entry r) → AreRead file (k + 1) (records ++ r ∷ [])
read-more file k records r are few some spells =
    let rest : List ℕ = drop (128 * k) file in
    let more : 10000 - k ≡ suc (10000 - (k + 1)) = omega (arith, few) in
    let place : drop 128 rest ≡ drop (128 * (k + 1)) file = drop-drop 128 (128 * k) file ∙ (let e : 128 * k + 128 ≡ 128 * (k + 1) = omega arith in ap (λ (n : ℕ). drop n file) e) in
    let split : records_within (10000 - k) rest ≡ entry_bytes (entry r) ∷ records_within (10000 - (k + 1)) (drop (128 * (k + 1)) file) =
    ap (λ (n : ℕ). records_within n rest) more
    ∙ (within-some (10000 - (k + 1)) rest some
    ∙ (ap (λ (x : List ℕ). x ∷ records_within (10000 - (k + 1)) (drop 128 rest)) spells.same
    ∙ ap (λ (xs : List ℕ). entry_bytes (entry r) ∷ records_within (10000 - (k + 1)) xs) place)) in
    let all : entries (records ++ r ∷ []) ≡ entries records ++ entry r ∷ [] = map-append entry records (r ∷ []) in
    record {
      fit = subst (λ (es : List PlainRecord). All RecordFits es) (sym all) (All-push RecordFits (entries records) (entry r) are.fit spells.fits);
      split =
          are.split
          ∙ (ap (λ (xs : List (List ℕ)). map entry_bytes (entries records) ++ xs) split
          ∙ (sym (append_assoc (map entry_bytes (entries records)) (entry_bytes (entry r) ∷ []) (records_within (10000 - (k + 1)) (drop (128 * (k + 1)) file)))
          ∙ ap (λ (xs : List (List ℕ)). xs ++ records_within (10000 - (k + 1)) (drop (128 * (k + 1)) file))
          (sym (ap (λ (es : List PlainRecord). map entry_bytes es) all ∙ map-append entry_bytes (entries records) (entry r ∷ [])))));
    }

-- the first slot that doesn't count ends the records
pub read-ends : (file : List ℕ) (k : ℕ) (records : List Record) → AreRead file k records → records_within (10000 - k) (drop (128 * k) file) ≡ [] → StandsFor file (entries records)
read-ends file k records are none = record {
  fit = are.fit;
  same = are.split ∙ (ap (λ (xs : List (List ℕ)). map entry_bytes (entries records) ++ xs) none ∙ append-nil (map entry_bytes (entries records)));
}

pub read-shut : (file : List ℕ) (k : ℕ) (records : List Record) → AreRead file k records → begins_kept (drop (128 * k) file) ≡ false → StandsFor file (entries records)
read-shut file k records are shut = read-ends file k records are (within-none (10000 - k) (drop (128 * k) file) shut)

pub read-full : (file : List ℕ) (k : ℕ) (records : List Record) → AreRead file k records → 10000 ≤ k → StandsFor file (entries records)
read-full file k records are full =
    read-ends file k records are (let none : 10000 - k ≡ 0 = omega (arith, full) in ap (λ (n : ℕ). records_within n (drop (128 * k) file)) none ∙ within-zero (drop (128 * k) file))

-- a slot that counts and spells none
pub read-bad : (file : List ℕ) (k : ℕ) (records : List Record) → AreRead file k records → length records ≡ k → k < 10000 → begins_kept (drop (128 * k) file) ≡ true →
    ((e : PlainRecord) → SpellsRecord (take 127 (drop 1 (drop (128 * k) file))) e → ⊥) → IsFirstBad file k
read-bad file k records are count few some none =
    let rest : List ℕ = drop (128 * k) file in
    let more : 10000 - k ≡ suc (10000 - (k + 1)) = omega (arith, few) in
    record {
      before = entries records;
      bad = take 127 (drop 1 rest);
      after = records_within (10000 - (k + 1)) (drop 128 rest);
      count = length-map records entry ∙ count;
      split = are.split ∙ ap (λ (xs : List (List ℕ)). map entry_bytes (entries records) ++ xs) (ap (λ (n : ℕ). records_within n rest) more ∙ within-some (10000 - (k + 1)) rest some);
      fit = are.fit;
      none = none;
    }

-- Told of a disk that was read after a call on it.
told-before : (i : ℕ) (a b c : ToldDisks) → IsRead i a b → IsRead i b c → IsTrue c.telling → b.content i ≡ a.content i
told-before i a b c first second told = first.content (second.calls.told told)

module _ (i : ℕ) (a b c : ToldDisks) (k : ℕ) (records : List Record) (loading : IsLoading i a b k records) (read : IsRead i b c) (few : k < 10000) where
  rest-is : IsTrue c.telling → drop (128 * k) (b.content i) ≡ drop (128 * k) (a.content i)
  rest-is told = ap (λ (file : List ℕ). drop (128 * k) file) (told-before i a b c loading.read read told)

  pub loading-more : (r : Record) → c.faults i ≡ b.faults i → (IsTrue c.telling → SaysFirst (drop (128 * k) (b.content i)) (Some r)) → IsTidy r → IsLoading i a c (k + 1) (records ++ r ∷ [])
  loading-more r stayed says tidy = record {
    read = read-then i a b c loading.read read;
    stayed = stayed ∙ loading.stayed;
    count = length-append records (r ∷ []) ∙ ap (λ (n : ℕ). n + 1) loading.count;
    tidy = All-push IsTidy records r loading.tidy tidy;
    are = λ told.
        let said = subst (λ (file : List ℕ). SaysFirst file (Some r)) (rest-is told) (says told) in
        read-more (a.content i) k records r (loading.are (read.calls.told told)) few said.0 said.1;
  }

  pub loading-ends : (IsTrue c.telling → SaysFirst (drop (128 * k) (b.content i)) None) → IsTrue c.telling → StandsFor (a.content i) (entries records)
  loading-ends says told =
      read-shut (a.content i) k records (loading.are (read.calls.told told)) (subst (λ (file : List ℕ). SaysFirst file None) (rest-is told) (says told))

  pub only-read : c.faults i ≡ b.faults i → IsOnlyRead i a c
  only-read stayed = record { read = read-then i a b c loading.read read; stayed = stayed ∙ loading.stayed }

  pub loading-fails : (fault : JournalFault) → SlotFails i k b c fault → LoadFails i a c fault
  loading-fails DiskFault rose = let stayed = loading.stayed in omega (arith, stayed, rose)
  loading-fails Full none = none
  loading-fails (BadRecord j) bad = (
    only-read bad.1.0,
    λ told.
        let first = subst (λ (file : List ℕ). IsBadFirst file) (rest-is told) (bad.1.1 told) in
        subst (λ (n : ℕ). IsFirstBad (a.content i) n) (sym bad.0)
        (read-bad (a.content i) k records (loading.are (read.calls.told told)) loading.count few first.counts first.none),
  )
  loading-fails MustReload none = none
  loading-fails Memory none = absurd none

pub loading-full : (i : ℕ) (a b : ToldDisks) (k : ℕ) (records : List Record) → IsLoading i a b k records → 10000 ≤ k → IsTrue b.telling → StandsFor (a.content i) (entries records)
loading-full i a b k records loading full told = read-full (a.content i) k records (loading.are told) full

-- A disk that was only read, and then only read more.
only-then : (i : ℕ) (a b c : ToldDisks) → IsOnlyRead i a b → IsOnlyRead i b c → IsOnlyRead i a c
only-then i a b c first second = record { read = read-then i a b c first.read second.read; stayed = second.stayed ∙ first.stayed }

-- What a load answers after a sync, where it gives none.
pub load-fails : (i : ℕ) (a b c : ToldDisks) → IsOnlyRead i a b → (fault : JournalFault) → LoadFails i b c fault → LoadFails i a c fault
load-fails i a b c synced DiskFault rose = let stayed = synced.stayed in omega (arith, stayed, rose)
load-fails i a b c synced Full none = none
load-fails i a b c synced (BadRecord k) bad = (
  only-then i a b c synced bad.0,
  λ told. subst (λ (file : List ℕ). IsFirstBad file k) (synced.read.content (bad.0.read.calls.told told)) (bad.1 told),
)
load-fails i a b c synced MustReload none = none
load-fails i a b c synced Memory only = only-then i a b c synced only
