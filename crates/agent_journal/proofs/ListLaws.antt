-- What files stand for.
use Rattle.std.proofs.Common.{◌≡◌, ℕ, List, [], ◌∷◌, ◌++◌, map, refl, sym, ◌∙◌, ap, All}
use Rattle.std.proofs.lemmas.List.{map-append}
use Rattle.std.proofs.lemmas.List.Elements.{All-push, All-head, All-tail}
use Rattle.agent_msg.specs.Records.{PlainRecord}
use Rattle.agent_msg.specs.Bytes.{RecordFits, entry_bytes}
use Rattle.agent_msg.proofs.SpellingLaws.{record-once}
use Rattle.agent_journal.specs.Slots.{kept, StandsFor}

-- A file that keeps the same records stands for the same list.
pub stands-same : (image file : List ℕ) (journal : List PlainRecord) → kept image ≡ kept file → StandsFor file journal → StandsFor image journal
stands-same image file journal is stands = record { fit = stands.fit; same = is ∙ stands.same }

-- A file that keeps one more record stands for one more.
pub stands-more : (image file : List ℕ) (journal : List PlainRecord) (e : PlainRecord) → kept image ≡ kept file ++ entry_bytes e ∷ [] → RecordFits e → StandsFor file journal → StandsFor image (journal ++ e ∷ [])
stands-more image file journal e is fits stands = record {
  fit = All-push RecordFits journal e stands.fit fits;
  same = is ∙ (ap (λ (rs : List (List ℕ)). rs ++ entry_bytes e ∷ []) stands.same ∙ sym (map-append entry_bytes journal (e ∷ [])));
}

-- Records are the bytes of one list at most.
list-once : (journal other : List PlainRecord) → All RecordFits journal → All RecordFits other → map entry_bytes journal ≡ map entry_bytes other → journal ≡ other
list-once [] [] fit fit_other same = refl
list-once [] (f ∷ other) fit fit_other same = absurd (cc same)
list-once (e ∷ journal) [] fit fit_other same = absurd (cc same)
list-once (e ∷ journal) (f ∷ other) fit fit_other same =
    let bytes : entry_bytes e ≡ entry_bytes f = head-same (entry_bytes e) (entry_bytes f) (map entry_bytes journal) (map entry_bytes other) same in
    let first : e ≡ f =
    record-once (entry_bytes e) e f (record { fits = All-head RecordFits e journal fit; same = refl }) (record { fits = All-head RecordFits f other fit_other; same = bytes }) in
    let more : journal ≡ other =
    list-once journal other (All-tail RecordFits e journal fit) (All-tail RecordFits f other fit_other) (tail-same (entry_bytes e) (entry_bytes f) (map entry_bytes journal) (map entry_bytes other) same) in
    ap (λ (x : PlainRecord). x ∷ journal) first ∙ ap (λ (l : List PlainRecord). f ∷ l) more
  where
    head-same : (x y : List ℕ) (xs ys : List (List ℕ)) → x ∷ xs ≡ y ∷ ys → x ≡ y
    head-same x y xs ys e = cc e

    tail-same : (x y : List ℕ) (xs ys : List (List ℕ)) → x ∷ xs ≡ y ∷ ys → xs ≡ ys
    tail-same x y xs ys e = cc e

-- A file stands for one list at most.
pub stands-once : (file : List ℕ) (journal other : List PlainRecord) → StandsFor file journal → StandsFor file other → journal ≡ other
stands-once file journal other stands stands_other = list-once journal other stands.fit stands_other.fit (sym stands.same ∙ stands_other.same)
