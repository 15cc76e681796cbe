-- What an input holds for one who reads it piece by piece.
use Rattle.std.proofs.Common.{◌≡◌, ℕ, ◌+◌, ◌<◌, ◌≤◌, List, [], ◌++◌, length, drop, Option, Some, None, refl, ◌∙◌, ap, arith}
use Rattle.std.specs.Option.{option_map_or}
use Rattle.std.proofs.lemmas.Bool.{cond-true, cond-false, le-leb, lt-leb}
use Rattle.std.proofs.lemmas.List.{length-append, drop_at, drop_all}
use Rattle.nego_io.specs.Part.{part_of, newlines, reading, ended, unended, Whole, PastLimit, Unended}
use Rattle.nego_io.specs.Front.{IsClosed}

-- an input that begins with a part within the limit
pub reading_part : (limit : ℕ) (input part : List ℕ) → part_of input ≡ Some part → length part ≤ limit → reading limit input ≡ Whole part (drop (length part) input)
unfolding reading
reading_part limit input part found fits =
    ap (λ o. option_map_or (ended limit input) o (unended limit input)) found ∙ cond-true _ _ _ (le-leb _ _ fits)

-- these bytes are a part, and more may follow
pub reading_closed : (limit : ℕ) (bytes rest : List ℕ) → IsClosed bytes → length bytes ≤ limit → reading limit (bytes ++ rest) ≡ Whole bytes rest
reading_closed limit bytes rest closed fits =
    reading_part limit (bytes ++ rest) bytes (closed rest) fits ∙ ap (Whole bytes) (drop_at bytes rest (length bytes) refl)

-- these bytes are a part, and they are all
pub reading_all : (limit : ℕ) (bytes : List ℕ) → part_of bytes ≡ Some bytes → length bytes ≤ limit → reading limit bytes ≡ Whole bytes []
reading_all limit bytes found fits =
    reading_part limit bytes bytes found fits ∙ ap (Whole bytes) (drop_all (length bytes) bytes (omega arith))

-- these bytes are all, and no part
pub reading_none : (limit : ℕ) (bytes : List ℕ) → part_of bytes ≡ None → length bytes ≤ limit → reading limit bytes ≡ Unended (1 + newlines bytes)
unfolding reading
reading_none limit bytes none fits =
    ap (λ o. option_map_or (ended limit bytes) o (unended limit bytes)) none ∙ cond-true _ _ _ (le-leb _ _ fits)

-- no part ends before the last of these bytes, which are more than the limit
pub reading_past : (limit : ℕ) (taken rest : List ℕ) → limit < length taken → ((part : List ℕ) → part_of (taken ++ rest) ≡ Some part → length taken ≤ length part) → reading limit (taken ++ rest) ≡ PastLimit
unfolding reading
reading_past limit taken rest more fits =
    let input = taken ++ rest in
    past limit input (part_of input) refl (omega (arith, more, length-append taken rest)) (λ part found. omega (arith, more, fits part found))
  where
    past : (limit : ℕ) (input : List ℕ) (o : Option (List ℕ)) → part_of input ≡ o → limit < length input → ((part : List ℕ) → part_of input ≡ Some part → limit < length part) →
        option_map_or (ended limit input) o (unended limit input) ≡ PastLimit
    past limit input None is long longer = cond-false _ _ _ (lt-leb _ _ long)
    past limit input (Some part) is long longer = cond-false _ _ _ (lt-leb _ _ (longer part is))
