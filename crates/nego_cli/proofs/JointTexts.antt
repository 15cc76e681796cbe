-- The texts of joint data, each made when it is first wanted.
use Rattle.std.proofs.Common.{◌≡◌, ◌∙◌, ℕ, zero, suc, ◌<◌, List, [], ◌∷◌, ◌++◌, length, set, slice_get, unwrap_or, Some, ap, sym, subst, refl, append_assoc, arith}
use Rattle.std.specs.Prelude.{codes, decimal}
use Rattle.std.proofs.lemmas.List.{get_or-set_same, length-set}
use Rattle.std.proofs.lemmas.Option.{none-some, slice_get-get_or}
use Rattle.nego_base.specs.Appending.{Appends}
use Rattle.nego_data.specs.Data.{data_count, split}
use Rattle.nego_cli.specs.JointTexts.{AreJointTexts}
use Rattle.nego_cli.specs.Refusals.{value_words}

-- each text is empty
abbrev pub AreEmpty : List (List ℕ) → Type 0
AreEmpty texts = (d : ℕ) (text : List ℕ) → slice_get texts d ≡ Some text → text ≡ []

-- and so with one more
pub empty-more : (texts : List (List ℕ)) → AreEmpty texts → AreEmpty (texts ++ [] ∷ [])
empty-more [] h zero text e = sym (ap (λ o. unwrap_or o []) e)
empty-more [] h (suc d) text e = absurd (none-some text e)
empty-more (first ∷ texts) h zero text e = h zero text e
empty-more (first ∷ texts) h (suc d) text e = empty-more texts (λ k. h (suc k)) d text e

-- where no text is made yet
pub none_made : (sizes : List ℕ) (texts : List (List ℕ)) → length texts ≡ data_count sizes → AreEmpty texts → AreJointTexts sizes texts
none_made sizes texts long empty = record {
  long = long;
  each = λ d text e some. let none = ap length (empty d text e) in absurd (omega (arith, none, some));
}

-- what holds of each text and of one that is put into the place of another
set-each : (P : ℕ → List ℕ → Type 0) (texts : List (List ℕ)) (d : ℕ) (made : List ℕ) → P d made → ((e : ℕ) (text : List ℕ) → slice_get texts e ≡ Some text → P e text) →
    (e : ℕ) (text : List ℕ) → slice_get (set texts d made) e ≡ Some text → P e text
set-each P [] d made p h e text s = h e text s
set-each P (first ∷ texts) zero made p h zero text s = subst (P zero) (ap (λ o. unwrap_or o []) s) p
set-each P (first ∷ texts) zero made p h (suc e) text s = h (suc e) text s
set-each P (first ∷ texts) (suc d) made p h zero text s = h zero text s
set-each P (first ∷ texts) (suc d) made p h (suc e) text s = set-each (λ k. P (suc k)) texts d made p (λ k. h (suc k)) e text s

-- the text of joint data is put into its place
pub texts-set : (sizes : List ℕ) (texts : List (List ℕ)) (d : ℕ) (made : List ℕ) → made ≡ value_words (split sizes d) [] → AreJointTexts sizes texts → AreJointTexts sizes (set texts d made)
texts-set sizes texts d made is are = record {
  long = length-set texts d made ∙ are.long;
  each = set-each (λ e text. 0 < length text → text ≡ value_words (split sizes e) []) texts d made (λ some. is) are.each;
}

-- and stands there
pub set-here : (texts : List (List ℕ)) (d : ℕ) (made : List ℕ) → d < length texts → slice_get (set texts d made) d ≡ Some made
set-here texts d made inside =
    slice_get-get_or (set texts d made) d made (rw (length-set texts d made) inside) ∙ ap Some (get_or-set_same texts d made made inside)

-- values before a rest
words_before : (values rest : List ℕ) → value_words values [] ++ rest ≡ value_words values rest
words_before [] rest = refl
words_before (value ∷ values) rest =
    append_assoc (codes " ") (decimal value ++ value_words values []) rest
    ∙ ap (λ t. codes " " ++ t) (append_assoc (decimal value) (value_words values []) rest ∙ ap (λ t. decimal value ++ t) (words_before values rest))

-- the text of values is appended
pub appends_values : (old new text values : List ℕ) → new ≡ old ++ text → text ≡ value_words values [] → Appends old new (value_words values)
appends_values old new text values e is rest =
    ap (λ t. t ++ rest) e ∙ (append_assoc old text rest ∙ ap (λ words. old ++ words) (ap (λ words. words ++ rest) is ∙ words_before values rest))
