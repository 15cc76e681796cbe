-- Looking through items for the first fault that they give, as a loop does.
use Rattle.std.proofs.Common.{◌≡◌, ℕ, ◌+◌, ◌<◌, ◌≤◌, List, [], ◌∷◌, ◌++◌, length, drop, get_or, sym, ap, subst, ◌∙◌}
use Rattle.std.proofs.lemmas.List.{drop_all}
use Rattle.nego_base.proofs.ListLaws.{cut_at}
use Rattle.nego_reader.specs.declared.parsed.PAtom.{PAtom}
use Rattle.nego_reader.specs.declared.parsed.POut.{POut}
use Rattle.nego_shape.specs.declared.fault.ShapeAnswer.{ShapeAnswer}
use Rattle.nego_shape.specs.declared.fault.ShapeAnswer.TheVariants as answers
use Rattle.nego_shape.specs.Answer.{Tells}
use Rattle.nego_shape.specs.Faults.{Spot, numbered, each_out, first_of}

-- the answer tells the first of what the first pieces give, and so of all
pub told_first : (e : ShapeAnswer) (one rest : List Spot) → Tells e (first_of one) → Tells e (first_of (one ++ rest))
told_first answers.Memory one rest h = tt
told_first (answers.Off fault) [] rest h = absurd cc
told_first (answers.Off fault) (spot ∷ spots) rest h = h

module _ {A B : Type 0} (f : ℕ → A → List B) (xs : List A) where
  pub items_cut : (i n : ℕ) (x : A) → i < length xs → x ≡ get_or xs i x → numbered f n (drop i xs) ≡ f n x ++ numbered f (n + 1) (drop (i + 1) xs)
  unfolding numbered
  items_cut i n x inside is = ap (numbered f n) (cut_at xs i x inside is)

  pub items_go_on : (i n : ℕ) (x : A) (all : List B) → i < length xs → x ≡ get_or xs i x → f n x ≡ [] → numbered f n (drop i xs) ≡ all → numbered f (n + 1) (drop (i + 1) xs) ≡ all
  items_go_on i n x all inside is h so_far = sym (items_cut i n x inside is ∙ ap (λ ys. ys ++ numbered f (n + 1) (drop (i + 1) xs)) h) ∙ so_far

  pub items_done : (i n : ℕ) (all : List B) → length xs ≤ i → numbered f n (drop i xs) ≡ all → all ≡ []
  unfolding numbered
  items_done i n all past so_far = sym so_far ∙ ap (numbered f n) (drop_all i xs past)

pub items_told : {A : Type 0} (f : ℕ → A → List Spot) (e : ShapeAnswer) (xs : List A) (i n : ℕ) (x : A) (all : List Spot) → i < length xs → x ≡ get_or xs i x →
    Tells e (first_of (f n x)) → numbered f n (drop i xs) ≡ all → Tells e (first_of all)
items_told f e xs i n x all inside is h so_far =
    subst (λ spots. Tells e (first_of spots)) (sym (items_cut f xs i n x inside is) ∙ so_far) (told_first e (f n x) (numbered f (n + 1) (drop (i + 1) xs)) h)

module _ {B : Type 0} (f : ℕ → ℕ → POut → List B) (atoms : List PAtom) where
  pub outs_split : (n o : ℕ) (atom : PAtom) → n < length atoms → atom ≡ get_or atoms n atom → each_out f n o (drop n atoms) ≡ numbered (f n) o atom.outs ++ each_out f (n + 1) (o + length atom.outs) (drop (n + 1) atoms)
  unfolding each_out
  outs_split n o atom inside is = ap (each_out f n o) (cut_at atoms n atom inside is)

  pub outs_go_on : (n o : ℕ) (atom : PAtom) (all : List B) → n < length atoms → atom ≡ get_or atoms n atom → numbered (f n) o atom.outs ≡ [] → each_out f n o (drop n atoms) ≡ all → each_out f (n + 1) (o + length atom.outs) (drop (n + 1) atoms) ≡ all
  outs_go_on n o atom all inside is h so_far = sym (outs_split n o atom inside is ∙ ap (λ ys. ys ++ each_out f (n + 1) (o + length atom.outs) (drop (n + 1) atoms)) h) ∙ so_far

  pub outs_done : (n o : ℕ) (all : List B) → length atoms ≤ n → each_out f n o (drop n atoms) ≡ all → all ≡ []
  unfolding each_out
  outs_done n o all past so_far = sym so_far ∙ ap (each_out f n o) (drop_all n atoms past)

pub outs_told : (f : ℕ → ℕ → POut → List Spot) (e : ShapeAnswer) (atoms : List PAtom) (n o : ℕ) (atom : PAtom) (all : List Spot) → n < length atoms → atom ≡ get_or atoms n atom →
    Tells e (first_of (numbered (f n) o atom.outs)) → each_out f n o (drop n atoms) ≡ all → Tells e (first_of all)
outs_told f e atoms n o atom all inside is h so_far =
    subst (λ spots. Tells e (first_of spots)) (sym (outs_split f atoms n o atom inside is) ∙ so_far) (told_first e (numbered (f n) o atom.outs) (each_out f (n + 1) (o + length atom.outs) (drop (n + 1) atoms)) h)
