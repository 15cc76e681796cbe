-- Names that differ, put into an ordered set one after the other.
use Rattle.std.proofs.Common.{◌≡◌, ℕ, ◌+◌, ◌<◌, false, List, [], ◌∷◌, ◌++◌, length, map, take, get_or, if◌then◌else◌, sym, ap, ◌∙◌, arith}
use Rattle.std.specs.Str.{bytes_eq}
use Rattle.std.proofs.lemmas.List.{length-map, length-take-le, map-append, get_or-map, get_or-take, take_more}
use Rattle.std.proofs.lemmas.List.Folds.{list_any_none}
use Rattle.std.proofs.lemmas.Slice.Eq.{bytes_eq-Decides}
use Rattle.std.proofs.lemmas.Bool.{false_from_ne_true}
use Rattle.indexmap.specs.IndexSet.{insert_key}
use Rattle.nego_shape.specs.Shaped.{AreDifferent}

module _ {X : Type 0} (name_of : X → List ℕ) (xs : List X) (differ : AreDifferent (map name_of xs)) (i : ℕ) (x : X) (below : i < length xs) (is : x ≡ get_or xs i x) where
  -- the name of an item differs from those before it
  new_name : (k : ℕ) (d : List ℕ) → k < length (map name_of (take i xs)) → bytes_eq (name_of x) (get_or (map name_of (take i xs)) k d) ≡ false
  new_name k d l =
      let front : length (map name_of (take i xs)) ≡ i = length-map (take i xs) name_of ∙ length-take-le i xs (omega (arith, below)) in
      let long : length (map name_of xs) ≡ length xs = length-map xs name_of in
      let fore : k < i = omega (arith, l, front) in
      let short : k < length (take i xs) = let t = length-take-le i xs (omega (arith, below)) in omega (arith, fore, t) in
      let there : get_or (map name_of (take i xs)) k d ≡ get_or (map name_of xs) k (name_of x) =
      get_or-map name_of (take i xs) k x d short ∙ (ap name_of (get_or-take i xs k x fore) ∙ sym (get_or-map name_of xs k x (name_of x) (omega (arith, fore, below)))) in
      let here : get_or (map name_of xs) i (name_of x) ≡ name_of x = get_or-map name_of xs i x (name_of x) below ∙ ap name_of (sym is) in
      false_from_ne_true (bytes_eq (name_of x) (get_or (map name_of (take i xs)) k d))
      (λ t. differ k i (name_of x) fore (omega (arith, below, long)) (sym there ∙ (sym ((bytes_eq-Decides (name_of x) (get_or (map name_of (take i xs)) k d)).0 t) ∙ sym here)))

  -- so it is put behind them
  pub one_more_name : (old new : List (List ℕ)) → old ≡ map name_of (take i xs) → new ≡ insert_key bytes_eq old (name_of x) → new ≡ map name_of (take (i + 1) xs)
  one_more_name old new so_far put =
      let front = map name_of (take i xs) in
      put ∙ (ap (λ ks. insert_key bytes_eq ks (name_of x)) so_far
      ∙ (ap (λ b. if b then front else front ++ name_of x ∷ []) (list_any_none (bytes_eq (name_of x)) front new_name)
      ∙ (ap (λ y. front ++ name_of y ∷ []) is ∙ sym (ap (map name_of) (take_more xs i x below) ∙ map-append name_of (take i xs) (get_or xs i x ∷ [])))))
