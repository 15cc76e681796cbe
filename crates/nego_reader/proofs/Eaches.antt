-- Items that are read one after the other.
use Rattle.std.proofs.Common.{◌≡◌, List, [], ◌∷◌, Result, Ok, refl, subst}
use Rattle.nego_base.specs.LineWalk.{each}
use Rattle.nego_base.specs.declared.fault.Fault.{Fault}
use Rattle.nego_base.specs.Results.{◌>>=◌}
use Rattle.nego_base.proofs.Cases.{bind_ok, same_Ok}
use Rattle.nego_reader.specs.Spelling.{Each}

module _ {A B : Type 0} (f : A → Result B Fault) (R : A → B → Type 0) where
  pub each_takes : ((x : A) (y : B) → f x ≡ Ok y → R x y) → (xs : List A) (ys : List B) → each f xs ≡ Ok ys → Each R xs ys
  unfolding each
  each_takes takes [] ys h = subst (λ (zs : List B). Each R [] zs) (same_Ok {E = Fault} [] ys h) tt
  each_takes takes (x ∷ xs) ys h =
      let a = bind_ok (f x) (λ y. each f xs >>= λ zs. Ok (y ∷ zs)) ys h in
      let b = bind_ok (each f xs) (λ zs. Ok (a.0 ∷ zs)) ys a.2 in
      subst (λ (zs : List B). Each R (x ∷ xs) zs) (same_Ok {E = Fault} (a.0 ∷ b.0) ys b.2) (takes x a.0 a.1, each_takes takes xs b.0 b.1)

  pub each_again : ((x : A) (y : B) → R x y → f x ≡ Ok y) → (xs : List A) (ys : List B) → Each R xs ys → each f xs ≡ Ok ys
  unfolding each
  each_again again [] [] h = refl
  each_again again [] (y ∷ ys) h = absurd h
  each_again again (x ∷ xs) [] h = absurd h
  each_again again (x ∷ xs) (y ∷ ys) h = rw (again x y h.0, each_again again xs ys h.1) refl
