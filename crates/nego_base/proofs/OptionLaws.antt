-- What follows where an option, or a choice between two, gives something or nothing.
use Rattle.std.proofs.Common.{◌≡◌, ◌⊎◌, inl, inr, Bool, true, false, cond, Option, Some, None, Result, Ok, Err, refl, subst}
use Rattle.std.specs.Prelude.{OnOk, IfErr}
use Rattle.std.specs.Option.{option_or, option_map}
use Rattle.std.proofs.lemmas.Option.{none-some, same_Some}
use Rattle.nego_base.proofs.Cases.{same_Err, ok-err}

-- nothing, where it can't be something
pub none_or_some : {A : Type 0} (o : Option A) → ((x : A) → o ≡ Some x → ⊥) → o ≡ None
none_or_some None h = refl
none_or_some (Some x) h = absurd (h x refl)

-- neither of two
pub or_none : {A : Type 0} (o rest : Option A) → option_or o rest ≡ None → (o ≡ None) × (rest ≡ None)
or_none None rest h = (refl, h)
or_none (Some x) rest h = absurd cc

-- which of two gives
pub or_some : {A : Type 0} (o rest : Option A) (x : A) → option_or o rest ≡ Some x → (o ≡ Some x) ⊎ ((o ≡ None) × (rest ≡ Some x))
or_some None rest x h = inr (refl, h)
or_some (Some y) rest x h = inl h

-- nothing, then nothing
pub none_or_none : {A : Type 0} (o rest : Option A) → o ≡ None → rest ≡ None → option_or o rest ≡ None
none_or_none o rest h k = rw h k

-- something of a mapped option
pub map_some : {A B : Type 0} (f : A → B) (o : Option A) (y : B) → option_map f o ≡ Some y → (x : A) × (o ≡ Some x) × (f x ≡ y)
map_some f None y h = absurd (none-some y h)
map_some f (Some x) y h = (x, refl, same_Some (f x) y h)

-- nothing of a mapped option
pub map_none : {A B : Type 0} (f : A → B) (o : Option A) → option_map f o ≡ None → o ≡ None
map_none f None h = refl
map_none f (Some x) h = absurd cc

-- something under a test
pub if_some : {A : Type 0} (t : Bool) (x y : A) → cond t (Some x) None ≡ Some y → (t ≡ true) × (x ≡ y)
if_some true x y h = (refl, same_Some x y h)
if_some false x y h = absurd (none-some y h)

-- nothing under a test
pub if_none : {A : Type 0} (t : Bool) (x : A) → cond t (Some x) None ≡ None → t ≡ false
if_none false x h = refl
if_none true x h = absurd cc

-- what follows on success
pub then_ok : {T E : Type 0} (r : Result T E) (P Q : Type 0) → (P → Q) → OnOk r P → OnOk r Q
then_ok (Ok x) P Q f h = f h
then_ok (Err e) P Q f h = h

-- what holds of each error holds of the one that was answered
pub error_has : {T E : Type 0} (P : E → Type 0) (r : Result T E) (e : E) → IfErr r P → r ≡ Err e → P e
error_has P (Ok x) e h is = absurd (ok-err x e is)
error_has P (Err f) e h is = subst P (same_Err f e is) h
