-- What follows from the answer of a choice or of a chain of steps. (std has the rest: `and_parts`, `or_cases`,
-- `cond_some`, `same_Some`, `none-some`.)
use Rattle.std.proofs.Common.{◌≡◌, Bool, true, false, cond, Option, Some, None, Result, Ok, Err, ◌⊎◌, inl, inr, refl, ap}
use Rattle.std.specs.Option.{option_and_then}
use Rattle.nego_base.specs.Results.{◌>>=◌}

pub same_Ok : {T E : Type 0} (x y : T) → ◌≡◌ {A = Result T E} (Ok x) (Ok y) → x ≡ y
same_Ok x y h = cc

pub same_Err : {T E : Type 0} (x y : E) → ◌≡◌ {A = Result T E} (Err x) (Err y) → x ≡ y
same_Err x y h = cc

pub ok-err : {T E : Type 0} (x : T) (e : E) → ◌≡◌ {A = Result T E} (Ok x) (Err e) → ⊥
ok-err x e h = cc

-- a choice gave z: which of the two it was
pub chosen : {A : Type 0} (t : Bool) (x y z : A) → cond t x y ≡ z → ((t ≡ true) × (x ≡ z)) ⊎ ((t ≡ false) × (y ≡ z))
chosen true x y z h = inl (refl, h)
chosen false x y z h = inr (refl, h)

-- a step under a test gave a value: the test holds and the step gave it
pub guard : {A : Type 0} (t : Bool) (x : Option A) (y : A) → cond t x None ≡ Some y → (t ≡ true) × (x ≡ Some y)
guard true x y h = (refl, h)
guard false x y h = cc

-- a chain gave a value: its first step gave one, and the others from there
pub bind_some : {A B : Type 0} (o : Option A) (f : A → Option B) (y : B) → option_and_then f o ≡ Some y → (x : A) × (o ≡ Some x) × (f x ≡ Some y)
bind_some None f y h = cc
bind_some (Some x) f y h = (x, refl, h)

-- a chain gave nothing: its first step, or the others
pub bind_none : {A B : Type 0} (o : Option A) (f : A → Option B) → option_and_then f o ≡ None → (o ≡ None) ⊎ ((x : A) × (o ≡ Some x) × (f x ≡ None))
bind_none None f h = inl refl
bind_none (Some x) f h = inr (x, refl, h)

-- a chain succeeded: its first step did, and the others from there
pub bind_ok : {T U E : Type 0} (r : Result T E) (f : T → Result U E) (y : U) → (r >>= f) ≡ Ok y → (x : T) × (r ≡ Ok x) × (f x ≡ Ok y)
bind_ok (Ok x) f y h = (x, refl, h)
bind_ok (Err e) f y h = cc

-- a chain failed: its first step, or the others
pub bind_err : {T U E : Type 0} (r : Result T E) (f : T → Result U E) (e : E) → (r >>= f) ≡ Err e → (r ≡ Err e) ⊎ ((x : T) × (r ≡ Ok x) × (f x ≡ Err e))
bind_err (Ok x) f e h = inr (x, refl, h)
bind_err {T} {U} {E} (Err d) f e h = let same : d ≡ e = same_Err {T = U} d e h in inl (ap Err same)
