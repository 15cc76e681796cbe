-- Steps over `Result`, of which the first that fails decides: what `?` does.
use Rattle.std.specs.Prelude.{Result, Ok, Err}

infixl 10 ◌>>=◌
abbrev pub ◌>>=◌ : {T U E : Type 0} → Result T E → (T → Result U E) → Result U E
Ok x >>= f = f x
Err e >>= f = Err e
