-- What arguments are as words.
use Rattle.std.specs.Prelude.{◌≡◌, ℕ, List, [], take, drop, Option, Some, None, IfSome, Result, Ok, Err, IsUtf8}
use Rattle.std.specs.declared.env.FillError.{FillError}
use Rattle.std.specs.declared.env.FillError.TheVariants.{NotPresent, TooLong}

-- These are the bytes where they are UTF-8, and no bytes where they aren't.
abbrev pub IsTextOf : List ℕ → List ℕ → Type 0
IsTextOf bytes text = (IsUtf8 bytes → text ≡ bytes) × (¬ IsUtf8 bytes → text ≡ [])

-- What the system answered for an argument, with the bytes that it wrote, is this word: the bytes where they are UTF-8, no
-- bytes where they aren't or don't fit, and no word past the last argument.
abbrev pub IsWordOf : Result ℕ FillError → List ℕ → Option (List ℕ) → Type 0
IsWordOf (Ok count) written (Some word) = IsTextOf (take count written) word
IsWordOf (Ok count) written None = ⊥
IsWordOf (Err TooLong) written word = word ≡ Some []
IsWordOf (Err NotPresent) written word = word ≡ None

-- Where the arguments are told, these words are all of them behind the program's name, in their order.
abbrev pub AreBehindName : Option (List (List ℕ)) → List (List ℕ) → Type 0
AreBehindName told words = IfSome told (λ all. words ≡ drop 1 all)
