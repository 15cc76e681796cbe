-- Texts that are printed piece by piece. A text of several pieces is a function onto the rest that comes behind it, as
-- `codes "node " ++ (decimal n ++ rest)`, so that it reads from left to right.
use Rattle.std.specs.Prelude.{◌≡◌, ℕ, List, ◌++◌}

-- The new text is the old one with these words behind it, before any rest.
abbrev pub Appends : List ℕ → List ℕ → (List ℕ → List ℕ) → Type 0
Appends old new words = (rest : List ℕ) → new ++ rest ≡ old ++ words rest

-- The text so far, with the words that are left behind it, is the old one with all words behind it.
abbrev pub IsPartway : List ℕ → List ℕ → (List ℕ → List ℕ) → (List ℕ → List ℕ) → Type 0
IsPartway old text left all = (rest : List ℕ) → text ++ left rest ≡ old ++ all rest
