-- How targets are kept: one number for each agent.
use Rattle.std.specs.Prelude.{ℕ, zero, suc, Option, Some, None}

-- nothing is 0, and an atom is one more than its number
abbrev pub target_of : ℕ → Option ℕ
target_of zero = None
target_of (suc n) = Some n
