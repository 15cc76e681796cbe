-- The lines of uses, appended to a text one by one.
use Rattle.std.proofs.Common.{◌≡◌, List, [], ◌∷◌, ◌++◌, ℕ, ap, refl}
use Rattle.nego_expr.specs.Use.{PlainUse}
use Rattle.nego_cert.specs.CertificateText.{use_line, use_lines}

-- the lines of uses and of one more
pub use_lines-more : (uses : List PlainUse) (last : PlainUse) (rest : List ℕ) → use_lines (uses ++ last ∷ []) rest ≡ use_lines uses (use_line last rest)
use_lines-more [] last rest = refl
use_lines-more (first ∷ uses) last rest = ap (use_line first) (use_lines-more uses last rest)
