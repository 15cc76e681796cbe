-- The text of a certificate. Every line ends with a newline.
use Rattle.std.specs.Prelude.{ℕ, List, [], ◌∷◌, ◌++◌, codes, decimal}
use Rattle.nego_expr.specs.Use.{PlainUse, Merge, Iterate, Shortcut, Close}

-- the line of a use, before the rest of a text
abbrev pub use_line : PlainUse → List ℕ → List ℕ
use_line (Merge o1 o2) rest = codes "merge " ++ (decimal o1 ++ (codes " " ++ (decimal o2 ++ (codes "\n" ++ rest))))
use_line (Iterate o) rest = codes "iterate " ++ (decimal o ++ (codes "\n" ++ rest))
use_line (Shortcut o n) rest = codes "shortcut " ++ (decimal o ++ (codes " " ++ (decimal n ++ (codes "\n" ++ rest))))
use_line Close rest = codes "close\n" ++ rest

-- a line for each use, before the rest of a text
abbrev pub use_lines : List PlainUse → List ℕ → List ℕ
use_lines [] rest = rest
use_lines (first ∷ uses) rest = use_line first (use_lines uses rest)

-- the text of a certificate
abbrev pub certificate_text : List PlainUse → List ℕ
certificate_text uses = codes "certificate 1\n" ++ use_lines uses (codes "end\n")
