-- The lines of a certificate, one after the other: of which kind each is, and which words it has.
use Rattle.std.specs.Prelude.{ℕ, List, [], ◌∷◌, ◌++◌, map, codes, decimal}
use Rattle.nego_expr.specs.declared.uses.Use.{Use}
use Rattle.nego_expr.specs.declared.uses.Use.TheVariants as the_uses
use Rattle.nego_expr.specs.Use.{PlainUse, Merge, Iterate, Shortcut, Close}
use Rattle.nego_expr.specs.UseView.{plain_use}
use Rattle.nego_cert.specs.declared.cert.Cert.{Cert}
use Rattle.nego_cert.specs.declared.row.Kind.{Kind}
use Rattle.nego_cert.specs.declared.row.Kind.TheVariants as kinds
use Rattle.nego_cert.specs.declared.row.Row.{Row}
use Rattle.nego_cert.specs.declared.row.Row.TheVariants as rows

-- the first word of a line of the kind
abbrev pub keyword : Kind → List ℕ
keyword kinds.Header = codes "certificate"
keyword kinds.Merge = codes "merge"
keyword kinds.Iterate = codes "iterate"
keyword kinds.Shortcut = codes "shortcut"
keyword kinds.Close = codes "close"
keyword kinds.End = codes "end"

-- the kinds of lines that may follow: behind the header and each use, another use or the end
abbrev pub followers : Kind → List Kind
followers kinds.End = []
followers _ = kinds.Merge ∷ kinds.Iterate ∷ kinds.Shortcut ∷ kinds.Close ∷ kinds.End ∷ []

abbrev pub kind_of_use : Use → Kind
kind_of_use (the_uses.Merge o1 o2) = kinds.Merge
kind_of_use (the_uses.Iterate o) = kinds.Iterate
kind_of_use (the_uses.Shortcut o n) = kinds.Shortcut
kind_of_use the_uses.Close = kinds.Close

abbrev pub kind_of : Row → Kind
kind_of rows.Header = kinds.Header
kind_of (rows.Use line) = kind_of_use line.what
kind_of rows.End = kinds.End

-- the lines of a certificate: the header, the uses, the end
abbrev pub rows_of : Cert → List Row
rows_of cert = rows.Header ∷ (map rows.Use cert.uses ++ rows.End ∷ [])

-- the words of the line of a use
abbrev pub use_words : PlainUse → List (List ℕ)
use_words (Merge o1 o2) = codes "merge" ∷ decimal o1 ∷ decimal o2 ∷ []
use_words (Iterate o) = codes "iterate" ∷ decimal o ∷ []
use_words (Shortcut o n) = codes "shortcut" ∷ decimal o ∷ decimal n ∷ []
use_words Close = codes "close" ∷ []

-- the numbers that a use names
abbrev pub numbers_of : PlainUse → List ℕ
numbers_of (Merge o1 o2) = o1 ∷ o2 ∷ []
numbers_of (Iterate o) = o ∷ []
numbers_of (Shortcut o n) = o ∷ n ∷ []
numbers_of Close = []

-- the uses of a certificate in their order
abbrev pub uses_of : Cert → List PlainUse
uses_of cert = map (λ line. plain_use line.what) cert.uses
