-- What a line of a certificate and the lines of its text say, or their first fault.
use Rattle.std.specs.Prelude.{◌≡◌, ℕ, if◌then◌else◌, List, [], ◌∷◌, Result, Ok, Err, codes}
use Rattle.std.specs.List.{flat_map}
use Rattle.std.specs.Str.{bytes_eq}
use Rattle.nego_base.specs.declared.fault.FaultKind.TheVariants as fault_kinds
use Rattle.nego_base.specs.declared.fault.Fault.{Fault}
use Rattle.nego_base.specs.declared.fault.ReadFaults.{ReadFaults}
use Rattle.nego_base.specs.declared.line.Line.{Line}
use Rattle.nego_base.specs.Grammar.{at_word, exact_words, number_word}
use Rattle.nego_base.specs.LineAnswers.{Fails}
use Rattle.nego_base.specs.LineWalk.{word_in, kind_of_line, walk_lines}
use Rattle.nego_base.specs.Results.{◌>>=◌}
use Rattle.nego_expr.specs.declared.uses.Use.{Use}
use Rattle.nego_expr.specs.declared.uses.Use.TheVariants as the_uses
use Rattle.nego_cert.specs.declared.cert.Cert.{Cert}
use Rattle.nego_cert.specs.declared.cert.CertLine.{CertLine}
use Rattle.nego_cert.specs.declared.row.Kind.{Kind}
use Rattle.nego_cert.specs.declared.row.Kind.TheVariants as kinds
use Rattle.nego_cert.specs.declared.row.Row.{Row}
use Rattle.nego_cert.specs.declared.row.Row.TheVariants as rows
use Rattle.nego_cert.specs.Table.{certificate_lines}

-- ---- in a line

-- the number at a place of a line
unfoldable pub number_in : Line → ℕ → Result ℕ Fault
number_in line i = word_in line i >>= λ word. number_word word

-- the first line is of version 1
unfoldable pub header_in : Line → Result (Unit {0}) Fault
header_in line = do
  counted ← exact_words 2 line
  version ← word_in line 1
  if bytes_eq version.text (codes "1") then Ok tt else Err (at_word fault_kinds.Version version)

-- the number in a line of two words, and the two in a line of three
unfoldable pub one_in : Line → Result ℕ Fault
one_in line = do
  counted ← exact_words 2 line
  number_in line 1

unfoldable pub two_in : Line → Result (ℕ × ℕ) Fault
two_in line = do
  counted ← exact_words 3 line
  one ← number_in line 1
  two ← number_in line 2
  Ok (one, two)

-- a use on a line
abbrev pub use_row : Line → Use → Row
use_row line what = rows.Use (record { line = line.number; what = what })

-- what a line of a kind says
unfoldable pub row_of : Kind → Line → Result Row Fault
row_of kinds.Header line = header_in line >>= λ _. Ok rows.Header
row_of kinds.Merge line = two_in line >>= λ x. Ok (use_row line (the_uses.Merge (record { 0 = x.0 }) (record { 0 = x.1 })))
row_of kinds.Iterate line = one_in line >>= λ o. Ok (use_row line (the_uses.Iterate (record { 0 = o })))
row_of kinds.Shortcut line = two_in line >>= λ x. Ok (use_row line (the_uses.Shortcut (record { 0 = x.0 }) (record { 0 = x.1 })))
row_of kinds.Close line = exact_words 1 line >>= λ _. Ok (use_row line the_uses.Close)
row_of kinds.End line = exact_words 1 line >>= λ _. Ok rows.End

-- ---- in a text

-- what a line of a kind says, whatever may stand there
abbrev pub row_in : List Kind → Kind → Line → Result Row Fault
row_in may kind line = row_of kind line

-- of which kind a line is, where these kinds may stand
abbrev pub kind_in : List Kind → Line → Result Kind Fault
kind_in may line = kind_of_line certificate_lines row_in may line

-- what the lines say, of which the first may be of these kinds
abbrev pub walk : Fault → List Kind → List Line → Result (List Row) Fault
walk missing may lines = walk_lines certificate_lines row_in missing may lines

-- the use that a row says, and those that rows say
abbrev pub use_in : Row → List CertLine
use_in (rows.Use line) = line ∷ []
use_in _ = []

abbrev pub uses_in : List Row → List CertLine
uses_in said = flat_map use_in said

-- what is answered is a certificate of the uses that the lines say, or comes of their fault
abbrev pub Reads : Result Cert ReadFaults → Result (List Row) Fault → Type 0
Reads (Ok cert) said = (found : List Row) × (said ≡ Ok found) × (cert.uses ≡ uses_in found)
Reads (Err e) said = Fails e said
