-- The text of a certificate is a part: its last line is the only end line.
use Rattle.std.proofs.Common.{◌≡◌, ◌∙◌, ℕ, false, List, [], ◌∷◌, ◌++◌, map, decimal, codes, refl}
use Rattle.std.specs.List.{All, list_any}
use Rattle.std.proofs.lemmas.Bool.{or_from}
use Rattle.std.proofs.lemmas.List.{map-append}
use Rattle.nego_base.specs.Printed.{printed_line}
use Rattle.nego_io.specs.Part.{is_end_line}
use Rattle.nego_io.specs.Laws.{IsClosedPart}
use Rattle.nego_io.proofs.EndLaws.{other_line}
use Rattle.nego_expr.specs.Use.{PlainUse, Merge, Iterate, Shortcut, Close}
use Rattle.nego_cert.specs.CertificateText.{certificate_text}
use Rattle.nego_cert.specs.Lines.{use_words}
use Rattle.nego_cert.specs.Table.{HasShortNumbers}
use Rattle.nego_cert.proofs.PrintedCertificates.{header_words, printed_lines}
use Rattle.nego_cert.proofs.PrintedLines.{end_words}

abbrev ended : List (List ℕ) → List ℕ
ended words = printed_line words ++ 10 ∷ []

-- the line of a use is no end line
use_no_end : (what : PlainUse) → is_end_line (ended (use_words what)) ≡ false
use_no_end (Merge o1 o2) = other_line 109 ((codes "erge" ++ 32 ∷ (decimal o1 ++ 32 ∷ decimal o2)) ++ 10 ∷ []) refl refl refl
use_no_end (Iterate o) = other_line 105 ((codes "terate" ++ 32 ∷ decimal o) ++ 10 ∷ []) refl refl refl
use_no_end (Shortcut o n) = other_line 115 ((codes "hortcut" ++ 32 ∷ (decimal o ++ 32 ∷ decimal n)) ++ 10 ∷ []) refl refl refl
use_no_end Close = refl

uses_no_end : (uses : List PlainUse) → list_any is_end_line (map ended (map use_words uses)) ≡ false
uses_no_end [] = refl
uses_no_end (first ∷ uses) = or_from _ _ (use_no_end first) (uses_no_end uses)

pub certificate_closed : (uses : List PlainUse) → All HasShortNumbers uses → IsClosedPart (certificate_text uses)
certificate_closed uses h = record {
  front = map ended (header_words ∷ map use_words uses);
  body = codes "end";
  split = printed_lines uses h ∙ map-append ended (header_words ∷ map use_words uses) (end_words ∷ []);
  none = or_from _ _ refl (uses_no_end uses);
  ends = refl;
}
