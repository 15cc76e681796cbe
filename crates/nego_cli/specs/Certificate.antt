-- The text of a reduction. Every line ends with a newline.
use Rattle.std.specs.Prelude.{ℕ, if◌then◌else◌, List, [], ◌∷◌, ◌++◌, length, map, codes}
use Rattle.std.specs.List.{range_with_len}
use Rattle.nego_base.specs.Members.{is_in}
use Rattle.nego_model.specs.Diagram.{PlainDiagram, atom_name}
use Rattle.nego_expr.specs.Work.{PlainWork}
use Rattle.nego_expr.specs.Use.{PlainUse}
use Rattle.nego_expr.specs.Finish.{summary_of_work}
use Rattle.nego_expr.specs.SummaryText.{plain_summary, summary_text}
use Rattle.nego_reduce.specs.declared.reduced.Reduced.{Reduced}
use Rattle.nego_reduce.specs.declared.reduced.Reduced.TheVariants as reduced
use Rattle.nego_reduce.specs.Reducing.{uses_of}
use Rattle.nego_cert.specs.CertificateText.{certificate_text}
use Rattle.nego_cli.specs.Verdict.{verdict_line}
use Rattle.nego_cli.specs.declared.verdict.Verdict.{Verdict}
use Rattle.nego_cli.specs.declared.verdict.Verdict.TheVariants.{Sound}

-- the line of an atom that is left
abbrev pub left_line : PlainDiagram → ℕ → List ℕ → List ℕ
left_line d n rest = codes "left " ++ (atom_name d n ++ (codes "\n" ++ rest))

-- of these atoms a line for each that is left
abbrev pub left_among : PlainDiagram → List ℕ → List ℕ → List ℕ → List ℕ
left_among d left [] rest = rest
left_among d left (n ∷ ns) rest = if is_in n left then left_line d n (left_among d left ns rest) else left_among d left ns rest

-- a line for each atom of the diagram that is left, in rising order
abbrev pub left_lines : PlainDiagram → List ℕ → List ℕ → List ℕ
left_lines d left rest = left_among d left (range_with_len 0 (length d.atoms)) rest

-- what is said of the work that is left: the summary where the verdict is that the diagram is sound, else the atoms
abbrev pub left_text : PlainDiagram → PlainWork → Verdict → List ℕ
left_text d left Sound = summary_text (summary_of_work left)
left_text d left _ = left_lines d (map (λ atom. atom.number) left.atoms) []

-- the text of a reduction: the certificate, the verdict, and the summary or the atoms that are left
abbrev pub reduction_text : PlainDiagram → List PlainUse → PlainWork → Verdict → List ℕ
reduction_text d uses left verdict = certificate_text uses ++ verdict_line verdict (length uses) (left_text d left verdict)

-- what is said of what reduction leaves
abbrev pub leftover_text : PlainDiagram → Reduced → List ℕ
leftover_text d (reduced.One summary uses) = summary_text (plain_summary summary)
leftover_text d (reduced.Stuck left uses) = left_lines d (map (λ atom. atom.number) left.plain.atoms) []
leftover_text d (reduced.NodeLimit left uses) = left_lines d (map (λ atom. atom.number) left.plain.atoms) []

-- the text of what reduction makes, with this verdict
abbrev pub reduced_text : PlainDiagram → Reduced → Verdict → List ℕ
reduced_text d r verdict = certificate_text (uses_of r) ++ verdict_line verdict (length (uses_of r)) (leftover_text d r)
