-- What `reduce` promises of soundness, over the bytes that it reads and writes.
use Rattle.std.specs.Prelude.{◌≡◌, ◌⊎◌, ℕ, ◌+◌, ◌*◌, ◌≤◌, List, [], ◌∷◌, ◌++◌, length}
use Rattle.nego_model.specs.Negotiation.{IsDeterministic}
use Rattle.nego_model.specs.Occurring.{IsSound}
use Rattle.nego_model.specs.Acyclic.{IsAcyclic}
use Rattle.nego_model.specs.Diagram.{PlainDiagram, negotiation_of}
use Rattle.nego_model.specs.Summary.{PlainSummary, Tells}
use Rattle.nego_expr.specs.Use.{PlainUse}
use Rattle.nego_expr.specs.SummaryText.{summary_text}
use Rattle.nego_io.specs.Outside.{WhereTold}
use Rattle.nego_cli.specs.declared.status.Status.{Status}
use Rattle.nego_cli.specs.declared.status.Status.TheVariants.{Done, No, ReadFault, WriteFault, Memory}
use Rattle.nego_cli.specs.declared.verdict.Verdict.TheVariants.{Sound}
use Rattle.nego_cli.specs.Effect.{Effect, HasFaulted, Put}
use Rattle.nego_cli.specs.Parts.{ReadPart, read_at, HasRead}
use Rattle.nego_cli.specs.Loading.{SpellsDiagram}
use Rattle.nego_cert.specs.CertificateText.{certificate_text}
use Rattle.nego_cli.specs.Verdict.{verdict_line}

-- how many uses are made at most for a diagram
abbrev pub most_uses : PlainDiagram → ℕ
most_uses d = length d.outcomes * length d.atoms + length d.outcomes + 1

-- What was taken from the source is one part, which spells a diagram, and this diagram is sound. What was put on `out` is a
-- certificate, the line that the diagram is sound after so many uses as the certificate has lines, and a summary. The
-- summary tells the diagram: each final outcome's expression relates exactly the data at the start and at the end of the
-- complete runs with that outcome. Nothing was put on `err`.
pub record SaysSound (source out err : Effect) : Type 0 where
  pub part : List ℕ
  pub diagram : PlainDiagram
  pub uses : List PlainUse
  pub summary : PlainSummary
  pub read : HasRead (ReadPart part ∷ []) source
  pub spelled : SpellsDiagram part diagram
  pub sound : IsSound (negotiation_of diagram)
  pub tells : Tells summary diagram
  pub few : length uses ≤ most_uses diagram
  pub printed : Put (certificate_text uses ++ verdict_line Sound (length uses) (summary_text summary)) out
  pub nothing : Put [] err

-- Memory was wanted, or a call of the source, of `out` or of `err` failed.
abbrev pub IsHindered : Effect → Effect → Effect → Status → Type 0
IsHindered source out err status = (status ≡ Memory) ⊎ (((status ≡ ReadFault) × HasFaulted source) ⊎ ((status ≡ WriteFault) × (HasFaulted out ⊎ HasFaulted err)))

-- Status 0 says that the diagram which was read is sound, and what it does to the data. And each acyclic deterministic
-- diagram which the input begins with gets status 0 where it is sound, and status 1 where it isn't, unless memory is wanted
-- or a call of the outside fails.
pub record Headline (source out err : Effect) (status : Status) : Type 0 where
  pub sound : status ≡ Done → SaysSound source out err
  pub complete : WhereTold source.before source.after (λ input _. (part : List ℕ) (d : PlainDiagram) → read_at input ≡ ReadPart part → SpellsDiagram part d →
      IsDeterministic (negotiation_of d) → IsAcyclic (negotiation_of d) →
      IsHindered source out err status ⊎ (((status ≡ Done) × IsSound (negotiation_of d)) ⊎ ((status ≡ No) × ¬ IsSound (negotiation_of d))))
