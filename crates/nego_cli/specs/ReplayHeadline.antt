-- What `replay` promises of certificates, over the bytes that it reads and writes.
use Rattle.std.specs.Prelude.{◌≡◌, ◌⊎◌, ℕ, List, [], ◌∷◌, length}
use Rattle.nego_io.specs.Outside.{WhereTold}
use Rattle.nego_model.specs.Negotiation.{IsDeterministic}
use Rattle.nego_model.specs.Occurring.{IsSound}
use Rattle.nego_model.specs.Diagram.{PlainDiagram, negotiation_of}
use Rattle.nego_model.specs.Summary.{PlainSummary, Tells}
use Rattle.nego_expr.specs.Fresh.{fresh_work}
use Rattle.nego_cert.specs.declared.cert.Cert.{Cert}
use Rattle.nego_cert.specs.Table.{SpellsCertificate}
use Rattle.nego_cert.specs.Replay.{LeadToSummary, PlainVerdict, Accepted, IsVerdict, uses_on}
use Rattle.nego_cli.specs.declared.status.Status.{Status}
use Rattle.nego_cli.specs.declared.status.Status.TheVariants.{Done}
use Rattle.nego_cli.specs.Effect.{Effect, Put}
use Rattle.nego_cli.specs.Parts.{ReadPart, reads_at, HasRead}
use Rattle.nego_cli.specs.Loading.{SpellsDiagram}
use Rattle.nego_cli.specs.Headline.{IsHindered}
use Rattle.nego_cli.specs.Replay.{replay_status, replay_text}

-- What was taken from the source is two parts: the first spells a diagram, and the second a certificate. Its uses, each
-- allowed in its turn, lead from the diagram to one atom with the summary that was put on `out`, behind the line that they
-- are accepted. The diagram is sound, and the summary tells it: each final outcome's expression relates exactly the data at
-- the start and at the end of the complete runs with that outcome. Nothing was put on `err`.
pub record SaysAccepted (source out err : Effect) : Type 0 where
  pub part : List ℕ
  pub behind : List ℕ
  pub diagram : PlainDiagram
  pub certificate : Cert
  pub summary : PlainSummary
  pub read : HasRead (ReadPart part ∷ ReadPart behind ∷ []) source
  pub spelled : SpellsDiagram part diagram
  pub certified : SpellsCertificate behind certificate
  pub leads : LeadToSummary (fresh_work diagram) (uses_on certificate.uses) summary
  pub sound : IsSound (negotiation_of diagram)
  pub tells : Tells summary diagram
  pub printed : Put (replay_text (length certificate.uses) (Accepted summary)) out
  pub nothing : Put [] err

-- The status is that of the verdict on the certificate: 0 where it is accepted, 1 where a use of it can't be made or more
-- atoms than one are left; or memory was wanted, or a call of the outside failed.
abbrev pub IsDecidedBy : PlainDiagram → Cert → Effect → Effect → Effect → Status → Type 0
IsDecidedBy d cert source out err status = IsHindered source out err status ⊎ ((verdict : PlainVerdict) × IsVerdict d cert.uses verdict × (status ≡ replay_status verdict))

-- Status 0 says that the certificate which was read is accepted, and what that says of the diagram. And each certificate
-- behind a deterministic diagram, with which the input begins, gets the status of its verdict.
pub record ReplayHeadline (source out err : Effect) (status : Status) : Type 0 where
  pub accepted : status ≡ Done → SaysAccepted source out err
  pub decided : WhereTold source.before source.after (λ input _. (part behind : List ℕ) (d : PlainDiagram) (cert : Cert) → reads_at 2 input ≡ ReadPart part ∷ ReadPart behind ∷ [] → SpellsDiagram part d →
      IsDeterministic (negotiation_of d) → SpellsCertificate behind cert → IsDecidedBy d cert source out err status)
