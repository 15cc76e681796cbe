-- The laws of certificates and of their replay.
use Rattle.std.specs.Prelude.{◌≡◌, ◌↔◌, ℕ, ◌+◌, ◌*◌, ◌≤◌, ◌<◌, List, length, All}
use Rattle.nego_model.specs.Negotiation.{IsDeterministic}
use Rattle.nego_model.specs.Diagram.{PlainDiagram, IsDiagram, negotiation_of}
use Rattle.nego_model.specs.Summary.{PlainSummary, Tells}
use Rattle.nego_expr.specs.Work.{PlainWork}
use Rattle.nego_expr.specs.Use.{PlainUse, Merge, Iterate, Shortcut, Close}
use Rattle.nego_expr.specs.Lead.{Lead, Allowed}
use Rattle.nego_expr.specs.Fresh.{fresh_work}
use Rattle.nego_expr.specs.Finish.{summary_of_work}
use Rattle.nego_cert.specs.declared.cert.Cert.{Cert}
use Rattle.nego_cert.specs.declared.cert.CertLine.{CertLine}
use Rattle.nego_cert.specs.CertificateText.{certificate_text}
use Rattle.nego_cert.specs.Lines.{uses_of}
use Rattle.nego_cert.specs.Table.{HasShortNumbers, SpellsCertificate}
use Rattle.nego_cert.specs.Replay.{LeadToSummary, PlainVerdict, Accepted, IsVerdict, uses_on}

-- ---- texts

-- The printed text of uses whose numbers have six digits at most spells a certificate of just these uses.
abbrev pub PrintedAreSpelled : Type 0
PrintedAreSpelled = (uses : List PlainUse) → All HasShortNumbers uses → (cert : Cert) × SpellsCertificate (certificate_text uses) cert × (uses_of cert ≡ uses)

-- The uses that a text spells have numbers of six digits at most.
abbrev pub SpelledAreShort : Type 0
SpelledAreShort = (bytes : List ℕ) (cert : Cert) → SpellsCertificate bytes cert → All HasShortNumbers (uses_of cert)

-- outcomes below 1,000, and atoms below 100, as those of every diagram that can be read
abbrev pub HasSmallNumbers : PlainUse → Type 0
HasSmallNumbers (Merge o1 o2) = (o1 < 1000) × (o2 < 1000)
HasSmallNumbers (Iterate o) = o < 1000
HasSmallNumbers (Shortcut o n) = (o < 1000) × (n < 100)
HasSmallNumbers Close = Unit {0}

-- Each printed line of such uses has at most 16 bytes.
abbrev pub PrintedAreShort : Type 0
PrintedAreShort = (uses : List PlainUse) → All HasSmallNumbers uses → length (certificate_text uses) ≤ 16 * length uses + 18

-- ---- replay

-- A diagram and a certificate have one verdict at most.
abbrev pub VerdictsAreOne : Type 0
VerdictsAreOne = (diagram : PlainDiagram) (lines : List CertLine) (one two : PlainVerdict) → IsVerdict diagram lines one → IsVerdict diagram lines two → one ≡ two

-- The summary to which allowed uses lead from a deterministic diagram tells the diagram.
abbrev pub AcceptedTell : Type 0
AcceptedTell = (diagram : PlainDiagram) (uses : List PlainUse) (summary : PlainSummary) → IsDiagram diagram → IsDeterministic (negotiation_of diagram) →
    LeadToSummary (fresh_work diagram) uses summary → Tells summary diagram

-- A certificate of allowed uses that lead to a work of one atom is accepted with this work's summary, and has no other
-- verdict.
abbrev pub LeadingAreAccepted : Type 0
LeadingAreAccepted = (diagram : PlainDiagram) (lines : List CertLine) (end : PlainWork) (verdict : PlainVerdict) → Lead Allowed (fresh_work diagram) (uses_on lines) end → length end.atoms ≡ 1 →
    IsVerdict diagram lines verdict ↔ (verdict ≡ Accepted (summary_of_work end))
