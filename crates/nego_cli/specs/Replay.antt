-- What `replay` does with a diagram and a certificate behind it.
use Rattle.std.specs.Prelude.{◌≡◌, ◌⊎◌, ℕ, List, [], ◌++◌, length, codes, decimal}
use Rattle.nego_model.specs.Negotiation.{IsDeterministic}
use Rattle.nego_model.specs.Diagram.{PlainDiagram, negotiation_of}
use Rattle.nego_expr.specs.SummaryText.{summary_text}
use Rattle.nego_cert.specs.declared.cert.Cert.{Cert}
use Rattle.nego_cert.specs.declared.verdict.RuleWhy.{RuleWhy}
use Rattle.nego_cert.specs.declared.verdict.RuleWhy.TheVariants as whys
use Rattle.nego_cert.specs.Table.{SpellsCertificate}
use Rattle.nego_cert.specs.Replay.{PlainVerdict, Accepted, Rejected, NotOne, IsVerdict, TellsIfAccepted}
use Rattle.nego_cli.specs.declared.status.Status.{Status}
use Rattle.nego_cli.specs.declared.status.Status.TheVariants as statuses
use Rattle.nego_cli.specs.declared.failure.Refusal.{Refusal}
use Rattle.nego_cli.specs.Parts.{Read}
use Rattle.nego_cli.specs.Reduce.{IsUndetermined}
use Rattle.nego_cli.specs.Turn.{Turn, Refuses, OnlyTells, TurnOver, TextOver}
use Rattle.nego_cli.specs.Loading.{IsNoCertificate}

-- A command over a diagram that must be deterministic refuses one that isn't, and else does this with what it reads behind
-- it.
abbrev pub TurnWhereDetermined : PlainDiagram → (List Read → Turn → Type 0) → List Read → Turn → Type 0
TurnWhereDetermined d does reads turn = ((why : Refusal) × (turn ≡ Refuses why) × (reads ≡ []) × IsUndetermined d why) ⊎ (IsDeterministic (negotiation_of d) × does reads turn)

-- It takes each certificate.
abbrev pub CertificateTurn : Cert → List Read → Turn → Type 0
CertificateTurn cert reads turn = OnlyTells reads turn

-- It takes each deterministic diagram, and reads a certificate behind it.
abbrev pub ReplayTurn : PlainDiagram → List Read → Turn → Type 0
ReplayTurn d = TurnWhereDetermined d (TurnOver SpellsCertificate IsNoCertificate CertificateTurn)

-- the word for why a use can't be made
abbrev pub why_name : RuleWhy → List ℕ
why_name whys.Guard = codes "Guard"
why_name whys.Nodes = codes "Nodes"

-- the text of the verdict on a certificate of so many uses, and the summary where it is accepted
abbrev pub replay_text : ℕ → PlainVerdict → List ℕ
replay_text count (Accepted summary) = codes "accepted uses " ++ (decimal count ++ (codes "\n" ++ summary_text summary))
replay_text count (Rejected line why) = codes "rejected line " ++ (decimal line ++ (codes " " ++ (why_name why ++ codes "\n")))
replay_text count (NotOne left) = codes "not one " ++ (decimal left ++ codes "\n")

-- the status of a verdict
abbrev pub replay_status : PlainVerdict → Status
replay_status (Accepted summary) = statuses.Done
replay_status _ = statuses.No

-- The text is the verdict on the certificate, whose uses are made of the diagram's fresh work, and the status is that of
-- the verdict. Where it is accepted, the summary tells the diagram.
pub record IsReplayText (d : PlainDiagram) (cert : Cert) (status : Status) (text : List ℕ) : Type 0 where
  pub verdict : PlainVerdict
  pub is_verdict : IsVerdict d cert.uses verdict
  pub tells : TellsIfAccepted d verdict
  pub status_is : status ≡ replay_status verdict
  pub printed : text ≡ replay_text (length cert.uses) verdict

-- It tells the verdict on the certificate.
abbrev pub ReplayText : PlainDiagram → List Read → Status → List ℕ → Type 0
ReplayText d = TextOver SpellsCertificate (λ cert reads status text. IsReplayText d cert status text)
