-- What replaying a certificate comes to.
use Rattle.std.specs.Prelude.{◌≡◌, ℕ, ◌<◌, ⊤, false, List, ◌∷◌, ◌++◌, length, map, IsTrue}
use Rattle.nego_model.specs.Diagram.{PlainDiagram}
use Rattle.nego_model.specs.Summary.{PlainSummary, Tells}
use Rattle.nego_expr.specs.Work.{PlainWork}
use Rattle.nego_expr.specs.Use.{PlainUse, allows, after_use, most_nodes}
use Rattle.nego_expr.specs.UseView.{plain_use}
use Rattle.nego_expr.specs.SummaryText.{plain_summary}
use Rattle.nego_expr.specs.Lead.{Lead, Allowed}
use Rattle.nego_expr.specs.Finish.{summary_of_work}
use Rattle.nego_expr.specs.Fresh.{fresh_work}
use Rattle.nego_cert.specs.declared.cert.CertLine.{CertLine}
use Rattle.nego_cert.specs.declared.verdict.RuleWhy.{RuleWhy}
use Rattle.nego_cert.specs.declared.verdict.RuleWhy.TheVariants as whys
use Rattle.nego_cert.specs.declared.verdict.Verdict.{Verdict}
use Rattle.nego_cert.specs.declared.verdict.Verdict.TheVariants as verdicts

-- the uses of these lines
abbrev pub uses_on : List CertLine → List PlainUse
uses_on lines = map (λ line. plain_use line.what) lines

-- The uses are allowed, one after the other, and lead from the work to one of which one atom is left, with this summary.
pub record LeadToSummary (work : PlainWork) (uses : List PlainUse) (summary : PlainSummary) : Type 0 where
  pub end : PlainWork
  pub lead : Lead Allowed work uses end
  pub one : length end.atoms ≡ 1
  pub is : summary ≡ summary_of_work end

-- why the work can't make the use: its rule doesn't allow it; or it does, and there would be too many nodes
abbrev pub Fails : PlainWork → PlainUse → RuleWhy → Type 0
Fails work next whys.Guard = allows work next ≡ false
Fails work next whys.Nodes = IsTrue (allows work next) × (most_nodes < length (after_use work next).nodes)

-- Among the lines this one is the first whose use fails, for this reason: those before it lead to a work that can't make it.
pub record IsFirstFailing (work : PlainWork) (lines : List CertLine) (number : ℕ) (why : RuleWhy) : Type 0 where
  pub before : List CertLine
  pub bad : CertLine
  pub behind : List CertLine
  pub parts : lines ≡ before ++ bad ∷ behind
  pub reached : PlainWork
  pub lead : Lead Allowed work (uses_on before) reached
  pub fails : Fails reached (plain_use bad.what) why
  pub is : number ≡ bad.line

-- The uses are all made, and so many atoms are left, more than one.
pub record LeavesMore (work : PlainWork) (uses : List PlainUse) (count : ℕ) : Type 0 where
  pub end : PlainWork
  pub lead : Lead Allowed work uses end
  pub is : count ≡ length end.atoms
  pub more : 1 < count

-- a verdict, without the room for more nodes
pub data PlainVerdict : Type 0 where
  Accepted : PlainSummary → PlainVerdict
  Rejected : ℕ → RuleWhy → PlainVerdict
  NotOne : ℕ → PlainVerdict

abbrev pub plain_verdict : Verdict → PlainVerdict
plain_verdict (verdicts.Accepted summary) = Accepted (plain_summary summary)
plain_verdict (verdicts.Rejected number why) = Rejected number why
plain_verdict (verdicts.NotOne count) = NotOne count

-- what the lines of a certificate come to, made of the fresh work of the diagram
abbrev pub IsVerdict : PlainDiagram → List CertLine → PlainVerdict → Type 0
IsVerdict diagram lines (Accepted summary) = LeadToSummary (fresh_work diagram) (uses_on lines) summary
IsVerdict diagram lines (Rejected number why) = IsFirstFailing (fresh_work diagram) lines number why
IsVerdict diagram lines (NotOne count) = LeavesMore (fresh_work diagram) (uses_on lines) count

-- what a work comes to that all uses of a certificate lead to
abbrev pub IsFinished : PlainWork → PlainVerdict → Type 0
IsFinished work (Accepted summary) = (length work.atoms ≡ 1) × (summary ≡ summary_of_work work)
IsFinished work (Rejected number why) = ⊥
IsFinished work (NotOne count) = (count ≡ length work.atoms) × (1 < count)

-- where a certificate is accepted, the summary tells the diagram
abbrev pub TellsIfAccepted : PlainDiagram → PlainVerdict → Type 0
TellsIfAccepted diagram (Accepted summary) = Tells summary diagram
TellsIfAccepted diagram _ = ⊤
