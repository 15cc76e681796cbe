-- A diagram and a certificate have one verdict at most, and what is accepted tells the diagram.
use Rattle.std.proofs.Common.{◌≡◌, ℕ, ◌≤◌, List, [], ◌∷◌, ◌++◌, length, IsTrue, Result, Ok, Err, refl, sym, ap, ap₂, subst, ◌∙◌, arith}
use Rattle.std.specs.Prelude.{IfOk}
use Rattle.std.proofs.lemmas.Bool.{true≢false}
use Rattle.nego_base.specs.declared.memory.Memory.{Memory}
use Rattle.nego_model.specs.Diagram.{PlainDiagram}
use Rattle.nego_model.specs.Summary.{PlainSummary, Tells}
use Rattle.nego_expr.specs.Work.{PlainWork}
use Rattle.nego_expr.specs.Use.{PlainUse, Merge, Iterate, Shortcut, Close, allows, after_use, most_nodes}
use Rattle.nego_expr.specs.UseView.{plain_use}
use Rattle.nego_expr.specs.Keeps.{UsesKeep}
use Rattle.nego_expr.specs.Lead.{Lead, Allowed}
use Rattle.nego_expr.specs.Fresh.{fresh_work}
use Rattle.nego_expr.specs.Finish.{summary_of_work}
use Rattle.nego_expr.specs.StandsFor.{StandsFor, IsFresh}
use Rattle.nego_expr.proofs.Finished.{finished_works}
use Rattle.nego_expr.proofs.FreshWorks.{fresh_works, has_form}
use Rattle.nego_expr.proofs.Leading.{Lead-one, leading_stands}
use Rattle.nego_merge.proofs.MergeKeeps.{merging}
use Rattle.nego_iterate.proofs.IterateKeeps.{iterating}
use Rattle.nego_shortcut.proofs.CloseKeeps.{closing}
use Rattle.nego_shortcut.proofs.ShortcutKeeps.{shortcuts_keep}
use Rattle.nego_cert.specs.declared.cert.CertLine.{CertLine}
use Rattle.nego_cert.specs.declared.verdict.RuleWhy.{RuleWhy}
use Rattle.nego_cert.specs.declared.verdict.RuleWhy.TheVariants as whys
use Rattle.nego_cert.specs.declared.verdict.Verdict.{Verdict}
use Rattle.nego_cert.specs.declared.verdict.Verdict.TheVariants as verdicts
use Rattle.nego_cert.specs.Replay.{uses_on, IsFinished, TellsIfAccepted, plain_verdict, LeadToSummary, Fails, IsFirstFailing, LeavesMore, Accepted, Rejected, NotOne, IsVerdict}
use Rattle.nego_cert.specs.Laws.{VerdictsAreOne, AcceptedTell, LeadingAreAccepted}

-- ---- a use that fails

-- a use that fails isn't made
fails_or_made : (work : PlainWork) (next : PlainUse) (why : RuleWhy) → Fails work next why → IsTrue (allows work next) → length (after_use work next).nodes ≤ most_nodes → ⊥
fails_or_made work next whys.Guard fails allowed few = true≢false (sym allowed ∙ fails)
fails_or_made work next whys.Nodes fails allowed few = let many = fails.1 in omega arith

-- it fails for one reason
fails_once : (work : PlainWork) (next : PlainUse) (one two : RuleWhy) → Fails work next one → Fails work next two → one ≡ two
fails_once work next whys.Guard whys.Guard h k = refl
fails_once work next whys.Guard whys.Nodes h k = absurd (true≢false (sym k.0 ∙ h))
fails_once work next whys.Nodes whys.Guard h k = absurd (true≢false (sym h.0 ∙ k))
fails_once work next whys.Nodes whys.Nodes h k = refl

no_lines : (line : CertLine) (lines : List CertLine) → ◌≡◌ {A = List CertLine} [] (line ∷ lines) → ⊥
no_lines line lines h = cc

heads : (one two : CertLine) (ones twos : List CertLine) → one ∷ ones ≡ two ∷ twos → one ≡ two
heads one two ones twos h = cc

tails : (one two : CertLine) (ones twos : List CertLine) → one ∷ ones ≡ two ∷ twos → ones ≡ twos
tails one two ones twos h = cc

-- where all uses are made, none fails
pub made_or_fails : (work end reached : PlainWork) (lines before behind : List CertLine) (bad : CertLine) (why : RuleWhy) → Lead Allowed work (uses_on lines) end → lines ≡ before ++ bad ∷ behind →
    Lead Allowed work (uses_on before) reached → Fails reached (plain_use bad.what) why → ⊥
made_or_fails work end reached [] [] behind bad why leads parts before_leads fails = no_lines bad behind parts
made_or_fails work end reached [] (b ∷ before) behind bad why leads parts before_leads fails = no_lines b (before ++ bad ∷ behind) parts
made_or_fails work end reached (line ∷ lines) [] behind bad why leads parts before_leads fails =
    let same = heads line bad lines behind parts in
    fails_or_made work (plain_use line.what) why (subst (λ l. Fails work (plain_use l.what) why) (sym same) (subst (λ w. Fails w (plain_use bad.what) why) (sym before_leads) fails)) leads.0 leads.1
made_or_fails work end reached (line ∷ lines) (b ∷ before) behind bad why leads parts before_leads fails =
    let same = heads line b lines (before ++ bad ∷ behind) parts in
    made_or_fails (after_use work (plain_use line.what)) end reached lines before behind bad why leads.2 (tails line b lines (before ++ bad ∷ behind) parts)
    (subst (λ l. Lead Allowed (after_use work (plain_use l.what)) (uses_on before) reached) (sym same) before_leads.2) fails

-- one line is the first whose use fails, for one reason
pub first_failing_once : (work reached reached' : PlainWork) (before before' behind behind' : List CertLine) (bad bad' : CertLine) (why why' : RuleWhy) → before ++ bad ∷ behind ≡ before' ++ bad' ∷ behind' →
    Lead Allowed work (uses_on before) reached → Lead Allowed work (uses_on before') reached' → Fails reached (plain_use bad.what) why → Fails reached' (plain_use bad'.what) why' → (bad ≡ bad') × (why ≡ why')
first_failing_once work reached reached' [] [] behind behind' bad bad' why why' same h k f g =
    let one = heads bad bad' behind behind' same in (
      one,
      fails_once work (plain_use bad.what) why why' (subst (λ w. Fails w (plain_use bad.what) why) (sym h) f)
          (subst (λ l. Fails work (plain_use l.what) why') (sym one) (subst (λ w. Fails w (plain_use bad'.what) why') (sym k) g)),
    )
first_failing_once work reached reached' [] (b ∷ before') behind behind' bad bad' why why' same h k f g =
    let one = heads bad b behind (before' ++ bad' ∷ behind') same in
    absurd (fails_or_made work (plain_use b.what) why (subst (λ l. Fails work (plain_use l.what) why) one (subst (λ w. Fails w (plain_use bad.what) why) (sym h) f)) k.0 k.1)
first_failing_once work reached reached' (b ∷ before) [] behind behind' bad bad' why why' same h k f g =
    let one = heads b bad' (before ++ bad ∷ behind) behind' same in
    absurd (fails_or_made work (plain_use b.what) why' (subst (λ l. Fails work (plain_use l.what) why') (sym one) (subst (λ w. Fails w (plain_use bad'.what) why') (sym k) g)) h.0 h.1)
first_failing_once work reached reached' (b ∷ before) (b' ∷ before') behind behind' bad bad' why why' same h k f g =
    let one = heads b b' (before ++ bad ∷ behind) (before' ++ bad' ∷ behind') same in
    first_failing_once (after_use work (plain_use b.what)) reached reached' before before' behind behind' bad bad' why why' (tails b b' (before ++ bad ∷ behind) (before' ++ bad' ∷ behind') same) h.2
    (subst (λ l. Lead Allowed (after_use work (plain_use l.what)) (uses_on before') reached') (sym one) k.2) f g

-- ---- verdicts

module _ (work : PlainWork) (lines : List CertLine) where
  accepted_once : (one two : PlainSummary) → LeadToSummary work (uses_on lines) one → LeadToSummary work (uses_on lines) two → one ≡ two
  accepted_once one two h k = h.is ∙ (ap summary_of_work (Lead-one Allowed Allowed work h.end k.end (uses_on lines) h.lead k.lead) ∙ sym k.is)

  accepted_or_rejected : (summary : PlainSummary) (number : ℕ) (why : RuleWhy) → LeadToSummary work (uses_on lines) summary → IsFirstFailing work lines number why → ⊥
  accepted_or_rejected summary number why h k = made_or_fails work h.end k.reached lines k.before k.behind k.bad why h.lead k.parts k.lead k.fails

  more_or_rejected : (count number : ℕ) (why : RuleWhy) → LeavesMore work (uses_on lines) count → IsFirstFailing work lines number why → ⊥
  more_or_rejected count number why h k = made_or_fails work h.end k.reached lines k.before k.behind k.bad why h.lead k.parts k.lead k.fails

  accepted_or_more : (summary : PlainSummary) (count : ℕ) → LeadToSummary work (uses_on lines) summary → LeavesMore work (uses_on lines) count → ⊥
  accepted_or_more summary count h k =
      let same : length h.end.atoms ≡ length k.end.atoms = ap (λ w. length w.atoms) (Lead-one Allowed Allowed work h.end k.end (uses_on lines) h.lead k.lead) in
      let one = h.one in
      let more = k.more in
      let is = k.is in
      omega arith

pub verdicts_one : VerdictsAreOne
verdicts_one diagram lines (Accepted one) (Accepted two) h k = ap Accepted (accepted_once (fresh_work diagram) lines one two h k)
verdicts_one diagram lines (Accepted one) (Rejected n why) h k = absurd (accepted_or_rejected (fresh_work diagram) lines one n why h k)
verdicts_one diagram lines (Accepted one) (NotOne count) h k = absurd (accepted_or_more (fresh_work diagram) lines one count h k)
verdicts_one diagram lines (Rejected n why) (Accepted two) h k = absurd (accepted_or_rejected (fresh_work diagram) lines two n why k h)
verdicts_one diagram lines (Rejected n why) (Rejected m why') h k =
    let same = first_failing_once (fresh_work diagram) h.reached k.reached h.before k.before h.behind k.behind h.bad k.bad why why' (sym h.parts ∙ k.parts) h.lead k.lead h.fails k.fails in
    ap₂ Rejected (h.is ∙ (ap (λ l. l.line) same.0 ∙ sym k.is)) same.1
verdicts_one diagram lines (Rejected n why) (NotOne count) h k = absurd (more_or_rejected (fresh_work diagram) lines count n why k h)
verdicts_one diagram lines (NotOne count) (Accepted two) h k = absurd (accepted_or_more (fresh_work diagram) lines two count k h)
verdicts_one diagram lines (NotOne count) (Rejected n why) h k = absurd (more_or_rejected (fresh_work diagram) lines count n why h k)
verdicts_one diagram lines (NotOne count) (NotOne count') h k =
    ap NotOne (h.is ∙ (ap (λ w. length w.atoms) (Lead-one Allowed Allowed (fresh_work diagram) h.end k.end (uses_on lines) h.lead k.lead) ∙ sym k.is))

pub leading_accepted : LeadingAreAccepted
leading_accepted diagram lines end verdict leads one =
    let accepted : LeadToSummary (fresh_work diagram) (uses_on lines) (summary_of_work end) = record { end = end; lead = leads; one = one; is = refl } in
    (λ h. verdicts_one diagram lines verdict (Accepted (summary_of_work end)) h accepted, λ e. subst (IsVerdict diagram lines) (sym e) accepted)

-- ---- what is accepted

-- each rule keeps what a work is
uses_keep : UsesKeep
uses_keep (Merge o1 o2) = merging o1 o2
uses_keep (Iterate o) = iterating o
uses_keep (Shortcut o n) = shortcuts_keep o n
uses_keep Close = closing

pub accepted_tell : AcceptedTell
accepted_tell diagram uses summary read deterministic h =
    let stands : StandsFor (fresh_work diagram) diagram = fresh_works diagram (has_form diagram read) deterministic in
    let left = leading_stands (fresh_work diagram) h.end uses diagram uses_keep stands h.lead in
    subst (λ s. Tells s diagram) (sym h.is) (finished_works diagram h.end read h.one left)

-- the verdict where all uses were made
pub finished_tells : (diagram : PlainDiagram) (work end : PlainWork) (uses : List PlainUse) (result : Result Verdict Memory) → IsFresh work diagram → StandsFor work diagram → Lead Allowed work uses end →
    IfOk result (λ v. IsFinished end (plain_verdict v)) → IfOk result (λ v. TellsIfAccepted diagram (plain_verdict v))
finished_tells diagram work end uses (Err e) fresh stands leads h = tt
finished_tells diagram work end uses (Ok (verdicts.Accepted summary)) fresh stands leads h =
    subst (λ s. Tells s diagram) (sym h.1) (finished_works diagram end fresh.diagram_read h.0 (leading_stands work end uses diagram uses_keep stands leads))
finished_tells diagram work end uses (Ok (verdicts.Rejected number why)) fresh stands leads h = tt
finished_tells diagram work end uses (Ok (verdicts.NotOne count)) fresh stands leads h = tt

pub finished_verdict : (diagram : PlainDiagram) (work end : PlainWork) (lines lines' : List CertLine) (result : Result Verdict Memory) → lines ≡ lines' → work ≡ fresh_work diagram → Lead Allowed work (uses_on lines) end →
    IfOk result (λ v. IsFinished end (plain_verdict v)) → IfOk result (λ v. IsVerdict diagram lines' (plain_verdict v))
finished_verdict diagram work end lines lines' result same fresh leads h =
    by_result result h (subst (λ ls. Lead Allowed (fresh_work diagram) (uses_on ls) end) same (subst (λ w. Lead Allowed w (uses_on lines) end) fresh leads))
  where
    by_result : (r : Result Verdict Memory) → IfOk r (λ v. IsFinished end (plain_verdict v)) → Lead Allowed (fresh_work diagram) (uses_on lines') end → IfOk r (λ v. IsVerdict diagram lines' (plain_verdict v))
    by_result (Err e) h leads = tt
    by_result (Ok (verdicts.Accepted summary)) h leads = record { end = end; lead = leads; one = h.0; is = h.1 }
    by_result (Ok (verdicts.Rejected number why)) h leads = absurd h
    by_result (Ok (verdicts.NotOne count)) h leads = record { end = end; lead = leads; is = h.0; more = h.1 }
