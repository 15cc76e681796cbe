-- What reduction makes of a diagram's fresh work, and its text.
use Rattle.std.proofs.Common.{◌≡◌, ◌∙◌, inl, inr, ℕ, List, [], ◌++◌, length, map, refl, sym, ap, subst}
use Rattle.nego_model.specs.Acyclic.{IsAcyclic}
use Rattle.nego_model.specs.Diagram.{PlainDiagram, negotiation_of}
use Rattle.nego_model.specs.Summary.{Tells}
use Rattle.nego_expr.specs.Work.{PlainWork}
use Rattle.nego_expr.specs.Fresh.{fresh_work}
use Rattle.nego_expr.specs.StandsFor.{IsFresh, StandsFor}
use Rattle.nego_expr.specs.UseView.{plain_use}
use Rattle.nego_expr.specs.declared.summary.Summary.{Summary}
use Rattle.nego_expr.specs.declared.uses.Use.{Use}
use Rattle.nego_expr.specs.SummaryText.{plain_summary, summary_text}
use Rattle.nego_reduce.specs.declared.reduced.Reduced.{Reduced}
use Rattle.nego_reduce.specs.declared.reduced.Reduced.TheVariants as reduced
use Rattle.nego_reduce.specs.Bound.{AreFew}
use Rattle.nego_reduce.specs.Reducing.{IsReductionOf, IsDecided, uses_of}
use Rattle.nego_reduce.proofs.UsesLead.{reduced_tells}
use Rattle.nego_cli.specs.declared.verdict.Verdict.{Verdict}
use Rattle.nego_cli.specs.declared.verdict.Verdict.TheVariants as verdicts
use Rattle.nego_cli.specs.Verdict.{IsVerdict, IsVerdictOn, verdict_line, verdict_status}
use Rattle.nego_cert.specs.CertificateText.{certificate_text}
use Rattle.nego_cli.specs.Certificate.{left_lines, left_text, leftover_text, reduced_text}
use Rattle.nego_cli.specs.Reduction.{Leaves, IsJudged}
use Rattle.nego_cli.specs.Reduce.{IsReductionText}

-- What is known of what reduction makes of the fresh work of a diagram.
abbrev IsMade : PlainDiagram → PlainWork → Reduced → Type 0
IsMade d work r = IsReductionOf work r × AreFew d (uses_of r) × (IsAcyclic (negotiation_of d) → IsDecided d r)

-- the lines of the atoms of a work that is left
abbrev left_words : PlainDiagram → PlainWork → List ℕ
left_words d work = left_lines d (map (λ atom. atom.number) work.atoms) []

judged_fresh : (d : PlainDiagram) (r : Reduced) (verdict : Verdict) → StandsFor (fresh_work d) d → IsFresh (fresh_work d) d → IsMade d (fresh_work d) r → IsVerdictOn d r verdict → IsJudged d r verdict
judged_fresh d (reduced.One summary uses) verdict stands fresh ((end, leads, done, e), few, decided) is =
    let plain = plain_summary summary in
    let tells : Tells plain d = reduced_tells d (fresh_work d) (map plain_use uses) plain fresh (end, leads, done, e) in
    record {
      fresh = fresh;
      left = end;
      leaves = e;
      reduced = record { leads = leads; few = few; is_verdict = subst (IsVerdict d end) (sym is) (done, subst (λ s. Tells s d) e tells) };
      on = is;
    }
judged_fresh d (reduced.Stuck left uses) verdict stands fresh ((leads, stuck), few, decided) (inl (is, acyclic)) = record {
  fresh = fresh;
  left = left.plain;
  leaves = refl;
  reduced = record { leads = leads; few = few; is_verdict = subst (IsVerdict d left.plain) (sym is) (stuck, acyclic, λ sound. (decided acyclic).0.1 sound) };
  on = inl (is, acyclic);
}
judged_fresh d (reduced.Stuck left uses) verdict stands fresh ((leads, stuck), few, decided) (inr (is, cyclic)) = record {
  fresh = fresh;
  left = left.plain;
  leaves = refl;
  reduced = record { leads = leads; few = few; is_verdict = subst (IsVerdict d left.plain) (sym is) (stuck, cyclic) };
  on = inr (is, cyclic);
}
judged_fresh d (reduced.NodeLimit left uses) verdict stands fresh ((leads, full), few, decided) is = record {
  fresh = fresh;
  left = left.plain;
  leaves = refl;
  reduced = record { leads = leads; few = few; is_verdict = subst (IsVerdict d left.plain) (sym is) (full, λ acyclic. (decided acyclic).1 tt) };
  on = is;
}

-- what reduction makes of a work that is the diagram's fresh one is judged
pub judged : (d : PlainDiagram) (work : PlainWork) (r : Reduced) (verdict : Verdict) → IsFresh work d → StandsFor work d → IsReductionOf work r → AreFew d (uses_of r) →
    (IsAcyclic (negotiation_of d) → IsDecided d r) → IsVerdictOn d r verdict → IsJudged d r verdict
judged d work r verdict fresh stands reduces few decided is =
    judged_fresh d r verdict (subst (λ w. StandsFor w d) fresh.fresh stands) (subst (λ w. IsFresh w d) fresh.fresh fresh) (subst (λ w. IsReductionOf w r) fresh.fresh reduces, few, decided) is

-- what is said of what is left
same_leftover : (d : PlainDiagram) (r : Reduced) (left : PlainWork) (verdict : Verdict) → Leaves r left → IsVerdictOn d r verdict → leftover_text d r ≡ left_text d left verdict
same_leftover d (reduced.One summary uses) left verdict e is = ap summary_text e ∙ ap (left_text d left) (sym is)
same_leftover d (reduced.Stuck work uses) left verdict e (inl (is, acyclic)) = ap (left_words d) e ∙ ap (left_text d left) (sym is)
same_leftover d (reduced.Stuck work uses) left verdict e (inr (is, cyclic)) = ap (left_words d) e ∙ ap (left_text d left) (sym is)
same_leftover d (reduced.NodeLimit work uses) left verdict e is = ap (left_words d) e ∙ ap (left_text d left) (sym is)

-- what is judged, printed with the verdict, is the text of the reduction
pub reduction_told : (d : PlainDiagram) (r : Reduced) (verdict : Verdict) → IsJudged d r verdict → IsReductionText d (verdict_status verdict) (reduced_text d r verdict)
reduction_told d r verdict h = record {
  uses = uses_of r;
  left = h.left;
  verdict = verdict;
  reduced = h.reduced;
  status_is = refl;
  printed = ap (λ text. certificate_text (uses_of r) ++ verdict_line verdict (length (uses_of r)) text) (same_leftover d r h.left verdict h.leaves h.on);
}

-- of one atom that is left the summary tells the diagram
pub one_tells : (d : PlainDiagram) (summary : Summary) (uses : List Use) (r : Reduced) (verdict : Verdict) → r ≡ reduced.One summary uses → IsJudged d r verdict → (verdict ≡ verdicts.Sound) × Tells (plain_summary summary) d
one_tells d summary uses r verdict is h =
    let j : IsJudged d (reduced.One summary uses) verdict = subst (λ x. IsJudged d x verdict) is h in
    (j.on, subst (λ s. Tells s d) (sym j.leaves) (subst (IsVerdict d j.left) j.on j.reduced.is_verdict).1)
