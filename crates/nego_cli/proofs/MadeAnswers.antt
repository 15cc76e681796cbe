-- What `make` tells, and that it refuses nothing.
use Rattle.std.proofs.Common.{◌≡◌, ◌∙◌, ℕ, List, [], ◌++◌, length, refl, sym, ap, subst, append-nil}
use Rattle.nego_base.specs.Appending.{Appends}
use Rattle.nego_model.specs.Negotiation.{IsDeterministic}
use Rattle.nego_model.specs.Acyclic.{IsAcyclic}
use Rattle.nego_model.specs.Occurring.{IsSound}
use Rattle.nego_model.specs.Expression.{PlainNode}
use Rattle.nego_model.specs.Summary.{PlainSummary}
use Rattle.nego_model.specs.Diagram.{PlainDiagram, IsDiagram, negotiation_of}
use Rattle.nego_reader.specs.declared.parsed.Parsed.{Parsed}
use Rattle.nego_reader.specs.Content.{Content, content_of}
use Rattle.nego_reader.specs.Printing.{printed_diagram}
use Rattle.nego_shape.specs.Naming.{diagram_in}
use Rattle.nego_make.specs.Generated.{generated}
use Rattle.nego_expr.specs.Work.{PlainWork}
use Rattle.nego_reduce.specs.declared.reduced.Reduced.{Reduced}
use Rattle.nego_reduce.specs.declared.reduced.Reduced.TheVariants as reduced
use Rattle.nego_reduce.specs.Reducing.{uses_of}
use Rattle.nego_cli.specs.declared.failure.Failure.{Failure}
use Rattle.nego_cli.specs.declared.failure.Failure.TheVariants as failures
use Rattle.nego_cli.specs.declared.verdict.Verdict.{Verdict}
use Rattle.nego_cli.specs.declared.verdict.Verdict.TheVariants as verdicts
use Rattle.nego_cli.specs.Verdict.{IsReducedTo, IsVerdict}
use Rattle.nego_cli.specs.Dispatch.{HasNoText}
use Rattle.nego_cli.specs.Make.{MakeTurn, IsMadeText, made_diagram, made_line}
use Rattle.nego_cli.specs.Reduction.{HasNoWork, Leaves, IsJudged, nodes_of}
use Rattle.nego_cli.proofs.Undetermined.{undetermined_apart}

-- a deterministic diagram has its fresh work, unless memory is wanted
pub no_refusal : (d : PlainDiagram) (failure : Failure) → IsDiagram d → IsDeterministic (negotiation_of d) → HasNoWork d failure → HasNoText MakeTurn [] failure
no_refusal d (failures.Refused why) diagram determined h = absurd (undetermined_apart d why diagram determined h)
no_refusal d failures.Memory diagram determined h = tt
no_refusal d failures.ReadFault diagram determined h = absurd h
no_refusal d failures.Words diagram determined h = absurd h

-- the nodes are those of the work that is left
left_nodes : (r : Reduced) (left : PlainWork) → Leaves r left → nodes_of r ≡ left.nodes
left_nodes (reduced.One summary uses) left leaves = ap (λ (s : PlainSummary). s.nodes) leaves
left_nodes (reduced.Stuck work uses) left leaves = ap (λ (w : PlainWork). w.nodes) leaves
left_nodes (reduced.NodeLimit work uses) left leaves = ap (λ (w : PlainWork). w.nodes) leaves

-- a sound acyclic diagram has this verdict
verdict_sound : (d : PlainDiagram) (left : PlainWork) (verdict : Verdict) → IsVerdict d left verdict → IsAcyclic (negotiation_of d) → IsSound (negotiation_of d) → verdict ≡ verdicts.Sound
verdict_sound d left verdicts.Sound h acyclic sound = refl
verdict_sound d left verdicts.Unsound h acyclic sound = absurd (h.2 sound)
verdict_sound d left verdicts.Stuck h acyclic sound = absurd (h.1 acyclic)
verdict_sound d left verdicts.NodeLimit h acyclic sound = absurd (h.1 acyclic)

-- the diagram that is made, printed with its line
pub made_told : (n : ℕ) (p : Parsed) (d : PlainDiagram) (r : Reduced) (verdict : Verdict) (printed text : List ℕ) → content_of p ≡ generated n → d ≡ diagram_in (content_of p) → IsJudged d r verdict →
    IsAcyclic (negotiation_of (diagram_in (content_of p))) → IsSound (negotiation_of (diagram_in (content_of p))) →
    printed ≡ printed_diagram p → Appends printed text (made_line d (length (uses_of r)) (length (nodes_of r))) → IsMadeText n text
made_told n p d r verdict printed text content is judged acyclic sound printed_is line =
    let same : d ≡ made_diagram n = is ∙ ap diagram_in content in
    let here : IsJudged (made_diagram n) r verdict = subst (λ x. IsJudged x r verdict) same judged in
    let judges : verdict ≡ verdicts.Sound =
    verdict_sound (made_diagram n) here.left verdict here.reduced.is_verdict (subst (λ c. IsAcyclic (negotiation_of (diagram_in c))) content acyclic) (subst (λ c. IsSound (negotiation_of (diagram_in c))) content sound) in
    let nodes : nodes_of r ≡ here.left.nodes = left_nodes r here.left here.leaves in
    record {
      value = p;
      uses = uses_of r;
      left = here.left;
      content = content;
      reduced = subst (IsReducedTo (made_diagram n) (uses_of r) here.left) judges here.reduced;
      printed =
          sym (append-nil text)
          ∙ (line []
          ∙ (ap (λ t. t ++ made_line d (length (uses_of r)) (length (nodes_of r)) []) printed_is
          ∙ (ap (λ x. printed_diagram p ++ made_line x (length (uses_of r)) (length (nodes_of r)) []) same
          ∙ ap (λ (xs : List PlainNode). printed_diagram p ++ made_line (made_diagram n) (length (uses_of r)) (length xs) []) nodes)));
    }
