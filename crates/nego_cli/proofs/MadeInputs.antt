-- What `make` prints is an input of the commands over a diagram.
use Rattle.std.proofs.Common.{◌≡◌, ◌∙◌, ℕ, ◌≤◌, List, [], ◌∷◌, ◌++◌, length, refl, sym, ap, subst}
use Rattle.std.specs.Prelude.{◌↔◌}
use Rattle.nego_io.specs.Laws.{IsClosedPart}
use Rattle.nego_model.specs.Diagram.{PlainDiagram}
use Rattle.nego_reader.specs.declared.parsed.Parsed.{Parsed}
use Rattle.nego_reader.specs.Content.{content_of}
use Rattle.nego_reader.specs.Printable.{IsPrintableDiagram}
use Rattle.nego_reader.specs.Printing.{printed_diagram}
use Rattle.nego_reader.proofs.PrintedAgain.{printed_again}
use Rattle.nego_shape.specs.Conditions.{HasShape}
use Rattle.nego_shape.specs.Naming.{diagram_in}
use Rattle.nego_make.specs.Generated.{generated}
use Rattle.nego_make.proofs.Conditions.{shaped}
use Rattle.nego_make.proofs.Edges.{acyclic, deterministic}
use Rattle.nego_make.proofs.SoundMade.{sound}
use Rattle.nego_make.proofs.GoodLines.{IsGoodContent, good_fits, good_printable}
use Rattle.nego_make.proofs.PrintedMade.{good_made}
use Rattle.nego_expr.specs.Work.{PlainWork}
use Rattle.nego_expr.specs.Use.{PlainUse}
use Rattle.nego_cli.specs.declared.command.Command.TheVariants as commands
use Rattle.nego_cli.specs.declared.status.Status.{Status}
use Rattle.nego_cli.specs.declared.verdict.Verdict.{Verdict}
use Rattle.nego_cli.specs.declared.verdict.Verdict.TheVariants.{Sound}
use Rattle.nego_cli.specs.Parts.{ReadPart, part_limit, reads_at}
use Rattle.nego_cli.specs.Loading.{SpellsDiagram, IsDiagramOf}
use Rattle.nego_cli.specs.Commands.{TextOf}
use Rattle.nego_cli.specs.Verdict.{IsReducedTo, verdict_status}
use Rattle.nego_cli.specs.Certificate.{reduction_text}
use Rattle.nego_cli.specs.Make.{IsMadeText, made_diagram}
use Rattle.nego_cli.specs.MakeLaws.{IsMadeInput, MadeTextsAreInputs}
use Rattle.nego_cli.proofs.Loaded.{diagrams, spelled_diagram}
use Rattle.nego_cli.proofs.OneVerdict.{one_verdict}
use Rattle.nego_cli.proofs.DiagramParts.{diagram_closed}
use Rattle.nego_cli.proofs.ReplayedReductions.{read_closed}

-- what `reduce` tells of a part, where this is a reduction of its diagram
reduce_tells : (part text : List ℕ) (d : PlainDiagram) (uses : List PlainUse) (left : PlainWork) (verdict : Verdict) (status : Status) → IsDiagramOf part d → IsReducedTo d uses left verdict →
    TextOf commands.Reduce (ReadPart part ∷ []) status text ↔ ((status ≡ verdict_status verdict) × (text ≡ reduction_text d uses left verdict))
reduce_tells part text d uses left verdict status spelled reduced = (
  λ told. tells_so told,
  λ e. (d, spelled, record { uses = uses; left = left; verdict = verdict; reduced = reduced; status_is = e.0; printed = e.1 }),
)
  where
    tells_so : TextOf commands.Reduce (ReadPart part ∷ []) status text → (status ≡ verdict_status verdict) × (text ≡ reduction_text d uses left verdict)
    tells_so (e, other, told) =
        let diagram : e ≡ d = diagrams.one_value part e d other.0 spelled.0 in
        let one = one_verdict d told.uses uses told.left left told.verdict verdict (subst (λ x. IsReducedTo x told.uses told.left told.verdict) diagram told.reduced) reduced in (
          told.status_is ∙ ap verdict_status one.2,
          told.printed
              ∙ (ap (λ x. reduction_text x told.uses told.left told.verdict) diagram
              ∙ (ap (λ us. reduction_text d us told.left told.verdict) one.0 ∙ (ap (λ w. reduction_text d uses w told.verdict) one.1 ∙ ap (reduction_text d uses left) one.2))),
        )

-- the printed text of a value that says the diagram
spells_made : (n : ℕ) (p : Parsed) → 2 ≤ n → n ≤ 64 → content_of p ≡ generated n → IsPrintableDiagram p → SpellsDiagram (printed_diagram p) (made_diagram n)
spells_made n p some few content printable =
    let again = printed_again p printable in
    let same : content_of again.0 ≡ generated n = again.2 ∙ content in
    record {
      value = again.0;
      spelled = again.1;
      shaped = subst HasShape (sym same) (shaped n some few);
      is = sym (ap diagram_in same);
    }

pub made_inputs : MadeTextsAreInputs
made_inputs n some few status text (done, made) =
    let p = made.value in
    let good : IsGoodContent (content_of p) = subst IsGoodContent (sym made.content) (good_made n some few) in
    let printable : IsPrintableDiagram p = good_printable p good in
    let part = printed_diagram p in
    let closed : IsClosedPart part = diagram_closed p printable in
    let fits : length part ≤ part_limit = good_fits p good in
    let spelled : SpellsDiagram part (made_diagram n) = spells_made n p some few made.content printable in
    record {
      part = part;
      uses = made.uses;
      left = made.left;
      joined = made.printed;
      read = λ rest. ap (λ r. r ∷ []) (read_closed part rest closed fits).0;
      spelled = spelled;
      determined = deterministic n some few;
      acyclic = acyclic n some few;
      sound = sound n some few;
      reduced = λ status told. reduce_tells part told (made_diagram n) made.uses made.left Sound status (spelled, spelled_diagram part (made_diagram n) spelled) made.reduced;
    }
