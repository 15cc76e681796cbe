-- The headline follows from what the text of `reduce` says.
use Rattle.std.proofs.Common.{◌≡◌, ◌⊎◌, ◌∙◌, inl, inr, ℕ, List, [], ◌∷◌, refl, sym, subst}
use Rattle.std.proofs.lemmas.Option.{same_Some}
use Rattle.nego_io.specs.Outside.{WhereTold}
use Rattle.nego_io.proofs.OutsideLaws.{told_so}
use Rattle.nego_model.specs.Negotiation.{IsDeterministic}
use Rattle.nego_model.specs.Occurring.{IsSound}
use Rattle.nego_model.specs.Acyclic.{IsAcyclic}
use Rattle.nego_model.specs.Diagram.{PlainDiagram, negotiation_of}
use Rattle.nego_expr.specs.Work.{PlainWork}
use Rattle.nego_expr.specs.Use.{PlainUse}
use Rattle.nego_expr.specs.Finish.{summary_of_work}
use Rattle.nego_cli.specs.declared.command.Command.TheVariants as commands
use Rattle.nego_cli.specs.declared.status.Status.{Status}
use Rattle.nego_cli.specs.declared.status.Status.TheVariants as statuses
use Rattle.nego_cli.specs.declared.verdict.Verdict.{Verdict}
use Rattle.nego_cli.specs.declared.verdict.Verdict.TheVariants as verdicts
use Rattle.nego_cli.specs.Effect.{Effect, Put}
use Rattle.nego_cli.specs.Parts.{Read, ReadPart, ReadTooLong, ReadNoEnd, read_at, HasRead}
use Rattle.nego_cli.specs.Loading.{SpellsDiagram}
use Rattle.nego_cli.specs.Turn.{TellsText, Refuses}
use Rattle.nego_cli.specs.Commands.{TurnOf, TextOf, Asks}
use Rattle.nego_cli.specs.Verdict.{IsReducedTo, IsVerdict, verdict_status}
use Rattle.nego_cli.specs.Certificate.{reduction_text}
use Rattle.nego_cli.specs.Answer.{TextStands, Says, ShowsText, FailsToRead}
use Rattle.nego_cli.specs.Headline.{Headline, SaysSound, IsHindered}
use Rattle.nego_cli.proofs.Loaded.{diagrams}
use Rattle.nego_cli.proofs.Ends.{IsTextShown}

-- ---- what status 0 says

sound_so : (source out err : Effect) (part text : List ℕ) (d : PlainDiagram) (uses : List PlainUse) (left : PlainWork) (verdict : Verdict) → statuses.Done ≡ verdict_status verdict →
    HasRead (ReadPart part ∷ []) source → SpellsDiagram part d → IsReducedTo d uses left verdict → text ≡ reduction_text d uses left verdict → Put text out → Put [] err → SaysSound source out err
sound_so source out err part text d uses left verdicts.Sound e read spelled reduced printed put nothing = record {
  part = part;
  diagram = d;
  uses = uses;
  summary = summary_of_work left;
  read = read;
  spelled = spelled;
  sound = reduced.is_verdict.1.sound;
  tells = reduced.is_verdict.1;
  few = reduced.few.all;
  printed = subst (λ t. Put t out) printed put;
  nothing = nothing;
}
sound_so source out err part text d uses left verdicts.Unsound e read spelled reduced printed put nothing = absurd (let never : statuses.Done ≡ statuses.No = e in cc)
sound_so source out err part text d uses left verdicts.Stuck e read spelled reduced printed put nothing = absurd (let never : statuses.Done ≡ statuses.Undecided = e in cc)
sound_so source out err part text d uses left verdicts.NodeLimit e read spelled reduced printed put nothing = absurd (let never : statuses.Done ≡ statuses.Undecided = e in cc)

-- what was read is one part
says_sound : (source out err : Effect) (reads : List Read) (text : List ℕ) → HasRead reads source → TurnOf commands.Reduce reads TellsText → TextOf commands.Reduce reads statuses.Done text →
    Put text out → Put [] err → SaysSound source out err
says_sound source out err [] text read turn told put nothing = absurd turn
says_sound source out err (ReadTooLong ∷ reads) text read turn told put nothing = absurd told
says_sound source out err (ReadNoEnd line ∷ reads) text read turn told put nothing = absurd told
says_sound source out err (ReadPart part ∷ reads) text read (inl (why, is, none, bad)) told put nothing = absurd (let never : TellsText ≡ Refuses why = is in cc)
says_sound source out err (ReadPart part ∷ reads) text read (inr (other, e, at, spells, (determined, none))) (d, spelled, reduction) put nothing =
    sound_so source out err part text d reduction.uses reduction.left reduction.verdict reduction.status_is (subst (λ rest. HasRead (ReadPart part ∷ rest) source) none read) spelled.0
    reduction.reduced reduction.printed put nothing

done_says : (words : List (List ℕ)) (source out err : Effect) → Asks words commands.Reduce → TextStands words source out err statuses.Done → SaysSound source out err
done_says words source out err asks (text, told, put, nothing) =
    let same : told.command ≡ commands.Reduce = same_Some told.command commands.Reduce (sym told.asks ∙ asks) in
    says_sound source out err told.reads text told.read (subst (λ c. TurnOf c told.reads TellsText) same told.turn) (subst (λ c. TextOf c told.reads statuses.Done text) same told.told) put nothing

-- ---- acyclic diagrams

-- the verdict on an acyclic diagram
decided : (d : PlainDiagram) (left : PlainWork) (verdict : Verdict) (status : Status) → status ≡ verdict_status verdict → IsVerdict d left verdict → IsAcyclic (negotiation_of d) →
    ((status ≡ statuses.Done) × IsSound (negotiation_of d)) ⊎ ((status ≡ statuses.No) × ¬ IsSound (negotiation_of d))
decided d left verdicts.Sound status is h acyclic = inl (is, h.1.sound)
decided d left verdicts.Unsound status is h acyclic = inr (is, h.2)
decided d left verdicts.Stuck status is h acyclic = absurd (h.1 acyclic)
decided d left verdicts.NodeLimit status is h acyclic = absurd (h.1 acyclic)

text_decided : (part text : List ℕ) (d : PlainDiagram) (status : Status) → SpellsDiagram part d → IsAcyclic (negotiation_of d) → TextOf commands.Reduce (ReadPart part ∷ []) status text →
    ((status ≡ statuses.Done) × IsSound (negotiation_of d)) ⊎ ((status ≡ statuses.No) × ¬ IsSound (negotiation_of d))
text_decided part text d status spelled acyclic (e, other, reduction) =
    let same : e ≡ d = diagrams.one_value part e d other.0 spelled in
    decided d reduction.left reduction.verdict status reduction.status_is (subst (λ x. IsVerdict x reduction.left reduction.verdict) same reduction.reduced.is_verdict) acyclic

shown_decided : (source out err : Effect) (status : Status) (read : Read) (part : List ℕ) (d : PlainDiagram) → read ≡ ReadPart part → SpellsDiagram part d → IsAcyclic (negotiation_of d) →
    ShowsText commands.Reduce (read ∷ []) out err status ⊎ FailsToRead source status →
    IsHindered source out err status ⊎ (((status ≡ statuses.Done) × IsSound (negotiation_of d)) ⊎ ((status ≡ statuses.No) × ¬ IsSound (negotiation_of d)))
shown_decided source out err status read part d is spelled acyclic (inl (inl (text, told, put, nothing))) =
    inr (text_decided part text d status spelled acyclic (subst (λ r. TextOf commands.Reduce (r ∷ []) status text) is told))
shown_decided source out err status read part d is spelled acyclic (inl (inr (inl fault))) = inl (inr (inr fault))
shown_decided source out err status read part d is spelled acyclic (inl (inr (inr starved))) = inl (inl starved)
shown_decided source out err status read part d is spelled acyclic (inr fault) = inl (inr (inl fault))

pub headline : (words : List (List ℕ)) (source out err : Effect) (status : Status) → Says words source out err status → WhereTold source.before source.after (IsTextShown words source out err status) →
    Asks words commands.Reduce → Headline source out err status
headline words source out err status says text asks = record {
  sound = λ done. done_says words source out err asks (subst (Says words source out err) done says);
  complete =
      told_so (IsTextShown words source out err status)
      (λ input _. (part : List ℕ) (d : PlainDiagram) → read_at input ≡ ReadPart part → SpellsDiagram part d → IsDeterministic (negotiation_of d) → IsAcyclic (negotiation_of d) →
      IsHindered source out err status ⊎ (((status ≡ statuses.Done) × IsSound (negotiation_of d)) ⊎ ((status ≡ statuses.No) × ¬ IsSound (negotiation_of d))))
      source.before source.after
      (λ input left shown part d is spelled determined acyclic. shown_decided source out err status (read_at input) part d is spelled acyclic
      (shown commands.Reduce 1 asks (inr (part, d, is, spelled, (determined, refl))))) text;
}
