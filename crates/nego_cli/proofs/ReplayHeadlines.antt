-- The headline of `replay` follows from what its text says.
use Rattle.std.proofs.Common.{◌≡◌, ◌⊎◌, ◌∙◌, inl, inr, ℕ, List, [], ◌∷◌, length, refl, sym, subst}
use Rattle.std.proofs.lemmas.Option.{same_Some}
use Rattle.nego_io.specs.Outside.{WhereTold}
use Rattle.nego_io.proofs.OutsideLaws.{told_so}
use Rattle.nego_model.specs.Negotiation.{IsDeterministic}
use Rattle.nego_model.specs.Diagram.{PlainDiagram, negotiation_of}
use Rattle.nego_cert.specs.declared.cert.Cert.{Cert}
use Rattle.nego_cert.specs.Table.{SpellsCertificate}
use Rattle.nego_cert.specs.Replay.{PlainVerdict, Accepted, Rejected, NotOne, IsVerdict, TellsIfAccepted}
use Rattle.nego_cli.specs.declared.command.Command.TheVariants as commands
use Rattle.nego_cli.specs.declared.status.Status.{Status}
use Rattle.nego_cli.specs.declared.status.Status.TheVariants as statuses
use Rattle.nego_cli.specs.Effect.{Effect, Put}
use Rattle.nego_cli.specs.Parts.{Read, ReadPart, ReadTooLong, ReadNoEnd, reads_at, HasRead}
use Rattle.nego_cli.specs.Loading.{SpellsDiagram}
use Rattle.nego_cli.specs.Turn.{TellsText, Refuses}
use Rattle.nego_cli.specs.Commands.{TurnOf, TextOf, Asks}
use Rattle.nego_cli.specs.Replay.{replay_status, replay_text}
use Rattle.nego_cli.specs.Answer.{TextStands, Says, ShowsText, FailsToRead}
use Rattle.nego_cli.specs.ReplayHeadline.{ReplayHeadline, SaysAccepted, IsDecidedBy}
use Rattle.nego_cli.proofs.Loaded.{diagrams}
use Rattle.nego_cli.proofs.Certificates.{certificates}
use Rattle.nego_cli.proofs.Ends.{IsTextShown}

-- ---- what status 0 says

accepted_so : (source out err : Effect) (part behind text : List ℕ) (d : PlainDiagram) (cert : Cert) (verdict : PlainVerdict) → statuses.Done ≡ replay_status verdict → HasRead (ReadPart part ∷ ReadPart behind ∷ []) source →
    SpellsDiagram part d → SpellsCertificate behind cert → IsVerdict d cert.uses verdict → TellsIfAccepted d verdict → text ≡ replay_text (length cert.uses) verdict → Put text out → Put [] err →
    SaysAccepted source out err
accepted_so source out err part behind text d cert (Accepted summary) e read spelled certified leads tells printed put nothing = record {
  part = part;
  behind = behind;
  diagram = d;
  certificate = cert;
  summary = summary;
  read = read;
  spelled = spelled;
  certified = certified;
  leads = leads;
  sound = tells.sound;
  tells = tells;
  printed = subst (λ t. Put t out) printed put;
  nothing = nothing;
}
accepted_so source out err part behind text d cert (Rejected line why) e read spelled certified leads tells printed put nothing = absurd (let never : statuses.Done ≡ statuses.No = e in cc)
accepted_so source out err part behind text d cert (NotOne left) e read spelled certified leads tells printed put nothing = absurd (let never : statuses.Done ≡ statuses.No = e in cc)

-- what was read is two parts
says_accepted : (source out err : Effect) (reads : List Read) (text : List ℕ) → HasRead reads source → TurnOf commands.Replay reads TellsText → TextOf commands.Replay reads statuses.Done text →
    Put text out → Put [] err → SaysAccepted source out err
says_accepted source out err [] text read turn told put nothing = absurd turn
says_accepted source out err (ReadTooLong ∷ reads) text read turn told put nothing = absurd told
says_accepted source out err (ReadNoEnd line ∷ reads) text read turn told put nothing = absurd told
says_accepted source out err (ReadPart part ∷ []) text read turn (d, spelled, told) put nothing = absurd told
says_accepted source out err (ReadPart part ∷ ReadTooLong ∷ reads) text read turn (d, spelled, told) put nothing = absurd told
says_accepted source out err (ReadPart part ∷ ReadNoEnd line ∷ reads) text read turn (d, spelled, told) put nothing = absurd told
says_accepted source out err (ReadPart part ∷ ReadPart behind ∷ reads) text read (inl (why, is, none, bad)) told put nothing = absurd (let never : TellsText ≡ Refuses why = is in cc)
says_accepted source out err (ReadPart part ∷ ReadPart behind ∷ reads) text read (inr (other, e, at, spells, inl (why, is, none, bad))) told put nothing = absurd (let never : TellsText ≡ Refuses why = is in cc)
says_accepted source out err (ReadPart part ∷ ReadPart behind ∷ reads) text read (inr (other, e, at, spells, inr (determined, inl (why, is, none, bad)))) told put nothing = absurd (let never : TellsText ≡ Refuses why = is in cc)
says_accepted source out err (ReadPart part ∷ ReadPart behind ∷ reads) text read (inr (other, e, at, spells, inr (determined, inr (other', c, at', certifies, done)))) (d, spelled, (cert, certified, told)) put nothing =
    accepted_so source out err part behind text d cert told.verdict told.status_is (subst (λ rest. HasRead (ReadPart part ∷ ReadPart behind ∷ rest) source) done.1 read) spelled.0 certified
    told.is_verdict told.tells told.printed put nothing

done_says : (words : List (List ℕ)) (source out err : Effect) → Asks words commands.Replay → TextStands words source out err statuses.Done → SaysAccepted source out err
done_says words source out err asks (text, told, put, nothing) =
    let same = same_Some told.command commands.Replay (sym told.asks ∙ asks) in
    says_accepted source out err told.reads text told.read (subst (λ c. TurnOf c told.reads TellsText) same told.turn) (subst (λ c. TextOf c told.reads statuses.Done text) same told.told) put nothing

-- ---- the status of each certificate

text_decided : (part behind text : List ℕ) (d : PlainDiagram) (cert : Cert) (status : Status) → SpellsDiagram part d → SpellsCertificate behind cert → TextOf commands.Replay (ReadPart part ∷ ReadPart behind ∷ []) status text →
    (verdict : PlainVerdict) × IsVerdict d cert.uses verdict × (status ≡ replay_status verdict)
text_decided part behind text d cert status spelled certified (e, other, (c, other', told)) =
    let same : e ≡ d = diagrams.one_value part e d other.0 spelled in
    let same' : c ≡ cert = certificates.one_value behind c cert other' certified in
    (told.verdict, subst (λ x. IsVerdict d x.uses told.verdict) same' (subst (λ x. IsVerdict x c.uses told.verdict) same told.is_verdict), told.status_is)

shown_decided : (source out err : Effect) (status : Status) (reads : List Read) (part behind : List ℕ) (d : PlainDiagram) (cert : Cert) → reads ≡ ReadPart part ∷ ReadPart behind ∷ [] → SpellsDiagram part d →
    SpellsCertificate behind cert → ShowsText commands.Replay reads out err status ⊎ FailsToRead source status → IsDecidedBy d cert source out err status
shown_decided source out err status reads part behind d cert is spelled certified (inl (inl (text, told, put, nothing))) =
    inr (text_decided part behind text d cert status spelled certified (subst (λ r. TextOf commands.Replay r status text) is told))
shown_decided source out err status reads part behind d cert is spelled certified (inl (inr (inl fault))) = inl (inr (inr fault))
shown_decided source out err status reads part behind d cert is spelled certified (inl (inr (inr starved))) = inl (inl starved)
shown_decided source out err status reads part behind d cert is spelled certified (inr fault) = inl (inr (inl fault))

-- a certificate behind a deterministic diagram is taken
pub taken : (part behind : List ℕ) (d : PlainDiagram) (cert : Cert) → SpellsDiagram part d → IsDeterministic (negotiation_of d) → SpellsCertificate behind cert → TurnOf commands.Replay (ReadPart part ∷ ReadPart behind ∷ []) TellsText
taken part behind d cert spelled determined certified = inr (part, d, refl, spelled, inr (determined, inr (behind, cert, refl, certified, (refl, refl))))

pub replay_headline : (words : List (List ℕ)) (source out err : Effect) (status : Status) → Says words source out err status → WhereTold source.before source.after (IsTextShown words source out err status) →
    Asks words commands.Replay → ReplayHeadline source out err status
replay_headline words source out err status says text asks = record {
  accepted = λ done. done_says words source out err asks (subst (Says words source out err) done says);
  decided =
      told_so (IsTextShown words source out err status)
      (λ input _. (part behind : List ℕ) (d : PlainDiagram) (cert : Cert) → reads_at 2 input ≡ ReadPart part ∷ ReadPart behind ∷ [] → SpellsDiagram part d → IsDeterministic (negotiation_of d) → SpellsCertificate behind cert →
      IsDecidedBy d cert source out err status)
      source.before source.after
      (λ input left shown part behind d cert is spelled determined certified. shown_decided source out err status (reads_at 2 input) part behind d cert is spelled certified
      (shown commands.Replay 2 asks (subst (λ r. TurnOf commands.Replay r TellsText) (sym is) (taken part behind d cert spelled determined certified)))) text;
}
