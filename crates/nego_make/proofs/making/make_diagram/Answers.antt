use Rattle.std.proofs.Common.{◌≡◌, sym, subst}
use Rattle.std.proofs.lemmas.Result.{IfOk-weaker}
use Rattle.nego_model.specs.Negotiation.{IsDeterministic}
use Rattle.nego_model.specs.Acyclic.{IsAcyclic}
use Rattle.nego_model.specs.Occurring.{IsSound}
use Rattle.nego_model.specs.Diagram.{negotiation_of}
use Rattle.nego_reader.specs.Content.{Content, content_of}
use Rattle.nego_reader.specs.Printable.{IsPrintableDiagram, FitsPart}
use Rattle.nego_shape.specs.Naming.{diagram_in}
use Rattle.nego_shape.specs.Conditions.{HasShape}
use Rattle.nego_shape.specs.Shaped.{HasNameWords}
use Rattle.nego_make.specs.Generated.{generated}
use Rattle.nego_make.proofs.NameWords.{named_words}
use Rattle.nego_make.proofs.Conditions.{shaped}
use Rattle.nego_make.proofs.Edges.{deterministic, acyclic}
use Rattle.nego_make.proofs.SoundMade.{sound}
use Rattle.nego_make.proofs.GoodLines.{IsGoodContent, good_printable, good_fits}
use Rattle.nego_make.proofs.PrintedMade.{good_made}
use Rattle.nego_make.proofs.making.make_diagram.Goals as goal

pub returns-clause-named : goal.returns-clause-named
returns-clause-named c =
    IfOk-weaker c.parsed.result (λ p. content_of p ≡ generated c.args.n) (λ p. HasNameWords (content_of p)) (λ p e. subst HasNameWords (sym e) (named_words c.args.n c.requires.few)) c.parsed.ensures

pub returns-clause-shaped : goal.returns-clause-shaped
returns-clause-shaped c =
    IfOk-weaker c.parsed.result (λ p. content_of p ≡ generated c.args.n) (λ p. HasShape (content_of p)) (λ p e. subst HasShape (sym e) (shaped c.args.n c.requires.some c.requires.few)) c.parsed.ensures

pub returns-clause-deterministic : goal.returns-clause-deterministic
returns-clause-deterministic c =
    let Is : Content → Type 0 = λ content. IsDeterministic (negotiation_of (diagram_in content)) in
    IfOk-weaker c.parsed.result (λ p. content_of p ≡ generated c.args.n) (λ p. Is (content_of p)) (λ p e. subst Is (sym e) (deterministic c.args.n c.requires.some c.requires.few)) c.parsed.ensures

pub returns-clause-acyclic : goal.returns-clause-acyclic
returns-clause-acyclic c =
    let Is : Content → Type 0 = λ content. IsAcyclic (negotiation_of (diagram_in content)) in
    IfOk-weaker c.parsed.result (λ p. content_of p ≡ generated c.args.n) (λ p. Is (content_of p)) (λ p e. subst Is (sym e) (acyclic c.args.n c.requires.some c.requires.few)) c.parsed.ensures

pub returns-clause-sound : goal.returns-clause-sound
returns-clause-sound c =
    let Is : Content → Type 0 = λ content. IsSound (negotiation_of (diagram_in content)) in
    IfOk-weaker c.parsed.result (λ p. content_of p ≡ generated c.args.n) (λ p. Is (content_of p)) (λ p e. subst Is (sym e) (sound c.args.n c.requires.some c.requires.few)) c.parsed.ensures

pub returns-clause-printable : goal.returns-clause-printable
returns-clause-printable c =
    IfOk-weaker c.parsed.result (λ p. content_of p ≡ generated c.args.n) IsPrintableDiagram (λ p e. good_printable p (subst IsGoodContent (sym e) (good_made c.args.n c.requires.some c.requires.few))) c.parsed.ensures

pub returns-clause-fits : goal.returns-clause-fits
returns-clause-fits c =
    IfOk-weaker c.parsed.result (λ p. content_of p ≡ generated c.args.n) (FitsPart 262144) (λ p e. good_fits p (subst IsGoodContent (sym e) (good_made c.args.n c.requires.some c.requires.few))) c.parsed.ensures
