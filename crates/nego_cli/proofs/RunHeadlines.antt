-- The headline of `run` follows from what its text and its refusals say.
use Rattle.std.proofs.Common.{◌≡◌, ◌⊎◌, ◌∙◌, inl, inr, ℕ, List, [], ◌∷◌, ◌++◌, length, codes, Result, Ok, Err, refl, sym, ap, subst}
use Rattle.std.proofs.lemmas.Option.{same_Some}
use Rattle.nego_base.proofs.Cases.{same_Ok}
use Rattle.nego_io.specs.Outside.{WhereTold}
use Rattle.nego_io.proofs.OutsideLaws.{told_both}
use Rattle.nego_model.specs.Negotiation.{IsDeterministic}
use Rattle.nego_model.specs.Diagram.{PlainDiagram, negotiation_of}
use Rattle.agent_core.specs.Worlds.{PlainWorld, PlainEvent, first_world, plays}
use Rattle.agent_core.specs.Worlds as worlds
use Rattle.world_text.specs.ScheduleTable.{SpellsSchedule}
use Rattle.world_text.specs.ReportText.{report_text}
use Rattle.nego_cli.specs.declared.command.Command.TheVariants as commands
use Rattle.nego_cli.specs.declared.failure.Failure.TheVariants as failures
use Rattle.nego_cli.specs.declared.failure.Refusal.{Refusal}
use Rattle.nego_cli.specs.declared.failure.Refusal.TheVariants.{NoStep}
use Rattle.nego_cli.specs.declared.status.Status.{Status}
use Rattle.nego_cli.specs.declared.status.Status.TheVariants as statuses
use Rattle.nego_cli.specs.Effect.{Effect, Put}
use Rattle.nego_cli.specs.Parts.{Read, ReadPart, ReadTooLong, ReadNoEnd, reads_at, HasRead}
use Rattle.nego_cli.specs.Loading.{SpellsDiagram}
use Rattle.nego_cli.specs.Turn.{Turn, TellsText, Refuses}
use Rattle.nego_cli.specs.Commands.{TurnOf, TextOf, Asks}
use Rattle.nego_cli.specs.Refusals.{step_refusal_words}
use Rattle.nego_cli.specs.Starts.{StartsAt}
use Rattle.nego_cli.specs.Headline.{IsHindered}
use Rattle.nego_cli.specs.Answer.{TextStands, Says, ShowsLine, ShowsText, FailsToRead}
use Rattle.nego_cli.specs.Run.{ScheduleTurn, IsRunText}
use Rattle.nego_cli.specs.RunHeadline.{RunHeadline, SaysPlayed, IsPlayed}
use Rattle.nego_cli.proofs.Loaded.{diagrams, spelled_names}
use Rattle.nego_cli.proofs.Schedules.{schedules}
use Rattle.nego_cli.proofs.StartLaws.{same_start}
use Rattle.nego_cli.proofs.Playing.{why_of, plain_again}
use Rattle.nego_cli.proofs.Ends.{IsRefusalShown, IsTextShown}

-- ---- what status 0 says

never_refuses : {A : Type 0} (why : Refusal) → TellsText ≡ Refuses why → A
never_refuses why is = absurd (let never : TellsText ≡ Refuses why = is in cc)

-- the diagram that a part spells is the one that was taken
same_diagram : (part other : List ℕ) (d e : PlainDiagram) → ReadPart part ≡ ReadPart other → SpellsDiagram other e → SpellsDiagram part d → e ≡ d
same_diagram part other d e at other_spelled spelled =
    let one : part ≡ other = (let here : ReadPart part ≡ ReadPart other = at in cc) in
    diagrams.one_value part e d (subst (λ t. SpellsDiagram t e) (sym one) other_spelled) spelled

-- what was read is two parts
says_played : (values : List ℕ) (source out err : Effect) (reads : List Read) (text : List ℕ) → HasRead reads source → TurnOf (commands.Run values) reads TellsText → TextOf (commands.Run values) reads statuses.Done text →
    Put text out → Put [] err → SaysPlayed values source out err
says_played values source out err [] text read turn told put nothing = absurd turn
says_played values source out err (ReadTooLong ∷ reads) text read turn told put nothing = absurd told
says_played values source out err (ReadNoEnd line ∷ reads) text read turn told put nothing = absurd told
says_played values source out err (ReadPart part ∷ []) text read turn (d, spelled, (start, starts, told)) put nothing = absurd told
says_played values source out err (ReadPart part ∷ ReadTooLong ∷ reads) text read turn (d, spelled, (start, starts, told)) put nothing = absurd told
says_played values source out err (ReadPart part ∷ ReadNoEnd line ∷ reads) text read turn (d, spelled, (start, starts, told)) put nothing = absurd told
says_played values source out err (ReadPart part ∷ ReadPart behind ∷ reads) text read (inl (why, is, none, bad)) told put nothing = never_refuses why is
says_played values source out err (ReadPart part ∷ ReadPart behind ∷ reads) text read (inr (other, e, at, spells, inl (why, is, none, bad))) told put nothing = never_refuses why is
says_played values source out err (ReadPart part ∷ ReadPart behind ∷ reads) text read (inr (other, e, at, spells, inr (determined, (start', starts', inl (why, is, none, bad))))) told put nothing = never_refuses why is
says_played values source out err (ReadPart part ∷ ReadPart behind ∷ reads) text read (inr (other, e, at, spells, inr (determined, (start', starts', inr (other', lines', at', spells', (can, none)))))) (d, spelled, (start, starts, (lines, scheduled, told)))
    put nothing =
    record {
      part = part;
      behind = behind;
      diagram = d;
      start = start;
      lines = lines;
      world = told.world;
      read = subst (λ rest. HasRead (ReadPart part ∷ ReadPart behind ∷ rest) source) none read;
      spelled = spelled.0;
      determined = subst (λ x. IsDeterministic (negotiation_of x)) (same_diagram part other d e at spells spelled.0) determined;
      starts = starts;
      scheduled = scheduled;
      played = told.played;
      follows = told.follows;
      printed = subst (λ t. Put t out) told.printed put;
      nothing = nothing;
    }

done_says : (values : List ℕ) (words : List (List ℕ)) (source out err : Effect) → Asks words (commands.Run values) → TextStands words source out err statuses.Done → SaysPlayed values source out err
done_says values words source out err asks (text, told, put, nothing) =
    let same = same_Some told.command (commands.Run values) (sym told.asks ∙ asks) in
    says_played values source out err told.reads text told.read (subst (λ c. TurnOf c told.reads TellsText) same told.turn) (subst (λ c. TextOf c told.reads statuses.Done text) same told.told) put nothing

-- ---- each schedule

module _ (values part behind : List ℕ) (d : PlainDiagram) (start : ℕ) (lines : List (ℕ × PlainEvent)) (spelled : SpellsDiagram part d) (determined : IsDeterministic (negotiation_of d)) (starts : StartsAt d values (Ok start))
    (scheduled : SpellsSchedule d behind lines) where
  abbrev both : List Read
  both = ReadPart part ∷ ReadPart behind ∷ []

  -- how the schedule ends is how the command does
  turn_so : (turn : Turn) → ScheduleTurn d start lines [] turn → TurnOf (commands.Run values) both turn
  turn_so turn ends = inr (part, d, refl, spelled, inr (determined, (start, starts, inr (behind, lines, refl, scheduled, ends))))

  -- its text is the schedule's report
  text_so : (status : Status) (text : List ℕ) → TextOf (commands.Run values) both status text → IsRunText d start lines status text
  text_so status text (e, spells, (start', starts', (lines', scheduled', told))) =
      let same : e ≡ d = diagrams.one_value part e d spells.0 spelled in
      let begin : start' ≡ start = same_start d values start' start (subst (λ x. StartsAt x values (Ok start')) same starts') starts in
      let items : lines' ≡ lines = (schedules d (spelled_names part d spelled)).one_value behind lines' lines (subst (λ x. SpellsSchedule x behind lines') same scheduled') scheduled in
      subst (λ x. IsRunText d start x status text) items (subst (λ x. IsRunText d x lines' status text) begin (subst (λ x. IsRunText x start' lines' status text) same told))

  module _ (source out err : Effect) (status : Status) (reads : List Read) (is : reads ≡ both) where
    -- the report is shown
    report_shown : (world : PlainWorld) → plays d (first_world d start) lines ≡ Ok world → ShowsText (commands.Run values) reads out err status ⊎ FailsToRead source status →
        IsHindered source out err status ⊎ IsPlayed d (length lines) (Ok world) out err status
    report_shown world played (inl (inl (text, told, put, nothing))) =
        let run = text_so status text (subst (λ r. TextOf (commands.Run values) r status text) is told) in
        let same : run.world ≡ world = same_Ok {E = ℕ × worlds.Refusal} run.world world (sym run.played ∙ played) in
        inr (run.status_is, subst (λ t. Put t out) (run.printed ∙ ap (λ w. report_text d w (length lines)) same) put, nothing)
    report_shown world played (inl (inr (inl fault))) = inl (inr (inr fault))
    report_shown world played (inl (inr (inr starved))) = inl (inl starved)
    report_shown world played (inr fault) = inl (inr (inl fault))

    -- so is the line of a refusal
    line_shown : (line : ℕ) (why : worlds.Refusal) → ShowsLine (failures.Refused (NoStep d line (why_of why))) out err status ⊎ FailsToRead source status →
        IsHindered source out err status ⊎ IsPlayed d (length lines) (Err (line, why)) out err status
    line_shown line why (inl (inl (same, nothing, put))) =
        inr (same, nothing, subst (λ w. Put (codes "refused " ++ step_refusal_words d line w (codes "\n")) err) (plain_again why) put)
    line_shown line why (inl (inr (inl fault))) = inl (inr (inr (fault.0, inr fault.1)))
    line_shown line why (inl (inr (inr starved))) = inl (inl starved)
    line_shown line why (inr fault) = inl (inr (inl fault))

    shown : (words : List (List ℕ)) (input left : List ℕ) → reads ≡ reads_at 2 input → Asks words (commands.Run values) → IsTextShown words source out err status input left → IsRefusalShown words source out err status input left →
        (r : Result PlainWorld (ℕ × worlds.Refusal)) → plays d (first_world d start) lines ≡ r → IsHindered source out err status ⊎ IsPlayed d (length lines) r out err status
    shown words input left at asks text refusal (Ok world) played =
        report_shown world played
        (subst (λ r. ShowsText (commands.Run values) r out err status ⊎ FailsToRead source status) (sym at)
        (text (commands.Run values) 2 asks (subst (λ r. TurnOf (commands.Run values) r TellsText) (sym is ∙ at) (turn_so TellsText ((world, played), refl)))))
    shown words input left at asks text refusal (Err (line, why)) played =
        line_shown line why
        (refusal (commands.Run values) 2 (NoStep d line (why_of why)) asks
        (subst (λ r. TurnOf (commands.Run values) r (Refuses (NoStep d line (why_of why)))) (sym is ∙ at)
        (turn_so (Refuses (NoStep d line (why_of why))) ((line, why_of why, refl, played ∙ ap (λ w. Err (line, w)) (sym (plain_again why))), refl))))

pub run_headline : (values : List ℕ) (words : List (List ℕ)) (source out err : Effect) (status : Status) → Says words source out err status → WhereTold source.before source.after (IsTextShown words source out err status) →
    WhereTold source.before source.after (IsRefusalShown words source out err status) → Asks words (commands.Run values) → RunHeadline values source out err status
run_headline values words source out err status says text refusal asks = record {
  played = λ done. done_says values words source out err asks (subst (Says words source out err) done says);
  each =
      told_both (IsTextShown words source out err status) (IsRefusalShown words source out err status)
      (λ input _. (part behind : List ℕ) (d : PlainDiagram) (start : ℕ) (lines : List (ℕ × PlainEvent)) → reads_at 2 input ≡ ReadPart part ∷ ReadPart behind ∷ [] → SpellsDiagram part d → IsDeterministic (negotiation_of d) →
      StartsAt d values (Ok start) → SpellsSchedule d behind lines → IsHindered source out err status ⊎ IsPlayed d (length lines) (plays d (first_world d start) lines) out err status)
      source.before source.after
      (λ input left texts refusals part behind d start lines is spelled determined starts scheduled.
      shown values part behind d start lines spelled determined starts scheduled source out err status (reads_at 2 input) is words input left refl asks texts refusals (plays d (first_world d start) lines) refl) text refusal;
}
