-- How a command from a start ends behind a diagram, and how a schedule is played there.
use Rattle.std.proofs.Common.{◌≡◌, ◌∙◌, inl, inr, ℕ, List, [], ◌++◌, length, map, Option, Result, Ok, Err, refl, sym, ap, ap₂, subst, arith}
use Rattle.std.specs.Prelude.{IfOk, IfErr}
use Rattle.nego_base.proofs.Cases.{same_Err, ok-err}
use Rattle.nego_model.specs.Negotiation.{IsDeterministic}
use Rattle.nego_model.specs.Diagram.{PlainDiagram, IsDiagram, negotiation_of}
use Rattle.agent_core.specs.Agreement.{AgreeWith}
use Rattle.agent_core.specs.Consistency.{IsConsistent}
use Rattle.agent_core.specs.Deciding.{Finished, NotLeader, Waits}
use Rattle.agent_core.specs.Finished.{FinishesComplete}
use Rattle.agent_core.specs.Worlds.{PlainWorld, PlainEvent, first_world}
use Rattle.agent_core.specs.Worlds as worlds
use Rattle.nego_world.specs.declared.answers.StepWhy.{StepWhy}
use Rattle.nego_world.specs.declared.answers.StepWhy.TheVariants as whys
use Rattle.nego_world.specs.Stepping.{plain_why}
use Rattle.world_text.specs.ScheduleTable.{SpellsSchedule}
use Rattle.nego_world.proofs.Refused.{plays-refused}
use Rattle.nego_cli.specs.declared.answer.Answer.{Answer}
use Rattle.nego_cli.specs.declared.failure.Failure.{Failure}
use Rattle.nego_cli.specs.declared.failure.Failure.TheVariants as failures
use Rattle.nego_cli.specs.declared.failure.Refusal.{Refusal}
use Rattle.nego_cli.specs.declared.failure.Refusal.TheVariants.{NoStep}
use Rattle.nego_cli.specs.declared.status.Status.{Status}
use Rattle.nego_cli.specs.Effect.{Effect, effect}
use Rattle.nego_cli.specs.Parts.{Read}
use Rattle.nego_cli.specs.Loading.{HasValue, IsNoSchedule}
use Rattle.nego_cli.specs.Turn.{Turn, TellsText, Refuses, TurnOver, TextOver}
use Rattle.nego_cli.specs.Dispatch.{HasNoText, IsAnswerBy, IsRefusedFor}
use Rattle.nego_cli.specs.Refusals.{IsNamed}
use Rattle.nego_cli.specs.Reduce.{IsUndetermined}
use Rattle.nego_cli.specs.Starts.{StartsAt, CannotStart}
use Rattle.nego_cli.specs.Run.{TurnFromStart, TextFromStart, CanPlay, CannotPlay, FollowsOneRun, ScheduleTurn, ScheduleText, IsRunText, RunTurn, RunText}
use Rattle.nego_cli.proofs.AnswersBehind.{over_answer}
use Rattle.nego_cli.proofs.PartLaws.{read_none, took_none}
use Rattle.nego_cli.proofs.StartLaws.{can_or_cannot, cannot_once, cannot_named, same_start}
use Rattle.nego_cli.proofs.Endings.{EndsOnce, EndsWithin, Names, none_more}

-- ---- a command from a start

module _ (d : PlainDiagram) (values : List ℕ) (does : ℕ → List Read → Turn → Type 0) where
  pub started_once : IsDiagram d → ((start : ℕ) → EndsOnce (does start)) → EndsOnce (TurnFromStart d values does)
  started_once diagram once reads more turn other (inl (why, is, none, h)) (inl (why', is', none', k)) =
      (none_more reads more none none', is ∙ (ap Refuses (cannot_once d values diagram why why' h k) ∙ sym is'))
  started_once diagram once reads more turn other (inl (why, is, none, h)) (inr (determined, (start, starts, done))) = absurd (can_or_cannot d values diagram why (determined, (start, starts)) h)
  started_once diagram once reads more turn other (inr (determined, (start, starts, done))) (inl (why, is, none, h)) = absurd (can_or_cannot d values diagram why (determined, (start, starts)) h)
  started_once diagram once reads more turn other (inr (determined, (start, starts, done))) (inr (determined', (start', starts', done'))) =
      let same : start' ≡ start = same_start d values start' start starts' starts in
      once start reads more turn other done (subst (λ s. does s (reads ++ more) other) same done')

  pub started_within : (most : ℕ) → ((start : ℕ) → EndsWithin most (does start)) → EndsWithin most (TurnFromStart d values does)
  started_within most within reads turn (inl (why, is, none, h)) = let count = ap length none in omega (arith, count)
  started_within most within reads turn (inr (determined, (start, starts, done))) = within start reads turn done

  pub started_named : ((start : ℕ) → Names (does start)) → Names (TurnFromStart d values does)
  started_named named reads why (inl (other, is, none, h)) =
      let same : why ≡ other = cc in
      subst IsNamed (sym same) (cannot_named d values other h)
  started_named named reads why (inr (determined, (start, starts, done))) = named start reads why done

  -- what is answered from the start
  pub started_answer : (tells : ℕ → List Read → Status → List ℕ → Type 0) (most : ℕ) (source : Effect) (start : ℕ) (r : Result Answer Failure) → IsDeterministic (negotiation_of d) → StartsAt d values (Ok start) →
      IsAnswerBy (does start) (tells start) most source r → IsAnswerBy (TurnFromStart d values does) (TextFromStart d values tells) most source r
  started_answer tells most source start (Ok answer) determined starts (reads, read, turn, told) = (reads, read, inr (determined, (start, starts, turn)), (start, starts, told))
  started_answer tells most source start (Err (failures.Refused why)) determined starts (reads, read, turn) = (reads, read, inr (determined, (start, starts, turn)))
  started_answer tells most source start (Err failures.ReadFault) determined starts h = h
  started_answer tells most source start (Err failures.Memory) determined starts h = h
  started_answer tells most source start (Err failures.Words) determined starts h = absurd h

  -- and where there is none
  pub unstarted_answer : {X : Type 0} (tells : ℕ → List Read → Status → List ℕ → Type 0) (most : ℕ) (bytes : X → Option (List ℕ)) (faults : X → ℕ) (x : X) (failure : Failure) → IsRefusedFor (CannotStart d values) failure →
      IsAnswerBy (TurnFromStart d values does) (TextFromStart d values tells) most (effect bytes faults x x) (Err failure)
  unstarted_answer tells most bytes faults x (failures.Refused why) h = ([], read_none bytes faults x, inl (why, refl, refl, h))
  unstarted_answer tells most bytes faults x failures.ReadFault h = absurd h
  unstarted_answer tells most bytes faults x failures.Memory h = absurd h
  unstarted_answer tells most bytes faults x failures.Words h = absurd h

-- a diagram that isn't deterministic has no start
pub undetermined_cannot : (d : PlainDiagram) (values : List ℕ) (failure : Failure) → IsRefusedFor (IsUndetermined d) failure → IsRefusedFor (CannotStart d values) failure
undetermined_cannot d values (failures.Refused why) h = inl h
undetermined_cannot d values failures.ReadFault h = absurd h
undetermined_cannot d values failures.Memory h = absurd h
undetermined_cannot d values failures.Words h = absurd h

-- what is answered where nothing more is read
pub ended_answer : {X : Type 0} (ends : List Read → Turn → Type 0) (tells : List Read → Status → List ℕ → Type 0) (bytes : X → Option (List ℕ)) (faults : X → ℕ) (x : X) (r : Result Answer Failure) →
    IfOk r (λ _. ends [] TellsText) → IfOk r (λ answer. tells [] answer.status answer.text) → IfErr r (HasNoText ends []) → IsAnswerBy ends tells 0 (effect bytes faults x x) r
ended_answer ends tells bytes faults x (Ok answer) turn told failed = ([], read_none bytes faults x, turn, told)
ended_answer ends tells bytes faults x (Err (failures.Refused why)) turn told failed = ([], read_none bytes faults x, failed)
ended_answer ends tells bytes faults x (Err failures.Memory) turn told failed = (refl, took_none 0 (bytes x))
ended_answer ends tells bytes faults x (Err failures.ReadFault) turn told failed = absurd failed
ended_answer ends tells bytes faults x (Err failures.Words) turn told failed = absurd failed

-- ---- a schedule is played

abbrev pub why_of : worlds.Refusal → StepWhy
why_of (worlds.NoMessage i) = whys.NoMessage i
why_of (worlds.NoDecision Finished) = whys.Finished
why_of (worlds.NoDecision NotLeader) = whys.NotLeader
why_of (worlds.NoDecision (Waits p)) = whys.Waits (record { 0 = p })

why_again : (why : StepWhy) → why_of (plain_why why) ≡ why
why_again (whys.NoMessage i) = refl
why_again whys.Finished = refl
why_again whys.NotLeader = refl
why_again (whys.Waits p) = refl

pub plain_again : (why : worlds.Refusal) → plain_why (why_of why) ≡ why
plain_again (worlds.NoMessage i) = refl
plain_again (worlds.NoDecision Finished) = refl
plain_again (worlds.NoDecision NotLeader) = refl
plain_again (worlds.NoDecision (Waits p)) = refl

module _ (d : PlainDiagram) (start : ℕ) (lines : List (ℕ × PlainEvent)) where
  -- where no event is refused, there is no reason why one is
  pub plays_or_not : (why : Refusal) → CanPlay d start lines → CannotPlay d start lines why → ⊥
  plays_or_not why (world, can) (line, step, is, cannot) = ok-err world (line, plain_why step) (sym can ∙ cannot)

  -- the reason is one
  pub refused_once : (why other : Refusal) → CannotPlay d start lines why → CannotPlay d start lines other → why ≡ other
  refused_once why other (line, step, is, h) (line', step', is', k) =
      let same : (line, plain_why step) ≡ (line', plain_why step') = same_Err {T = PlainWorld} (line, plain_why step) (line', plain_why step') (sym h ∙ k) in
      let here : line ≡ line' = ap (λ (p : ℕ × worlds.Refusal). p.0) same in
      let one : step ≡ step' = sym (why_again step) ∙ (ap (λ (p : ℕ × worlds.Refusal). why_of p.1) same ∙ why_again step') in
      is ∙ (ap₂ (NoStep d) here one ∙ sym is')

  -- what it names is there
  pub refused_named : IsDiagram d → (why : Refusal) → CannotPlay d start lines why → IsNamed why
  refused_named diagram why (line, step, is, h) = subst IsNamed (sym is) (plays-refused d diagram lines (first_world d start) line (plain_why step) h)

-- the law of every schedule
pub follows_one_run : (d : PlainDiagram) (start : ℕ) (world : PlainWorld) → world.start ≡ start → IsConsistent d world → FinishesComplete d world → FollowsOneRun d start world
follows_one_run d start world begins consistent finishes = record {
  begins = begins;
  consistent = consistent;
  agree = subst (λ s. AgreeWith d s world.history (map (λ agent. agent.records) world.agents)) begins consistent.journals;
  finishes = finishes;
}

-- ---- what a schedule is answered

-- What is known of the answer to a schedule.
pub record IsPlayedAnswer (d : PlainDiagram) (start : ℕ) (lines : List (ℕ × PlainEvent)) (r : Result Answer Failure) : Type 0 where
  pub turn : IfOk r (λ _. ScheduleTurn d start lines [] TellsText)
  pub ok : IfOk r (λ answer. IsRunText d start lines answer.status answer.text)
  pub err : IfErr r (HasNoText (ScheduleTurn d start lines) [])

-- the diagram is the one that was handed in
pub played_same : (e d : PlainDiagram) (start : ℕ) (lines : List (ℕ × PlainEvent)) (r : Result Answer Failure) → e ≡ d → IfOk r (λ _. ScheduleTurn e start lines [] TellsText) →
    IfOk r (λ answer. IsRunText e start lines answer.status answer.text) → IfErr r (HasNoText (ScheduleTurn e start lines) []) → IsPlayedAnswer d start lines r
played_same e d start lines r same turn ok err = subst (λ x. IsPlayedAnswer x start lines r) same (record { turn = turn; ok = ok; err = err })

-- the answer to a schedule that stands behind the diagram
pub played_answer : {X : Type 0} (d : PlainDiagram) (values : List ℕ) (start : ℕ) (lines : List (ℕ × PlainEvent)) (bytes : X → Option (List ℕ)) (faults : X → ℕ) (old new : X) (r : Result Answer Failure) → IsDeterministic (negotiation_of d) →
    StartsAt d values (Ok start) → HasValue (SpellsSchedule d) (effect bytes faults old new) lines → IsPlayedAnswer d start lines r → IsAnswerBy (RunTurn values d) (RunText values d) 1 (effect bytes faults old new) r
played_answer d values start lines bytes faults old new r determined starts loaded played =
    started_answer d values (λ start. TurnOver (SpellsSchedule d) (IsNoSchedule d) (ScheduleTurn d start)) (λ start. TextOver (SpellsSchedule d) (ScheduleText d start)) 1 (effect bytes faults old new) start r determined starts
    (over_answer (SpellsSchedule d) (SpellsSchedule d) (IsNoSchedule d) (ScheduleTurn d start) (ScheduleText d start) (λ text items h. h) 0 bytes faults old new new lines r loaded
    (ended_answer (ScheduleTurn d start lines) (ScheduleText d start lines) bytes faults new r played.turn played.ok played.err))
