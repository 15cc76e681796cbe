-- How commands end: in one way, behind as many parts as the table of parts says at most.
use Rattle.std.proofs.Common.{◌≡◌, ◌∙◌, ⊎_elim, inl, inr, ℕ, ◌+◌, ◌-◌, ◌≤◌, List, [], ◌∷◌, length, Some, Result, Ok, Err, refl, sym, ap, subst, arith}
use Rattle.std.specs.Prelude.{IfOk, IfErr}
use Rattle.std.proofs.lemmas.Bool.{cases_lt}
use Rattle.nego_model.specs.Negotiation.{IsDeterministic}
use Rattle.nego_model.specs.Diagram.{PlainDiagram, IsDiagram, negotiation_of}
use Rattle.nego_model.specs.Limits.{HasNames}
use Rattle.agent_core.specs.Worlds.{PlainEvent}
use Rattle.world_text.specs.ScheduleTable.{SpellsSchedule}
use Rattle.nego_cli.specs.declared.answer.Answer.{Answer}
use Rattle.nego_cli.specs.declared.command.Command.{Command}
use Rattle.nego_cli.specs.declared.command.Command.TheVariants as commands
use Rattle.nego_cli.specs.declared.failure.Failure.{Failure}
use Rattle.nego_cli.specs.declared.failure.Failure.TheVariants as failures
use Rattle.nego_cli.specs.declared.failure.Refusal.{Refusal}
use Rattle.nego_cli.specs.declared.status.Status.{Status}
use Rattle.nego_cli.specs.declared.verdict.Verdict.{Verdict}
use Rattle.nego_cli.specs.declared.verdict.Verdict.TheVariants as verdicts
use Rattle.nego_cli.specs.Effect.{Effect}
use Rattle.nego_cli.specs.Parts.{Read, ReadPart, reads_at, behind_parts, TookParts}
use Rattle.nego_cli.specs.Loading.{SpellsDiagram, IsNoDiagram, IsDiagramOf, HasValue}
use Rattle.nego_cli.specs.Turn.{Turn, TellsText, Refuses, TurnOver, TurnOverDiagram, TextOverDiagram}
use Rattle.nego_cli.specs.Check.{CheckTurn, CheckText}
use Rattle.nego_cli.specs.Reduce.{ReduceTurn, ReduceText, IsUndetermined}
use Rattle.nego_cli.specs.Starts.{CanStart, CannotStart}
use Rattle.nego_cli.specs.Replay.{CertificateTurn, ReplayTurn, ReplayText, TurnWhereDetermined, IsReplayText, replay_status}
use Rattle.nego_cli.specs.Ask.{AskTurn, AskText}
use Rattle.nego_cli.specs.Run.{RunTurn, RunText, ScheduleTurn, ScheduleText, CanPlay, CannotPlay}
use Rattle.nego_cli.specs.Verdict.{verdict_status}
use Rattle.nego_cli.specs.Status.{IsTelling}
use Rattle.nego_cli.specs.Commands.{TurnOf, TextOf, parts_of, most_parts}
use Rattle.nego_cli.specs.Refusals.{IsNamed}
use Rattle.nego_cli.specs.Dispatch.{IsAnswer, HasNoText}
use Rattle.nego_cli.proofs.PartLaws.{length_reads, reads_more, took_parts}
use Rattle.nego_cert.specs.declared.cert.Cert.{Cert}
use Rattle.nego_cert.specs.Table.{SpellsCertificate}
use Rattle.nego_cert.specs.Replay.{PlainVerdict, Accepted, Rejected, NotOne}
use Rattle.nego_cli.specs.Loading.{IsNoCertificate, IsNoSchedule}
use Rattle.nego_cli.proofs.Loaded.{diagrams, spelled_diagram, spelled_names}
use Rattle.nego_cli.proofs.Certificates.{certificates}
use Rattle.nego_cli.proofs.Schedules.{schedules}
use Rattle.nego_cli.proofs.Playing.{started_once, started_within, started_named, plays_or_not, refused_once, refused_named}
use Rattle.nego_cli.proofs.Endings.{EndsOnce, EndsWithin, Names, Tells, none_more, tells_once, tells_within, tells_named, here_once, here_within, over_once, over_within, over_named, over_telling}
use Rattle.nego_cli.proofs.Undetermined.{undetermined_apart, undetermined_once, undetermined_named}
use Rattle.nego_cli.proofs.StartLaws.{can_or_cannot, cannot_once, cannot_named}

-- ---- each command

-- What is known of a command.
record IsCommand (command : Command) : Type 0 where
  once : EndsOnce (TurnOf command)
  within : (reads : List Read) (turn : Turn) → TurnOf command reads turn → (most : ℕ) × (parts_of command ≡ Some most) × (length reads ≤ most)
  named : Names (TurnOf command)
  telling : Tells (TextOf command)

check_telling : (d : PlainDiagram) → Tells (CheckText d)
check_telling d reads status text h = subst IsTelling (sym h.0) tt

verdict_telling : (verdict : Verdict) → IsTelling (verdict_status verdict)
verdict_telling verdicts.Sound = tt
verdict_telling verdicts.Unsound = tt
verdict_telling verdicts.Stuck = tt
verdict_telling verdicts.NodeLimit = tt

reduce_telling : (d : PlainDiagram) → Tells (ReduceText d)
reduce_telling d reads status text h = subst IsTelling (sym h.status_is) (verdict_telling h.verdict)

ask_telling : (values : List ℕ) (d : PlainDiagram) → Tells (AskText values d)
ask_telling values d reads status text h = subst IsTelling (sym h.status_is) (verdict_telling h.verdict)

-- ---- a diagram that must be deterministic, and a certificate behind it

determined_once : (d : PlainDiagram) (does : List Read → Turn → Type 0) → IsDiagram d → EndsOnce does → EndsOnce (TurnWhereDetermined d does)
determined_once d does diagram once reads more turn other (inl (why, is, none, h)) (inl (why', is', none', k)) =
    (none_more reads more none none', is ∙ (ap Refuses (undetermined_once d why why' h k) ∙ sym is'))
determined_once d does diagram once reads more turn other (inl (why, is, none, h)) (inr (determined, done)) = absurd (undetermined_apart d why diagram determined h)
determined_once d does diagram once reads more turn other (inr (determined, done)) (inl (why, is, none, h)) = absurd (undetermined_apart d why diagram determined h)
determined_once d does diagram once reads more turn other (inr (determined, done)) (inr (determined', done')) = once reads more turn other done done'

determined_within : (d : PlainDiagram) (does : List Read → Turn → Type 0) (most : ℕ) → EndsWithin most does → EndsWithin most (TurnWhereDetermined d does)
determined_within d does most within reads turn (inl (why, is, none, h)) = let count = ap length none in omega (arith, count)
determined_within d does most within reads turn (inr (determined, done)) = within reads turn done

determined_named : (d : PlainDiagram) (does : List Read → Turn → Type 0) → Names does → Names (TurnWhereDetermined d does)
determined_named d does named reads why (inl (other, is, none, h)) =
    let same : why ≡ other = cc in
    subst IsNamed (sym same) (undetermined_named d other h)
determined_named d does named reads why (inr (determined, done)) = named reads why done

replay_telling : (verdict : PlainVerdict) → IsTelling (replay_status verdict)
replay_telling (Accepted summary) = tt
replay_telling (Rejected line why) = tt
replay_telling (NotOne left) = tt

certificate_telling : (d : PlainDiagram) (cert : Cert) → Tells (λ reads status text. IsReplayText d cert status text)
certificate_telling d cert reads status text h = subst IsTelling (sym h.status_is) (replay_telling h.verdict)

-- ---- a start, and a schedule behind the diagram

abbrev Played : PlainDiagram → ℕ → List Read → Turn → Type 0
Played d start = TurnOver (SpellsSchedule d) (IsNoSchedule d) (ScheduleTurn d start)

played_once : (d : PlainDiagram) (start : ℕ) → HasNames d → EndsOnce (Played d start)
played_once d start names =
    over_once (SpellsSchedule d) (IsNoSchedule d) (ScheduleTurn d start) (schedules d names)
    (λ behind lines spelled. here_once (CanPlay d start lines) (CannotPlay d start lines) (plays_or_not d start lines) (refused_once d start lines))

played_within : (d : PlainDiagram) (start : ℕ) → EndsWithin 1 (Played d start)
played_within d start = over_within (SpellsSchedule d) (IsNoSchedule d) (ScheduleTurn d start) 0 (λ lines. here_within (CanPlay d start lines) (CannotPlay d start lines))

played_named : (d : PlainDiagram) (start : ℕ) → IsDiagram d → HasNames d → Names (Played d start)
played_named d start diagram names =
    over_named (SpellsSchedule d) (IsNoSchedule d) (ScheduleTurn d start) (schedules d names) (λ behind lines spelled reads why h. refused_named d start lines diagram why h.0)

played_telling : (d : PlainDiagram) (start : ℕ) (lines : List (ℕ × PlainEvent)) → Tells (ScheduleText d start lines)
played_telling d start lines reads status text h = subst IsTelling (sym h.status_is) tt

run_telling : (values : List ℕ) (d : PlainDiagram) → Tells (RunText values d)
run_telling values d reads status text (start, starts, told) = over_telling (SpellsSchedule d) (ScheduleText d start) (played_telling d start) reads status text told

-- a command that isn't built
unbuilt : (command : Command) → ((reads : List Read) (turn : Turn) → TurnOf command reads turn → ⊥) → ((reads : List Read) (status : Status) (text : List ℕ) → TextOf command reads status text → ⊥) → IsCommand command
unbuilt command no_turn no_text = record {
  once = λ reads more turn other h k. absurd (no_turn reads turn h);
  within = λ reads turn h. absurd (no_turn reads turn h);
  named = λ reads why h. absurd (no_turn reads (Refuses why) h);
  telling = λ reads status text h. absurd (no_text reads status text h);
}

-- all commands
known : (command : Command) → IsCommand command
known commands.Check = record {
  once = over_once SpellsDiagram IsNoDiagram CheckTurn diagrams (λ text d spelled. tells_once);
  within = λ reads turn h. (1, refl, over_within SpellsDiagram IsNoDiagram CheckTurn 0 (λ d. tells_within) reads turn h);
  named = over_named SpellsDiagram IsNoDiagram CheckTurn diagrams (λ text d spelled. tells_named);
  telling = over_telling IsDiagramOf CheckText check_telling;
}
known commands.Reduce = record {
  once = over_once SpellsDiagram IsNoDiagram ReduceTurn diagrams
      (λ text d spelled. here_once (IsDeterministic (negotiation_of d)) (IsUndetermined d) (λ why. undetermined_apart d why (spelled_diagram text d spelled)) (undetermined_once d));
  within = λ reads turn h. (1, refl, over_within SpellsDiagram IsNoDiagram ReduceTurn 0 (λ d. here_within (IsDeterministic (negotiation_of d)) (IsUndetermined d)) reads turn h);
  named = over_named SpellsDiagram IsNoDiagram ReduceTurn diagrams (λ text d spelled reads why h. undetermined_named d why h.0);
  telling = over_telling IsDiagramOf ReduceText reduce_telling;
}
known commands.Replay = record {
  once = over_once SpellsDiagram IsNoDiagram ReplayTurn diagrams
      (λ text d spelled. determined_once d (TurnOver SpellsCertificate IsNoCertificate CertificateTurn) (spelled_diagram text d spelled)
      (over_once SpellsCertificate IsNoCertificate CertificateTurn certificates (λ behind cert spelled. tells_once)));
  within = λ reads turn h. (
    2,
    refl,
    over_within SpellsDiagram IsNoDiagram ReplayTurn 1
        (λ d. determined_within d (TurnOver SpellsCertificate IsNoCertificate CertificateTurn) 1 (over_within SpellsCertificate IsNoCertificate CertificateTurn 0 (λ cert. tells_within))) reads turn h,
  );
  named = over_named SpellsDiagram IsNoDiagram ReplayTurn diagrams
      (λ text d spelled. determined_named d (TurnOver SpellsCertificate IsNoCertificate CertificateTurn)
      (over_named SpellsCertificate IsNoCertificate CertificateTurn certificates (λ behind cert spelled. tells_named)));
  telling = over_telling IsDiagramOf ReplayText (λ d. over_telling SpellsCertificate (λ cert reads status text. IsReplayText d cert status text) (certificate_telling d));
}
known (commands.Ask values) = record {
  once = over_once SpellsDiagram IsNoDiagram (AskTurn values) diagrams
      (λ text d spelled. here_once (CanStart d values) (CannotStart d values) (can_or_cannot d values (spelled_diagram text d spelled)) (cannot_once d values (spelled_diagram text d spelled)));
  within = λ reads turn h. (1, refl, over_within SpellsDiagram IsNoDiagram (AskTurn values) 0 (λ d. here_within (CanStart d values) (CannotStart d values)) reads turn h);
  named = over_named SpellsDiagram IsNoDiagram (AskTurn values) diagrams (λ text d spelled reads why h. cannot_named d values why h.0);
  telling = over_telling IsDiagramOf (AskText values) (ask_telling values);
}
known (commands.Run values) = record {
  once = over_once SpellsDiagram IsNoDiagram (RunTurn values) diagrams
      (λ text d spelled. started_once d values (Played d) (spelled_diagram text d spelled) (λ start. played_once d start (spelled_names text d spelled)));
  within = λ reads turn h. (2, refl, over_within SpellsDiagram IsNoDiagram (RunTurn values) 1 (λ d. started_within d values (Played d) 1 (played_within d)) reads turn h);
  named = over_named SpellsDiagram IsNoDiagram (RunTurn values) diagrams
      (λ text d spelled. started_named d values (Played d) (λ start. played_named d start (spelled_diagram text d spelled) (spelled_names text d spelled)));
  telling = over_telling IsDiagramOf (RunText values) (run_telling values);
}
known (commands.Node seed turns starts) = unbuilt (commands.Node seed turns starts) (λ reads turn h. h) (λ reads status text h. h)
known (commands.Make n) = record {
  once = tells_once;
  within = λ reads turn h. (0, refl, tells_within reads turn h);
  named = tells_named;
  telling = λ reads status text h. subst IsTelling (sym h.0) tt;
}

-- behind how many parts a command ends
pub parts_within : (command : Command) (reads : List Read) (turn : Turn) → TurnOf command reads turn → (most : ℕ) × (parts_of command ≡ Some most) × (length reads ≤ most)
parts_within command = (known command).within

-- what a command names in a refusal is there
pub turn_named : (command : Command) (reads : List Read) (why : Refusal) → TurnOf command reads (Refuses why) → IsNamed why
turn_named command = (known command).named

-- a text is told with a status of texts
pub text_telling : (command : Command) (reads : List Read) (status : Status) (text : List ℕ) → TextOf command reads status text → IsTelling status
text_telling command = (known command).telling

-- ---- over one input

-- a command that ends behind some parts doesn't end otherwise behind these and more
turn_more : (command : Command) (input : List ℕ) (n k : ℕ) (turn other : Turn) → TurnOf command (reads_at n input) turn → TurnOf command (reads_at (n + k) input) other → (k ≡ 0) × (turn ≡ other)
turn_more command input n k turn other h there =
    let more = reads_at k (behind_parts n input) in
    let both = (known command).once (reads_at n input) more turn other h (subst (λ reads. TurnOf command reads other) (reads_more n k input) there) in
    (sym (length_reads k (behind_parts n input)) ∙ ap length both.0, both.1)

turn_from : (command : Command) (input : List ℕ) (n m : ℕ) (turn other : Turn) → n ≤ m → TurnOf command (reads_at n input) turn → TurnOf command (reads_at m input) other → (n ≡ m) × (turn ≡ other)
turn_from command input n m turn other from h k =
    let all : m ≡ n + (m - n) = omega (arith, from) in
    let both = turn_more command input n (m - n) turn other h (subst (λ i. TurnOf command (reads_at i input) other) all k) in
    let none : m - n ≡ 0 = both.0 in
    (omega (arith, from, none), both.1)

-- over one input it ends behind the same parts, in one way
pub one_turn : (command : Command) (input : List ℕ) (n m : ℕ) (turn other : Turn) → TurnOf command (reads_at n input) turn → TurnOf command (reads_at m input) other → (n ≡ m) × (turn ≡ other)
one_turn command input n m turn other h k = ⊎_elim
    (λ l. (let below : n ≤ m = omega (arith, l) in turn_from command input n m turn other below h k))
    (λ from. (let back = turn_from command input m n other turn from k h in (sym back.0, sym back.1)))
    (cases_lt n m)

-- ---- the answers of commands that read a diagram and nothing behind it

pub answered : (command : Command) (does : PlainDiagram → List Read → Turn → Type 0) (tells : PlainDiagram → List Read → Status → List ℕ → Type 0) →
    ((reads : List Read) (turn : Turn) → TurnOverDiagram does reads turn → TurnOf command reads turn) →
    ((reads : List Read) (status : Status) (text : List ℕ) → TextOverDiagram tells reads status text → TextOf command reads status text) →
    parts_of command ≡ Some 1 → (source : Effect) (d : PlainDiagram) (r : Result Answer Failure) → HasValue IsDiagramOf source d →
    IfOk r (λ _. does d [] TellsText) → IfOk r (λ answer. tells d [] answer.status answer.text) → IfErr r (HasNoText (does d) []) → IsAnswer command source r
answered command does tells turns texts one source d (Ok answer) loaded turn told failed = (
  ReadPart loaded.text ∷ [],
  loaded.read,
  turns (ReadPart loaded.text ∷ []) TellsText (inr (loaded.text, d, refl, loaded.spelled.0, turn)),
  texts (ReadPart loaded.text ∷ []) answer.status answer.text (d, loaded.spelled, told),
)
answered command does tells turns texts one source d (Err (failures.Refused why)) loaded turn told failed =
    (ReadPart loaded.text ∷ [], loaded.read, turns (ReadPart loaded.text ∷ []) (Refuses why) (inr (loaded.text, d, refl, loaded.spelled.0, failed)))
answered command does tells turns texts one source d (Err failures.Memory) loaded turn told failed =
    let count : most_parts (Some command) ≡ 1 = cc in
    (loaded.read.0, subst (λ n. TookParts n source) (sym count) (took_parts 1 (ReadPart loaded.text ∷ []) source (omega arith) loaded.read))
answered command does tells turns texts one source d (Err failures.Words) loaded turn told failed = absurd failed
answered command does tells turns texts one source d (Err failures.ReadFault) loaded turn told failed = absurd failed
