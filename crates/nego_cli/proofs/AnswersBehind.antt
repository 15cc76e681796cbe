-- Answers of commands that read several parts: what is answered behind a part follows from what is answered of the rest.
use Rattle.std.proofs.Common.{◌≡◌, ◌∙◌, inl, inr, ℕ, suc, ◌+◌, ◌<◌, List, [], ◌∷◌, length, Option, Some, Result, Ok, Err, IfOk, IfErr, refl, subst, arith}
use Rattle.nego_model.specs.Negotiation.{IsDeterministic}
use Rattle.nego_model.specs.Diagram.{PlainDiagram, negotiation_of}
use Rattle.nego_cli.specs.declared.answer.Answer.{Answer}
use Rattle.nego_cli.specs.declared.command.Command.{Command}
use Rattle.nego_cli.specs.declared.failure.Failure.{Failure}
use Rattle.nego_cli.specs.declared.failure.Failure.TheVariants as failures
use Rattle.nego_cli.specs.declared.failure.Refusal.{Refusal}
use Rattle.nego_cli.specs.declared.status.Status.{Status}
use Rattle.nego_cli.specs.Effect.{Effect, effect}
use Rattle.nego_cli.specs.Parts.{Read, ReadPart, HasRead, TookParts}
use Rattle.nego_cli.specs.Loading.{HasValue, HasNoValue}
use Rattle.nego_cli.specs.Turn.{Turn, TellsText, Refuses, TurnOver, TextOver}
use Rattle.nego_cli.specs.Reduce.{IsUndetermined}
use Rattle.nego_cli.specs.Replay.{TurnWhereDetermined}
use Rattle.nego_cli.specs.Commands.{TurnOf, TextOf, most_parts}
use Rattle.nego_cli.specs.Dispatch.{IsAnswer, IsAnswerBy, IsRefusedFor, HasNoText}
use Rattle.nego_cli.proofs.PartLaws.{read_then, took_then, took_more, took_none, failed_then, read_none}

-- with a part read, no more than it and some others were taken
took_one_more : {X : Type 0} (bytes : X → Option (List ℕ)) (faults : X → ℕ) (old mid new : X) (read : Read) (most : ℕ) → HasRead (read ∷ []) (effect bytes faults old mid) → TookParts most (effect bytes faults mid new) →
    TookParts (suc most) (effect bytes faults old new)
took_one_more bytes faults old mid new read most h k =
    let count : length (read ∷ []) + most ≡ suc most = omega arith in
    subst (λ n. TookParts n (effect bytes faults old new)) count (took_then bytes faults old mid new (read ∷ []) most h k)

-- what is answered by a part that is read, and by what is read behind it
pub over_answer : {X Y : Type 0} (spells reads_as : List ℕ → Y → Type 0) (is_none : Read → Refusal → Type 0) (does : Y → List Read → Turn → Type 0) (tells : Y → List Read → Status → List ℕ → Type 0) →
    ((text : List ℕ) (y : Y) → reads_as text y → spells text y) → (most : ℕ) (bytes : X → Option (List ℕ)) (faults : X → ℕ) (old mid new : X) (y : Y) (r : Result Answer Failure) →
    HasValue reads_as (effect bytes faults old mid) y → IsAnswerBy (does y) (tells y) most (effect bytes faults mid new) r →
    IsAnswerBy (TurnOver spells is_none does) (TextOver reads_as tells) (suc most) (effect bytes faults old new) r
over_answer spells reads_as is_none does tells so most bytes faults old mid new y (Ok answer) loaded (reads, read, turn, told) = (
  ReadPart loaded.text ∷ reads,
  read_then bytes faults old mid new (ReadPart loaded.text ∷ []) reads loaded.read read,
  inr (loaded.text, y, refl, so loaded.text y loaded.spelled, turn),
  (y, loaded.spelled, told),
)
over_answer spells reads_as is_none does tells so most bytes faults old mid new y (Err (failures.Refused why)) loaded (reads, read, turn) = (
  ReadPart loaded.text ∷ reads,
  read_then bytes faults old mid new (ReadPart loaded.text ∷ []) reads loaded.read read,
  inr (loaded.text, y, refl, so loaded.text y loaded.spelled, turn),
)
over_answer spells reads_as is_none does tells so most bytes faults old mid new y (Err failures.ReadFault) loaded (some, failed, took) = (
  omega arith,
  failed_then bytes faults old mid new (ReadPart loaded.text ∷ []) loaded.read failed,
  took_one_more bytes faults old mid new (ReadPart loaded.text) most loaded.read took,
)
over_answer spells reads_as is_none does tells so most bytes faults old mid new y (Err failures.Memory) loaded (stayed, took) = (
  stayed ∙ loaded.read.0,
  took_one_more bytes faults old mid new (ReadPart loaded.text) most loaded.read took,
)
over_answer spells reads_as is_none does tells so most bytes faults old mid new y (Err failures.Words) loaded h = absurd h

-- what is answered where there is no such part
pub over_none : {Y : Type 0} (spells reads_as : List ℕ → Y → Type 0) (is_none : Read → Refusal → Type 0) (does : Y → List Read → Turn → Type 0) (tells : Y → List Read → Status → List ℕ → Type 0) →
    (most : ℕ) (source : Effect) (failure : Failure) → HasNoValue is_none source failure → IsAnswerBy (TurnOver spells is_none does) (TextOver reads_as tells) (suc most) source (Err failure)
over_none spells reads_as is_none does tells most source (failures.Refused why) (read, has, none) = (read ∷ [], has, inl (why, refl, refl, none))
over_none spells reads_as is_none does tells most source failures.ReadFault (failed, took) = (omega arith, failed, took_more 1 (suc most) source (omega arith) took)
over_none spells reads_as is_none does tells most source failures.Memory (stayed, took) = (stayed, took_more 1 (suc most) source (omega arith) took)
over_none spells reads_as is_none does tells most source failures.Words h = absurd h

-- what is answered of a diagram that must be deterministic, where it is
pub determined_answer : (d : PlainDiagram) (does : List Read → Turn → Type 0) (tells : List Read → Status → List ℕ → Type 0) (most : ℕ) (source : Effect) (r : Result Answer Failure) →
    IsDeterministic (negotiation_of d) → IsAnswerBy does tells most source r → IsAnswerBy (TurnWhereDetermined d does) tells most source r
determined_answer d does tells most source (Ok answer) determined (reads, read, turn, told) = (reads, read, inr (determined, turn), told)
determined_answer d does tells most source (Err (failures.Refused why)) determined (reads, read, turn) = (reads, read, inr (determined, turn))
determined_answer d does tells most source (Err failures.ReadFault) determined h = h
determined_answer d does tells most source (Err failures.Memory) determined h = h
determined_answer d does tells most source (Err failures.Words) determined h = absurd h

-- and where it isn't
pub undetermined_answer : {X : Type 0} (d : PlainDiagram) (does : List Read → Turn → Type 0) (tells : List Read → Status → List ℕ → Type 0) (most : ℕ) (bytes : X → Option (List ℕ)) (faults : X → ℕ) (x : X)
    (failure : Failure) → IsRefusedFor (IsUndetermined d) failure → IsAnswerBy (TurnWhereDetermined d does) tells most (effect bytes faults x x) (Err failure)
undetermined_answer d does tells most bytes faults x (failures.Refused why) undetermined = ([], read_none bytes faults x, inl (why, refl, refl, undetermined))
undetermined_answer d does tells most bytes faults x failures.ReadFault h = absurd h
undetermined_answer d does tells most bytes faults x failures.Memory h = absurd h
undetermined_answer d does tells most bytes faults x failures.Words h = absurd h

-- what is answered of a value with nothing read
pub text_answer : {X : Type 0} (ends : List Read → Turn → Type 0) (tells : List Read → Status → List ℕ → Type 0) (bytes : X → Option (List ℕ)) (faults : X → ℕ) (x : X) (answer : Answer) → ends [] TellsText →
    tells [] answer.status answer.text → IsAnswerBy ends tells 0 (effect bytes faults x x) (Ok answer)
text_answer ends tells bytes faults x answer turn told = ([], read_none bytes faults x, turn, told)

-- and where memory was wanted
pub starved_answer : {X : Type 0} (ends : List Read → Turn → Type 0) (tells : List Read → Status → List ℕ → Type 0) (bytes : X → Option (List ℕ)) (faults : X → ℕ) (x : X) → IsAnswerBy ends tells 0 (effect bytes faults x x) (Err failures.Memory)
starved_answer ends tells bytes faults x = (refl, took_none 0 (bytes x))

-- the answer of a command
pub command_answer : (command : Command) (ends : List Read → Turn → Type 0) (tells : List Read → Status → List ℕ → Type 0) (most : ℕ) → ((reads : List Read) (turn : Turn) → ends reads turn → TurnOf command reads turn) →
    ((reads : List Read) (status : Status) (text : List ℕ) → tells reads status text → TextOf command reads status text) → most ≡ most_parts (Some command) → (source : Effect) (r : Result Answer Failure) →
    IsAnswerBy ends tells most source r → IsAnswer command source r
command_answer command ends tells most turns texts count source (Ok answer) (reads, read, turn, told) = (reads, read, turns reads TellsText turn, texts reads answer.status answer.text told)
command_answer command ends tells most turns texts count source (Err (failures.Refused why)) (reads, read, turn) = (reads, read, turns reads (Refuses why) turn)
command_answer command ends tells most turns texts count source (Err failures.ReadFault) (some, failed, took) = (subst (λ n. 0 < n) count some, failed, subst (λ n. TookParts n source) count took)
command_answer command ends tells most turns texts count source (Err failures.Memory) (stayed, took) = (stayed, subst (λ n. TookParts n source) count took)
command_answer command ends tells most turns texts count source (Err failures.Words) h = absurd h

-- the answer of a command that reads nothing
pub unread_answer : {X : Type 0} (command : Command) (ends : List Read → Turn → Type 0) (tells : List Read → Status → List ℕ → Type 0) → ((reads : List Read) (turn : Turn) → ends reads turn → TurnOf command reads turn) →
    ((reads : List Read) (status : Status) (text : List ℕ) → tells reads status text → TextOf command reads status text) → 0 ≡ most_parts (Some command) → (bytes : X → Option (List ℕ)) (faults : X → ℕ) (x : X) (r : Result Answer Failure) →
    IfOk r (λ _. ends [] TellsText) → IfOk r (λ answer. tells [] answer.status answer.text) → IfErr r (HasNoText ends []) → IsAnswer command (effect bytes faults x x) r
unread_answer command ends tells turns texts count bytes faults x (Ok answer) turn told failed =
    command_answer command ends tells 0 turns texts count (effect bytes faults x x) (Ok answer) (text_answer ends tells bytes faults x answer turn told)
unread_answer command ends tells turns texts count bytes faults x (Err (failures.Refused why)) turn told failed =
    command_answer command ends tells 0 turns texts count (effect bytes faults x x) (Err (failures.Refused why)) ([], read_none bytes faults x, failed)
unread_answer command ends tells turns texts count bytes faults x (Err failures.Memory) turn told failed =
    command_answer command ends tells 0 turns texts count (effect bytes faults x x) (Err failures.Memory) (starved_answer ends tells bytes faults x)
unread_answer command ends tells turns texts count bytes faults x (Err failures.ReadFault) turn told failed = absurd failed
unread_answer command ends tells turns texts count bytes faults x (Err failures.Words) turn told failed = absurd failed
