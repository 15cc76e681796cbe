-- How a call ends: what its status says, and that each cause has its answer.
use Rattle.std.proofs.Common.{◌≡◌, ◌⊎◌, ◌∙◌, inl, inr, ℕ, ◌<◌, List, [], length, Some, None, Result, Ok, Err, refl, sym, ap, subst, arith}
use Rattle.std.specs.Prelude.{IfOk, OnErr}
use Rattle.std.specs.Option.{option_map_or}
use Rattle.std.proofs.lemmas.Option.{same_Some}
use Rattle.nego_io.specs.Outside.{WhereTold}
use Rattle.nego_io.proofs.OutsideLaws.{told_so}
use Rattle.nego_cli.specs.declared.answer.Answer.{Answer}
use Rattle.nego_cli.specs.declared.command.Command.{Command}
use Rattle.nego_cli.specs.declared.failure.Failure.{Failure}
use Rattle.nego_cli.specs.declared.failure.Failure.TheVariants as failures
use Rattle.nego_cli.specs.declared.failure.Refusal.{Refusal}
use Rattle.nego_cli.specs.declared.status.Status.{Status}
use Rattle.nego_cli.specs.declared.status.Status.TheVariants as statuses
use Rattle.nego_cli.specs.Status.{IsTelling}
use Rattle.nego_cli.specs.Effect.{Effect, HasFaulted, Put}
use Rattle.nego_cli.specs.Parts.{Read, Reads, reads_at, TakesParts, TookParts}
use Rattle.nego_cli.specs.Turn.{Turn, TellsText, Refuses}
use Rattle.nego_cli.specs.Commands.{TurnOf, TextOf, asked, Asks, most_parts}
use Rattle.nego_cli.specs.Delivery.{IsDelivered, IsFailurePut, IsLinePut}
use Rattle.nego_cli.specs.Answer.{failure_line, failure_status, IsRefused, HasFailed, IsFound, TextStands, Says, ShowsLine, ShowsText, FailsToRead}
use Rattle.nego_cli.proofs.PartLaws.{took_parts}
use Rattle.nego_cli.proofs.Turns.{parts_within, one_turn, text_telling}

-- ---- what each status says

line_stands : (words : List (List ℕ)) (source out err : Effect) (failure : Failure) → HasFailed words source failure → Put [] out → Put (failure_line failure) err → Says words source out err (failure_status failure)
line_stands words source out err failures.Words cause nothing put = (failures.Words, refl, cause, nothing, put)
line_stands words source out err (failures.Refused why) cause nothing put = (failures.Refused why, refl, cause, nothing, put)
line_stands words source out err failures.ReadFault cause nothing put = (failures.ReadFault, refl, cause, nothing, put)
line_stands words source out err failures.Memory cause nothing put = (failures.Memory, refl, cause, nothing, put)

-- a line with its cause was put, or a front of it
line_said : (words : List (List ℕ)) (source out err : Effect) (failure : Failure) (status : Status) → HasFailed words source failure → Put [] out → IsLinePut (failure_line failure) (failure_status failure) err status →
    Says words source out err status
line_said words source out err failure status cause nothing (inl (is, put)) = subst (Says words source out err) (sym is) (line_stands words source out err failure cause nothing put)
line_said words source out err failure status cause nothing (inr (is, front)) = subst (Says words source out err) (sym is) (inr (failure, cause, nothing, front))

-- a refusal for whose line there was no memory
refused_starved : (words : List (List ℕ)) (source : Effect) (why : Refusal) → IsRefused words source why → HasFailed words source failures.Memory
refused_starved words source why h =
    let within = parts_within h.command h.reads (Refuses why) h.turn in
    let count : most_parts (asked words) ≡ within.0 = ap most_parts h.asks ∙ ap (λ parts. option_map_or (λ n. n) parts 0) within.1 in
    (h.read.0, subst (λ n. TookParts n source) (sym count) (took_parts within.0 h.reads source within.2 h.read))

-- a text with its cause was put
text_stands : (words : List (List ℕ)) (source out err : Effect) (status : Status) → IsTelling status → TextStands words source out err status → Says words source out err status
text_stands words source out err statuses.Done telling h = h
text_stands words source out err statuses.No telling h = h
text_stands words source out err statuses.Undecided telling h = h
text_stands words source out err statuses.Words telling h = absurd telling
text_stands words source out err statuses.Refused telling h = absurd telling
text_stands words source out err statuses.ReadFault telling h = absurd telling
text_stands words source out err statuses.WriteFault telling h = absurd telling
text_stands words source out err statuses.Memory telling h = absurd telling

pub what_is_said : (words : List (List ℕ)) (source out err : Effect) (r : Result Answer Failure) (status : Status) → IsFound words source r → IsDelivered r out err status → Says words source out err status
what_is_said words source out err (Ok answer) status told (inl (is, put, nothing)) =
    let telling = text_telling told.command told.reads answer.status answer.text told.told in
    subst (Says words source out err) (sym is) (text_stands words source out err answer.status telling (answer.text, told, put, nothing))
what_is_said words source out err (Ok answer) status told (inr (is, front, tried)) = subst (Says words source out err) (sym is) (inl (answer.status, answer.text, told, front, tried))
what_is_said words source out err (Err failures.Words) status cause (nothing, put) = line_said words source out err failures.Words status cause nothing put
what_is_said words source out err (Err (failures.Refused why)) status cause (nothing, inl put) = line_said words source out err (failures.Refused why) status cause nothing put
what_is_said words source out err (Err (failures.Refused why)) status cause (nothing, inr put) = line_said words source out err failures.Memory status (refused_starved words source why cause) nothing put
what_is_said words source out err (Err failures.ReadFault) status cause (nothing, put) = line_said words source out err failures.ReadFault status cause nothing put
what_is_said words source out err (Err failures.Memory) status cause (nothing, put) = line_said words source out err failures.Memory status cause nothing put

-- ---- each cause has its answer

pub asks_not_none : (words : List (List ℕ)) (command : Command) → Asks words command → asked words ≡ None → ⊥
asks_not_none words command asks none = let apart : Some command ≡ None = sym asks ∙ none in cc

-- the line was put, or not
line_shown : (failure : Failure) (out err : Effect) (status : Status) → Put [] out → IsLinePut (failure_line failure) (failure_status failure) err status → ShowsLine failure out err status
line_shown failure out err status nothing (inl (is, put)) = inl (is, nothing, put)
line_shown failure out err status nothing (inr (is, front)) = inr (inl (is, front.0))

-- want of memory shows each line
memory_shown : (failure : Failure) (out err : Effect) (status : Status) → IsLinePut (failure_line failures.Memory) statuses.Memory err status → ShowsLine failure out err status
memory_shown failure out err status (inl (is, put)) = inr (inr is)
memory_shown failure out err status (inr (is, front)) = inr (inl (is, front.0))

pub usage_shown : (words : List (List ℕ)) (source out err : Effect) (r : Result Answer Failure) (status : Status) → IsFound words source r → IsDelivered r out err status → asked words ≡ None →
    ShowsLine failures.Words out err status
usage_shown words source out err (Ok answer) status told put none = absurd (asks_not_none words told.command told.asks none)
usage_shown words source out err (Err failures.Words) status cause (nothing, put) none = line_shown failures.Words out err status nothing put
usage_shown words source out err (Err (failures.Refused why)) status cause put none = absurd (asks_not_none words cause.command cause.asks none)
usage_shown words source out err (Err failures.ReadFault) status cause put none =
    let reads : 0 < most_parts (asked words) = cause.0 in
    let none_read : most_parts (asked words) ≡ 0 = ap most_parts none in
    let never : ⊥ = omega (arith, reads, none_read) in
    absurd never
usage_shown words source out err (Err failures.Memory) status cause (nothing, put) none = memory_shown failures.Words out err status put

-- two ends of the command that is asked for, over one input
same_turn : (words : List (List ℕ)) (command : Command) (reads : List Read) (turn : Turn) (input left : List ℕ) → Asks words command → TurnOf command reads turn → Reads reads input left →
    (other : Command) (n : ℕ) (turn' : Turn) → Asks words other → TurnOf other (reads_at n input) turn' → (command ≡ other) × (reads ≡ reads_at n input) × (turn ≡ turn')
same_turn words command reads turn input left asks here is other n turn' asks' there =
    let same : command ≡ other = same_Some command other (sym asks ∙ asks') in
    let mine : TurnOf command (reads_at (length reads) input) turn = subst (λ r. TurnOf command r turn) is.0 here in
    let both = one_turn command input (length reads) n turn turn' mine (subst (λ x. TurnOf x (reads_at n input) turn') (sym same) there) in
    (same, is.0 ∙ ap (λ i. reads_at i input) both.0, both.1)

-- what is shown where a refusal has its cause
abbrev pub IsRefusalShown : List (List ℕ) → Effect → Effect → Effect → Status → List ℕ → List ℕ → Type 0
IsRefusalShown words source out err status input _ = (command : Command) (n : ℕ) (why : Refusal) → Asks words command → TurnOf command (reads_at n input) (Refuses why) →
    ShowsLine (failures.Refused why) out err status ⊎ FailsToRead source status

-- and where a text has its cause
abbrev pub IsTextShown : List (List ℕ) → Effect → Effect → Effect → Status → List ℕ → List ℕ → Type 0
IsTextShown words source out err status input _ = (command : Command) (n : ℕ) → Asks words command → TurnOf command (reads_at n input) TellsText →
    ShowsText command (reads_at n input) out err status ⊎ FailsToRead source status

read_fault_shown : (failure : Failure) (source out err : Effect) (status : Status) → HasFaulted source → IsLinePut (failure_line failures.ReadFault) statuses.ReadFault err status → ShowsLine failure out err status ⊎ FailsToRead source status
read_fault_shown failure source out err status failed (inl (is, put)) = inr (is, failed)
read_fault_shown failure source out err status failed (inr (is, front)) = inl (inr (inl (is, front.0)))

pub refusal_shown : (words : List (List ℕ)) (source out err : Effect) (r : Result Answer Failure) (status : Status) → IsFound words source r → IsDelivered r out err status →
    WhereTold source.before source.after (IsRefusalShown words source out err status)
refusal_shown words source out err (Ok answer) status told put =
    told_so (Reads told.reads) (IsRefusalShown words source out err status) source.before source.after
    (λ input left is command n why asks turn.
    (let apart = (same_turn words told.command told.reads TellsText input left told.asks told.turn is command n (Refuses why) asks turn).2 in absurd (let never : TellsText ≡ Refuses why = apart in cc))) told.read.1
refusal_shown words source out err (Err failures.Words) status cause put =
    told_so (Reads []) (IsRefusalShown words source out err status) source.before source.after (λ input left is command n why asks turn. absurd (asks_not_none words command asks cause.0)) cause.1.1
refusal_shown words source out err (Err (failures.Refused other)) status cause (nothing, put) =
    told_so (Reads cause.reads) (IsRefusalShown words source out err status) source.before source.after
    (λ input left is command n why asks turn.
    (let turns = (same_turn words cause.command cause.reads (Refuses other) input left cause.asks cause.turn is command n (Refuses why) asks turn).2 in
    let same : other ≡ why = (let both : Refuses other ≡ Refuses why = turns in cc) in
    inl (subst (λ w. ShowsLine (failures.Refused w) out err status) same (shown put)))) cause.read.1
  where
    shown : IsLinePut (failure_line (failures.Refused other)) statuses.Refused err status ⊎ IsLinePut (failure_line failures.Memory) statuses.Memory err status → ShowsLine (failures.Refused other) out err status
    shown (inl line) = line_shown (failures.Refused other) out err status nothing line
    shown (inr line) = memory_shown (failures.Refused other) out err status line
refusal_shown words source out err (Err failures.ReadFault) status cause (nothing, put) =
    told_so (TakesParts (most_parts (asked words))) (IsRefusalShown words source out err status) source.before source.after
    (λ input left took command n why asks turn. read_fault_shown (failures.Refused why) source out err status cause.1 put) cause.2
refusal_shown words source out err (Err failures.Memory) status cause (nothing, put) =
    told_so (TakesParts (most_parts (asked words))) (IsRefusalShown words source out err status) source.before source.after
    (λ input left took command n why asks turn. inl (memory_shown (failures.Refused why) out err status put)) cause.1

-- what is put of a text
pub text_put : (command : Command) (reads : List Read) (answer : Answer) (out err : Effect) (status : Status) → TextOf command reads answer.status answer.text → IsDelivered (Ok answer) out err status → ShowsText command reads out err status
text_put command reads answer out err status told (inl (is, put, nothing)) = inl (answer.text, subst (λ s. TextOf command reads s answer.text) (sym is) told, put, nothing)
text_put command reads answer out err status told (inr (is, front, tried)) = inr (inl (is, inl front.0))

-- what is put in place of a text
line_for_text : (command : Command) (reads : List Read) (source out err : Effect) (status : Status) → HasFaulted source → IsLinePut (failure_line failures.ReadFault) statuses.ReadFault err status →
    ShowsText command reads out err status ⊎ FailsToRead source status
line_for_text command reads source out err status failed (inl (is, put)) = inr (is, failed)
line_for_text command reads source out err status failed (inr (is, front)) = inl (inr (inl (is, inr front.0)))

pub memory_for_text : (command : Command) (reads : List Read) (out err : Effect) (status : Status) → IsLinePut (failure_line failures.Memory) statuses.Memory err status → ShowsText command reads out err status
memory_for_text command reads out err status (inl (is, put)) = inr (inr is)
memory_for_text command reads out err status (inr (is, front)) = inr (inl (is, inr front.0))

pub text_shown : (words : List (List ℕ)) (source out err : Effect) (r : Result Answer Failure) (status : Status) → IsFound words source r → IsDelivered r out err status →
    WhereTold source.before source.after (IsTextShown words source out err status)
text_shown words source out err (Ok answer) status told put =
    told_so (Reads told.reads) (IsTextShown words source out err status) source.before source.after
    (λ input left is command n asks turn.
    (let same = same_turn words told.command told.reads TellsText input left told.asks told.turn is command n TellsText asks turn in
    inl (subst (λ reads. ShowsText command reads out err status) same.1 (subst (λ c. ShowsText c told.reads out err status) same.0 (text_put told.command told.reads answer out err status told.told put))))) told.read.1
text_shown words source out err (Err failures.Words) status cause put =
    told_so (Reads []) (IsTextShown words source out err status) source.before source.after (λ input left is command n asks turn. absurd (asks_not_none words command asks cause.0)) cause.1.1
text_shown words source out err (Err (failures.Refused why)) status cause put =
    told_so (Reads cause.reads) (IsTextShown words source out err status) source.before source.after
    (λ input left is command n asks turn.
    (let turns = (same_turn words cause.command cause.reads (Refuses why) input left cause.asks cause.turn is command n TellsText asks turn).2 in absurd (let never : Refuses why ≡ TellsText = turns in cc))) cause.read.1
text_shown words source out err (Err failures.ReadFault) status cause (nothing, put) =
    told_so (TakesParts (most_parts (asked words))) (IsTextShown words source out err status) source.before source.after
    (λ input left took command n asks turn. line_for_text command (reads_at n input) source out err status cause.1 put) cause.2
text_shown words source out err (Err failures.Memory) status cause (nothing, put) =
    told_so (TakesParts (most_parts (asked words))) (IsTextShown words source out err status) source.before source.after
    (λ input left took command n asks turn. inl (memory_for_text command (reads_at n input) out err status put)) cause.1

-- ---- what stays as it is

-- `out` stays where no text is put there
pub out_kept : {X : Type 0} (old new : X) (words : List (List ℕ)) (source out err : Effect) (r : Result Answer Failure) (status : Status) → IsFound words source r → IsDelivered r out err status → OnErr r (new ≡ old) →
    IsTelling status ⊎ (((status ≡ statuses.WriteFault) × HasFaulted out) ⊎ (new ≡ old))
out_kept old new words source out err (Ok answer) status told (inl (is, put, nothing)) same = inl (subst IsTelling (sym is) (text_telling told.command told.reads answer.status answer.text told.told))
out_kept old new words source out err (Ok answer) status told (inr (is, front, tried)) same = inr (inl (is, front.0))
out_kept old new words source out err (Err failure) status cause put same = inr (inr same)

-- a status of texts isn't that of a line
line_not_telling : (line : List ℕ) (failure : Failure) (err : Effect) (status : Status) → IsLinePut line (failure_status failure) err status → IsTelling status → ⊥
line_not_telling line failures.Words err status (inl (is, put)) telling = subst IsTelling is telling
line_not_telling line (failures.Refused why) err status (inl (is, put)) telling = subst IsTelling is telling
line_not_telling line failures.ReadFault err status (inl (is, put)) telling = subst IsTelling is telling
line_not_telling line failures.Memory err status (inl (is, put)) telling = subst IsTelling is telling
line_not_telling line failure err status (inr (is, front)) telling = subst IsTelling is telling

failure_not_telling : (failure : Failure) (err : Effect) (status : Status) → IsFailurePut failure err status → IsTelling status → ⊥
failure_not_telling failures.Words err status put telling = line_not_telling (failure_line failures.Words) failures.Words err status put telling
failure_not_telling (failures.Refused why) err status (inl put) telling = line_not_telling (failure_line (failures.Refused why)) (failures.Refused why) err status put telling
failure_not_telling (failures.Refused why) err status (inr put) telling = line_not_telling (failure_line failures.Memory) failures.Memory err status put telling
failure_not_telling failures.ReadFault err status put telling = line_not_telling (failure_line failures.ReadFault) failures.ReadFault err status put telling
failure_not_telling failures.Memory err status put telling = line_not_telling (failure_line failures.Memory) failures.Memory err status put telling

-- `err` stays where a text is told
pub err_kept : {X : Type 0} (old new : X) (out err : Effect) (r : Result Answer Failure) (status : Status) → IsDelivered r out err status → IfOk r (λ _. (status ≡ statuses.WriteFault) ⊎ (new ≡ old)) →
    IsTelling status → new ≡ old
err_kept old new out err (Ok answer) status put (inl failed) telling = absurd (subst IsTelling failed telling)
err_kept old new out err (Ok answer) status put (inr same) telling = same
err_kept old new out err (Err failure) status (nothing, put) same telling = absurd (failure_not_telling failure err status put telling)
