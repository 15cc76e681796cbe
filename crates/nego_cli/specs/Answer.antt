-- What the top call answers: each status with its cause, what it put out, and what it left unread.
use Rattle.std.specs.Prelude.{◌≡◌, ◌⊎◌, ℕ, ◌<◌, List, [], None, Result, Ok, Err}
use Rattle.nego_cli.specs.declared.answer.Answer.{Answer}
use Rattle.nego_cli.specs.declared.command.Command.{Command}
use Rattle.nego_cli.specs.declared.failure.Failure.{Failure}
use Rattle.nego_cli.specs.declared.failure.Failure.TheVariants as failures
use Rattle.nego_cli.specs.declared.failure.Refusal.{Refusal}
use Rattle.nego_cli.specs.declared.status.Status.{Status}
use Rattle.nego_cli.specs.declared.status.Status.TheVariants as statuses
use Rattle.nego_cli.specs.Effect.{Effect, HasFaulted, Stayed, Put, PutFront, Tried}
use Rattle.nego_cli.specs.Parts.{Read, HasRead, TookParts}
use Rattle.nego_cli.specs.Turn.{TellsText, Refuses}
use Rattle.nego_cli.specs.Commands.{TurnOf, TextOf, asked, Asks, most_parts}
use Rattle.nego_cli.specs.Refusals.{refusal_line}
use Rattle.nego_cli.specs.Texts.{usage_line, read_fault_line, write_fault_line, memory_line}

-- the line of a failure
abbrev pub failure_line : Failure → List ℕ
failure_line failures.Words = usage_line
failure_line (failures.Refused why) = refusal_line why
failure_line failures.ReadFault = read_fault_line
failure_line failures.Memory = memory_line

-- the status of a failure
abbrev pub failure_status : Failure → Status
failure_status failures.Words = statuses.Words
failure_status (failures.Refused why) = statuses.Refused
failure_status failures.ReadFault = statuses.ReadFault
failure_status failures.Memory = statuses.Memory

-- The text is what the command that the words ask for tells of what was read.
pub record IsTold (words : List (List ℕ)) (source : Effect) (status : Status) (text : List ℕ) : Type 0 where
  pub command : Command
  pub reads : List Read
  pub asks : Asks words command
  pub read : HasRead reads source
  pub turn : TurnOf command reads TellsText
  pub told : TextOf command reads status text

-- The command that the words ask for refuses what was read.
pub record IsRefused (words : List (List ℕ)) (source : Effect) (why : Refusal) : Type 0 where
  pub command : Command
  pub reads : List Read
  pub asks : Asks words command
  pub read : HasRead reads source
  pub turn : TurnOf command reads (Refuses why)

-- The failure has its cause. Only a command that reads a part has a read fault, and nothing of what is behind the parts of the
-- command was taken.
abbrev pub HasFailed : List (List ℕ) → Effect → Failure → Type 0
HasFailed words source failures.Words = (asked words ≡ None) × HasRead [] source
HasFailed words source (failures.Refused why) = IsRefused words source why
HasFailed words source failures.ReadFault = (0 < most_parts (asked words)) × HasFaulted source × TookParts (most_parts (asked words)) source
HasFailed words source failures.Memory = Stayed source × TookParts (most_parts (asked words)) source

-- The answer has its cause in the words and in what was taken of the source.
abbrev pub IsFound : List (List ℕ) → Effect → Result Answer Failure → Type 0
IsFound words source (Ok answer) = IsTold words source answer.status answer.text
IsFound words source (Err failure) = HasFailed words source failure

-- The text with its cause stands on `out`, and nothing was put on `err`.
abbrev pub TextStands : List (List ℕ) → Effect → Effect → Effect → Status → Type 0
TextStands words source out err status = (text : List ℕ) × IsTold words source status text × Put text out × Put [] err

-- Writing a text with its cause failed: a front of it stands on `out`, and the line of the write fault on `err`, or a front
-- of that where it failed too.
abbrev pub TextFails : List (List ℕ) → Effect → Effect → Effect → Type 0
TextFails words source out err = (status : Status) × (text : List ℕ) × IsTold words source status text × PutFront text out × Tried write_fault_line err

-- The line of a failure with its cause stands on `err`, and nothing was put on `out`.
abbrev pub LineStands : List (List ℕ) → Effect → Effect → Effect → Status → Type 0
LineStands words source out err status =
    (failure : Failure) × (status ≡ failure_status failure) × HasFailed words source failure × Put [] out × Put (failure_line failure) err

-- Writing the line of a failure with its cause failed: a front of it stands on `err`, and nothing was put on `out`.
abbrev pub LineFails : List (List ℕ) → Effect → Effect → Effect → Type 0
LineFails words source out err = (failure : Failure) × HasFailed words source failure × Put [] out × PutFront (failure_line failure) err

-- What each status says.
abbrev pub Says : List (List ℕ) → Effect → Effect → Effect → Status → Type 0
Says words source out err statuses.Done = TextStands words source out err statuses.Done
Says words source out err statuses.No = TextStands words source out err statuses.No
Says words source out err statuses.Undecided = TextStands words source out err statuses.Undecided
Says words source out err statuses.WriteFault = TextFails words source out err ⊎ LineFails words source out err
Says words source out err status = LineStands words source out err status

-- The line of the failure stands on `err` with its status, and nothing was put on `out`; or writing a line failed; or
-- memory was wanted.
abbrev pub ShowsLine : Failure → Effect → Effect → Status → Type 0
ShowsLine failure out err status =
    ((status ≡ failure_status failure) × Put [] out × Put (failure_line failure) err) ⊎ (((status ≡ statuses.WriteFault) × HasFaulted err) ⊎ (status ≡ statuses.Memory))

-- The text that the command tells of what was read stands on `out` with its status, and nothing was put on `err`; or writing
-- failed; or memory was wanted.
abbrev pub ShowsText : Command → List Read → Effect → Effect → Status → Type 0
ShowsText command reads out err status =
    ((text : List ℕ) × TextOf command reads status text × Put text out × Put [] err) ⊎ (((status ≡ statuses.WriteFault) × (HasFaulted out ⊎ HasFaulted err)) ⊎ (status ≡ statuses.Memory))

-- A read fault is answered, and a call of the source failed.
abbrev pub FailsToRead : Effect → Status → Type 0
FailsToRead source status = (status ≡ statuses.ReadFault) × HasFaulted source
