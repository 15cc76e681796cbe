-- What stands on `out` and `err` once an answer was put out.
use Rattle.std.specs.Prelude.{◌≡◌, ◌⊎◌, ⊤, ℕ, List, [], Result, Ok, Err}
use Rattle.nego_cli.specs.declared.answer.Answer.{Answer}
use Rattle.nego_cli.specs.declared.failure.Failure.{Failure}
use Rattle.nego_cli.specs.declared.failure.Failure.TheVariants as failures
use Rattle.nego_cli.specs.declared.status.Status.{Status}
use Rattle.nego_cli.specs.declared.status.Status.TheVariants as statuses
use Rattle.nego_cli.specs.Effect.{Effect, Put, PutFront, Tried}
use Rattle.nego_cli.specs.Answer.{failure_line, failure_status}
use Rattle.nego_cli.specs.Refusals.{IsNamed}
use Rattle.nego_cli.specs.Texts.{write_fault_line}

-- The text stands on `out` and its status is answered; or a front of it stands there, and the line of the write fault was tried on `err`.
abbrev pub IsTextPut : Answer → Effect → Effect → Status → Type 0
IsTextPut answer out err status =
    ((status ≡ answer.status) × Put answer.text out × Put [] err) ⊎ ((status ≡ statuses.WriteFault) × PutFront answer.text out × Tried write_fault_line err)

-- The line stands on `err` and this status is answered; or a front of it stands there.
abbrev pub IsLinePut : List ℕ → Status → Effect → Status → Type 0
IsLinePut line wanted err status = ((status ≡ wanted) × Put line err) ⊎ ((status ≡ statuses.WriteFault) × PutFront line err)

-- The line of the failure was put; for a refusal maybe that of want of memory.
abbrev pub IsFailurePut : Failure → Effect → Status → Type 0
IsFailurePut (failures.Refused why) err status =
    IsLinePut (failure_line (failures.Refused why)) statuses.Refused err status ⊎ IsLinePut (failure_line failures.Memory) statuses.Memory err status
IsFailurePut failure err status = IsLinePut (failure_line failure) (failure_status failure) err status

-- The answer was put out.
abbrev pub IsDelivered : Result Answer Failure → Effect → Effect → Status → Type 0
IsDelivered (Ok answer) out err status = IsTextPut answer out err status
IsDelivered (Err failure) out err status = Put [] out × IsFailurePut failure err status

-- What a refusal names is there.
abbrev pub FailureIsNamed : Failure → Type 0
FailureIsNamed (failures.Refused why) = IsNamed why
FailureIsNamed _ = ⊤
