-- The numbers of the statuses.
use Rattle.std.specs.Prelude.{⊤, ℕ}
use Rattle.nego_cli.specs.declared.status.Status.{Status}
use Rattle.nego_cli.specs.declared.status.Status.TheVariants.{Done, No, Words, Refused, Undecided, ReadFault, WriteFault, Memory}

-- the exit status
abbrev pub status_number : Status → ℕ
status_number Done = 0
status_number No = 1
status_number Words = 2
status_number Refused = 3
status_number Undecided = 4
status_number ReadFault = 5
status_number WriteFault = 6
status_number Memory = 9

-- The status is one with which a text is told.
abbrev pub IsTelling : Status → Type 0
IsTelling Done = ⊤
IsTelling No = ⊤
IsTelling Undecided = ⊤
IsTelling _ = ⊥
