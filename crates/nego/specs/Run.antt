-- What one call of the program over streams does.
use Rattle.std.specs.Prelude.{ℕ, List, Option, None}
use Rattle.nego_cli.specs.declared.status.Status.{Status}
use Rattle.nego_cli.specs.Answer.{Says}
use Rattle.nego_cli.specs.Effect.{Effect}
use Rattle.nego.specs.Words.{AreBehindName}

-- What is seen of a stream before a call and after it: its count of faults, and none of its bytes.
abbrev pub counted : ℕ → ℕ → Effect
counted before after = record { before = None; after = None; faults_before = before; faults_after = after }

-- The status says of the words of the call what the top call says of it.
abbrev pub SaysOfArguments : Option (List (List ℕ)) → Effect → Effect → Effect → Status → Type 0
SaysOfArguments told source out err status = (words : List (List ℕ)) × AreBehindName told words × Says words source out err status
