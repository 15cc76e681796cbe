-- What the outcomes of a negotiation read and change of joint data.
use Rattle.std.specs.Prelude.{ℕ, ◌<◌, List}
use Rattle.nego_data.specs.Data.{data_count}
use Rattle.nego_data.specs.Locality.{ActsOn}
use Rattle.nego_model.specs.Negotiation.{Negotiation, IsOutcome}
use Rattle.nego_model.specs.Joining.{Relation}

-- Each outcome's relation reads and changes the values of its atom's parties alone.
abbrev pub IsLocal : Negotiation → List ℕ → Relation → Type 0
IsLocal nego sizes relation = (n o : ℕ) → IsOutcome nego n o → ActsOn sizes (nego.parties n) (relation o)

-- Each outcome relates each joint data to some.
abbrev pub IsTotal : Negotiation → List ℕ → Relation → Type 0
IsTotal nego sizes relation = (n o d : ℕ) → IsOutcome nego n o → d < data_count sizes → (e : ℕ) × relation o d e
