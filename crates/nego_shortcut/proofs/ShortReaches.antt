-- What is reached before and behind a shortcut, as two statements: each is proved in a file of its own.
use Rattle.std.specs.Prelude.{◌≡◌, ◌⊎◌, ℕ, ◌<◌, false, List, Some, IsTrue}
use Rattle.nego_base.specs.Members.{is_in}
use Rattle.nego_data.specs.Data.{data_count}
use Rattle.nego_model.specs.Negotiation.{Negotiation}
use Rattle.nego_model.specs.Occurring.{PlainMarking, ready, enables, after}
use Rattle.nego_model.specs.Joining.{Relation}
use Rattle.nego_model.specs.Reaching.{Reaches}
use Rattle.nego_model.proofs.occurrence.Proper.{IsProper, IsSingle}

-- A marking and data that the first negotiation reaches where n is due: the marking enables n, and what any outcome of n
-- leaves, the second negotiation reaches from the start.
pub record IsDue (one two : Negotiation) (relation relation' : Relation) (n : ℕ) (from : PlainMarking) (d : ℕ) (to : PlainMarking) (e : ℕ) : Type 0 where
  pub enabled : IsTrue (enables one to n)
  pub follows : (x : ℕ) (left : PlainMarking) (e' : ℕ) → after one to (n, x) ≡ Some left → relation x e e' → Reaches two relation' from d left e'

-- Nobody is ready for n, or n is an atom of the second negotiation.
abbrev pub MayStart : Negotiation → ℕ → PlainMarking → Type 0
MayStart two n from = IsTrue (is_in n two.atoms) ⊎ ((a : ℕ) → is_in n (ready from a) ≡ false)

-- What the first negotiation reaches, the second reaches too, or n is due there.
abbrev pub ReachesForward : Negotiation → Negotiation → Relation → Relation → ℕ → List ℕ → Type 0
ReachesForward one two relation relation' n sizes = (from : PlainMarking) (d : ℕ) (to : PlainMarking) (e : ℕ) → IsProper one from → IsSingle one from → MayStart two n from → d < data_count sizes →
    Reaches one relation from d to e → Reaches two relation' from d to e ⊎ IsDue one two relation relation' n from d to e

-- What the second negotiation reaches, the first reaches too; where the second hasn't n, nobody is ready for n there.
abbrev pub ReachesBackward : Negotiation → Negotiation → Relation → Relation → ℕ → Type 0
ReachesBackward one two relation relation' n = (from : PlainMarking) (d : ℕ) (to : PlainMarking) (e : ℕ) → IsProper one from → MayStart two n from →
    Reaches two relation' from d to e → Reaches one relation from d to e × MayStart two n to
