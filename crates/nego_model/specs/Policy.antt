-- Policies: which outcome each atom is to have, so that occurrences by it come to an end.
use Rattle.std.specs.Prelude.{◌≡◌, ℕ, ◌<◌, List, All, Some, IsTrue}
use Rattle.nego_base.specs.Members.{is_in}
use Rattle.nego_model.specs.Negotiation.{Negotiation}
use Rattle.nego_model.specs.Occurring.{PlainMarking, Occurrence, leaves, final_marking}

-- A policy: for each atom one of its outcomes, and one of its parties, whom this outcome sends nearer to the last atom.
pub record Policy (nego : Negotiation) : Type 0 where
  pub choice : ℕ → ℕ
  pub guide : ℕ → ℕ
  pub distance : ℕ → ℕ
  pub own : (n : ℕ) → IsTrue (is_in n nego.atoms) → IsTrue (is_in (choice n) (nego.outcomes n))
  pub party : (n : ℕ) → IsTrue (is_in n nego.atoms) → IsTrue (is_in (guide n) (nego.parties n))
  pub nearer : (n m : ℕ) → IsTrue (is_in n nego.atoms) → IsTrue (is_in m (nego.next (choice n) (guide n))) → distance m < distance n

-- Each occurrence has the outcome that is chosen for its atom.
abbrev pub AreChosen : (ℕ → ℕ) → List Occurrence → Type 0
AreChosen choice steps = All (λ step. step.1 ≡ choice step.0) steps

-- Chosen occurrences lead from a marking to the final one.
pub record IsCompletedBy (nego : Negotiation) (choice : ℕ → ℕ) (marking : PlainMarking) (steps : List Occurrence) : Type 0 where
  pub chosen : AreChosen choice steps
  pub ends : leaves nego marking steps ≡ Some (final_marking nego)
