-- Markings, occurrence, runs and soundness.
use Rattle.std.specs.Prelude.{◌≡◌, ℕ, ◌+◌, Bool, ◌&&◌, if◌then◌else◌, List, [], ◌∷◌, ◌++◌, replicate, slice_index_or, Option, Some, None, option_and_then, IsSome, IsTrue}
use Rattle.std.specs.List.{list_all}
use Rattle.nego_base.specs.Members.{is_in}
use Rattle.nego_model.specs.Negotiation.{Negotiation}

-- a marking: for each agent the atoms that it is ready for
abbrev pub PlainMarking : Type 0
PlainMarking = List (List ℕ)

-- everyone is ready for the first atom alone
abbrev pub opening_marking : Negotiation → PlainMarking
opening_marking nego = replicate nego.agents (nego.first ∷ [])

-- everyone is ready for nothing
abbrev pub final_marking : Negotiation → PlainMarking
final_marking nego = replicate nego.agents []

-- what an agent is ready for
abbrev pub ready : PlainMarking → ℕ → List ℕ
ready marking a = slice_index_or marking a []

-- whether each party of the atom is ready for it
abbrev pub enables : Negotiation → PlainMarking → ℕ → Bool
enables nego marking n = is_in n nego.atoms && list_all (λ a. is_in n (ready marking a)) (nego.parties n)

-- the agents from a on, of whom the parties have moved
abbrev pub moved : ℕ → List ℕ → (ℕ → List ℕ) → PlainMarking → PlainMarking
moved a parties next [] = []
moved a parties next (here ∷ rest) = (if is_in a parties then next a else here) ∷ moved (a + 1) parties next rest

-- an atom and one of its outcomes
abbrev pub Occurrence : Type 0
Occurrence = ℕ × ℕ

-- The marking after an atom has occurred with an outcome: where the marking enables the atom and the outcome is one
-- of the atom's, each party is ready for its next atoms and everyone else as before; else there is none.
abbrev pub after : Negotiation → PlainMarking → Occurrence → Option PlainMarking
after nego marking step =
    if enables nego marking step.0 && is_in step.1 (nego.outcomes step.0)
    then Some (moved 0 (nego.parties step.0) (nego.next step.1) marking)
    else None

-- the marking that occurrences leave, one after another
abbrev pub leaves : Negotiation → PlainMarking → List Occurrence → Option PlainMarking
leaves nego marking [] = Some marking
leaves nego marking (step ∷ steps) = option_and_then (λ next. leaves nego next steps) (after nego marking step)

-- a run: they occur one after another from the opening marking
abbrev pub IsRun : Negotiation → List Occurrence → Type 0
IsRun nego run = IsSome (leaves nego (opening_marking nego) run)

-- a run to the final marking
abbrev pub IsComplete : Negotiation → List Occurrence → Type 0
IsComplete nego run = leaves nego (opening_marking nego) run ≡ Some (final_marking nego)

-- Some run leaves a marking that enables the atom.
pub record CanOccur (nego : Negotiation) (n : ℕ) : Type 0 where
  pub run : List Occurrence
  pub marking : PlainMarking
  pub leads : leaves nego (opening_marking nego) run ≡ Some marking
  pub enabled : IsTrue (enables nego marking n)

-- Each atom is enabled in the marking that some run leaves, and each run begins a complete run.
pub record IsSound (nego : Negotiation) : Type 0 where
  pub alive : (n : ℕ) → IsTrue (is_in n nego.atoms) → CanOccur nego n
  pub completes : (run : List Occurrence) → IsRun nego run → (rest : List Occurrence) × IsComplete nego (run ++ rest)
