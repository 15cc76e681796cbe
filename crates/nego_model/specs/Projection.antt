-- What one agent sees of a run.
use Rattle.std.specs.Prelude.{ℕ, List, [], ◌∷◌, IsTrue}
use Rattle.std.specs.List.{filter}
use Rattle.nego_base.specs.Members.{is_in}
use Rattle.nego_model.specs.Negotiation.{Negotiation}
use Rattle.nego_model.specs.Occurring.{Occurrence}
use Rattle.nego_model.specs.Joining.{Entry}

-- Nobody is in both lists.
abbrev pub AreApart : List ℕ → List ℕ → Type 0
AreApart one two = (a : ℕ) → IsTrue (is_in a one) → IsTrue (is_in a two) → ⊥

-- the items whose atom has the agent as a party
abbrev pub seen_by : {A : Type 0} → (A → ℕ) → Negotiation → ℕ → List A → List A
seen_by atom nego a items = filter (λ item. is_in a (nego.parties (atom item))) items

-- the projection of a run: its occurrences whose atom has the agent as a party
abbrev pub projection : Negotiation → ℕ → List Occurrence → List Occurrence
projection = seen_by (λ step. step.0)

-- the projection of a history: its entries whose atom has the agent as a party
abbrev pub own_entries : Negotiation → ℕ → List Entry → List Entry
own_entries = seen_by (λ entry. entry.step.0)

-- what an agent is ready for who was ready for the given atoms and then took part in these entries
abbrev pub ready_behind : Negotiation → ℕ → List ℕ → List Occurrence → List ℕ
ready_behind nego a here [] = here
ready_behind nego a here (step ∷ steps) = ready_behind nego a (nego.next step.1 a) steps
