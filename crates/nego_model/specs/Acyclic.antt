-- When a negotiation is acyclic.
use Rattle.std.specs.Prelude.{◌≢◌, ◌≡◌, ℕ, ◌+◌, ◌<◌, ◌==◌, if◌then◌else◌, List, [], ◌∷◌, All, IsTrue}
use Rattle.std.specs.List.{AllPairs}
use Rattle.nego_base.specs.Members.{is_in}
use Rattle.nego_model.specs.Negotiation.{Negotiation, IsOutcome}

-- An edge leads from an atom to another: after some outcome of the one, some agent has the other as a next atom.
pub record IsEdge (nego : Negotiation) (m n : ℕ) : Type 0 where
  pub outcome : ℕ
  pub agent : ℕ
  pub own : IsOutcome nego m outcome
  pub leads : IsTrue (is_in n (nego.next outcome agent))

-- A list has each atom once, and every edge goes forward in it: none leads from an atom to itself, and none from a
-- later one to an earlier one.
pub record IsForwardOrder (nego : Negotiation) (order : List ℕ) : Type 0 where
  pub atoms : (n : ℕ) → is_in n order ≡ is_in n nego.atoms
  pub once : AllPairs (λ m n. m ≢ n) order
  pub no_loop : All (λ n. IsEdge nego n n → ⊥) order
  pub forward : AllPairs (λ earlier later. IsEdge nego later earlier → ⊥) order

-- In some order of the atoms every edge goes forward.
abbrev pub IsAcyclic : Negotiation → Type 0
IsAcyclic nego = (order : List ℕ) × IsForwardOrder nego order

-- the rank of an atom in an order: its first place
abbrev pub rank_in : List ℕ → ℕ → ℕ
rank_in [] n = 0
rank_in (m ∷ order) n = if m == n then 0 else rank_in order n + 1

-- An order ranks a negotiation: each atom stands in it, and each edge leads to an atom of a greater rank. Atoms that
-- were dropped may stand in it too.
pub record IsRankedBy (nego : Negotiation) (order : List ℕ) : Type 0 where
  pub atoms : (n : ℕ) → IsTrue (is_in n nego.atoms) → IsTrue (is_in n order)
  pub forward : (m n : ℕ) → IsEdge nego m n → rank_in order m < rank_in order n
