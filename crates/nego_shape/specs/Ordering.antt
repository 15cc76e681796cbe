-- The order in which atoms are placed, and the cycle that is found where no atom can be placed.
use Rattle.std.specs.Prelude.{◌≡◌, ◌≢◌, ℕ, ◌<◌, ◌≤◌, false, List, [], ◌∷◌, ◌++◌, length, take, reverse, slice_index, All, IsTrue}
use Rattle.std.specs.List.{AllPairs}
use Rattle.nego_base.specs.Members.{is_in}
use Rattle.nego_model.specs.Negotiation.{Negotiation}
use Rattle.nego_model.specs.Expression.{IsPath}
use Rattle.nego_model.specs.Acyclic.{IsEdge}

-- The atom isn't placed yet.
pub record IsLeft (nego : Negotiation) (placed : List ℕ) (n : ℕ) : Type 0 where
  pub atom : IsTrue (is_in n nego.atoms)
  pub unplaced : is_in n placed ≡ false

-- The atom can be placed: it is left, and all of its predecessors are placed.
pub record IsReady (nego : Negotiation) (placed : List ℕ) (n : ℕ) : Type 0 where
  pub left : IsLeft nego placed n
  pub behind : (m : ℕ) → IsEdge nego m n → IsTrue (is_in m placed)

-- The least atom that can be placed.
pub record IsLeastReady (nego : Negotiation) (placed : List ℕ) (n : ℕ) : Type 0 where
  pub ready : IsReady nego placed n
  pub least : (m : ℕ) → IsReady nego placed m → n ≤ m

-- Each atom of the list is the least that can be placed behind those before it.
abbrev pub PlacesLeast : Negotiation → List ℕ → Type 0
PlacesLeast nego order = (k : ℕ) → k < length order → IsLeastReady nego (take k order) (slice_index order k)

-- None can be placed.
abbrev pub IsStuck : Negotiation → List ℕ → Type 0
IsStuck nego placed = (n : ℕ) → IsReady nego placed n → ⊥

-- The least atom that is left.
pub record IsLeastLeft (nego : Negotiation) (placed : List ℕ) (n : ℕ) : Type 0 where
  pub left : IsLeft nego placed n
  pub least : (m : ℕ) → IsLeft nego placed m → n ≤ m

-- m is the least left predecessor of n.
pub record IsLeastBehind (nego : Negotiation) (placed : List ℕ) (n m : ℕ) : Type 0 where
  pub edge : IsEdge nego m n
  pub left : IsLeft nego placed m
  pub least : (p : ℕ) → IsEdge nego p n → IsLeft nego placed p → m ≤ p

-- A walk back along the edges: it begins with the least left atom, goes again and again to the least left
-- predecessor, and ends with the first atom that it comes to a second time, `again`. It first goes over `lead`.
pub record WalksBack (nego : Negotiation) (placed lead : List ℕ) (again : ℕ) (others : List ℕ) : Type 0 where
  pub start : ℕ
  pub path : List ℕ
  pub walk : start ∷ path ≡ lead ++ again ∷ (others ++ again ∷ [])
  pub begins : IsLeastLeft nego placed start
  pub back : IsPath (IsLeastBehind nego placed) start path again
  pub once : AllPairs (λ m n. m ≢ n) (lead ++ again ∷ others)

-- The list turned round, and then rotated so that its least number is the first.
pub record IsTurned (round turned : List ℕ) : Type 0 where
  pub front : List ℕ
  pub lowest : ℕ
  pub rest : List ℕ
  pub parts : reverse round ≡ front ++ lowest ∷ rest
  pub rotated : turned ≡ lowest ∷ (rest ++ front)
  pub least : All (λ n. lowest ≤ n) round

-- The cycle that is found: the placed atoms are each the least that could be placed, and no other can be placed; of a
-- walk back from there, the atoms from the one that comes twice on, each once, turned round.
pub record IsFoundCycle (nego : Negotiation) (cycle : List ℕ) : Type 0 where
  pub placed : List ℕ
  pub least : PlacesLeast nego placed
  pub stuck : IsStuck nego placed
  pub lead : List ℕ
  pub again : ℕ
  pub others : List ℕ
  pub walk : WalksBack nego placed lead again others
  pub turned : IsTurned (again ∷ others) cycle

-- An edge leads from each atom of the list to the next, and from the last to the first.
abbrev pub IsCycle : Negotiation → List ℕ → Type 0
IsCycle nego [] = ⊥
IsCycle nego (n ∷ ns) = IsPath (IsEdge nego) n (ns ++ n ∷ []) n
