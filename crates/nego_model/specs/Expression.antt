-- Expressions over outcomes, and the relation that they mean.
use Rattle.std.specs.Prelude.{◌≡◌, ◌⊎◌, ℕ, ◌<◌, ◌==◌, List, [], ◌∷◌, reverse, length, slice_get, Option, Some, All, MatchBool, MatchOption, ⊤}
use Rattle.nego_model.specs.Joining.{Relation, RelationTest, By}

-- a node of an expression: an outcome, or one or two nodes of smaller numbers
pub data PlainNode : Type 0 where
  Base : ℕ → PlainNode
  Join : ℕ → ℕ → PlainNode
  Then : ℕ → ℕ → PlainNode
  Star : ℕ → PlainNode

-- the nodes that a node is made of
abbrev pub children : PlainNode → List ℕ
children (Base o) = []
children (Join x y) = x ∷ y ∷ []
children (Then x y) = x ∷ y ∷ []
children (Star x) = x ∷ []

-- Each child of a node has a smaller number than the node.
abbrev pub IsNodeList : List PlainNode → Type 0
IsNodeList nodes = (i : ℕ) (node : PlainNode) → slice_get nodes i ≡ Some node → All (λ child. child < i) (children node)

-- The path begins behind d and ends with e, and all neighbours are related.
abbrev pub IsPath : (ℕ → ℕ → Type 0) → ℕ → List ℕ → ℕ → Type 0
IsPath relation d [] e = d ≡ e
IsPath relation d (c ∷ cs) e = relation d c × IsPath relation c cs e

-- What a node relates, where `older` says what the nodes before it relate.
abbrev pub NodeMeans : Relation → Relation → PlainNode → ℕ → ℕ → Type 0
NodeMeans base older (Base o) d e = base o d e
NodeMeans base older (Join x y) d e = older x d e ⊎ older y d e
NodeMeans base older (Then x y) d e = (c : ℕ) × older x d c × older y c e
NodeMeans base older (Star x) d e = (path : List ℕ) × IsPath (older x) d path e

-- What node i relates, of nodes of which the newest is first.
abbrev pub MeansAmong : Relation → List PlainNode → Relation
MeansAmong base [] i d e = ⊥
MeansAmong base (node ∷ older) i d e = MatchBool (i == length older) (NodeMeans base (MeansAmong base older) node d e) (MeansAmong base older i d e)

-- What node i relates, of nodes in their order.
abbrev pub Means : Relation → List PlainNode → Relation
Means base nodes i d e = MeansAmong base (reverse nodes) i d e

-- What outcomes do, as data over which a law may range: a test says it, or nodes over a test do, with the node of each
-- outcome; an outcome that has none is gone.
pub data Meaning : Type 0 where
  ByTest : RelationTest → Meaning
  ByNodes : RelationTest → List PlainNode → (ℕ → Option ℕ) → Meaning

-- the relation of a meaning
abbrev pub Relates : Meaning → Relation
Relates (ByTest test) o d e = By test o d e
Relates (ByNodes test nodes node_of) o d e = MatchOption (node_of o) ⊥ (λ node. Means (By test) nodes node d e)

-- Each outcome under a node has P, where `older` says so of the nodes before it.
abbrev pub NodeBases : (ℕ → Type 0) → (ℕ → Type 0) → PlainNode → Type 0
NodeBases P older (Base o) = P o
NodeBases P older (Join x y) = older x × older y
NodeBases P older (Then x y) = older x × older y
NodeBases P older (Star x) = older x

-- Each outcome under node i has P, of nodes of which the newest is first.
abbrev pub BasesAmong : (ℕ → Type 0) → List PlainNode → ℕ → Type 0
BasesAmong P [] i = ⊤
BasesAmong P (node ∷ older) i = MatchBool (i == length older) (NodeBases P (BasesAmong P older) node) (BasesAmong P older i)

-- Each outcome under node i has P, of nodes in their order.
abbrev pub EachBase : (ℕ → Type 0) → List PlainNode → ℕ → Type 0
EachBase P nodes i = BasesAmong P (reverse nodes) i

-- Each outcome among the nodes has P.
abbrev pub AllBases : (ℕ → Type 0) → List PlainNode → Type 0
AllBases P nodes = All (NodeBases P (λ i. ⊤)) nodes
