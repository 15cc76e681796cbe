-- The outcomes among the nodes of expressions.
use Rattle.std.specs.Prelude.{⊤}
use Rattle.std.proofs.Common.{ℕ, Bool, true, false, ◌==◌, List, [], ◌∷◌, ◌++◌, reverse, length, MatchBool, All, sym, subst}
use Rattle.std.proofs.lemmas.List.{reverse-append}
use Rattle.std.proofs.lemmas.List.Elements.{All-nil, All-cons, All-head, All-tail, All-append}
use Rattle.nego_model.specs.Expression.{PlainNode, Base, Join, Then, Star, NodeBases, BasesAmong, EachBase, AllBases}

-- what all items have, all have the other way round
All-reverse : {A : Type 0} (P : A → Type 0) (xs : List A) → All P xs → All P (reverse xs)
All-reverse P [] h = h
All-reverse P (x ∷ xs) h =
    subst (All P) (sym (reverse-append (x ∷ []) xs)) (All-append P (reverse xs) (x ∷ []) (All-reverse P xs (All-tail P x xs h)) (All-cons P x [] (All-head P x xs h) (All-nil P)))

module _ (P : ℕ → Type 0) where
  -- no nodes have no outcomes
  pub AllBases-empty : AllBases P []
  AllBases-empty = All-nil (NodeBases P (λ i. ⊤))

  -- one node, and its outcome where it is one
  pub AllBases_one : (node : PlainNode) → NodeBases P (λ i. ⊤) node → AllBases P (node ∷ [])
  AllBases_one node h = All-cons (NodeBases P (λ i. ⊤)) node [] h AllBases-empty

  -- the outcomes among nodes and those among others
  pub AllBases-append : (nodes more : List PlainNode) → AllBases P nodes → AllBases P more → AllBases P (nodes ++ more)
  AllBases-append nodes more h k = All-append (NodeBases P (λ i. ⊤)) nodes more h k

  node_bases : (node : PlainNode) (bases : ℕ → Type 0) → ((i : ℕ) → bases i) → NodeBases P (λ i. ⊤) node → NodeBases P bases node
  node_bases (Base o) bases older h = h
  node_bases (Join x y) bases older h = (older x, older y)
  node_bases (Then x y) bases older h = (older x, older y)
  node_bases (Star x) bases older h = older x

  choice : (b : Bool) (one two : Type 0) → one → two → MatchBool b one two
  choice true one two h k = h
  choice false one two h k = k

  among : (nodes : List PlainNode) → All (NodeBases P (λ i. ⊤)) nodes → (i : ℕ) → BasesAmong P nodes i
  among [] h i = tt
  among (node ∷ older) h i =
      let rest = among older (All-tail (NodeBases P (λ j. ⊤)) node older h) in
      choice (i == length older) (NodeBases P (BasesAmong P older) node) (BasesAmong P older i)
      (node_bases node (BasesAmong P older) rest (All-head (NodeBases P (λ j. ⊤)) node older h)) (rest i)

  -- what each outcome among the nodes has, each under a node has
  pub EachBase-from_all : (nodes : List PlainNode) (i : ℕ) → AllBases P nodes → EachBase P nodes i
  EachBase-from_all nodes i h = among (reverse nodes) (All-reverse (NodeBases P (λ j. ⊤)) nodes h) i
