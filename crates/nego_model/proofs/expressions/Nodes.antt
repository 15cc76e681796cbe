-- Laws of what expressions mean.
use Rattle.std.proofs.Common.{◌≡◌, ◌↔◌, ⊎_elim, inl, inr, ℕ, ◌<◌, Bool, true, false, ◌==◌, List, [], ◌∷◌, ◌++◌, reverse, length, slice_get, slice_index_or, Some, MatchBool, All, refl, sym, subst, ◌∙◌, arith, eq-eqb, ne_eqb, append_assoc, append-nil}
use Rattle.std.proofs.lemmas.Bool.{MatchBool-at_true, MatchBool-at_false}
use Rattle.std.proofs.lemmas.List.{reverse-append, length-reverse, length-append}
use Rattle.nego_base.proofs.ListLaws.{parts_at}
use Rattle.nego_model.specs.Joining.{Relation}
use Rattle.nego_model.specs.Expression.{PlainNode, Base, Join, Then, Star, children, IsNodeList, IsPath, NodeMeans, MeansAmong, Means, NodeBases, BasesAmong, EachBase}

-- with the newest first, a new node stands before the others
newest_first : (nodes : List PlainNode) (node : PlainNode) → reverse (nodes ++ node ∷ []) ≡ node ∷ reverse nodes
newest_first nodes node = reverse-append nodes (node ∷ [])

-- a path in one step
pub IsPath_one : (relation : ℕ → ℕ → Type 0) (d e : ℕ) → relation d e → IsPath relation d (e ∷ []) e
IsPath_one relation d e h = (h, refl)

-- a path and then a path
pub IsPath_through : (relation : ℕ → ℕ → Type 0) (front rest : List ℕ) (d c e : ℕ) → IsPath relation d front c → IsPath relation c rest e → IsPath relation d (front ++ rest) e
IsPath_through relation [] rest d c e h k = subst (λ x. IsPath relation x rest e) (sym h) k
IsPath_through relation (b ∷ front) rest d c e h k = (h.0, IsPath_through relation front rest b c e h.1 k)

-- a path by one relation is a path by a wider one
pub IsPath-wider : (relation wider : ℕ → ℕ → Type 0) → ((d e : ℕ) → relation d e → wider d e) → (path : List ℕ) (d e : ℕ) → IsPath relation d path e → IsPath wider d path e
IsPath-wider relation wider h [] d e k = k
IsPath-wider relation wider h (c ∷ path) d e k = (h d c k.0, IsPath-wider relation wider h path c e k.1)

-- a node means as much where its outcomes and its children mean as much
pub NodeMeans-wider : (base wider older newer : Relation) (node : PlainNode) → ((o d e : ℕ) → base o d e → wider o d e) → All (λ c. (d e : ℕ) → older c d e → newer c d e) (children node) → (d e : ℕ) →
    NodeMeans base older node d e → NodeMeans wider newer node d e
NodeMeans-wider base wider older newer (Base o) h k d e m = h o d e m
NodeMeans-wider base wider older newer (Join x y) h k d e m = ⊎_elim (λ a. inl (k 0 x (omega arith) d e a)) (λ a. inr (k 1 y (omega arith) d e a)) m
NodeMeans-wider base wider older newer (Then x y) h k d e m = (m.0, k 0 x (omega arith) d m.0 m.1, k 1 y (omega arith) m.0 e m.2)
NodeMeans-wider base wider older newer (Star x) h k d e m = (m.0, IsPath-wider (older x) (newer x) (k 0 x (omega arith)) m.0 d e m.1)

module _ (base : Relation) where
  -- a node that is added at the end changes the meaning of no other
  pub Means-older : (nodes : List PlainNode) (node : PlainNode) (i d e : ℕ) → i < length nodes → Means base (nodes ++ node ∷ []) i d e ↔ Means base nodes i d e
  Means-older nodes node i d e h = (
    λ m. MatchBool-at_false (NodeMeans base (MeansAmong base (reverse nodes)) node d e) (Means base nodes i d e) other (subst (λ ns. MeansAmong base ns i d e) (newest_first nodes node) m),
    λ m. subst (λ ns. MeansAmong base ns i d e) (sym (newest_first nodes node))
        (subst (λ b. MatchBool b (NodeMeans base (MeansAmong base (reverse nodes)) node d e) (Means base nodes i d e)) (sym other) m),
  )
    where
      other : (i == length (reverse nodes)) ≡ false
      other = ne_eqb i (length (reverse nodes)) (λ e'. let l = length-reverse nodes in let no_more : ⊥ = omega (arith, h, e', l) in no_more)

  -- the node at the end means what it is made of
  pub Means-newest : (nodes : List PlainNode) (node : PlainNode) (d e : ℕ) → Means base (nodes ++ node ∷ []) (length nodes) d e ↔ NodeMeans base (Means base nodes) node d e
  Means-newest nodes node d e = (
    λ m. MatchBool-at_true (NodeMeans base (Means base nodes) node d e) (Means base nodes (length nodes) d e) same (subst (λ ns. MeansAmong base ns (length nodes) d e) (newest_first nodes node) m),
    λ m. subst (λ ns. MeansAmong base ns (length nodes) d e) (sym (newest_first nodes node))
        (subst (λ b. MatchBool b (NodeMeans base (Means base nodes) node d e) (Means base nodes (length nodes) d e)) (sym same) m),
  )
    where
      same : (length nodes == length (reverse nodes)) ≡ true
      same = eq-eqb (length nodes) (length (reverse nodes)) (sym (length-reverse nodes))

  -- nodes that are added at the end change the meaning of no other
  pub Means-append : (nodes more : List PlainNode) (i d e : ℕ) → i < length nodes → Means base (nodes ++ more) i d e ↔ Means base nodes i d e
  Means-append nodes [] i d e h = (λ m. subst (λ ns. Means base ns i d e) (append-nil nodes) m, λ m. subst (λ ns. Means base ns i d e) (sym (append-nil nodes)) m)
  Means-append nodes (node ∷ more) i d e h =
      let joined = append_assoc nodes (node ∷ []) more in
      let l = length-append nodes (node ∷ []) in
      let k = Means-append (nodes ++ node ∷ []) more i d e (omega (arith, h, l)) in
      let o = Means-older nodes node i d e h in
      (λ m. o.0 (k.0 (subst (λ ns. Means base ns i d e) (sym joined) m)), λ m. subst (λ ns. Means base ns i d e) joined (k.1 (o.1 m)))

-- A node means what its children mean, in a list of nodes each made of earlier ones.
pub Means-at : (base : Relation) (nodes : List PlainNode) (i : ℕ) (node : PlainNode) (d e : ℕ) → IsNodeList nodes → slice_get nodes i ≡ Some node → Means base nodes i d e ↔ NodeMeans base (Means base nodes) node d e
Means-at base nodes i node d e formed h = (
  λ m. NodeMeans-wider base base (Means base front) (Means base nodes) node (λ o a b q. q) (λ k x l a b q. (same (slice_index_or (children node) k x) a b (below k x l)).1 q) d e ((newest d e).0 (at.0 (here.0 m))),
  λ m. here.1 (at.1 ((newest d e).1 (NodeMeans-wider base base (Means base nodes) (Means base front) node (λ o a b q. q) (λ k x l a b q. (same (slice_index_or (children node) k x) a b (below k x l)).0 q) d e m))),
)
  where
    parts : (front : List PlainNode) × (rest : List PlainNode) × (nodes ≡ front ++ node ∷ rest) × (length front ≡ i)
    parts = parts_at nodes i node h

    front : List PlainNode
    front = parts.0

    whole : nodes ≡ (front ++ node ∷ []) ++ parts.1
    whole = parts.2 ∙ sym (append_assoc front (node ∷ []) parts.1)

    below : All (λ c. c < length front) (children node)
    below = subst (λ n. All (λ c. c < n) (children node)) (sym parts.3) (formed i node h)

    same : (c a b : ℕ) → c < length front → Means base nodes c a b ↔ Means base front c a b
    same c a b l =
        let k = Means-append base front (node ∷ parts.1) c a b l in
        (λ m. k.0 (subst (λ ns. Means base ns c a b) parts.2 m), λ m. subst (λ ns. Means base ns c a b) (sym parts.2) (k.1 m))

    here : Means base nodes i d e ↔ Means base ((front ++ node ∷ []) ++ parts.1) i d e
    here = (λ m. subst (λ ns. Means base ns i d e) whole m, λ m. subst (λ ns. Means base ns i d e) (sym whole) m)

    at : Means base ((front ++ node ∷ []) ++ parts.1) i d e ↔ Means base (front ++ node ∷ []) i d e
    at = let l = length-append front (node ∷ []) in let k : length front ≡ i = parts.3 in Means-append base (front ++ node ∷ []) parts.1 i d e (omega (arith, l, k))

    newest : (a b : ℕ) → Means base (front ++ node ∷ []) i a b ↔ NodeMeans base (Means base front) node a b
    newest a b = subst (λ n. Means base (front ++ node ∷ []) n a b ↔ NodeMeans base (Means base front) node a b) parts.3 (Means-newest base front node a b)

module _ (P : ℕ → Type 0) where
  -- a node that is added at the end changes no outcomes under others
  pub EachBase-older : (nodes : List PlainNode) (node : PlainNode) (i : ℕ) → i < length nodes → EachBase P (nodes ++ node ∷ []) i ↔ EachBase P nodes i
  EachBase-older nodes node i h = (
    λ m. MatchBool-at_false (NodeBases P (BasesAmong P (reverse nodes)) node) (EachBase P nodes i) other (subst (λ ns. BasesAmong P ns i) (newest_first nodes node) m),
    λ m. subst (λ ns. BasesAmong P ns i) (sym (newest_first nodes node)) (subst (λ b. MatchBool b (NodeBases P (BasesAmong P (reverse nodes)) node) (EachBase P nodes i)) (sym other) m),
  )
    where
      other : (i == length (reverse nodes)) ≡ false
      other = ne_eqb i (length (reverse nodes)) (λ e'. let l = length-reverse nodes in let no_more : ⊥ = omega (arith, h, e', l) in no_more)

  -- the outcomes under the node at the end are those under what it is made of
  pub EachBase-newest : (nodes : List PlainNode) (node : PlainNode) → EachBase P (nodes ++ node ∷ []) (length nodes) ↔ NodeBases P (EachBase P nodes) node
  EachBase-newest nodes node = (
    λ m. MatchBool-at_true (NodeBases P (EachBase P nodes) node) (EachBase P nodes (length nodes)) same (subst (λ ns. BasesAmong P ns (length nodes)) (newest_first nodes node) m),
    λ m. subst (λ ns. BasesAmong P ns (length nodes)) (sym (newest_first nodes node)) (subst (λ b. MatchBool b (NodeBases P (EachBase P nodes) node) (EachBase P nodes (length nodes))) (sym same) m),
  )
    where
      same : (length nodes == length (reverse nodes)) ≡ true
      same = eq-eqb (length nodes) (length (reverse nodes)) (sym (length-reverse nodes))

-- what each outcome under a node has, each has that has less
pub EachBase-weaker : (P Q : ℕ → Type 0) → ((o : ℕ) → P o → Q o) → (nodes : List PlainNode) (i : ℕ) → EachBase P nodes i → EachBase Q nodes i
EachBase-weaker P Q h nodes i m = among (reverse nodes) i m
  where
    node_weaker : (before after : ℕ → Type 0) → ((c : ℕ) → before c → after c) → (node : PlainNode) → NodeBases P before node → NodeBases Q after node
    node_weaker before after k (Base o) q = h o q
    node_weaker before after k (Join x y) q = (k x q.0, k y q.1)
    node_weaker before after k (Then x y) q = (k x q.0, k y q.1)
    node_weaker before after k (Star x) q = k x q

    choose : (b : Bool) (node : PlainNode) (before after : ℕ → Type 0) (j : ℕ) → ((c : ℕ) → before c → after c) → MatchBool b (NodeBases P before node) (before j) → MatchBool b (NodeBases Q after node) (after j)
    choose true node before after j k q = node_weaker before after k node q
    choose false node before after j k q = k j q

    among : (ns : List PlainNode) (j : ℕ) → BasesAmong P ns j → BasesAmong Q ns j
    among [] j q = tt
    among (node ∷ older) j q = choose (j == length older) node (BasesAmong P older) (BasesAmong Q older) j (λ c r. among older c r) q
