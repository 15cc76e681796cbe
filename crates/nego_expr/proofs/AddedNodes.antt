-- Laws of nodes that are added at the end: older nodes keep what they mean and the outcomes under them.
use Rattle.std.proofs.Common.{◌≡◌, ◌↔◌, ⊎_elim, ℕ, zero, suc, ◌+◌, ◌-◌, ◌<◌, ◌≤◌, List, [], ◌∷◌, ◌++◌, length, slice_get, Some, refl, sym, subst, ap, ◌∙◌, arith, append_assoc, append-nil}
use Rattle.std.proofs.lemmas.Bool.{cases_lt}
use Rattle.std.proofs.lemmas.Option.{none-some, same_Some, slice_get_within, get_or_from_slice_get}
use Rattle.std.proofs.lemmas.List.{length-append}
use Rattle.std.proofs.lemmas.List.Elements.{All-nil, All-cons, All-head, All-tail, All-weaker, All-get_or}
use Rattle.std.specs.List.{All}
use Rattle.nego_base.proofs.ListLaws.{parts_at}
use Rattle.nego_model.specs.Joining.{RelationTest, By}
use Rattle.nego_model.specs.Expression.{PlainNode, Base, Join, Then, Star, children, IsNodeList, NodeMeans, Means, NodeBases, EachBase}
use Rattle.nego_model.proofs.expressions.Nodes.{Means-append, Means-at, EachBase-older, EachBase-newest}
use Rattle.nego_expr.specs.Work.{WorkOutcome, PlainWork, outcome_at, ByWork}
use Rattle.nego_expr.specs.Edits.{nodes_then}
use Rattle.nego_expr.proofs.Alive.{ByWork-found}

-- ---- lists of nodes

-- a node of two lists, one after the other, is one of the first
pub node_before : (nodes more : List PlainNode) (i : ℕ) → i < length nodes → slice_get (nodes ++ more) i ≡ slice_get nodes i
node_before [] more i h = absurd (let no_more : ⊥ = omega (arith, h) in no_more)
node_before (node ∷ nodes) more zero h = refl
node_before (node ∷ nodes) more (suc i) h = node_before nodes more i (omega (arith, h))

-- or of the second
pub node_behind : (nodes more : List PlainNode) (k : ℕ) → slice_get (nodes ++ more) (length nodes + k) ≡ slice_get more k
node_behind [] more k = let e : 0 + k ≡ k = omega arith in ap (slice_get more) e
node_behind (node ∷ nodes) more k =
    let e : suc (length nodes) + k ≡ suc (length nodes + k) = omega arith in
    ap (slice_get (node ∷ nodes ++ more)) e ∙ node_behind nodes more k

-- nodes made of older nodes, added to a list of nodes, are one
pub IsNodeList-append : (nodes more : List PlainNode) → IsNodeList nodes → All (λ node. All (λ child. child < length nodes) (children node)) more → IsNodeList (nodes ++ more)
IsNodeList-append nodes more formed h i node e = ⊎_elim before behind (cases_lt i (length nodes))
  where
    before : i < length nodes → All (λ child. child < i) (children node)
    before l = formed i node (sym (node_before nodes more i l) ∙ e)

    behind : length nodes ≤ i → All (λ child. child < i) (children node)
    behind l =
        let q : length nodes + (i - length nodes) ≡ i = omega (arith, l) in
        let k : slice_get more (i - length nodes) ≡ Some node = sym (node_behind nodes more (i - length nodes)) ∙ (ap (slice_get (nodes ++ more)) q ∙ e) in
        All-weaker (λ child. child < length nodes) (λ child. child < i) (λ child m. omega (arith, m, l)) (children node)
        (subst (λ n. All (λ child. child < length nodes) (children n)) (get_or_from_slice_get more (i - length nodes) node node k)
        (All-get_or (λ n. All (λ child. child < length nodes) (children n)) more (i - length nodes) node (slice_get_within more (i - length nodes) node k) h))

-- ---- the outcomes under a node

-- nodes that are added at the end change no outcomes under others
pub EachBase-append : (P : ℕ → Type 0) (nodes more : List PlainNode) (i : ℕ) → i < length nodes → EachBase P (nodes ++ more) i ↔ EachBase P nodes i
EachBase-append P nodes [] i h = (λ m. subst (λ ns. EachBase P ns i) (append-nil nodes) m, λ m. subst (λ ns. EachBase P ns i) (sym (append-nil nodes)) m)
EachBase-append P nodes (node ∷ more) i h =
    let joined = append_assoc nodes (node ∷ []) more in
    let l = length-append nodes (node ∷ []) in
    let k = EachBase-append P (nodes ++ node ∷ []) more i (omega (arith, h, l)) in
    let o = EachBase-older P nodes node i h in
    (λ m. o.0 (k.0 (subst (λ ns. EachBase P ns i) (sym joined) m)), λ m. subst (λ ns. EachBase P ns i) joined (k.1 (o.1 m)))

-- each outcome under a node has P where each under its children has
pub NodeBases-weaker : (P older newer : ℕ → Type 0) (node : PlainNode) → All (λ child. older child → newer child) (children node) → NodeBases P older node → NodeBases P newer node
NodeBases-weaker P older newer (Base o) h m = m
NodeBases-weaker P older newer (Join x y) h m = (h 0 x (omega arith) m.0, h 1 y (omega arith) m.1)
NodeBases-weaker P older newer (Then x y) h m = (h 0 x (omega arith) m.0, h 1 y (omega arith) m.1)
NodeBases-weaker P older newer (Star x) h m = h 0 x (omega arith) m

-- the outcomes under an added node made of older nodes
pub EachBase-added : (P : ℕ → Type 0) (nodes more : List PlainNode) (k : ℕ) (node : PlainNode) → All (λ child. child < length nodes) (children node) → slice_get more k ≡ Some node →
    NodeBases P (EachBase P nodes) node → EachBase P (nodes ++ more) (length nodes + k)
EachBase-added P nodes more k node old h m = subst (λ ns. EachBase P ns (length nodes + k)) (sym whole) ((EachBase-append P ((nodes ++ front) ++ node ∷ []) parts.1 (length nodes + k) short).1 newest)
  where
    parts : (front : List PlainNode) × (rest : List PlainNode) × (more ≡ front ++ node ∷ rest) × (length front ≡ k)
    parts = parts_at more k node h

    front : List PlainNode
    front = parts.0

    whole : nodes ++ more ≡ ((nodes ++ front) ++ node ∷ []) ++ parts.1
    whole = ap (λ ns. nodes ++ ns) parts.2 ∙ (sym (append_assoc nodes front (node ∷ parts.1)) ∙ sym (append_assoc (nodes ++ front) (node ∷ []) parts.1))

    as_long : length (nodes ++ front) ≡ length nodes + k
    as_long = length-append nodes front ∙ ap (λ n. length nodes + n) parts.3

    short : length nodes + k < length ((nodes ++ front) ++ node ∷ [])
    short = let l = length-append (nodes ++ front) (node ∷ []) in omega (arith, l, as_long)

    newest : EachBase P ((nodes ++ front) ++ node ∷ []) (length nodes + k)
    newest = subst (EachBase P ((nodes ++ front) ++ node ∷ [])) as_long
        ((EachBase-newest P (nodes ++ front) node).1
        (NodeBases-weaker P (EachBase P nodes) (EachBase P (nodes ++ front)) node
        (All-weaker (λ child. child < length nodes) (λ child. EachBase P nodes child → EachBase P (nodes ++ front) child) (λ child l. (EachBase-append P nodes front child l).1) (children node) old) m))

-- ---- what a node means

-- an outcome relates what its node means among nodes to which none or more were added
pub ByWork-within : (test : RelationTest) (work : PlainWork) (nodes more : List PlainNode) (o : ℕ) (x : WorkOutcome) (d e : ℕ) → work.nodes ≡ nodes ++ more → outcome_at work o ≡ Some x → x.node < length nodes →
    ByWork test work o d e ↔ Means (By test) nodes x.node d e
ByWork-within test work nodes more o x d e added found there =
    let b = ByWork-found test work o x d e found in
    let m = Means-append (By test) nodes more x.node d e there in
    (λ h. m.0 (subst (λ ns. Means (By test) ns x.node d e) added (b.0 h)), λ h. b.1 (subst (λ ns. Means (By test) ns x.node d e) (sym added) (m.1 h)))

-- an outcome that is alive as before relates what it did, where nodes were added
pub ByWork-kept : (test : RelationTest) (old new : PlainWork) (more : List PlainNode) (o : ℕ) (x : WorkOutcome) (d e : ℕ) → new.nodes ≡ old.nodes ++ more →
    outcome_at old o ≡ Some x → outcome_at new o ≡ Some x → x.node < length old.nodes → ByWork test old o d e ↔ ByWork test new o d e
ByWork-kept test old new more o x d e added found found' there =
    let b = ByWork-found test old o x d e found in
    let b' = ByWork-within test new old.nodes more o x d e added found' there in
    (λ h. b'.1 (b.0 h), λ h. b.1 (b'.0 h))

-- an outcome with an added node relates what this node is made of
pub ByWork-added : (test : RelationTest) (work : PlainWork) (nodes more : List PlainNode) (o k : ℕ) (x : WorkOutcome) (node : PlainNode) (d e : ℕ) → IsNodeList work.nodes → work.nodes ≡ nodes ++ more →
    outcome_at work o ≡ Some x → x.node ≡ length nodes + k → slice_get more k ≡ Some node → ByWork test work o d e ↔ NodeMeans (By test) (Means (By test) work.nodes) node d e
ByWork-added test work nodes more o k x node d e formed added found place h =
    let b = ByWork-found test work o x d e found in
    let at = Means-at (By test) work.nodes x.node node d e formed (ap (slice_get work.nodes) place ∙ (ap (λ ns. slice_get ns (length nodes + k)) added ∙ (node_behind nodes more k ∙ h))) in
    (λ q. at.0 (b.0 q), λ q. b.1 (at.1 q))

-- ---- a node for each outcome: one node, then the outcome's

pub length-nodes_then : (x : ℕ) (outcomes : List WorkOutcome) → length (nodes_then x outcomes) ≡ length outcomes
length-nodes_then x [] = refl
length-nodes_then x (y ∷ ys) = ap suc (length-nodes_then x ys)

-- the node for the outcome at a place
pub node_then : (x : ℕ) (outcomes : List WorkOutcome) (k : ℕ) (y : WorkOutcome) → slice_get outcomes k ≡ Some y → slice_get (nodes_then x outcomes) k ≡ Some (Then x y.node)
node_then x [] k y h = absurd (none-some y h)
node_then x (z ∷ zs) zero y h = ap (λ w. Some (Then x w.node)) (same_Some z y h)
node_then x (z ∷ zs) (suc k) y h = node_then x zs k y h

-- these nodes are made of older ones, where the outcomes' nodes and the one are older
pub nodes_then-older : (x count : ℕ) (outcomes : List WorkOutcome) → x < count → All (λ outcome. outcome.node < count) outcomes → All (λ node. All (λ child. child < count) (children node)) (nodes_then x outcomes)
nodes_then-older x count [] l h = All-nil (λ node. All (λ child. child < count) (children node))
nodes_then-older x count (y ∷ ys) l h =
    All-cons (λ node. All (λ child. child < count) (children node)) (Then x y.node) (nodes_then x ys)
    (All-cons (λ child. child < count) x (y.node ∷ []) l (All-cons (λ child. child < count) y.node [] (All-head (λ outcome. outcome.node < count) y ys h) (All-nil (λ child. child < count))))
    (nodes_then-older x count ys l (All-tail (λ outcome. outcome.node < count) y ys h))
