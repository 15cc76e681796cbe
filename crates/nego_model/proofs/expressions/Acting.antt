-- What expressions read and change: the values of the agents on whom their outcomes act.
use Rattle.std.proofs.Common.{⊎_elim, ℕ, ◌<◌, Bool, true, false, ◌==◌, List, [], ◌∷◌, length, reverse, slice_index, MatchBool, sym, subst, ap, ◌∙◌}
use Rattle.nego_data.specs.Data.{data_count, split}
use Rattle.nego_model.specs.Joining.{Relation}
use Rattle.nego_data.specs.Locality.{AgreeOn, AgreeOff, ActsOn}
use Rattle.nego_model.specs.Expression.{PlainNode, Base, Join, Then, Star, IsPath, NodeMeans, MeansAmong, Means, NodeBases, BasesAmong, EachBase}
use Rattle.nego_base.proofs.Members.{in_or_not}
use Rattle.nego_data.proofs.Acting.{mixed, mixed-below, mixed-agrees_on, mixed-agrees_off, ActsOn-nothing, ActsOn-join, ActsOn-then}
use Rattle.nego_data.proofs.JointData.{same_data}

module _ (sizes agents : List ℕ) where
  module _ (related : ℕ → ℕ → Type 0) (acts : ActsOn sizes agents related) where
    path-stays : (path : List ℕ) (d e : ℕ) → d < data_count sizes → IsPath related d path e → e < data_count sizes
    path-stays [] d e l r = subst (λ x. x < data_count sizes) r l
    path-stays (c ∷ path) d e l r = path-stays path c e (acts.stays d c l r.0) r.1

    path-changes : (path : List ℕ) (d e : ℕ) → d < data_count sizes → IsPath related d path e → AgreeOff sizes agents d e
    path-changes [] d e l r a k other = ap (λ x. slice_index (split sizes x) a) r
    path-changes (c ∷ path) d e l r a k other = acts.changes d c l r.0 a k other ∙ path-changes path c e (acts.stays d c l r.0) r.1 a k other

    path-reads : (path : List ℕ) (d e d' e' : ℕ) → d < data_count sizes → IsPath related d path e → d' < data_count sizes → e' < data_count sizes →
        AgreeOn sizes agents d d' → AgreeOn sizes agents e e' → AgreeOff sizes agents d' e' → (path' : List ℕ) × IsPath related d' path' e'
    path-reads [] d e d' e' l r l' m' on on' off =
        ([], same_data sizes d' e' l' m' (λ a k. ⊎_elim (λ p. sym (on a k p) ∙ (ap (λ x. slice_index (split sizes x) a) r ∙ on' a k p)) (λ p. off a k p) (in_or_not a agents)))
    path-reads (c ∷ path) d e d' e' l r l' m' on on' off =
        let below = acts.stays d c l r.0 in
        let inside = mixed-agrees_on sizes agents c d' below l' in
        let outside = mixed-agrees_off sizes agents c d' below l' in
        let there = mixed-below sizes agents c d' below l' in
        let more = path-reads path c e (mixed sizes agents c d') e' below r.1 there m' inside on' (λ a k other. sym (outside a k other) ∙ off a k other) in
        (mixed sizes agents c d' ∷ more.0, (acts.reads d c d' (mixed sizes agents c d') l r.0 l' there on inside outside, more.1))

    -- a relation again and again
    pub ActsOn-star : ActsOn sizes agents (λ d e. (path : List ℕ) × IsPath related d path e)
    ActsOn-star = record {
      stays = λ d e l r. path-stays r.0 d e l r.1;
      changes = λ d e l r. path-changes r.0 d e l r.1;
      reads = λ d e d' e' l r l' m' on on' off. path-reads r.0 d e d' e' l r.1 l' m' on on' off;
    }

  -- a node acts on the agents on whom its outcomes and the nodes before it act
  NodeMeans-acts : (base older : Relation) (bases : ℕ → Type 0) → ((c : ℕ) → bases c → ActsOn sizes agents (older c)) → (node : PlainNode) → NodeBases (λ o. ActsOn sizes agents (base o)) bases node →
      ActsOn sizes agents (NodeMeans base older node)
  NodeMeans-acts base older bases h (Base o) k = k
  NodeMeans-acts base older bases h (Join x y) k = ActsOn-join sizes agents (older x) (older y) (h x k.0) (h y k.1)
  NodeMeans-acts base older bases h (Then x y) k = ActsOn-then sizes agents (older x) (older y) (h x k.0) (h y k.1)
  NodeMeans-acts base older bases h (Star x) k = ActsOn-star (older x) (h x k)

  choice-acts : (b : Bool) (one two : ℕ → ℕ → Type 0) (P Q : Type 0) → (P → ActsOn sizes agents one) → (Q → ActsOn sizes agents two) → MatchBool b P Q → ActsOn sizes agents (λ d e. MatchBool b (one d e) (two d e))
  choice-acts true one two P Q h k m = h m
  choice-acts false one two P Q h k m = k m

  MeansAmong-acts : (base : Relation) (nodes : List PlainNode) (i : ℕ) → BasesAmong (λ o. ActsOn sizes agents (base o)) nodes i → ActsOn sizes agents (MeansAmong base nodes i)
  MeansAmong-acts base [] i h = ActsOn-nothing sizes agents
  MeansAmong-acts base (node ∷ older) i h =
      choice-acts (i == length older) (NodeMeans base (MeansAmong base older) node) (MeansAmong base older i) (NodeBases (λ o. ActsOn sizes agents (base o)) (BasesAmong (λ o. ActsOn sizes agents (base o)) older) node)
      (BasesAmong (λ o. ActsOn sizes agents (base o)) older i)
      (λ k. NodeMeans-acts base (MeansAmong base older) (BasesAmong (λ o. ActsOn sizes agents (base o)) older) (λ c l. MeansAmong-acts base older c l) node k)
      (λ k. MeansAmong-acts base older i k) h

  -- what a node means acts on the agents on whom each outcome under it acts
  pub Means-acts : (base : Relation) (nodes : List PlainNode) (i : ℕ) → EachBase (λ o. ActsOn sizes agents (base o)) nodes i → ActsOn sizes agents (Means base nodes i)
  Means-acts base nodes i h = MeansAmong-acts base (reverse nodes) i h
