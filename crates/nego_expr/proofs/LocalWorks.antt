-- The outcomes of a work read and change the values of their parties alone.
use Rattle.std.proofs.Common.{◌≡◌, ℕ, ◌<◌, ◌==◌, Bool, true, false, List, [], ◌∷◌, length, reverse, slice_index_or, Some, IsTrue, MatchBool, subst}
use Rattle.std.specs.List.{All}
use Rattle.nego_base.specs.Members.{all_in}
use Rattle.nego_base.proofs.Members.{all_in-member}
use Rattle.nego_data.specs.Locality.{ActsOn}
use Rattle.nego_data.proofs.Acting.{ActsOn-more, ActsOn-same}
use Rattle.nego_model.specs.Joining.{RelationTest, By}
use Rattle.nego_model.specs.Expression.{PlainNode, Base, Join, Then, Star, Means, NodeBases, BasesAmong, EachBase}
use Rattle.nego_model.proofs.expressions.Bases.{EachBase-from_all}
use Rattle.nego_model.proofs.expressions.Nodes.{EachBase-weaker}
use Rattle.nego_model.proofs.expressions.Acting.{Means-acts}
use Rattle.nego_expr.specs.Work.{WorkOutcome, PlainWork, outcome_at, work_parties, ByWork}
use Rattle.nego_expr.specs.Keeps.{WorksAreLocal}
use Rattle.nego_expr.proofs.Alive.{ByWork-found}
use Rattle.nego_expr.proofs.WorkForm.{outcome_found}

module _ (P Q : ℕ → Type 0) where
  node_both : (one two both : ℕ → Type 0) → ((c : ℕ) → one c → two c → both c) → (node : PlainNode) → NodeBases P one node → NodeBases Q two node → NodeBases (λ o. P o × Q o) both node
  node_both one two both h (Base o) p q = (p, q)
  node_both one two both h (Join x y) p q = (h x p.0 q.0, h y p.1 q.1)
  node_both one two both h (Then x y) p q = (h x p.0 q.0, h y p.1 q.1)
  node_both one two both h (Star x) p q = h x p q

  choose_both : (b : Bool) (node : PlainNode) (one two both : ℕ → Type 0) (i : ℕ) → ((c : ℕ) → one c → two c → both c) →
      MatchBool b (NodeBases P one node) (one i) → MatchBool b (NodeBases Q two node) (two i) → MatchBool b (NodeBases (λ o. P o × Q o) both node) (both i)
  choose_both true node one two both i h p q = node_both one two both h node p q
  choose_both false node one two both i h p q = h i p q

  among_both : (nodes : List PlainNode) (i : ℕ) → BasesAmong P nodes i → BasesAmong Q nodes i → BasesAmong (λ o. P o × Q o) nodes i
  among_both [] i p q = tt
  among_both (node ∷ older) i p q =
      choose_both (i == length older) node (BasesAmong P older) (BasesAmong Q older) (BasesAmong (λ o. P o × Q o) older) i (λ c r s. among_both older c r s) p q

  -- each outcome under a node has both, where each has the one and each has the other
  pub EachBase-both : (nodes : List PlainNode) (i : ℕ) → EachBase P nodes i → EachBase Q nodes i → EachBase (λ o. P o × Q o) nodes i
  EachBase-both nodes i p q = among_both (reverse nodes) i p q

module _ (work : PlainWork) (sizes : List ℕ) (test : RelationTest) (acts : (o : ℕ) → o < length work.bases → ActsOn sizes (slice_index_or work.bases o []) (By test o)) where
  -- what an outcome's node means acts on the parties of its atom
  meaning_acts : (x : WorkOutcome) → EachBase (λ o. o < length work.bases) work.nodes x.node → EachBase (λ o. IsTrue (all_in (slice_index_or work.bases o []) (work_parties work x.atom))) work.nodes x.node →
      ActsOn sizes (work_parties work x.atom) (Means (By test) work.nodes x.node)
  meaning_acts x there within =
      Means-acts sizes (work_parties work x.atom) (By test) work.nodes x.node
      (EachBase-weaker (λ o. (o < length work.bases) × IsTrue (all_in (slice_index_or work.bases o []) (work_parties work x.atom))) (λ o. ActsOn sizes (work_parties work x.atom) (By test o)) base_acts work.nodes x.node
      (EachBase-both (λ o. o < length work.bases) (λ o. IsTrue (all_in (slice_index_or work.bases o []) (work_parties work x.atom))) work.nodes x.node there within))
    where
      base_acts : (o : ℕ) → (o < length work.bases) × IsTrue (all_in (slice_index_or work.bases o []) (work_parties work x.atom)) → ActsOn sizes (work_parties work x.atom) (By test o)
      base_acts o h =
          ActsOn-more sizes (slice_index_or work.bases o []) (work_parties work x.atom) (By test o) (λ a m. all_in-member a (slice_index_or work.bases o []) (work_parties work x.atom) h.1 m) (acts o h.0)

-- The outcomes of a work act on their parties alone, where the outcomes that were read do so.
pub works_local : WorksAreLocal
works_local work sizes test ok acts n o outcome =
    subst (λ m. ActsOn sizes (work_parties work m) (ByWork test work o)) found.2
    (ActsOn-same sizes (work_parties work found.0.atom) (Means (By test) work.nodes found.0.node) (ByWork test work o)
    (λ d e. let k = ByWork-found test work o found.0 d e found.1 in (k.1, k.0))
    (meaning_acts work sizes test acts found.0 found.3.0 found.3.1))
  where
    There : WorkOutcome → Type 0
    There x = EachBase (λ p. p < length work.bases) work.nodes x.node

    Within : WorkOutcome → Type 0
    Within x = EachBase (λ p. IsTrue (all_in (slice_index_or work.bases p []) (work_parties work x.atom))) work.nodes x.node

    each : All (λ x. There x × Within x) work.outcomes
    each k d l = (EachBase-from_all (λ p. p < length work.bases) work.nodes (slice_index_or work.outcomes k d).node ok.bases_read, ok.bases_within k d l)

    found : (x : WorkOutcome) × (outcome_at work o ≡ Some x) × (x.atom ≡ n) × (There x × Within x)
    found = outcome_found work ok.numbers_rise (λ x. There x × Within x) n o each outcome.1
