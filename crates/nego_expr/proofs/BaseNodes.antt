-- Laws of a list of nodes of which each is the outcome of its number.
use Rattle.std.specs.Prelude.{⊤}
use Rattle.std.proofs.Common.{◌≡◌, ◌↔◌, ⊎_elim, ℕ, zero, suc, ◌<◌, List, [], ◌∷◌, ◌++◌, length, map, slice_get, Some, sym, subst, ap, ◌∙◌, arith, add-one}
use Rattle.std.proofs.lemmas.Bool.{cases_eq}
use Rattle.std.proofs.lemmas.Option.{slice_get_within, slice_get-get_or, get_or_from_slice_get}
use Rattle.std.proofs.lemmas.List.FromFn.{length-map-range_with_len, get_or-map-range_with_len, map-range_with_len_more}
use Rattle.std.proofs.lemmas.List.Elements.{All-nil}
use Rattle.std.specs.List.{All, range_with_len}
use Rattle.nego_model.specs.Joining.{Relation}
use Rattle.nego_model.specs.Expression.{PlainNode, Base, children, IsNodeList, Means, NodeBases, EachBase, AllBases}
use Rattle.nego_model.proofs.expressions.Nodes.{Means-at, EachBase-older, EachBase-newest}

-- the outcomes below a count, each as a node
abbrev pub base_nodes : ℕ → List PlainNode
base_nodes count = map Base (range_with_len 0 count)

-- there are as many nodes as outcomes
pub length-base_nodes : (count : ℕ) → length (base_nodes count) ≡ count
length-base_nodes count = length-map-range_with_len Base 0 count

-- the node at a place
pub base_nodes-at : (count o : ℕ) → o < count → slice_get (base_nodes count) o ≡ Some (Base o)
base_nodes-at count o h =
    slice_get-get_or (base_nodes count) o (Base 0) (subst (λ n. o < n) (sym (length-base_nodes count)) h)
    ∙ ap (λ node. Some node) (get_or-map-range_with_len Base 0 count o o (Base 0) h (omega arith))

-- they are a list of nodes
pub base_nodes-formed : (count : ℕ) → IsNodeList (base_nodes count)
base_nodes-formed count i node h =
    subst (λ n. All (λ child. child < i) (children n)) is (All-nil (λ child. child < i))
  where
    below : i < count
    below = subst (λ n. i < n) (length-base_nodes count) (slice_get_within (base_nodes count) i node h)

    is : Base i ≡ node
    is = sym (get_or-map-range_with_len Base 0 count i i (Base 0) below (omega arith)) ∙ get_or_from_slice_get (base_nodes count) i node (Base 0) h

-- each means its outcome
pub Means-base_nodes : (base : Relation) (count o d e : ℕ) → o < count → Means base (base_nodes count) o d e ↔ base o d e
Means-base_nodes base count o d e h = Means-at base (base_nodes count) o (Base o) d e (base_nodes-formed count) (base_nodes-at count o h)

-- the one outcome under each is its outcome
pub EachBase-base_nodes : (P : ℕ → Type 0) (count o : ℕ) → o < count → P o → EachBase P (base_nodes count) o
EachBase-base_nodes P zero o h p = absurd (let no_more : ⊥ = omega (arith, h) in no_more)
EachBase-base_nodes P (suc count) o h p =
    subst (λ nodes. EachBase P nodes o) (sym whole)
    (⊎_elim newest (λ other. let l : o < count = omega (arith, h, other) in older l (EachBase-base_nodes P count o l p)) (cases_eq o count))
  where
    whole : base_nodes (suc count) ≡ base_nodes count ++ Base count ∷ []
    whole = ap base_nodes (sym (add-one count)) ∙ map-range_with_len_more Base 0 count count (omega arith)

    newest : o ≡ count → EachBase P (base_nodes count ++ Base count ∷ []) o
    newest e = subst (EachBase P (base_nodes count ++ Base count ∷ [])) (length-base_nodes count ∙ sym e) ((EachBase-newest P (base_nodes count) (Base count)).1 (subst P e p))

    older : o < count → EachBase P (base_nodes count) o → EachBase P (base_nodes count ++ Base count ∷ []) o
    older l m = (EachBase-older P (base_nodes count) (Base count) o (subst (λ n. o < n) (sym (length-base_nodes count)) l)).1 m

-- the outcomes among them are those below the count
pub AllBases-base_nodes : (P : ℕ → Type 0) (count : ℕ) → ((o : ℕ) → o < count → P o) → AllBases P (base_nodes count)
AllBases-base_nodes P count h i node l =
    let below : i < count = subst (λ n. i < n) (length-base_nodes count) l in
    subst (NodeBases P (λ j. ⊤)) (sym (get_or-map-range_with_len Base 0 count i i node below (omega arith))) (h i below)
