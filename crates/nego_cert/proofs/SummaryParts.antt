-- The nodes and the final outcomes of a summary that can be printed, one after the other, as the lines of a text say them.
use Rattle.std.proofs.Common.{◌≡◌, ◌≢◌, ℕ, zero, suc, ◌+◌, ◌<◌, ◌≤◌, true, List, [], ◌∷◌, ◌++◌, length, map, get_or, Some, slice_get, IsTrue, All, refl, subst, arith}
use Rattle.std.specs.Prelude.{⊤}
use Rattle.std.specs.List.{AllPairs, Contains}
use Rattle.std.proofs.lemmas.List.Elements.{All-nil, All-cons, All-head, All-tail, All-push, All-contains, Contains-push}
use Rattle.std.proofs.lemmas.Option.{none-some, same_Some}
use Rattle.nego_base.specs.declared.line.Line.{Line}
use Rattle.nego_base.specs.LineGrammar.{Say}
use Rattle.nego_base.specs.Name.{is_name}
use Rattle.nego_base.specs.Scan.{scanned}
use Rattle.nego_base.proofs.LineFaults.{named_again}
use Rattle.nego_base.proofs.ListLaws.{All-front}
use Rattle.nego_base.proofs.PairLaws.{AllPairs-nil, AllPairs-cons, AllPairs-head, AllPairs-tail}
use Rattle.nego_model.specs.Expression.{PlainNode, Base, Join, Then, Star, children, NodeBases}
use Rattle.nego_model.specs.Summary.{PlainFinal}
use Rattle.nego_expr.specs.Use.{most_nodes}
use Rattle.nego_cert.specs.declared.summary_row.SummaryKind.TheVariants as kinds
use Rattle.nego_cert.specs.SummaryLines.{keyword}
use Rattle.nego_cert.specs.SummaryTable.{NodeLine, FinalLine, EndLine, Known, IsNodeAt, behind, lines_of, summary_lines}
use Rattle.nego_cert.specs.SummaryReading.{known_of, nothing_yet}
use Rattle.nego_cert.specs.SummaryLaws.{IsPrintableSummary, SpelledSummariesArePrintable}
use Rattle.nego_cert.proofs.PrintedLines.{Short}
use Rattle.nego_cert.proofs.SummaryRows.{same_kind}
use Rattle.nego_cert.proofs.SummarySpelling.{few_nodes, children_below}

-- ---- nodes

-- the nodes may stand from a number on
abbrev pub AreNodesFrom : ℕ → List PlainNode → Type 0
AreNodesFrom i [] = Unit {0}
AreNodesFrom i (node ∷ nodes) = IsNodeAt i node × AreNodesFrom (i + 1) nodes

abbrev HasShortBase : PlainNode → Type 0
HasShortBase node = NodeBases Short (λ i. ⊤) node

node_at : (i : ℕ) (node : PlainNode) → i < most_nodes → All (λ child. child < i) (children node) → HasShortBase node → IsNodeAt i node
node_at i (Base o) few below base = (few, base)
node_at i (Join x y) few below base = (few, All-head (λ child. child < i) x (y ∷ []) below, All-head (λ child. child < i) y [] (All-tail (λ child. child < i) x (y ∷ []) below))
node_at i (Then x y) few below base = (few, All-head (λ child. child < i) x (y ∷ []) below, All-head (λ child. child < i) y [] (All-tail (λ child. child < i) x (y ∷ []) below))
node_at i (Star x) few below base = (few, All-head (λ child. child < i) x [] below)

base_at : (i : ℕ) (node : PlainNode) → IsNodeAt i node → HasShortBase node
base_at i (Base o) is = is.1
base_at i (Join x y) is = (tt, tt)
base_at i (Then x y) is = (tt, tt)
base_at i (Star x) is = tt

-- the nodes are made of nodes before them, where the first has a number
abbrev AreBelow : ℕ → List PlainNode → Type 0
AreBelow i nodes = (j : ℕ) (node : PlainNode) → slice_get nodes j ≡ Some node → All (λ child. child < i + j) (children node)

pub nodes_from : (i : ℕ) (nodes : List PlainNode) → i + length nodes ≤ most_nodes → AreBelow i nodes → All HasShortBase nodes → AreNodesFrom i nodes
nodes_from i [] few below bases = tt
nodes_from i (node ∷ nodes) few below bases = (
  node_at i node (omega arith) (subst (λ k. All (λ child. child < k) (children node)) (let e : i + 0 ≡ i = omega arith in e) (below 0 node refl)) (All-head HasShortBase node nodes bases),
  nodes_from (i + 1) nodes (omega arith) (λ j n at. subst (λ k. All (λ child. child < k) (children n)) (let e : i + suc j ≡ i + 1 + j = omega arith in e) (below (suc j) n at)) (All-tail HasShortBase node nodes bases),
)

few_from : (i : ℕ) (nodes : List PlainNode) → i ≤ most_nodes → AreNodesFrom i nodes → i + length nodes ≤ most_nodes
few_from i [] few h = omega arith
few_from i (node ∷ nodes) few h = let more = few_from (i + 1) nodes (let here = few_nodes i node h.0 in omega arith) h.1 in omega arith

below_from : (i : ℕ) (nodes : List PlainNode) → AreNodesFrom i nodes → AreBelow i nodes
below_from i [] h j node at = absurd (none-some node at)
below_from i (first ∷ nodes) h zero node at =
    subst (λ n. All (λ child. child < i + 0) (children n)) (same_Some first node at) (subst (λ k. All (λ child. child < k) (children first)) (let e : i ≡ i + 0 = omega arith in e) (children_below i first h.0))
below_from i (first ∷ nodes) h (suc j) node at = subst (λ k. All (λ child. child < k) (children node)) (let e : i + 1 + j ≡ i + suc j = omega arith in e) (below_from (i + 1) nodes h.1 j node at)

bases_from : (i : ℕ) (nodes : List PlainNode) → AreNodesFrom i nodes → All HasShortBase nodes
bases_from i [] h = All-nil HasShortBase
bases_from i (node ∷ nodes) h = All-cons HasShortBase node nodes (base_at i node h.0) (bases_from (i + 1) nodes h.1)

-- ---- final outcomes

-- the final outcome has a name, which is none of these, and one of so many nodes
abbrev pub IsFinalBehind : ℕ → List (List ℕ) → PlainFinal → Type 0
IsFinalBehind total names outcome = (is_name outcome.name ≡ true) × All (λ name. name ≢ outcome.name) names × (outcome.node < total)

-- the final outcomes may stand behind those of these names, where there are so many nodes
abbrev pub AreFinalsBehind : ℕ → List (List ℕ) → List PlainFinal → Type 0
AreFinalsBehind total names [] = Unit {0}
AreFinalsBehind total names (outcome ∷ finals) = IsFinalBehind total names outcome × AreFinalsBehind total (names ++ outcome.name ∷ []) finals

abbrev HasName : PlainFinal → Type 0
HasName outcome = IsTrue (is_name outcome.name)

abbrev Differ : PlainFinal → PlainFinal → Type 0
Differ x y = x.name ≢ y.name

-- no name of a final outcome is one of these
abbrev AreNew : List (List ℕ) → List PlainFinal → Type 0
AreNew names finals = All (λ outcome. All (λ name. name ≢ outcome.name) names) finals

module _ (total : ℕ) where
  abbrev IsThere : PlainFinal → Type 0
  IsThere outcome = outcome.node < total

  pub finals_behind : (names : List (List ℕ)) (finals : List PlainFinal) → All HasName finals → AllPairs Differ finals → All IsThere finals → AreNew names finals → AreFinalsBehind total names finals
  finals_behind names [] named differ there new = tt
  finals_behind names (outcome ∷ finals) named differ there new =
      let others = All-tail (λ o. All (λ name. name ≢ o.name) names) outcome finals new in
      let apart = AllPairs-head Differ outcome finals differ in (
        (All-head HasName outcome finals named, All-head (λ o. All (λ name. name ≢ o.name) names) outcome finals new, All-head IsThere outcome finals there),
        finals_behind (names ++ outcome.name ∷ []) finals (All-tail HasName outcome finals named) (AllPairs-tail Differ outcome finals differ) (All-tail IsThere outcome finals there)
            (λ k d within. All-push (λ name. name ≢ (get_or finals k d).name) names outcome.name (others k d within) (apart k d within)),
      )

  named_behind : (names : List (List ℕ)) (finals : List PlainFinal) → AreFinalsBehind total names finals → All HasName finals
  named_behind names [] h = All-nil HasName
  named_behind names (outcome ∷ finals) h = All-cons HasName outcome finals h.0.0 (named_behind (names ++ outcome.name ∷ []) finals h.1)

  there_behind : (names : List (List ℕ)) (finals : List PlainFinal) → AreFinalsBehind total names finals → All IsThere finals
  there_behind names [] h = All-nil IsThere
  there_behind names (outcome ∷ finals) h = All-cons IsThere outcome finals h.0.2 (there_behind (names ++ outcome.name ∷ []) finals h.1)

  new_behind : (names : List (List ℕ)) (finals : List PlainFinal) → AreFinalsBehind total names finals → AreNew names finals
  new_behind names [] h = All-nil (λ o. All (λ name. name ≢ o.name) names)
  new_behind names (outcome ∷ finals) h =
      let later = new_behind (names ++ outcome.name ∷ []) finals h.1 in
      All-cons (λ o. All (λ name. name ≢ o.name) names) outcome finals h.0.1 (λ k d within. All-front (λ name. name ≢ (get_or finals k d).name) names (outcome.name ∷ []) (later k d within))

  differ_behind : (names : List (List ℕ)) (finals : List PlainFinal) → AreFinalsBehind total names finals → AllPairs Differ finals
  differ_behind names [] h = AllPairs-nil Differ
  differ_behind names (outcome ∷ finals) h =
      let new = new_behind (names ++ outcome.name ∷ []) finals h.1 in
      AllPairs-cons Differ outcome finals
      (λ k d within. All-contains (λ name. name ≢ (get_or finals k d).name) (names ++ outcome.name ∷ []) outcome.name (new k d within) (Contains-push names outcome.name))
      (differ_behind (names ++ outcome.name ∷ []) finals h.1)

-- ---- what lines say

finals_said : (known : Known) (total : ℕ) (lines : List Line) (finals : List PlainFinal) → known.nodes ≡ total → Say summary_lines known lines (map FinalLine finals ++ EndLine ∷ []) → AreFinalsBehind total known.names finals
finals_said known total lines [] same h = tt
finals_said known total [] (outcome ∷ finals) same h = absurd h
finals_said known total (line ∷ lines) (outcome ∷ finals) same h =
    ((h.1.1, h.1.2, subst (λ n. outcome.node < n) same h.1.3), finals_said (behind known (FinalLine outcome)) total lines finals (let e : known.nodes + 0 ≡ total = omega (arith, same) in e) h.2)

-- What lines of nodes and final outcomes say, where the nodes begin with a number.
record SaidFrom (i : ℕ) (nodes : List PlainNode) (finals : List PlainFinal) : Type 0 where
  are_nodes : AreNodesFrom i nodes
  some : 0 < length finals
  are_finals : AreFinalsBehind (i + length nodes) [] finals

abbrev at_nodes : ℕ → Known
at_nodes i = record { may = kinds.Node ∷ kinds.Final ∷ []; nodes = i; names = [] }

no_early_end : Contains (kinds.Node ∷ kinds.Final ∷ []) kinds.End → ⊥
no_early_end h = none-some kinds.End (named_again keyword (keyword kinds.End) same_kind (kinds.Node ∷ kinds.Final ∷ []) kinds.End h refl)

said_from : (i : ℕ) (lines : List Line) (nodes : List PlainNode) (finals : List PlainFinal) → Say summary_lines (at_nodes i) lines (map NodeLine nodes ++ (map FinalLine finals ++ EndLine ∷ [])) → SaidFrom i nodes finals
said_from i [] [] [] h = absurd h
said_from i (line ∷ lines) [] [] h = absurd (no_early_end h.0)
said_from i lines [] (outcome ∷ finals) h = record { are_nodes = tt; some = omega arith; are_finals = finals_said (at_nodes i) (i + 0) lines (outcome ∷ finals) (let e : i ≡ i + 0 = omega arith in e) h }
said_from i [] (node ∷ nodes) finals h = absurd h
said_from i (line ∷ lines) (node ∷ nodes) finals h =
    let later = said_from (i + 1) lines nodes finals h.2 in
    record {
      are_nodes = (h.1.1, later.are_nodes);
      some = later.some;
      are_finals = subst (λ n. AreFinalsBehind n [] finals) (let e : i + 1 + length nodes ≡ i + length (node ∷ nodes) = omega arith in e) later.are_finals;
    }

-- what texts spell can be printed
pub spelled_printable : SpelledSummariesArePrintable
spelled_printable bytes summary h = by_lines (scanned bytes) h.say
  where
    said : SaidFrom 0 summary.nodes summary.finals → IsPrintableSummary summary
    said s =
        let all : AreFinalsBehind (length summary.nodes) [] summary.finals = subst (λ n. AreFinalsBehind n [] summary.finals) (let e : 0 + length summary.nodes ≡ length summary.nodes = omega arith in e) s.are_finals in
        record {
          few = (let f = few_from 0 summary.nodes (omega arith) s.are_nodes in omega arith);
          below = λ j node at. subst (λ k. All (λ child. child < k) (children node)) (let e : 0 + j ≡ j = omega arith in e) (below_from 0 summary.nodes s.are_nodes j node at);
          bases = bases_from 0 summary.nodes s.are_nodes;
          some = s.some;
          names = named_behind (length summary.nodes) [] summary.finals all;
          differ = differ_behind (length summary.nodes) [] summary.finals all;
          there = there_behind (length summary.nodes) [] summary.finals all;
        }

    by_lines : (lines : List Line) → Say summary_lines (known_of (kinds.Header ∷ []) nothing_yet) lines (lines_of summary) → IsPrintableSummary summary
    by_lines [] said_lines = absurd said_lines
    by_lines (line ∷ lines) said_lines = said (said_from 0 lines summary.nodes summary.finals said_lines.2)
