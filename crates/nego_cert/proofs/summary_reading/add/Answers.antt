use Rattle.std.proofs.Common.{◌≡◌, ℕ, List, [], ◌∷◌, ◌++◌, length, map, Ok, sym, ap, ap₂, subst, ◌∙◌, arith}
use Rattle.std.proofs.lemmas.List.{append-nil, map-append}
use Rattle.nego_model.specs.Summary.{PlainFinal}
use Rattle.nego_model.specs.Expression.{PlainNode}
use Rattle.nego_expr.specs.NodeView.{plain_node}
use Rattle.nego_expr.specs.SummaryText.{plain_final, plain_summary}
use Rattle.nego_cert.specs.declared.summary_row.SummaryKind.{SummaryKind}
use Rattle.nego_cert.specs.SummaryTable.{NodeLine, FinalLine}
use Rattle.nego_cert.specs.SummaryReading.{node_in, final_in, said_by}
use Rattle.nego_cert.proofs.SummarySpelling.{node_below, few_nodes, children_below, said_node, said_final}
use Rattle.nego_cert.proofs.summary_reading.add.Goals as goal

pub reserve-requires : goal.reserve-requires
reserve-requires c =
    let node = plain_node c.in_ok-node-in-Node.node in
    let below = few_nodes c.len.result node (node_below c.len.result c.args.line.now node c.in_ok-node-in-Node.ensures) in
    let size = c.len.ensures.value in
    omega arith

pub push-requires-clause-children : goal.push-requires-clause-children
push-requires-clause-children c =
    let node = plain_node c.in_ok-node-in-Node.node in
    let below = children_below c.len.result node (node_below c.len.result c.args.line.now node c.in_ok-node-in-Node.ensures) in
    rw (c.in_ok-reserve-in-Node.ensures.nodes, ← c.len.ensures.value) below

pub returns-in_ok-reserve-in-Node : goal.returns-in_ok-reserve-in-Node
returns-in_ok-reserve-in-Node c =
    let node = plain_node c.in_ok-node-in-Node.node in
    let old = plain_summary c.args.summary.now in
    let names : List (List ℕ) = map (λ (outcome : PlainFinal). outcome.name) old.finals in
    let read : node_in (length old.nodes) c.args.line.now ≡ Ok node = subst (λ n. node_in n c.args.line.now ≡ Ok node) c.len.ensures.value c.in_ok-node-in-Node.ensures in (
      NodeLine node,
      subst (λ (k : SummaryKind). said_by (length old.nodes) names k c.args.line.now ≡ Ok (NodeLine node)) (sym c.in-Node.is) (said_node (length old.nodes) names c.args.line.now node read),
      ap₂ (λ (ns : List PlainNode) (fs : List PlainFinal). record { nodes = ns; finals = fs }) (c.push.ensures.nodes ∙ ap (λ (ns : List PlainNode). ns ++ node ∷ []) c.in_ok-reserve-in-Node.ensures.nodes) (sym (append-nil old.finals)),
    )

pub returns-in_ok-push-in-Final : goal.returns-in_ok-push-in-Final
returns-in_ok-push-in-Final c =
    let old = plain_summary c.args.summary.now in
    let names : List (List ℕ) = map (λ (outcome : PlainFinal). outcome.name) old.finals in
    let outcome : PlainFinal = record { name = c.in_ok-word-in-Final.word.now.text; node = c.in_ok-word-in-Final.node.0 } in
    let name : c.in_ok-name-in-Final.name ≡ c.in_ok-word-in-Final.word.now.text = c.in_ok-name-in-Final.ensures ∙ c.as_slice-in-Final.ensures in
    let read : final_in (length old.nodes) names c.args.line.now ≡ Ok outcome =
    subst (λ n. final_in n names c.args.line.now ≡ Ok outcome) c.len-in-Final.ensures.value
    (subst (λ fs. final_in c.len-in-Final.result (map (λ (o : PlainFinal). o.name) (map plain_final fs)) c.args.line.now ≡ Ok outcome) c.as_slice.ensures c.in_ok-word-in-Final.ensures) in
    let finals : map plain_final c.push-in-Final.new.self ≡ old.finals ++ outcome ∷ [] =
    ap (map plain_final) c.in_ok-push-in-Final.ensures.ok
    ∙ (map-append plain_final c.args.summary.now.finals (record { name = c.in_ok-name-in-Final.name; node = c.in_ok-word-in-Final.node } ∷ [])
    ∙ ap (λ (t : List ℕ). old.finals ++ record { name = t; node = c.in_ok-word-in-Final.node.0 } ∷ []) name) in (
      FinalLine outcome,
      subst (λ (k : SummaryKind). said_by (length old.nodes) names k c.args.line.now ≡ Ok (FinalLine outcome)) (sym c.in-Final.is) (said_final (length old.nodes) names c.args.line.now outcome read),
      ap₂ (λ (ns : List PlainNode) (fs : List PlainFinal). record { nodes = ns; finals = fs }) (sym (append-nil old.nodes)) finals,
    )
