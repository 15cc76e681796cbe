use Rattle.std.proofs.Common.{◌≡◌, ◌∙◌, ◌+◌, ◌++◌, length, map, take, get_or, ap, sym, subst, refl, arith}
use Rattle.std.proofs.lemmas.List.{length-map, length-take-le}
use Rattle.nego_base.specs.Appending.{Appends}
use Rattle.nego_expr.specs.declared.node.Node.TheVariants.{Base}
use Rattle.nego_expr.specs.NodeView.{plain_node}
use Rattle.nego_expr.specs.SummaryText.{node_line, node_lines}
use Rattle.nego_expr.proofs.Printing.{appends_then, node_lines-more}
use Rattle.nego_expr.proofs.Seen.{map-take_more}
use Rattle.nego_expr.proofs.summary.add_nodes.Goals as goal

pub loop-i-preserved : goal.loop-i-preserved
loop-i-preserved c =
    let old = c.args.text.now in
    let new = c.add_node.new.text in
    let nodes = c.args.nodes.now in
    let i = c.loop-i.i in
    let nothing = Base (record { 0 = 0 }) in
    let node = get_or nodes i nothing in
    let seen = map plain_node (take i nodes) in
    let at : 0 + length seen ≡ i = omega (arith, length-map (take i nodes) plain_node, length-take-le i nodes (omega (arith, c.loop-i-test.true))) in
    let lines : Appends old new (λ rest. node_lines 0 seen (node_line i (plain_node node) rest)) =
    appends_then old c.loop-i.text new (node_lines 0 seen) (node_line i (plain_node node)) c.loop-i.invariant c.in_ok-add_node.ensures in
    subst (λ items. Appends old new (node_lines 0 items)) (sym (map-take_more plain_node nodes i nothing node c.loop-i-test.true refl))
    (λ rest. lines rest ∙ ap (λ k. old ++ node_lines 0 seen (node_line k (plain_node node) rest)) (sym at) ∙ ap (λ words. old ++ words) (sym (node_lines-more 0 seen (plain_node node) rest)))
