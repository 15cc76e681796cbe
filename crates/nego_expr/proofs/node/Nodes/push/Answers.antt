use Rattle.std.proofs.Common.{◌≡◌, ◌∙◌, ◌∷◌, [], ◌++◌, ◌<◌, ℕ, length, map, ap, sym, subst, arith}
use Rattle.std.specs.List.{All}
use Rattle.std.proofs.lemmas.List.{map-append, length_push}
use Rattle.std.proofs.lemmas.List.Elements.{All-nil, All-cons}
use Rattle.nego_model.specs.Expression.{IsNodeList, children}
use Rattle.nego_expr.specs.NodeView.{plain_node}
use Rattle.nego_expr.proofs.AddedNodes.{IsNodeList-append}
use Rattle.nego_expr.proofs.node.Nodes.push.Goals as goal

pub invariant_of-self : goal.invariant_of-self
invariant_of-self c =
    let old = c.self.inside.items in
    let node = c.args.node in
    let seen = map plain_node old.items in
    let more : map plain_node c.push.new.self.items ≡ seen ++ plain_node node ∷ [] = ap (map plain_node) c.push.ensures.items ∙ map-append plain_node old.items (node ∷ []) in
    let P : ℕ → Type 0 = λ n. All (λ child. child < n) (children (plain_node node)) in
    let older : P (length seen) = subst P (ap (λ n. length n.nodes) (sym c.self.view_is)) c.requires.children in
    (subst IsNodeList (sym more) (IsNodeList-append seen (plain_node node ∷ []) c.self.invariant.0 (All-cons (λ made. All (λ child. child < length seen) (children made)) (plain_node node) [] older (All-nil (λ made. All (λ child. child < length seen) (children made))))), omega (arith, c.self.invariant.1, c.push.ensures.room, ap length c.push.ensures.items, length_push old.items node, c.requires.room, ap (λ n. n.room) c.self.view_is))
