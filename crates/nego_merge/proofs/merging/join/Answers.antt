use Rattle.std.proofs.Common.{◌≡◌, ℕ, ◌<◌, [], ◌∷◌, length, Some, sym, ap, ◌∙◌}
use Rattle.std.proofs.lemmas.List.Elements.{All-nil, All-cons}
use Rattle.nego_expr.specs.Work.{outcome_at}
use Rattle.nego_expr.specs.WorkView.{plain_outcome}
use Rattle.nego_expr.proofs.EditCalls.{alive_found}
use Rattle.nego_expr.proofs.WorkEdits.{All-found}
use Rattle.nego_merge.proofs.MergeKeeps.{merges_parts}
use Rattle.nego_merge.proofs.MergeEdits.{first_left, merged_by_edits}
use Rattle.nego_merge.proofs.merging.join.Goals as goal
use Rattle.nego_merge.proofs.merging.join.Goals.{After-drop_outcome}

pub add_node-node-requires-clause-children : goal.add_node-node-requires-clause-children
add_node-node-requires-clause-children c =
    let work = c.args.w.now.plain in
    let Older : ℕ → Type 0 = λ child. child < length work.nodes in
    All-cons Older c.args.x.node.0 (c.args.y.node.0 ∷ []) (All-found (λ z. z.node < length work.nodes) work.outcomes c.args.x.number.0 (plain_outcome c.args.x) c.requires.work.nodes_there c.requires.first)
    (All-cons Older c.args.y.node.0 [] (All-found (λ z. z.node < length work.nodes) work.outcomes c.args.y.number.0 (plain_outcome c.args.y) c.requires.work.nodes_there c.requires.second) (All-nil Older))

pub drop_outcome-requires : goal.drop_outcome-requires
drop_outcome-requires c = record { alive = alive_found _ (plain_outcome c.args.y) (ap (λ w. outcome_at w c.args.y.number.0) c.add_node-node.ensures.plain ∙ c.requires.second) }

-- the first is still there
left : (c : After-drop_outcome) → outcome_at c.drop_outcome.new.self.plain c.args.x.number.0 ≡ Some (plain_outcome c.args.x)
left c =
    let two = merges_parts c.args.w.now.plain (plain_outcome c.args.x) (plain_outcome c.args.y) c.requires.first c.requires.second c.requires.merges in
    first_left c.args.w.now.plain (plain_outcome c.args.x) (plain_outcome c.args.y) c.requires.first two.apart c.add_node-node.new.self.plain c.drop_outcome.new.self.plain c.add_node-node.ensures.plain c.drop_outcome.ensures.plain

pub set_outcome-requires-clause-alive : goal.set_outcome-requires-clause-alive
set_outcome-requires-clause-alive c = alive_found _ (plain_outcome c.args.x) (left (goal.at.set_outcome-requires-clause-alive c).After-drop_outcome)

pub set_outcome-requires-clause-fit : goal.set_outcome-requires-clause-fit
set_outcome-requires-clause-fit c =
    let work = c.args.w.now.plain in
    All-found (λ z. length z.targets ≡ work.agents) work.outcomes c.args.x.number.0 (plain_outcome c.args.x) c.requires.work.targets_fit c.requires.first
    ∙ sym (ap (λ w. w.agents) c.drop_outcome.ensures.plain ∙ ap (λ w. w.agents) c.add_node-node.ensures.plain)

pub returns : goal.returns
returns c =
    let work = c.args.w.now.plain in
    let two = merges_parts work (plain_outcome c.args.x) (plain_outcome c.args.y) c.requires.first c.requires.second c.requires.merges in
    merged_by_edits work (plain_outcome c.args.x) (plain_outcome c.args.y) c.requires.first two.apart c.add_node-node.new.self.plain c.drop_outcome.new.self.plain c.add_node-node.ensures.plain c.drop_outcome.ensures.plain
    c.set_outcome.new.self.plain c.add_node-node.result.0 c.union.result c.add_node-node.ensures.number c.union.ensures.value c.set_outcome.ensures.plain
