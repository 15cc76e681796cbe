use Rattle.std.proofs.Common.{ℕ, ◌<◌, ◌≤◌, [], length, ap, ◌∙◌, arith}
use Rattle.std.proofs.lemmas.List.Elements.{All-nil, All-cons}
use Rattle.nego_expr.specs.Work.{PlainWork, outcomes_at}
use Rattle.nego_expr.specs.Edits.{without_outcome}
use Rattle.nego_expr.specs.WorkView.{plain_outcome}
use Rattle.nego_expr.proofs.WorkEdits.{All-found}
use Rattle.nego_iterate.proofs.IterateKeeps.{one_fewer}
use Rattle.nego_iterate.proofs.iterating.put_before_others.Goals as goal

pub add_node-star-requires-clause-spare : goal.add_node-star-requires-clause-spare
add_node-star-requires-clause-spare c =
    let count = one_fewer c.args.w.now.plain (plain_outcome c.args.x.now) c.requires.work c.requires.alive in
    let room : length (outcomes_at c.args.w.now.plain c.args.x.now.atom.0) ≤ c.args.w.now.spare_nodes = c.requires.spare in
    omega (arith, count, room)

pub add_node-star-requires-clause-children : goal.add_node-star-requires-clause-children
add_node-star-requires-clause-children c =
    let work = c.args.w.now.plain in
    let Older : ℕ → Type 0 = λ child. child < length work.nodes in
    All-cons Older c.args.x.now.node.0 [] (All-found (λ z. z.node < length work.nodes) work.outcomes c.args.x.now.number.0 (plain_outcome c.args.x.now) c.requires.work.nodes_there c.requires.alive) (All-nil Older)

pub then_each-requires-clause-spare : goal.then_each-requires-clause-spare
then_each-requires-clause-spare c =
    let count = one_fewer c.args.w.now.plain (plain_outcome c.args.x.now) c.requires.work c.requires.alive in
    let room : length (outcomes_at c.args.w.now.plain c.args.x.now.atom.0) ≤ c.args.w.now.spare_nodes = c.requires.spare in
    let drop : PlainWork → PlainWork = λ w. record w { outcomes = without_outcome c.args.x.now.number.0 w.outcomes } in
    let left = ap (λ w. length (outcomes_at w c.args.x.now.atom.0)) (c.drop_outcome.ensures.plain ∙ ap drop c.add_node-star.ensures.plain) in
    omega (arith, count, room, left, c.drop_outcome.ensures.kept.0, c.add_node-star.ensures.spare)
