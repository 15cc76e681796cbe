use Rattle.std.proofs.Common.{◌≡◌, ◌<◌, ◌≤◌, ◌+◌, ◌-◌, ◌∷◌, [], ℕ, Some, length, option_map, sym, subst, ap, ap₂, ◌∙◌, arith}
use Rattle.std.proofs.lemmas.List.Elements.{All-nil, All-cons}
use Rattle.std.proofs.lemmas.Option.{same_Some}
use Rattle.nego_expr.specs.Work.{WorkOutcome, PlainWork, outcome_at, outcomes_at}
use Rattle.nego_expr.specs.Edits.{with_outcome}
use Rattle.nego_expr.specs.WorkView.{plain_outcome}
use Rattle.nego_expr.proofs.DroppedAtoms.{next_alive}
use Rattle.nego_expr.proofs.EditCalls.{alive_found}
use Rattle.nego_expr.proofs.ThenEach.{IsUpTo, then_one, up_to_start, up_to_end, next_room, next_number, own_done}
use Rattle.nego_expr.proofs.WorkEdits.{All-found, with_node}
use Rattle.nego_expr.proofs.work.Work.then_each.Goals as goal
use Rattle.nego_expr.proofs.work.Work.then_each.Goals.{After-add_node-node}

module _ (c : After-add_node-node) where
  abbrev from : PlainWork
  from = c.args.self.now.plain

  abbrev room : ℕ
  room = c.args.self.now.spare_nodes - length (outcomes_at from c.args.n.0)

  abbrev to : PlainWork
  to = c.loop-y.self.plain

  abbrev y : WorkOutcome
  y = plain_outcome c.in-Some.y.now

  -- it is alive
  alive : outcome_at to y.number ≡ Some y
  alive = next_alive c.args.n.0 c.loop-y.from.0 to c.next_of.ensures.alive.rising y (sym c.in-Some.ensures.value)

  number : c.loop-y.from.0 ≤ y.number
  number = next_number from c.args.x.0 c.args.n.0 room c.loop-y.from.0 to c.next_of.ensures.alive.rising c.loop-y.self.spare_nodes c.loop-y.invariant.up_to y (sym c.in-Some.ensures.value)

  done : IsUpTo from c.args.x.0 c.args.n.0 room (y.number + 1) (then_one c.args.x.0 y to) (c.loop-y.self.spare_nodes - 1)
  done = own_done from c.args.x.0 c.args.n.0 room c.loop-y.from.0 to c.next_of.ensures.alive.rising c.loop-y.self.spare_nodes c.loop-y.invariant.up_to y (sym c.in-Some.ensures.value)

pub loop-y-init : goal.loop-y-init
loop-y-init c = record {
  up_to = up_to_start c.args.self.now.plain c.args.x.0 c.args.n.0 c.args.self.now.spare_nodes c.requires.spare c.requires.there;
  kept = omega arith;
}

pub add_node-node-requires-clause-spare : goal.add_node-node-requires-clause-spare
add_node-node-requires-clause-spare c =
    let from = c.args.self.now.plain in
    next_room from c.args.x.0 c.args.n.0 (c.args.self.now.spare_nodes - length (outcomes_at from c.args.n.0)) c.loop-y.from.0 c.loop-y.self.plain c.next_of.ensures.alive.rising c.loop-y.self.spare_nodes c.loop-y.invariant.up_to (plain_outcome c.in-Some.y.now) (sym c.in-Some.ensures.value)

pub add_node-node-requires-clause-children : goal.add_node-node-requires-clause-children
add_node-node-requires-clause-children c =
    let to = c.loop-y.self.plain in
    let y = plain_outcome c.in-Some.y.now in
    let Older : ℕ → Type 0 = λ child. child < length to.nodes in
    All-cons Older c.args.x.0 (y.node ∷ []) c.loop-y.invariant.up_to.there
    (All-cons Older y.node [] (All-found (λ z. z.node < length to.nodes) to.outcomes y.number y c.next_of.ensures.alive.there (next_alive c.args.n.0 c.loop-y.from.0 to c.next_of.ensures.alive.rising y (sym c.in-Some.ensures.value))) (All-nil Older))

pub set_node-requires-clause-alive : goal.set_node-requires-clause-alive
set_node-requires-clause-alive c =
    let b = (goal.at.set_node-requires-clause-alive c).After-add_node-node in
    alive_found (outcome_at c.add_node-node.new.self.plain (y b).number) (y b) (ap (λ (v : PlainWork). outcome_at v (y b).number) c.add_node-node.ensures.plain ∙ alive b)

pub loop-y-smaller : goal.loop-y-smaller
loop-y-smaller c =
    let b = (goal.at.loop-y-smaller c).After-add_node-node in
    let bound : (y b).number < 4294967295 = c.in-Some.ensures.bound in
    omega (arith, bound, number b)

pub loop-y-preserved : goal.loop-y-preserved
loop-y-preserved c =
    let b = (goal.at.loop-y-preserved c).After-add_node-node in
    let set : ℕ → PlainWork → WorkOutcome → PlainWork = λ i v z. record v { outcomes = with_outcome (with_node i z) v.outcomes } in
    let made : c.set_node.new.self.plain ≡ then_one c.args.x.0 (y b) (to b) =
    same_Some c.set_node.new.self.plain (then_one c.args.x.0 (y b) (to b))
    (c.set_node.ensures.plain
    ∙ (ap (λ (v : PlainWork). option_map (set c.add_node-node.result.0 v) (outcome_at v (y b).number)) c.add_node-node.ensures.plain
    ∙ ap₂ (λ i r. option_map (set i (record (to b) { nodes = (then_one c.args.x.0 (y b) (to b)).nodes })) r) c.add_node-node.ensures.number (alive b))) in
    let h = c.loop-y.invariant in
    record {
      up_to = subst (λ v. IsUpTo (from b) c.args.x.0 c.args.n.0 (room b) ((y b).number + 1) v c.set_node.new.self.spare_nodes) (sym made)
          (subst (IsUpTo (from b) c.args.x.0 c.args.n.0 (room b) ((y b).number + 1) (then_one c.args.x.0 (y b) (to b))) (sym (c.set_node.ensures.nodes ∙ c.add_node-node.ensures.spare)) (done b));
      kept = omega (arith, h.kept, c.add_node-node.ensures.kept, c.set_node.ensures.kept);
    }

pub returns-clause-plain : goal.returns-clause-plain
returns-clause-plain c =
    let from = c.args.self.now.plain in
    (up_to_end from c.args.x.0 c.args.n.0 (c.args.self.now.spare_nodes - length (outcomes_at from c.args.n.0)) c.loop-y.from.0 c.loop-y.self.plain c.next_of.ensures.alive.rising c.loop-y.self.spare_nodes c.loop-y.invariant.up_to (sym c.in_default.ensures.value)).0

pub returns-clause-spare : goal.returns-clause-spare
returns-clause-spare c =
    let from = c.args.self.now.plain in
    let room = (up_to_end from c.args.x.0 c.args.n.0 (c.args.self.now.spare_nodes - length (outcomes_at from c.args.n.0)) c.loop-y.from.0 c.loop-y.self.plain c.next_of.ensures.alive.rising c.loop-y.self.spare_nodes c.loop-y.invariant.up_to (sym c.in_default.ensures.value)).1 in
    omega (arith, room, c.requires.spare)
