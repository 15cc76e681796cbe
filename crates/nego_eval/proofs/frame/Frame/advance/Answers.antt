use Rattle.std.proofs.Common.{◌≡◌, Some, slice_get, sym, ◌∙◌, arith, rules}
use Rattle.nego_model.specs.Joining.{By}
use Rattle.nego_model.specs.Expression.{Join, Then, Star}
use Rattle.nego_model.specs.Diagram.{relation_of}
use Rattle.nego_eval.proofs.Made.{base_made}
use Rattle.nego_eval.proofs.frame.Frame.advance.Goals as goal

pub join-requires-clause-one : goal.join-requires-clause-one
join-requires-clause-one c = c.requires.rows.nodes c.args.self.now.pair.node.0 (Join c.in-Some-Join.one.0 c.in-Some-Join.two.0) (search rules) 0 0 (omega arith)

pub join-requires-clause-two : goal.join-requires-clause-two
join-requires-clause-two c = c.requires.rows.nodes c.args.self.now.pair.node.0 (Join c.in-Some-Join.one.0 c.in-Some-Join.two.0) (search rules) 1 0 (omega arith)

pub through-requires-clause-through : goal.through-requires-clause-through
through-requires-clause-through c =
    let node = Then c.in-Some-Then.first.0 c.in-Some-Then.second.0 in
    let here : slice_get c.args.rows.now.nodes.now.nodes c.args.self.now.pair.node.0 ≡ Some node = search rules in
    let below = c.requires.rows.nodes c.args.self.now.pair.node.0 node here in
    record {
      node = here;
      below = below 0 0 (omega arith);
      steps = record { there = c.requires.frame.there; below = below 1 0 (omega arith); going = c.requires.frame.going node here };
    }

pub close-requires-clause-closing : goal.close-requires-clause-closing
close-requires-clause-closing c =
    let node = Star c.in-Some-Star.child.0 in
    let here : slice_get c.args.rows.now.nodes.now.nodes c.args.self.now.pair.node.0 ≡ Some node = search rules in
    record {
      node = here;
      steps = record { there = c.requires.frame.there; below = c.requires.rows.nodes c.args.self.now.pair.node.0 node here 0 0 (omega arith); going = c.requires.frame.going node here };
    }

pub returns-in-Some-Base-clause-row : goal.returns-in-Some-Base-clause-row
returns-in-Some-Base-clause-row c =
    let rows = c.args.rows.now in
    let pair = c.args.self.now.pair in
    base_made (By (relation_of rows.diagram.now)) rows.nodes.now.nodes c.requires.rows.nodes pair.node.0 c.in-Some-Base.o.0 rows.joint pair.start c.base-self.result (search rules)
    (record { exact = λ e. (λ m. sym (c.base-self.ensures.exact e) ∙ m, λ w. c.base-self.ensures.exact e ∙ w); below = c.base-self.ensures.below })
