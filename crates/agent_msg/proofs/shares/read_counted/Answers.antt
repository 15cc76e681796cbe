use Rattle.std.proofs.Common.{◌*◌, ℕ, take, ap, ◌∙◌, arith}
use Rattle.agent_msg.proofs.ReadingLaws.{counted}
use Rattle.agent_msg.proofs.shares.read_counted.Goals as goal

pub returns-then-rest-length-clause-found : goal.returns-then-rest-length-clause-found
returns-then-rest-length-clause-found c = λ shares fit e.
    absurd (let room = (counted c.args.count c.args.rest.now shares fit e).0 in omega (arith, room, c.if-rest-length.true, c.from-length.ensures))

pub returns-clause-found : goal.returns-clause-found
returns-clause-found c = λ shares fit e. c.read_shares.ensures.found shares fit
    (ap (λ (n : ℕ). take (4 * n) c.args.rest.now) c.from-length.ensures ∙ (counted c.args.count c.args.rest.now shares fit e).1)
