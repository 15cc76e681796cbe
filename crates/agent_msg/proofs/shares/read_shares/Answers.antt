use Rattle.std.proofs.Common.{List, ap, Some}
use Rattle.std.proofs.lemmas.List.{take_rest}
use Rattle.agent_msg.specs.Records.{Share}
use Rattle.agent_msg.proofs.ReadingLaws.{reading-goes_on, reading-stops, reading-ends}
use Rattle.agent_msg.proofs.shares.read_shares.Goals as goal

pub returns-then-agent-ge16-clause-found : goal.returns-then-agent-ge16-clause-found
returns-then-agent-ge16-clause-found c = λ shares fit e.
    absurd (reading-stops c.args.bytes.now c.loop-rest.rest.now c.loop-rest.shares c.loop-rest.invariant c.in-len4-up.len_at_least c.if-agent-ge16.true shares fit e)

pub loop-rest-preserved : goal.loop-rest-preserved
loop-rest-preserved c =
    rw (c.add.ensures, take_rest c.loop-rest.rest.now 4)
    (reading-goes_on c.args.bytes.now c.loop-rest.rest.now c.loop-rest.shares c.from.result c.number-visit.result c.from-in-len4-up.result c.loop-rest.invariant c.in-len4-up.len_at_least
    c.from.ensures c.number-visit.ensures c.from-in-len4-up.ensures)

pub returns-clause-found : goal.returns-clause-found
returns-clause-found c = λ shares fit e.
    ap (λ (l : List Share). Some l) (reading-ends c.args.bytes.now c.loop-rest.rest.now c.loop-rest.shares c.loop-rest.invariant c.in_default.len_below shares fit e)
