use Rattle.std.proofs.Common.{◌≡◌, List, ℕ, [], length, slice_index_or, cond, subst, arith}
use Rattle.nego_base.specs.Members.{is_in}
use Rattle.nego_model.specs.Diagram.{parties_of, nexts_of}
use Rattle.nego_model.proofs.occurrence.MarkingArrays.{moved_kept, rest_kept}
use Rattle.nego_model.proofs.marking.Marking.move_parties.Goals as goal

pub returns-clause-value : goal.returns-clause-value
returns-clause-value c =
    let few = c.agents-a-end.ensures.limits.few_agents in
    moved_kept c.args.d.now c.args.self.now c.loop-a.self (parties_of c.args.d.now c.args.n.0) (nexts_of c.args.d.now c.args.o.0) (omega (arith, few)) (omega (arith, few, c.loop-a.invariant.long)) (λ a below.
    subst (λ (parties : List ℕ). slice_index_or c.loop-a.self.ready a [] ≡ cond (is_in a parties) (nexts_of c.args.d.now c.args.o.0 a) (slice_index_or c.args.self.now.ready a [])) c.parties-parties.ensures.value
    (c.loop-a.invariant.done a (omega (arith, below, c.agents-a-end.ensures.value, c.loop-a-test.false))))

pub returns-clause-rest : goal.returns-clause-rest
returns-clause-rest c =
    rest_kept (length c.args.d.now.agents) c.args.self.now.ready c.loop-a.self.ready (omega (arith, c.loop-a.invariant.long)) (λ a past.
    c.loop-a.invariant.rest a (omega (arith, past, c.loop-a.auto.a-end, c.agents-a-end.ensures.value)))
