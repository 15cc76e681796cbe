use Rattle.std.proofs.Common.{◌≡◌, ◌<◌, false, [], length, sym, subst, ◌∙◌, arith, IsTrue}
use Rattle.std.proofs.lemmas.Option.{slice_get_read, get_or_from_slice_get}
use Rattle.nego_base.specs.Members.{is_in}
use Rattle.nego_model.proofs.occurrence.MarkingArrays.{all_ready_kept, not_ready_kept}
use Rattle.nego_model.proofs.marking.Marking.are_ready.Goals as goal

pub returns-then-not-has : goal.returns-then-not-has
returns-then-not-has c =
    let few = c.agents-a-end.ensures.limits.few_agents in
    let below : c.loop-a.a < length c.args.d.now.agents = omega (arith, c.agents-a-end.ensures.value, c.loop-a-test.true) in
    let at = slice_get_read c.args.self.now.ready 16 c.loop-a.a c.index-self-a.result (omega arith) (omega (arith, below, few)) c.index-self-a.is in
    let here = sym c.index-self-a.is ∙ sym (get_or_from_slice_get c.args.self.now.ready c.loop-a.a c.index-self-a.result [] at) in
    sym (not_ready_kept c.args.d.now c.args.self.now c.args.n.0 c.loop-a.a below (subst (λ xs. IsTrue (is_in c.loop-a.a xs)) c.parties-parties.ensures.value (sym c.has.ensures.value ∙ c.if-has.true))
    (subst (λ xs. is_in c.args.n.0 xs ≡ false) here (sym c.has-then-has.ensures.value ∙ c.if-not-has.true)))

pub returns : goal.returns
returns c =
    sym (all_ready_kept c.args.d.now c.args.self.now c.args.n.0 c.agents-a-end.ensures.diagram c.requires (λ b below party.
    c.loop-a.invariant b (omega (arith, below, c.agents-a-end.ensures.value, c.loop-a-test.false)) (subst (λ xs. IsTrue (is_in b xs)) (sym c.parties-parties.ensures.value) party)))
