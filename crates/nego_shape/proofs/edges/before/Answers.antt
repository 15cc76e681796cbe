use Rattle.std.proofs.Common.{◌+◌, sym, subst, arith}
use Rattle.nego_shape.proofs.EdgeSteps.{FoundSoFar, none_found, found_more, found_nothing, all_found}
use Rattle.nego_shape.proofs.edges.before.Goals as goal
use Rattle.nego_shape.proofs.edges.before.Goals.{then-leads, else-leads}

pub loop-o-init : goal.loop-o-init
loop-o-init c = subst (λ xs. FoundSoFar c.args.d.now c.args.n.0 xs 0) (sym c.none-found.ensures.value) (none_found c.args.d.now c.args.n.0)

pub loop-o-preserved : goal.loop-o-preserved
loop-o-preserved c =
    let d = c.args.d.now in
    let n = c.args.n.0 in
    let o = c.loop-o.o in
    elim c.if-leads.branch [
      | then-leads w ↦
          subst (λ xs. FoundSoFar d n xs (o + 1)) (sym w.found-is)
          (subst (λ xs. FoundSoFar d n xs (o + 1)) (sym w.with-found.ensures.value)
          (found_more d n c.loop-o.found o w.atom_of.result.0 w.atom_of.ensures.outcome (c.leads.ensures.some w.if-leads.true) c.loop-o.invariant))
      | else-leads w ↦
          subst (λ xs. FoundSoFar d n xs (o + 1)) (sym w.found-is) (found_nothing d n c.loop-o.found o (c.leads.ensures.none w.if-leads.false) c.loop-o.invariant)
    ]

pub returns : goal.returns
returns c =
    all_found c.args.d.now c.args.n.0 c.loop-o.found c.loop-o.o c.outcomes-o-end.ensures.diagram (omega (arith, c.outcomes-o-end.ensures.value, c.loop-o-test.false)) c.loop-o.invariant
