use Rattle.std.proofs.Common.{◌∙◌, sym, arith, ⊎_elim}
use Rattle.std.proofs.lemmas.Bool.{cases_lt, true≢false}
use Rattle.nego_model.proofs.diagrams.Negotiations.{atom_from_below, atom-below}
use Rattle.nego_shape.proofs.placing.least_left.Goals as goal

pub returns-then-not-has-clause-some : goal.returns-then-not-has-clause-some
returns-then-not-has-clause-some c = record {
  left = record {
    atom = atom_from_below c.args.d.now c.loop-n.n (omega (arith, c.loop-n-test.true, c.atoms-n-end.ensures.value));
    unplaced = grind (arith, c.has.ensures.value, c.if-not-has.true);
  };
  least = λ m left. ⊎_elim (λ l. absurd (true≢false (sym (c.loop-n.invariant m l) ∙ left.unplaced))) (λ l. l) (cases_lt m c.loop-n.n);
}

pub returns-clause-none : goal.returns-clause-none
returns-clause-none c n left =
    let below = atom-below c.args.d.now n left.atom in
    true≢false (sym (c.loop-n.invariant n (omega (arith, below, c.loop-n-test.false, c.atoms-n-end.ensures.value))) ∙ left.unplaced)
