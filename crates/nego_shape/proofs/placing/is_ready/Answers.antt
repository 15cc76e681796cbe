use Rattle.std.proofs.Common.{◌∙◌, sym}
use Rattle.std.proofs.lemmas.Bool.{true≢false}
use Rattle.nego_base.proofs.Members.{all_in-member, all_in-members}
use Rattle.nego_model.proofs.diagrams.Negotiations.{atom_from_below}
use Rattle.nego_shape.proofs.placing.is_ready.Goals as goal

pub returns-clause-yes : goal.returns-clause-yes
returns-clause-yes c all = record {
  left = record {
    atom = atom_from_below c.args.d.now c.args.n.0 c.requires;
    unplaced = sym c.has.ensures.value ∙ c.if-has.false;
  };
  behind = λ m edge. all_in-member m c.before-2.result c.args.placed (sym c.within.ensures.value ∙ all) ((c.before-2.ensures m).1 edge);
}

pub returns-clause-otherwise : goal.returns-clause-otherwise
returns-clause-otherwise c otherwise ready =
    true≢false (sym (c.within.ensures.value ∙ all_in-members c.before-2.result c.args.placed (λ m h. ready.behind m ((c.before-2.ensures m).0 h))) ∙ otherwise)
