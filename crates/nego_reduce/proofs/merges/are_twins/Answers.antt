use Rattle.std.proofs.Common.{◌==◌, sym, ap, ◌∙◌, eqb-true}
use Rattle.std.specs.Ordering.{is_eq}
use Rattle.std.proofs.lemmas.Bool.{eqb-false}
use Rattle.nego_base.proofs.BoolLaws.{not_not}
use Rattle.nego_reduce.proofs.Twins.{tied_targets, untied_targets}
use Rattle.nego_reduce.proofs.merges.are_twins.Goals as goal

pub returns : goal.returns
returns c =
    let s = c.args.s.now in
    let t = c.args.t.now in (
      λ h. record {
        one_atom = eqb-true s.atom.0 t.atom.0 (not_not (s.atom.0 == t.atom.0) (sym c.ne.ensures ∙ c.if-ne.false));
        not_last = λ e. eqb-false s.atom.0 c.last.result.0 (sym c.eq.ensures ∙ c.if-eq.false) (e ∙ sym c.last.ensures);
        alike = tied_targets s.targets t.targets (ap is_eq (sym c.compare.ensures) ∙ (sym c.is_eq.ensures ∙ h));
      },
      λ twins. c.is_eq.ensures ∙ (ap is_eq c.compare.ensures ∙ untied_targets s.targets t.targets twins.alike),
    )
