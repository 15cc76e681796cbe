use Rattle.std.proofs.Common.{◌<◌, ◌==◌, not, List, length, map, sym, subst, ap, ◌∙◌}
use Rattle.std.specs.List.{All}
use Rattle.std.proofs.lemmas.List.Elements.{All-filter}
use Rattle.nego_expr.specs.Work.{WorkAtom}
use Rattle.nego_expr.specs.WorkView.{plain_work, atom_among}
use Rattle.nego_expr.proofs.UsableWorks.{left_few, atoms-without}
use Rattle.nego_expr.proofs.work.Work.leave.Goals as goal

pub without-self-inside-requires : goal.without-self-inside-requires
without-self-inside-requires c = left_few c.self.inside c.args.self.now c.args.n.0 c.self.invariant c.self.view_is c.requires.left

pub invariant_of-self : goal.invariant_of-self
invariant_of-self c =
    let w = c.self.inside in
    record {
      few_agents = c.self.invariant.few_agents;
      few_atoms = c.self.invariant.few_atoms;
      left_below = subst (λ ns. All (λ n. n < length w.parties) ns) (sym c.without-self-inside.ensures.value)
          (All-filter (λ n. not (n == c.args.n.0)) (λ n. n < length w.parties) w.left c.self.invariant.left_below);
      alive = c.self.invariant.alive;
      few_numbers = c.self.invariant.few_numbers;
      sorted = c.self.invariant.sorted;
      members = c.self.invariant.members;
      counted = c.self.invariant.counted;
      entered = c.self.invariant.entered;
    }

pub returns-clause-plain : goal.returns-clause-plain
returns-clause-plain c =
    let w = c.self.inside in
    rw (← c.self.view_is) (ap (λ (atoms : List WorkAtom). record (plain_work w) { atoms = atoms })
    (ap (map (atom_among w.parties)) c.without-self-inside.ensures.value ∙ atoms-without w.parties c.args.n.0 w.left))
