use Rattle.std.proofs.Common.{◌≡◌, ◌++◌, length, map, drop}
use Rattle.nego_model.specs.Parts.{plain_outcome}
use Rattle.nego_reader.specs.Content.{content_of, atom_content}
use Rattle.nego_shape.specs.Faults.{each_out, uncovered, faults}
use Rattle.nego_shape.specs.Conditions.{AllCovered}
use Rattle.nego_shape.specs.Naming.{outs_from, all_outs, outcome_in}
use Rattle.nego_shape.proofs.making.outcomes_of.Given as goal

abbrev pub invariant-loop-n : goal.invariant-loop-n
invariant-loop-n l = record {
  parts : map (plain_outcome (length l.p.agents)) l.outcomes ++ map (outcome_in (content_of l.p)) (outs_from l.n (map atom_content (drop l.n l.p.atoms)))
      ≡ map (outcome_in (content_of l.p)) (all_outs (content_of l.p));
  total : each_out (λ n o out. uncovered (content_of l.p) o out) l.n (length l.outcomes) (drop l.n l.p.atoms) ≡ faults AllCovered l.p;
}
