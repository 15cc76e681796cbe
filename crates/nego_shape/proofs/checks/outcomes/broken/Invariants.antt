use Rattle.std.proofs.Common.{◌≡◌, ◌≤◌, ◌+◌, length, map, drop}
use Rattle.nego_reader.specs.Content.{content_of, atom_content}
use Rattle.nego_shape.specs.Naming.{outs_from}
use Rattle.nego_shape.specs.Faults.{faults, first_of, each_out}
use Rattle.nego_shape.specs.Rules.{condition_by, out_faults}
use Rattle.nego_shape.proofs.checks.outcomes.broken.Given as goal

abbrev pub invariant-loop-n : goal.invariant-loop-n
invariant-loop-n l = record {
  first : first_of (each_out (out_faults l.rule (content_of l.p)) l.n l.start (drop l.n l.atoms)) ≡ first_of (faults (condition_by l.rule) l.p);
  few : l.start + length (outs_from l.n (map atom_content (drop l.n l.atoms))) ≤ 256;
}
