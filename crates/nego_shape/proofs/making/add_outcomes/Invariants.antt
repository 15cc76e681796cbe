use Rattle.std.proofs.Common.{◌≡◌, ◌+◌, ◌++◌, length, map, take, drop}
use Rattle.nego_model.specs.Parts.{plain_outcome}
use Rattle.nego_reader.specs.Content.{content_of, out_content}
use Rattle.nego_shape.specs.Faults.{numbered, uncovered}
use Rattle.nego_shape.specs.Naming.{outcome_in, parties_at, sizes_in}
use Rattle.nego_shape.specs.Made.{placed_at}
use Rattle.nego_shape.proofs.making.add_outcomes.Given as goal

abbrev pub invariant-loop-i : goal.invariant-loop-i
invariant-loop-i l = record {
  parts : map (plain_outcome (length l.p.agents)) l.outcomes
      ≡ map (plain_outcome (length l.p.agents)) l.initial.outcomes ++ map (λ out. outcome_in (content_of l.p) (placed_at l.n (out_content out))) (take l.i l.outs);
  count : length l.outcomes ≡ length l.initial.outcomes + l.i;
  sizes : l.maker.sizes ≡ sizes_in (content_of l.p);
  parties : l.maker.parties ≡ parties_at (content_of l.p) l.n;
  total : numbered (uncovered (content_of l.p)) (length l.outcomes) (drop l.i l.outs) ≡ numbered (uncovered (content_of l.p)) (length l.initial.outcomes) l.outs;
}
