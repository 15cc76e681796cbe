use Rattle.std.proofs.Common.{[], ◌∷◌, length, ap, arith}
use Rattle.std.specs.List.{flat_map}
use Rattle.nego_reader.specs.Rows.{Out, Atom, First, out_rows}
use Rattle.nego_reader.proofs.Walks.{more_lines, over}
use Rattle.nego_reader.proofs.pieces.outs.Goals as goal

pub loop-line-smaller : goal.loop-line-smaller
loop-line-smaller c = omega (arith, ap length c.in-Some.ensures.parts, c.in_ok-out.ensures.shorter)

pub loop-line-preserved : goal.loop-line-preserved
loop-line-preserved c =
    rw c.in_ok-push.ensures.ok (more_lines out_rows (Out ∷ Atom ∷ First ∷ []) c.args.lines.now c.loop-line.outs c.loop-line.rest.now c.in-Some.line.now c.in-Some.after.now c.in_ok-out.after.now c.in_ok-out.out c.in-Some.ensures.parts c.in_ok-out.ensures.reads c.loop-line.invariant)

pub returns : goal.returns
returns c = over Out Atom (First ∷ []) (Out ∷ Atom ∷ First ∷ []) c.args.lines.now (flat_map out_rows c.loop-line.outs) c.loop-line.rest.now c.in_default.ensures.none c.loop-line.invariant
