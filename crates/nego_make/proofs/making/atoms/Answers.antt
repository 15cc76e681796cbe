use Rattle.std.proofs.Common.{◌∙◌, map, ap, sym, arith}
use Rattle.std.specs.List.{range_with_len}
use Rattle.nego_reader.specs.Content.{atom_content}
use Rattle.nego_make.specs.Generated.{atom}
use Rattle.nego_make.proofs.Steps.{pushed, range-more}
use Rattle.nego_make.proofs.making.atoms.Goals as goal

pub loop-i-preserved : goal.loop-i-preserved
loop-i-preserved c =
    pushed atom_content (atom c.args.n) (range_with_len 0 c.loop-i.i) c.loop-i.i c.loop-i.atoms c.push.new.self c.in_ok-atom.field-0 c.in_ok-push.ensures.ok c.loop-i.invariant c.in_ok-atom.ensures
    ∙ ap (map (atom c.args.n)) (sym (range-more 0 c.loop-i.i c.loop-i.i (omega arith)))
