use Rattle.std.proofs.Common.{IsTrue, map}
use Rattle.nego_base.specs.Members.{is_in}
use Rattle.nego_expr.specs.WorkView.{plain_outcome}
use Rattle.nego_expr.proofs.WorkEdits.{All-found}
use Rattle.nego_shortcut.proofs.entering.enters.Goals as goal

pub parties-requires-then-is_inner : goal.parties-requires-then-is_inner
parties-requires-then-is_inner c =
    let work = c.args.w.now.plain in
    record { left = All-found (λ x. IsTrue (is_in x.atom (map (λ atom. atom.number) work.atoms))) work.outcomes c.args.x.now.number.0 (plain_outcome c.args.x.now) c.requires.work.own_atom c.requires.alive }
