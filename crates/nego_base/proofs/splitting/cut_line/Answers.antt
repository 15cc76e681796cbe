use Rattle.std.proofs.Common.{sym}
use Rattle.nego_base.specs.Lines.{is_newline}
use Rattle.nego_base.proofs.Places.{first_place, no_place}
use Rattle.nego_base.proofs.Cuts.{line_cut, line_all}
use Rattle.nego_base.proofs.splitting.cut_line.Goals as goal

pub returns-in-Some-clause-lines : goal.returns-in-Some-clause-lines
returns-in-Some-clause-lines c =
    let bytes = c.args.bytes.now in
    let cut = c.split_at.ensures in
    rw (cut.front, cut.back) (line_cut bytes c.in-Some.i (first_place is_newline bytes c.in-Some.i (sym c.in-Some.ensures.place)))

pub returns-in-None-clause-lines : goal.returns-in-None-clause-lines
returns-in-None-clause-lines c =
    let bytes = c.args.bytes.now in
    line_all bytes c.requires (no_place is_newline bytes (sym c.in-None.ensures.place))
