use Rattle.std.proofs.Common.{sym}
use Rattle.nego_base.specs.Lines.{is_blank}
use Rattle.nego_base.proofs.Places.{first_place, no_place}
use Rattle.nego_base.proofs.Cuts.{word_cut, word_all}
use Rattle.nego_base.proofs.splitting.cut_word.Goals as goal

pub returns-in-Some-clause-words : goal.returns-in-Some-clause-words
returns-in-Some-clause-words c =
    let bytes = c.args.bytes.now in
    let cut = c.split_at.ensures in
    rw (cut.front, cut.back) (word_cut bytes c.in-Some.i c.requires (first_place is_blank bytes c.in-Some.i (sym c.in-Some.ensures.place)))

pub returns-in-None-clause-words : goal.returns-in-None-clause-words
returns-in-None-clause-words c =
    let bytes = c.args.bytes.now in
    word_all bytes c.requires (no_place is_blank bytes (sym c.in-None.ensures.place))
