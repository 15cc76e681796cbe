use Rattle.std.proofs.Common.{◌/◌, ◌%◌, ◌==◌, slice_index, sym, ap, ◌∙◌}
use Rattle.std.proofs.lemmas.Nat.Bits.{shr_and_one}
use Rattle.nego_data.proofs.DataSets.{is_in-set_below}
use Rattle.nego_data.proofs.data_set.DataSet.has.Goals as goal

pub returns : goal.returns
returns c =
    let words = c.self.inside.words in
    rw (← c.self.view_is)
    (ap (λ b. b == 1) (shr_and_one (slice_index words (c.args.e / 64)) (c.args.e % 64)) ∙ sym (is_in-set_below words c.args.e c.requires))
