use Rattle.nego_data.proofs.Lending.{is_part-narrower}
use Rattle.nego_data.proofs.lender.Lender.new.Goals as goal

pub spread_where_narrower-requires : goal.spread_where_narrower-requires
spread_where_narrower-requires c = is_part-narrower c.args.parties c.args.sizes.now c.args.part.now c.args.rows.now c.requires
