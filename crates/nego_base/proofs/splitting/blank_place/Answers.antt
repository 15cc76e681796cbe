use Rattle.nego_base.specs.Lines.{is_blank}
use Rattle.nego_base.proofs.Places.{place_found}
use Rattle.nego_base.proofs.splitting.blank_place.Goals as goal

pub returns-clause-place : goal.returns-clause-place
returns-clause-place c = place_found is_blank c.args.bytes.now c.memchr2.result c.memchr2.ensures
