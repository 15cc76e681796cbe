use Rattle.nego_base.specs.Lines.{is_newline}
use Rattle.nego_base.proofs.Places.{place_found}
use Rattle.nego_base.proofs.splitting.newline_place.Goals as goal

pub returns-clause-place : goal.returns-clause-place
returns-clause-place c = place_found is_newline c.args.bytes.now c.memchr.result c.memchr.ensures
