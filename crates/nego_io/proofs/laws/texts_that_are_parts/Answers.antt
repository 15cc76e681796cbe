use Rattle.nego_io.proofs.FoundLaws.{closed_parts_stand}
use Rattle.nego_io.proofs.laws.texts_that_are_parts.Goals as goal

pub returns : goal.returns
returns c = closed_parts_stand
