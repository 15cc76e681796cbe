use Rattle.nego_io.proofs.FoundLaws.{parts_are_found, past_limit_is_found, unended_is_found}
use Rattle.nego_io.proofs.laws.parts_of_an_input.Goals as goal

pub returns-clause-part : goal.returns-clause-part
returns-clause-part c = parts_are_found

pub returns-clause-past_limit : goal.returns-clause-past_limit
returns-clause-past_limit c = past_limit_is_found

pub returns-clause-unended : goal.returns-clause-unended
returns-clause-unended c = unended_is_found
