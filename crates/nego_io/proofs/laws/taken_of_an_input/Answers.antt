use Rattle.nego_io.proofs.BehindLaws.{answers_within, within_limit}
use Rattle.nego_io.proofs.laws.taken_of_an_input.Goals as goal

pub returns-clause-within : goal.returns-clause-within
returns-clause-within c = answers_within

pub returns-clause-most : goal.returns-clause-most
returns-clause-most c = within_limit
