use Rattle.nego_base.proofs.NameLaws.{name_no_number, name_has_no, name_has_no_blank}
use Rattle.nego_base.proofs.laws.names_are_no_numbers.Goals as goal

pub returns-clause-number : goal.returns-clause-number
returns-clause-number c = name_no_number

pub returns-clause-blank : goal.returns-clause-blank
returns-clause-blank c = name_has_no_blank

pub returns-clause-other : goal.returns-clause-other
returns-clause-other c = name_has_no
