use Rattle.nego_base.proofs.LineLaws.{concat-lines, lines_append, lines_whole, lines_last}
use Rattle.nego_io.proofs.laws.lines_of_a_text.Goals as goal

pub returns-clause-joined : goal.returns-clause-joined
returns-clause-joined c = concat-lines

pub returns-clause-parted : goal.returns-clause-parted
returns-clause-parted c = lines_append

pub returns-clause-whole : goal.returns-clause-whole
returns-clause-whole c = lines_whole

pub returns-clause-last : goal.returns-clause-last
returns-clause-last c = lines_last
