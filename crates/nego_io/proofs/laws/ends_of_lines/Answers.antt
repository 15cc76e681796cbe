use Rattle.nego_base.proofs.LineLaws.{without_end_both, without_end_newline, without_end_none}
use Rattle.nego_io.proofs.laws.ends_of_lines.Goals as goal

pub returns-clause-both : goal.returns-clause-both
returns-clause-both c = without_end_both

pub returns-clause-newline : goal.returns-clause-newline
returns-clause-newline c = without_end_newline

pub returns-clause-none : goal.returns-clause-none
returns-clause-none c = without_end_none
