use Rattle.nego_cli.proofs.OneVerdict.{one_verdict}
use Rattle.nego_cli.proofs.verdict_laws.verdicts_are_one.Goals as goal

pub returns : goal.returns
returns c = one_verdict
