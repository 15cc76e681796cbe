use Rattle.nego_shape.proofs.SpelledNames.{spelled-names}
use Rattle.nego_cli.proofs.load.spelled_diagram.Goals as goal

pub shaped-requires : goal.shaped-requires
shaped-requires c = spelled-names c.args.text.now c.in-Ok.parsed c.in-Ok.ensures.spelled
