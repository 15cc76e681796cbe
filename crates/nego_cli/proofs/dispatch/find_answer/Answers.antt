use Rattle.std.proofs.Common.{refl}
use Rattle.nego_cli.specs.Effect.{effect}
use Rattle.nego_cli.specs.Commands.{asked, most_parts}
use Rattle.nego_cli.proofs.CommandSizes.{command_sized}
use Rattle.nego_cli.proofs.Found.{found_so}
use Rattle.nego_cli.proofs.PartLaws.{took_none}
use Rattle.nego_cli.proofs.dispatch.find_answer.Goals as goal

pub returns-in-Ok-clause-found : goal.returns-in-Ok-clause-found
returns-in-Ok-clause-found g c =
    found_so c.args.words.now c.in-Ok.command (effect g.S.Source.left g.S.Source.faults c.args.source.now c.answer.new.source) c.answer.result c.in-Ok.ensures.ok c.answer.ensures.found

pub returns-in-Err-Memory-clause-found : goal.returns-in-Err-Memory-clause-found
returns-in-Err-Memory-clause-found g c = (refl, took_none (most_parts (asked c.args.words.now)) (g.S.Source.left c.args.source.now))

pub answer-requires : goal.answer-requires
answer-requires g c = command_sized c.args.words.now c.in-Ok.command c.in-Ok.ensures.ok
