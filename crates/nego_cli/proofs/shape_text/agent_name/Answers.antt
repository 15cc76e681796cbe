use Rattle.std.proofs.Common.{◌∙◌, ap, sym}
use Rattle.std.specs.Option.{option_copied}
use Rattle.nego_cli.proofs.NamedPlaces.{agent_there, agent_nowhere}
use Rattle.nego_cli.proofs.shape_text.agent_name.Goals as goal

pub returns-in-Some : goal.returns-in-Some
returns-in-Some c = c.as_slice.ensures ∙ agent_there c.args.p.now c.args.a.0 c.in-Some.agent.now (sym c.get.ensures ∙ ap option_copied c.in-Some.is)

pub returns-in-None : goal.returns-in-None
returns-in-None c = agent_nowhere c.args.p.now c.args.a.0 (sym c.get.ensures ∙ ap option_copied c.in-None.is)
