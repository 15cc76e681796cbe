use Rattle.nego_cli.proofs.MadeInputs.{made_inputs}
use Rattle.nego_cli.proofs.make_laws.made_texts_are_inputs.Goals as goal

pub returns : goal.returns
returns c = made_inputs
