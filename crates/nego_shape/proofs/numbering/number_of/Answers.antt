use Rattle.std.proofs.Common.{◌∙◌}
use Rattle.nego_shape.proofs.Sought.{name_found}
use Rattle.nego_shape.proofs.numbering.number_of.Goals as goal

pub returns : goal.returns
returns c = c.unwrap_or.ensures ∙ name_found c.args.name.now.text c.args.names.now.keys c.get_index_of.result c.len.result c.get_index_of.ensures.index c.len.ensures.len
