use Rattle.std.proofs.Common.{nat_lt, ap, ◌∙◌}
use Rattle.nego_expr.specs.Use.{leads_in}
use Rattle.nego_shortcut.proofs.Unentered.{counted_any}
use Rattle.nego_shortcut.proofs.entering.is_entered.Goals as goal

pub returns : goal.returns
returns c = ap (nat_lt 0) c.entered_by.ensures ∙ counted_any (leads_in c.args.n.0) c.args.w.now.plain.outcomes
