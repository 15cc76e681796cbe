use Rattle.std.proofs.Common.{◌≡◌, ℕ, List, IfOk, subst}
use Rattle.nego_reader.proofs.PutLines.{diagram_printed}
use Rattle.nego_reader.proofs.PrintedAgain.{printed_ok}
use Rattle.nego_reader.proofs.print.print_diagram.Goals as goal

pub returns-clause-text : goal.returns-clause-text
returns-clause-text c = subst (λ (t : List ℕ). IfOk c.printed.result (λ text. text ≡ t)) (diagram_printed c.args.p.now) c.printed.ensures

pub returns-clause-spelled : goal.returns-clause-spelled
returns-clause-spelled c = λ h. printed_ok c.printed.result c.args.p.now (returns-clause-text c) h
