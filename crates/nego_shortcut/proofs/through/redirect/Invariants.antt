use Rattle.nego_expr.specs.WorkView.{plain_outcome}
use Rattle.nego_shortcut.proofs.Sent.{SentBelow}
use Rattle.nego_shortcut.proofs.through.redirect.Given as goal

-- the agents below a have their targets
abbrev pub invariant-loop-a : goal.invariant-loop-a
invariant-loop-a l = SentBelow l.initial.targets l.parties (plain_outcome l.y) l.a l.targets
