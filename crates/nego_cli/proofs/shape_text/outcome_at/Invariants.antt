use Rattle.nego_cli.proofs.NamedPlaces.{IsBehind}
use Rattle.nego_cli.proofs.shape_text.outcome_at.Given as goal

-- the outcome is so far behind the first of the atoms that are left
abbrev pub invariant-loop-n : goal.invariant-loop-n
invariant-loop-n l = IsBehind l.p.atoms l.o l.n l.left
