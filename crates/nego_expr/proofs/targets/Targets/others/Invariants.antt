use Rattle.std.proofs.Common.{◌≡◌, ℕ, ◌==◌, ◌&&◌, not, nat_lt, Some, take}
use Rattle.std.specs.List.{list_any}
use Rattle.nego_base.specs.Members.{is_in}
use Rattle.nego_expr.specs.Use.{same_target}
use Rattle.nego_expr.proofs.targets.Targets.others.Given as goal

-- the atoms among the targets of the agents so far
abbrev pub invariant-loop-a : goal.invariant-loop-a
invariant-loop-a l = (m : ℕ) → is_in m l.atoms ≡ (nat_lt m 64 && (not (l.n.0 == m) && list_any (λ target. same_target target (Some m)) (take l.a l.self)))
