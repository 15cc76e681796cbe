use Rattle.std.proofs.Common.{◌≡◌, ℕ, ◌<◌, false}
use Rattle.nego_base.specs.Members.{is_in}
use Rattle.nego_model.specs.Diagram.{nexts_of}
use Rattle.nego_shape.proofs.edges.leads.Given as goal

-- no agent so far has the atom as a next atom
abbrev pub invariant-loop-a : goal.invariant-loop-a
invariant-loop-a l = (a : ℕ) → a < l.a → is_in l.n.0 (nexts_of l.d l.o.0 a) ≡ false
