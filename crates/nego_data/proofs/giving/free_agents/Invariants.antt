use Rattle.std.proofs.Common.{◌≡◌, ℕ, take}
use Rattle.nego_base.specs.Members.{is_in}
use Rattle.nego_data.specs.Cases.{term_for}
use Rattle.nego_data.specs.Given.{is_free}
use Rattle.nego_data.proofs.giving.free_agents.Given as goal

-- who is free by the assignments so far
abbrev pub invariant-loop-set : goal.invariant-loop-set
invariant-loop-set l = (a : ℕ) → is_in a l.free ≡ is_free (term_for (take l.set-index l.set-items) a)
