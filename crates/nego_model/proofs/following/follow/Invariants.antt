use Rattle.std.proofs.Common.{◌≡◌, Some, take}
use Rattle.nego_model.specs.Occurring.{opening_marking, leaves}
use Rattle.nego_model.specs.Diagram.{negotiation_of}
use Rattle.nego_model.specs.Followed.{marking_in, occurrences}
use Rattle.nego_model.proofs.following.follow.Given as goal

-- the entries so far leave the marking
abbrev pub invariant-loop-i : goal.invariant-loop-i
invariant-loop-i l = leaves (negotiation_of l.d) (opening_marking (negotiation_of l.d)) (take l.i (occurrences l.run)) ≡ Some (marking_in l.d l.marking)
