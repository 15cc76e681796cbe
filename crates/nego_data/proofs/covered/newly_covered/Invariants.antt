use Rattle.std.proofs.Common.{take}
use Rattle.std.specs.List.{All, list_all}
use Rattle.nego_data.specs.Cases.{test_holds}
use Rattle.nego_data.specs.Covered.{AreThose, IsKnown}
use Rattle.nego_data.proofs.covered.newly_covered.Given as goal

-- those of which the comparisons so far hold
abbrev pub invariant-loop-test : goal.invariant-loop-test
invariant-loop-test l = record {
  covered : AreThose l.sizes (λ values. list_all (λ test. test_holds test values) (take l.test-index l.test-items)) l.covered.words;
  known : All (IsKnown l.sizes) l.known;
}
