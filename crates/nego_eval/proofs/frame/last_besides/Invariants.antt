use Rattle.std.proofs.Common.{◌≡◌, ◌-◌, ◌<◌, ◌≤◌, true, false}
use Rattle.std.specs.Prelude.{IfSome}
use Rattle.nego_base.specs.Members.{is_in}
use Rattle.nego_eval.proofs.frame.last_besides.Given as goal

abbrev pub invariant-loop-low : goal.invariant-loop-low
invariant-loop-low l = record {
  within : IfSome l.last (λ y. is_in y l.set ≡ true);
  without : IfSome l.last (λ y. is_in y l.other ≡ false);
  below : IfSome l.last (λ y. y < l.initial.end);
  bound : l.high ≤ 1024;
  end : l.high ≤ l.initial.end;
}

abbrev pub decreases-loop-low : goal.decreases-loop-low
decreases-loop-low l = l.high - l.low
