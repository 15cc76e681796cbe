use Rattle.std.proofs.Common.{◌≡◌, ◌<◌, ◌^◌, take}
use Rattle.nego_base.specs.Number.{value_of}
use Rattle.nego_base.proofs.number.value_of.Given as goal

abbrev pub invariant-loop-b : goal.invariant-loop-b
invariant-loop-b l = record {
  same : l.value ≡ value_of (take l.b-index l.bytes);
  small : l.value < 10 ^ l.b-index;
}
