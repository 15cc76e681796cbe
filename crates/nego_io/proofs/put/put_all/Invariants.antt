use Rattle.std.proofs.Common.{◌≡◌, ◌-◌, ◌≤◌, [], take, length}
use Rattle.nego_io.specs.Outside.{Puts}
use Rattle.nego_io.proofs.put.put_all.Given as goal

abbrev pub invariant-loop-done : goal.invariant-loop-done
invariant-loop-done g l = record {
  within : l.done ≤ length l.bytes;
  told : Puts (take l.done l.bytes) (g.O.Sink.taken l.initial.sink) (g.O.Sink.taken l.sink);
  stayed : g.O.Sink.faults l.sink ≡ g.O.Sink.faults l.initial.sink;
  nothing : l.bytes ≡ [] → l.sink ≡ l.initial.sink;
}

abbrev pub decreases-loop-done : goal.decreases-loop-done
decreases-loop-done g l = length l.bytes - l.done
