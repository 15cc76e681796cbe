use Rattle.std.proofs.Common.{◌≡◌, ◌-◌, ◌++◌, take, replicate}
use Rattle.nego_data.proofs.joint_data.padded.Given as goal

-- the sizes so far, and 0 behind them
abbrev pub invariant-loop-a : goal.invariant-loop-a
invariant-loop-a l = l.padded ≡ take l.a l.sizes ++ replicate (16 - l.a) 0
