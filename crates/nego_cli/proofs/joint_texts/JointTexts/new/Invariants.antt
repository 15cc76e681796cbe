use Rattle.std.proofs.Common.{◌≡◌, length}
use Rattle.nego_cli.proofs.JointTexts.{AreEmpty}
use Rattle.nego_cli.proofs.joint_texts.JointTexts.new.Given as goal

-- the texts so far, all empty
abbrev pub invariant-loop-d : goal.invariant-loop-d
invariant-loop-d l = record {
  long : length l.texts ≡ l._d;
  empty : AreEmpty l.texts;
}
