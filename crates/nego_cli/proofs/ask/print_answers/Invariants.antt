use Rattle.std.proofs.Common.{◌≡◌, [], map, take}
use Rattle.nego_base.specs.Appending.{Appends}
use Rattle.nego_cli.specs.Ask.{lines_of_answers, numbered}
use Rattle.nego_cli.specs.JointTexts.{AreJointTexts}
use Rattle.nego_cli.proofs.ask.print_answers.Given as goal

-- the lines of the answers so far, and the texts of joint data
abbrev pub invariant-loop-answer : goal.invariant-loop-answer
invariant-loop-answer l = record {
  lines : Appends [] l.text (lines_of_answers l.d (map (numbered l.d) (take l.answer-index l.answers)));
  sizes : l.joints.sizes.now ≡ l.d.sizes;
  texts : AreJointTexts l.d.sizes l.joints.texts;
}
