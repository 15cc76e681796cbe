use Rattle.nego_shortcut.proofs.CloseKeeps.{closing}
use Rattle.nego_shortcut.proofs.law.closing_keeps.Goals as goal

pub returns : goal.returns
returns c = closing
