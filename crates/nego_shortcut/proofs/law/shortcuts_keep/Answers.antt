use Rattle.nego_shortcut.proofs.ShortcutKeeps.{shortcuts_keep}
use Rattle.nego_shortcut.proofs.law.shortcuts_keep.Goals as goal

pub returns : goal.returns
returns c = shortcuts_keep
