use Rattle.std.proofs.Common.{take}
use Rattle.nego_base.specs.Appending.{Appends}
use Rattle.nego_cli.specs.FormText.{atom_words}
use Rattle.nego_cli.proofs.form_text.add_atoms.Given as goal

-- the names so far
abbrev pub invariant-loop-n : goal.invariant-loop-n
invariant-loop-n l = Appends l.initial.text l.text (atom_words l.d (take l.n-index l.atoms))
