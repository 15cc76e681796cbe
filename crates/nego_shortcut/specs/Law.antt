-- The laws of shortcuts and of closing.
use Rattle.std.specs.Prelude.{ℕ}
use Rattle.nego_expr.specs.Use.{Shortcut, Close}
use Rattle.nego_expr.specs.Keeps.{IsKeeping}

-- Shortcuts that a work allows keep.
abbrev pub ShortcutsKeep : Type 0
ShortcutsKeep = (o n : ℕ) → IsKeeping (Shortcut o n)

-- A closing that a work allows keeps.
abbrev pub ClosingKeeps : Type 0
ClosingKeeps = IsKeeping Close
