-- How the program's uses of rules are seen.
use Rattle.nego_expr.specs.declared.uses.Use.{Use}
use Rattle.nego_expr.specs.declared.uses.Use.TheVariants as uses
use Rattle.nego_expr.specs.Use.{PlainUse, Merge, Iterate, Shortcut, Close}

-- a use of a rule, without the wrapping of its numbers
abbrev pub plain_use : Use → PlainUse
plain_use (uses.Merge o1 o2) = Merge o1.0 o2.0
plain_use (uses.Iterate o) = Iterate o.0
plain_use (uses.Shortcut o n) = Shortcut o.0 n.0
plain_use uses.Close = Close
