-- Laws of what texts say.
use Rattle.std.specs.Prelude.{ℕ, List}
use Rattle.nego_model.specs.Diagram.{IsDiagram}
use Rattle.nego_model.specs.Limits.{IsWithinLimits, HasNames, AreInOrder}
use Rattle.nego_reader.specs.declared.parsed.Parsed.{Parsed}
use Rattle.nego_reader.specs.Spelling.{Spells}
use Rattle.nego_reader.specs.Content.{Content, content_of}
use Rattle.nego_shape.specs.Naming.{diagram_in}
use Rattle.nego_shape.specs.Conditions.{HasShape}
use Rattle.nego_shape.specs.Shaped.{HasNameWords}

-- The names of a value that some text spells are names.
abbrev pub SpelledWordsAreNames : Type 0
SpelledWordsAreNames = (bytes : List ℕ) (p : Parsed) → Spells bytes p → HasNameWords (content_of p)

-- A content that has the shape is a diagram,
abbrev pub ShapedContentsAreDiagrams : Type 0
ShapedContentsAreDiagrams = (c : Content) → HasShape c → IsDiagram (diagram_in c)

-- it is within the limits,
abbrev pub ShapedContentsAreWithinLimits : Type 0
ShapedContentsAreWithinLimits = (c : Content) → HasShape c → IsWithinLimits (diagram_in c)

-- it has names, where the names are names by their bytes,
abbrev pub ShapedContentsHaveNames : Type 0
ShapedContentsHaveNames = (c : Content) → HasShape c → HasNameWords c → HasNames (diagram_in c)

-- and its outcomes stand in the order of their atoms.
abbrev pub ShapedContentsAreInOrder : Type 0
ShapedContentsAreInOrder = (c : Content) → HasShape c → AreInOrder (diagram_in c).outcomes
