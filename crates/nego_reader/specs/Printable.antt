-- What a diagram must be for its printed text to spell it, also where nobody read it from a text.
use Rattle.std.specs.Prelude.{ℕ, ◌<◌, ◌≤◌, ◌∷◌, length, All}
use Rattle.nego_base.specs.LineGrammar.{IsNameWord}
use Rattle.nego_base.specs.Printed.{printed_line}
use Rattle.nego_base.specs.Scan.{max_line}
use Rattle.nego_reader.specs.declared.parsed.Parsed.{Parsed}
use Rattle.nego_reader.specs.declared.parsed.PTest.{PTest}
use Rattle.nego_reader.specs.declared.parsed.PRight.{PRight}
use Rattle.nego_reader.specs.declared.parsed.PRight.TheVariants as rights
use Rattle.nego_reader.specs.declared.parsed.PSet.{PSet}
use Rattle.nego_reader.specs.declared.parsed.PTerm.{PTerm}
use Rattle.nego_reader.specs.declared.parsed.PTerm.TheVariants as terms
use Rattle.nego_reader.specs.Printing.{row_words, printed_diagram}
use Rattle.nego_reader.specs.Rows.{Row, HeaderRow, AgentRow, AtomRow, OutRow, CaseRow, NextRow, FirstRow, LastRow, EndRow, rows_of}

-- the right side of a comparison is a number of six digits at most, or a name
abbrev pub IsRight : PRight → Type 0
IsRight (rights.Number n) = n ≤ 999999
IsRight (rights.Name name) = IsNameWord name

-- A comparison has a name on its left.
pub record IsTest (test : PTest) : Type 0 where
  pub left : IsNameWord test.left
  pub right : IsRight test.right

-- what is assigned has names, and numbers of six digits at most
abbrev pub IsTerm : PTerm → Type 0
IsTerm terms.Any = Unit {0}
IsTerm (terms.Number n) = n ≤ 999999
IsTerm (terms.Plus name n) = IsNameWord name × (n ≤ 999999)
IsTerm (terms.Minus name n) = IsNameWord name × (n ≤ 999999)

-- An assignment has a name on its left.
pub record IsSet (set : PSet) : Type 0 where
  pub agent : IsNameWord set.agent
  pub term : IsTerm set.term

-- what stands for a name in the row is a name, each number has six digits at most, and a next atom has an agent
abbrev pub IsRow : Row → Type 0
IsRow HeaderRow = Unit {0}
IsRow (AgentRow a) = IsNameWord a.name × (a.size ≤ 999999)
IsRow (AtomRow name parties) = All IsNameWord (name ∷ parties)
IsRow (OutRow name) = IsNameWord name
IsRow (CaseRow c) = All IsTest c.tests × All IsSet c.sets
IsRow (NextRow n) = All IsNameWord (n.atom ∷ n.agents) × (0 < length n.agents)
IsRow (FirstRow name) = IsNameWord name
IsRow (LastRow name) = IsNameWord name
IsRow EndRow = Unit {0}

-- The diagram's names are names, its numbers have six digits at most, each of its next atoms has an agent, and each of its
-- printed lines has at most 1,024 bytes.
pub record IsPrintableDiagram (p : Parsed) : Type 0 where
  pub rows : All IsRow (rows_of p)
  pub short : All (λ row. length (printed_line (row_words row)) ≤ max_line) (rows_of p)

-- the printed text has at most so many bytes, as those of a part of an input
abbrev pub FitsPart : ℕ → Parsed → Type 0
FitsPart most p = length (printed_diagram p) ≤ most
