-- How a diagram is printed: its lines in turn, without comments, one blank between two words, and a newline behind each
-- line.
use Rattle.std.specs.Prelude.{ℕ, ◌==◌, if◌then◌else◌, List, [], ◌∷◌, ◌++◌, map, codes, decimal}
use Rattle.nego_base.specs.Printed.{printed}
use Rattle.nego_reader.specs.declared.parsed.Parsed.{Parsed}
use Rattle.nego_reader.specs.declared.parsed.PTest.{PTest}
use Rattle.nego_reader.specs.declared.parsed.PRight.{PRight}
use Rattle.nego_reader.specs.declared.parsed.PRight.TheVariants as rights
use Rattle.nego_reader.specs.declared.parsed.PSet.{PSet}
use Rattle.nego_reader.specs.declared.parsed.PTerm.{PTerm}
use Rattle.nego_reader.specs.declared.parsed.PTerm.TheVariants as terms
use Rattle.nego_reader.specs.Content.{texts}
use Rattle.nego_reader.specs.Rows.{Row, HeaderRow, AgentRow, AtomRow, OutRow, CaseRow, NextRow, FirstRow, LastRow, EndRow, rows_of}
use Rattle.nego_reader.specs.Spelling.{op_text}

abbrev pub right_text : PRight → List ℕ
right_text (rights.Number n) = decimal n
right_text (rights.Name name) = name.text

-- a comparison, without blanks
abbrev pub test_text : PTest → List ℕ
test_text test = test.left.text ++ op_text test.op ++ right_text test.right

-- a name plus 0 is printed as the name alone
abbrev pub plus_text : List ℕ → ℕ → List ℕ
plus_text name n = if n == 0 then name else name ++ codes "+" ++ decimal n

abbrev pub term_text : PTerm → List ℕ
term_text terms.Any = codes "*"
term_text (terms.Number n) = decimal n
term_text (terms.Plus name n) = plus_text name.text n
term_text (terms.Minus name n) = name.text ++ codes "-" ++ decimal n

-- an assignment, without blanks
abbrev pub set_text : PSet → List ℕ
set_text set = set.agent.text ++ codes ":=" ++ term_text set.term

-- the words of a line
abbrev pub row_words : Row → List (List ℕ)
row_words HeaderRow = codes "nego" ∷ codes "1" ∷ []
row_words (AgentRow a) = codes "agent" ∷ a.name.text ∷ decimal a.size ∷ []
row_words (AtomRow name parties) = codes "atom" ∷ name.text ∷ texts parties
row_words (OutRow name) = codes "out" ∷ name.text ∷ []
row_words (CaseRow c) = codes "case" ∷ map test_text c.tests ++ codes ":" ∷ map set_text c.sets
row_words (NextRow n) = codes "next" ∷ n.atom.text ∷ texts n.agents
row_words (FirstRow name) = codes "first" ∷ name.text ∷ []
row_words (LastRow name) = codes "last" ∷ name.text ∷ []
row_words EndRow = codes "end" ∷ []

-- the text of a diagram
unfoldable pub printed_diagram : Parsed → List ℕ
printed_diagram p = printed (map row_words (rows_of p))
