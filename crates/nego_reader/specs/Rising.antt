-- Where the words of a diagram stand: each line of it below the one before, and in a line each word right of the one before.
use Rattle.std.specs.Prelude.{◌≡◌, ◌<◌, List, [], ◌∷◌, ◌++◌, All, AllPairs}
use Rattle.std.specs.List.{flat_map}
use Rattle.nego_base.specs.declared.line.Word.{Word}
use Rattle.nego_reader.specs.declared.parsed.Parsed.{Parsed}
use Rattle.nego_reader.specs.declared.parsed.PCase.{PCase}
use Rattle.nego_reader.specs.declared.parsed.PTest.{PTest}
use Rattle.nego_reader.specs.declared.parsed.PRight.{PRight}
use Rattle.nego_reader.specs.declared.parsed.PRight.TheVariants as rights
use Rattle.nego_reader.specs.declared.parsed.PSet.{PSet}
use Rattle.nego_reader.specs.declared.parsed.PTerm.{PTerm}
use Rattle.nego_reader.specs.declared.parsed.PTerm.TheVariants as terms
use Rattle.nego_reader.specs.Rows.{Row, HeaderRow, AgentRow, AtomRow, OutRow, CaseRow, NextRow, FirstRow, LastRow, EndRow, rows_of}

-- ---- the names in a line, from left to right

abbrev pub right_words : PRight → List Word
right_words (rights.Number n) = []
right_words (rights.Name name) = name ∷ []

abbrev pub test_words : PTest → List Word
test_words test = test.left ∷ right_words test.right

abbrev pub term_words : PTerm → List Word
term_words terms.Any = []
term_words (terms.Number n) = []
term_words (terms.Plus name n) = name ∷ []
term_words (terms.Minus name n) = name ∷ []

abbrev pub set_words : PSet → List Word
set_words set = set.agent ∷ term_words set.term

abbrev pub case_words : PCase → List Word
case_words case = flat_map test_words case.tests ++ flat_map set_words case.sets

abbrev pub words_in : Row → List Word
words_in HeaderRow = []
words_in (AgentRow a) = a.name ∷ []
words_in (AtomRow name parties) = name ∷ parties
words_in (OutRow name) = name ∷ []
words_in (CaseRow c) = case_words c
words_in (NextRow n) = n.atom ∷ n.agents
words_in (FirstRow name) = name ∷ []
words_in (LastRow name) = name ∷ []
words_in EndRow = []

-- ---- their places

-- each name in the one line stands on a line above each in the other
abbrev pub IsAbove : Row → Row → Type 0
IsAbove row below = All (λ word. All (λ other. word.line < other.line) (words_in below)) (words_in row)

-- the one stands on the line of the other, and left of it
abbrev pub IsLeftOf : Word → Word → Type 0
IsLeftOf word other = (word.line ≡ other.line) × (word.column < other.column)

-- Each line of the diagram stands above the later ones, and in a line each name left of the later ones.
pub record HasRisingWords (p : Parsed) : Type 0 where
  pub lines : AllPairs IsAbove (rows_of p)
  pub columns : All (λ row. AllPairs IsLeftOf (words_in row)) (rows_of p)
