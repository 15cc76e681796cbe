-- What `make` does, which reads nothing.
use Rattle.std.specs.Prelude.{◌≡◌, ℕ, ◌≤◌, ⊤, List, [], ◌++◌, length, codes, decimal}
use Rattle.nego_model.specs.Diagram.{PlainDiagram}
use Rattle.nego_reader.specs.declared.parsed.Parsed.{Parsed}
use Rattle.nego_reader.specs.Content.{content_of}
use Rattle.nego_reader.specs.Printing.{printed_diagram}
use Rattle.nego_shape.specs.Naming.{diagram_in}
use Rattle.nego_make.specs.Generated.{generated}
use Rattle.nego_expr.specs.Work.{PlainWork}
use Rattle.nego_expr.specs.Use.{PlainUse}
use Rattle.nego_cli.specs.declared.command.Command.{Command}
use Rattle.nego_cli.specs.declared.command.Command.TheVariants as commands
use Rattle.nego_cli.specs.declared.status.Status.{Status}
use Rattle.nego_cli.specs.declared.status.Status.TheVariants.{Done}
use Rattle.nego_cli.specs.declared.verdict.Verdict.TheVariants.{Sound}
use Rattle.nego_cli.specs.Parts.{Read}
use Rattle.nego_cli.specs.Turn.{Turn, OnlyTells}
use Rattle.nego_cli.specs.Verdict.{IsReducedTo}

-- the diagram of n atoms that is made
abbrev pub made_diagram : ℕ → PlainDiagram
made_diagram n = diagram_in (generated n)

-- It tells a text behind no part.
abbrev pub MakeTurn : List Read → Turn → Type 0
MakeTurn = OnlyTells

-- the words of the line behind the diagram: how many atoms and outcomes it has, and behind them how many uses are made of it,
-- and how many nodes they leave
abbrev pub size_words : ℕ → ℕ → List ℕ → List ℕ
size_words atoms outcomes rest = codes "made atoms " ++ (decimal atoms ++ (codes " outcomes " ++ (decimal outcomes ++ rest)))

abbrev pub use_words : ℕ → ℕ → List ℕ → List ℕ
use_words uses nodes rest = codes " uses " ++ (decimal uses ++ (codes " nodes " ++ (decimal nodes ++ (codes "\n" ++ rest))))

-- the line behind the diagram, after so many uses, which leave so many nodes
abbrev pub made_line : PlainDiagram → ℕ → ℕ → List ℕ → List ℕ
made_line d uses nodes rest = size_words (length d.atoms) (length d.outcomes) (use_words uses nodes rest)

-- The text is the printed form of the diagram of n atoms, and a line behind it: how many atoms and outcomes it has, how many
-- uses `reduce` makes of it, by which it is sound, and how many nodes they leave.
pub record IsMadeText (n : ℕ) (text : List ℕ) : Type 0 where
  pub value : Parsed
  pub uses : List PlainUse
  pub left : PlainWork
  pub content : content_of value ≡ generated n
  pub reduced : IsReducedTo (made_diagram n) uses left Sound
  pub printed : text ≡ printed_diagram value ++ made_line (made_diagram n) (length uses) (length left.nodes) []

-- It tells the diagram.
abbrev pub MakeText : ℕ → List Read → Status → List ℕ → Type 0
MakeText n reads status text = (status ≡ Done) × IsMadeText n text

-- The number of atoms of a command that makes a diagram is from 2 to 64.
abbrev pub HasSize : Command → Type 0
HasSize (commands.Make n) = (2 ≤ n) × (n ≤ 64)
HasSize _ = ⊤
