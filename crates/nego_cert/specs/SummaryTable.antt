-- The lines of a summary as a grammar: what each kind of line is asked and what it says; which text spells which summary,
-- and the first fault of a text.
use Rattle.std.specs.Prelude.{◌≡◌, ◌≢◌, ℕ, ◌+◌, ◌<◌, ◌≤◌, Bool, true, false, ◌||◌, if◌then◌else◌, List, [], ◌∷◌, ◌++◌, length, map, All, slice_get, codes, decimal, ⊤}
use Rattle.std.specs.Option.{option_map_or}
use Rattle.std.specs.Str.{bytes_eq}
use Rattle.nego_base.specs.declared.fault.FaultKind.TheVariants as fault_kinds
use Rattle.nego_base.specs.declared.fault.ReadFaults.{ReadFaults}
use Rattle.nego_base.specs.declared.fault.ReadFaults.TheVariants as faults
use Rattle.nego_base.specs.declared.line.Word.{Word}
use Rattle.nego_base.specs.declared.line.Line.{Line}
use Rattle.nego_base.specs.Name.{is_name}
use Rattle.nego_base.specs.LineGrammar.{LineGrammar, Demand, Words, LeastWords, Version, Name, Number, Own, IsNumeral, word_number, IsTextOf, IsFirstFaultOf}
use Rattle.nego_model.specs.Expression.{PlainNode, Base, Join, Then, Star}
use Rattle.nego_model.specs.Summary.{PlainFinal, PlainSummary}
use Rattle.nego_expr.specs.Use.{most_nodes}
use Rattle.nego_cert.specs.declared.summary_row.Form.{Form}
use Rattle.nego_cert.specs.declared.summary_row.SummaryKind.{SummaryKind}
use Rattle.nego_cert.specs.declared.summary_row.SummaryKind.TheVariants as kinds
use Rattle.nego_cert.specs.Table.{word_texts}
use Rattle.nego_cert.specs.SummaryLines.{keyword, followers, form_word, node_line_words, final_line_words}

-- what a line says
pub data SummaryLine : Type 0 where
  HeaderLine : SummaryLine
  NodeLine : PlainNode → SummaryLine
  FinalLine : PlainFinal → SummaryLine
  EndLine : SummaryLine

abbrev pub kind_of : SummaryLine → SummaryKind
kind_of HeaderLine = kinds.Header
kind_of (NodeLine node) = kinds.Node
kind_of (FinalLine outcome) = kinds.Final
kind_of EndLine = kinds.End

-- the lines of a summary: the header, the nodes, the final outcomes, the end
abbrev pub lines_of : PlainSummary → List SummaryLine
lines_of summary = HeaderLine ∷ (map NodeLine summary.nodes ++ (map FinalLine summary.finals ++ EndLine ∷ []))

-- What is known at a line: of which kinds it may be, how many nodes there are, and the names of the final outcomes so far.
pub record Known : Type 0 where
  pub may : List SummaryKind
  pub nodes : ℕ
  pub names : List (List ℕ)

-- What summaries alone ask of a word: that it is a form; that it is this number, and no more than there may be; that it is
-- a number below this one; that it is none of these names.
pub data SummaryDemand : Type 0 where
  OfForm : SummaryDemand
  IsPlace : ℕ → SummaryDemand
  IsBelow : ℕ → SummaryDemand
  IsNew : List (List ℕ) → SummaryDemand

abbrev pub IsAsAsked : SummaryDemand → Word → Type 0
IsAsAsked OfForm word = (form : Form) × (word.text ≡ form_word form)
IsAsAsked (IsPlace i) word = (word.text ≡ decimal i) × (i < most_nodes)
IsAsAsked (IsBelow n) word = (k : ℕ) × IsNumeral word.text k × (k < n)
IsAsAsked (IsNew names) word = All (λ name. name ≢ word.text) names

-- whether the third word of a line is one of the forms with two nodes
abbrev pub has_two : Line → Bool
has_two line = option_map_or (λ word. bytes_eq word.text (codes "join") || bytes_eq word.text (codes "then")) (slice_get line.words 2) false

abbrev pub has_outcome : Line → Bool
has_outcome line = option_map_or (λ word. bytes_eq word.text (codes "base")) (slice_get line.words 2) false

abbrev pub own_number : SummaryDemand → ℕ → Line → List (Demand SummaryDemand)
own_number asked i line = map (Own asked fault_kinds.Number) (word_number i line)

-- the numbers that a node is made of: an outcome, a node before it, or two
abbrev pub asked_numbers : ℕ → Line → List (Demand SummaryDemand)
asked_numbers nodes line =
    if has_outcome line then map Number (word_number 3 line)
    else (if has_two line then own_number (IsBelow nodes) 3 line ++ own_number (IsBelow nodes) 4 line else own_number (IsBelow nodes) 3 line)

-- what a line of each kind is asked
abbrev pub demands : Known → SummaryKind → Line → List (Demand SummaryDemand)
demands known kinds.Header line = Words 2 ∷ map (Version (codes "1")) (word_number 1 line)
demands known kinds.Node line =
    LeastWords 3 ∷ (map (Own OfForm fault_kinds.Word) (word_number 2 line)
    ++ (Words (if has_two line then 5 else 4) ∷ (own_number (IsPlace known.nodes) 1 line ++ asked_numbers known.nodes line)))
demands known kinds.Final line =
    Words 3 ∷ (map Name (word_number 1 line) ++ (map (Own (IsNew known.names) fault_kinds.Name) (word_number 1 line) ++ own_number (IsBelow known.nodes) 2 line))
demands known kinds.End line = Words 1 ∷ []

-- each node that the node is made of is before it, and each number has six digits at most
abbrev pub IsNodeAt : ℕ → PlainNode → Type 0
IsNodeAt i (Base o) = (i < most_nodes) × (o ≤ 999999)
IsNodeAt i (Join x y) = (i < most_nodes) × (x < i) × (y < i)
IsNodeAt i (Then x y) = (i < most_nodes) × (x < i) × (y < i)
IsNodeAt i (Star x) = (i < most_nodes) × (x < i)

-- what each kind of line says
abbrev pub SpellsSummaryLine : Known → Line → SummaryLine → Type 0
SpellsSummaryLine known line HeaderLine = word_texts line ≡ codes "summary" ∷ codes "1" ∷ []
SpellsSummaryLine known line (NodeLine node) = (word_texts line ≡ node_line_words known.nodes node) × IsNodeAt known.nodes node
SpellsSummaryLine known line (FinalLine outcome) =
    (word_texts line ≡ final_line_words outcome.name outcome.node) × (is_name outcome.name ≡ true) × All (λ name. name ≢ outcome.name) known.names × (outcome.node < known.nodes) × (outcome.node ≤ 999999)
SpellsSummaryLine known line EndLine = word_texts line ≡ codes "end" ∷ []

-- the nodes and the final outcomes that lines say
abbrev pub node_of : SummaryLine → List PlainNode
node_of (NodeLine node) = node ∷ []
node_of _ = []

abbrev pub final_of : SummaryLine → List PlainFinal
final_of (FinalLine outcome) = outcome ∷ []
final_of _ = []

-- what is known behind a line: how many nodes there are, and the names so far
abbrev pub behind : Known → SummaryLine → Known
behind known said = record {
  may = followers (kind_of said);
  nodes = known.nodes + length (node_of said);
  names = known.names ++ map (λ outcome. outcome.name) (final_of said);
}

-- The grammar of a summary.
abbrev pub summary_lines : LineGrammar Known SummaryKind SummaryLine SummaryDemand
summary_lines = record {
  begin = record { may = kinds.Header ∷ []; nodes = 0; names = [] };
  may_stand = λ known. known.may;
  keyword = keyword;
  demands = demands;
  Is = IsAsAsked;
  Says = SpellsSummaryLine;
  kind_of = kind_of;
  behind = λ known kind line. behind known line;
}

-- the text spells the summary: its lines say the header, the nodes by rising number, the final outcomes, and the end
abbrev pub SpellsSummary : List ℕ → PlainSummary → Type 0
SpellsSummary bytes summary = IsTextOf summary_lines bytes (lines_of summary)

-- where an answer comes that isn't a summary: the fault is the text's first; want of memory is free
abbrev pub SummaryHasCause : ReadFaults → List ℕ → Type 0
SummaryHasCause faults.Memory bytes = ⊤
SummaryHasCause (faults.Off fault) bytes = IsFirstFaultOf summary_lines bytes fault

-- a text that is off its grammar spells nothing
abbrev pub SpellsNoSummary : ReadFaults → List ℕ → Type 0
SpellsNoSummary faults.Memory bytes = ⊤
SpellsNoSummary (faults.Off fault) bytes = (summary : PlainSummary) → ¬ (SpellsSummary bytes summary)
