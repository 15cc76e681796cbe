-- What a line of a summary and the lines of its text say, or their first fault.
use Rattle.std.specs.Prelude.{◌≡◌, ℕ, Bool, ◌&&◌, ◌==◌, nat_lt, if◌then◌else◌, List, [], ◌++◌, length, map, Option, Some, None, Result, Ok, Err, codes}
use Rattle.std.specs.List.{flat_map, list_any}
use Rattle.std.specs.Option.{option_map_or}
use Rattle.std.specs.Str.{bytes_eq}
use Rattle.nego_base.specs.declared.fault.FaultKind.TheVariants as fault_kinds
use Rattle.nego_base.specs.declared.fault.Fault.{Fault}
use Rattle.nego_base.specs.declared.fault.ReadFaults.{ReadFaults}
use Rattle.nego_base.specs.declared.line.Word.{Word}
use Rattle.nego_base.specs.declared.line.Line.{Line}
use Rattle.nego_base.specs.Grammar.{at_word, least_words, exact_words, name_word, number_word}
use Rattle.nego_base.specs.LineAnswers.{Fails}
use Rattle.nego_base.specs.LineWalk.{word_in, kind_of_line, walk_lines}
use Rattle.nego_base.specs.Results.{◌>>=◌}
use Rattle.nego_model.specs.Expression.{PlainNode, Base, Join, Then, Star}
use Rattle.nego_model.specs.Summary.{PlainFinal, PlainSummary}
use Rattle.nego_expr.specs.declared.summary.Summary.{Summary}
use Rattle.nego_expr.specs.SummaryText.{plain_summary}
use Rattle.nego_expr.specs.Use.{most_nodes}
use Rattle.nego_cert.specs.declared.summary_row.Form.{Form}
use Rattle.nego_cert.specs.declared.summary_row.Form.TheVariants as forms
use Rattle.nego_cert.specs.declared.summary_row.SummaryKind.{SummaryKind}
use Rattle.nego_cert.specs.declared.summary_row.SummaryKind.TheVariants as kinds
use Rattle.nego_cert.specs.Reading.{number_in, header_in}
use Rattle.nego_cert.specs.SummaryLines.{form_words}
use Rattle.nego_cert.specs.SummaryTable.{SummaryLine, HeaderLine, NodeLine, FinalLine, EndLine, Known, node_of, final_of, summary_lines}

-- ---- in a word

-- the number that a word is, if it passes a test
unfoldable pub number_if : (ℕ → Bool) → Word → Result ℕ Fault
number_if test word = do
  n ← number_word word
  if test n then Ok n else Err (at_word fault_kinds.Number word)

-- the form that a text says
unfoldable pub form_named : List ℕ → Option Form
form_named text =
    if bytes_eq text (codes "base") then Some forms.Base else (if bytes_eq text (codes "join") then Some forms.Join
    else (if bytes_eq text (codes "then") then Some forms.Then else (if bytes_eq text (codes "star") then Some forms.Star else None)))

unfoldable pub form_word_of : Word → Result Form Fault
form_word_of word = option_map_or (λ form. Ok form) (form_named word.text) (Err (at_word fault_kinds.Word word))

-- that a word is none of these names
unfoldable pub new_word : List (List ℕ) → Word → Result (List ℕ) Fault
new_word names word = if list_any (λ name. bytes_eq name word.text) names then Err (at_word fault_kinds.Name word) else Ok word.text

-- ---- in a line

-- the number of this place
unfoldable pub place_in : ℕ → Line → Result ℕ Fault
place_in i line = word_in line 1 >>= λ word. number_if (λ n. n == i && nat_lt i most_nodes) word

-- a number below this one, at a place of a line
unfoldable pub below_in : ℕ → Line → ℕ → Result ℕ Fault
below_in nodes line i = word_in line i >>= λ word. number_if (λ n. nat_lt n nodes) word

-- two of them
unfoldable pub two_below : ℕ → Line → Result (ℕ × ℕ) Fault
two_below nodes line = do
  x ← below_in nodes line 3
  y ← below_in nodes line 4
  Ok (x, y)

-- what a node of a form is made of
unfoldable pub made_of : Form → ℕ → Line → Result PlainNode Fault
made_of forms.Base nodes line = number_in line 3 >>= λ o. Ok (Base o)
made_of forms.Join nodes line = two_below nodes line >>= λ xy. Ok (Join xy.0 xy.1)
made_of forms.Then nodes line = two_below nodes line >>= λ xy. Ok (Then xy.0 xy.1)
made_of forms.Star nodes line = below_in nodes line 3 >>= λ x. Ok (Star x)

-- the node in a line, where there are so many before it
unfoldable pub node_in : ℕ → Line → Result PlainNode Fault
node_in nodes line = do
  counted ← least_words 3 line
  word ← word_in line 2
  form ← form_word_of word
  sized ← exact_words (form_words form) line
  place ← place_in nodes line
  made_of form nodes line

-- the final outcome in a line
unfoldable pub final_in : ℕ → List (List ℕ) → Line → Result PlainFinal Fault
final_in nodes names line = do
  counted ← exact_words 3 line
  word ← word_in line 1
  named ← name_word word
  name ← new_word names word
  node ← below_in nodes line 2
  Ok (record { name = name; node = node })

-- what a line of a kind says
unfoldable pub said_by : ℕ → List (List ℕ) → SummaryKind → Line → Result SummaryLine Fault
said_by nodes names kinds.Header line = header_in line >>= λ _. Ok HeaderLine
said_by nodes names kinds.Node line = node_in nodes line >>= λ node. Ok (NodeLine node)
said_by nodes names kinds.Final line = final_in nodes names line >>= λ outcome. Ok (FinalLine outcome)
said_by nodes names kinds.End line = exact_words 1 line >>= λ _. Ok EndLine

-- ---- in a text

abbrev pub line_in : Known → SummaryKind → Line → Result SummaryLine Fault
line_in known kind line = said_by known.nodes known.names kind line

-- what is known where so much was read
abbrev pub known_of : List SummaryKind → PlainSummary → Known
known_of may summary = record { may = may; nodes = length summary.nodes; names = map (λ outcome. outcome.name) summary.finals }

abbrev pub nothing_yet : PlainSummary
nothing_yet = record { nodes = []; finals = [] }

-- of which kind a line is, where these kinds may stand
abbrev pub kind_in : List SummaryKind → Line → Result SummaryKind Fault
kind_in may line = kind_of_line summary_lines line_in (known_of may nothing_yet) line

-- what the lines say, of which the first may be of these kinds
abbrev pub walk : Fault → Known → List Line → Result (List SummaryLine) Fault
walk missing known lines = walk_lines summary_lines line_in missing known lines

-- the summary that lines say, and the one with a line more
abbrev pub summary_in : List SummaryLine → PlainSummary
summary_in said = record { nodes = flat_map node_of said; finals = flat_map final_of said }

abbrev pub with_line : PlainSummary → SummaryLine → PlainSummary
with_line summary said = record { nodes = summary.nodes ++ node_of said; finals = summary.finals ++ final_of said }

-- the summary has become the one with what was read, or the answer comes of its fault
abbrev pub Adds : PlainSummary → PlainSummary → Result (Unit {0}) ReadFaults → Result SummaryLine Fault → Type 0
Adds old new (Ok _) read = (said : SummaryLine) × (read ≡ Ok said) × (new ≡ with_line old said)
Adds old new (Err e) read = Fails e read

-- what is answered is the summary that the lines say, or comes of their fault
abbrev pub ReadsSummary : Result Summary ReadFaults → Result (List SummaryLine) Fault → Type 0
ReadsSummary (Ok summary) said = (found : List SummaryLine) × (said ≡ Ok found) × (plain_summary summary ≡ summary_in found)
ReadsSummary (Err e) said = Fails e said
