-- The text of a summary. Every line ends with a newline.
use Rattle.std.specs.Prelude.{ℕ, ◌+◌, List, [], ◌∷◌, ◌++◌, map, codes, decimal}
use Rattle.nego_model.specs.Expression.{PlainNode, Base, Join, Then, Star}
use Rattle.nego_model.specs.Summary.{PlainFinal, PlainSummary}
use Rattle.nego_expr.specs.declared.summary.Final.{Final}
use Rattle.nego_expr.specs.declared.summary.Summary.{Summary}

-- a final outcome, without the wrapping of its node
abbrev pub plain_final : Final → PlainFinal
plain_final outcome = record { name = outcome.name; node = outcome.node.0 }

-- a summary, without the room for more nodes
abbrev pub plain_summary : Summary → PlainSummary
plain_summary summary = record { nodes = summary.nodes.nodes; finals = map plain_final summary.finals }

-- what a node is, before the rest of a text
abbrev pub node_words : PlainNode → List ℕ → List ℕ
node_words (Base o) rest = codes "base " ++ (decimal o ++ rest)
node_words (Join x y) rest = codes "join " ++ (decimal x ++ (codes " " ++ (decimal y ++ rest)))
node_words (Then x y) rest = codes "then " ++ (decimal x ++ (codes " " ++ (decimal y ++ rest)))
node_words (Star x) rest = codes "star " ++ (decimal x ++ rest)

-- a node's line, of number i, before the rest of a text
abbrev pub node_line : ℕ → PlainNode → List ℕ → List ℕ
node_line i node rest = codes "node " ++ (decimal i ++ (codes " " ++ node_words node (codes "\n" ++ rest)))

-- a line for each node, from number i on
abbrev pub node_lines : ℕ → List PlainNode → List ℕ → List ℕ
node_lines i [] rest = rest
node_lines i (node ∷ nodes) rest = node_line i node (node_lines (i + 1) nodes rest)

-- a final outcome's line
abbrev pub final_line : PlainFinal → List ℕ → List ℕ
final_line outcome rest = codes "final " ++ (outcome.name ++ (codes " " ++ (decimal outcome.node ++ (codes "\n" ++ rest))))

-- a line for each final outcome
abbrev pub final_lines : List PlainFinal → List ℕ → List ℕ
final_lines [] rest = rest
final_lines (outcome ∷ outcomes) rest = final_line outcome (final_lines outcomes rest)

-- the text of a summary
abbrev pub summary_text : PlainSummary → List ℕ
summary_text summary = codes "summary 1\n" ++ node_lines 0 summary.nodes (final_lines summary.finals (codes "end\n"))
