-- Lines that are appended to a text one by one.
use Rattle.std.proofs.Common.{◌≡◌, ◌∙◌, ℕ, ◌+◌, List, [], ◌∷◌, ◌++◌, length, ap, refl, arith}
use Rattle.nego_model.specs.Expression.{PlainNode}
use Rattle.nego_model.specs.Summary.{PlainFinal}
use Rattle.nego_base.specs.Appending.{Appends}
use Rattle.nego_expr.specs.SummaryText.{node_line, node_lines, final_line, final_lines}

-- two appendings, one after the other
pub appends_then : (old mid new : List ℕ) (first next : List ℕ → List ℕ) → Appends old mid first → Appends mid new next → Appends old new (λ rest. first (next rest))
appends_then old mid new first next before then rest = then rest ∙ before (next rest)

-- the lines of nodes and of one more
pub node_lines-more : (i : ℕ) (nodes : List PlainNode) (node : PlainNode) (rest : List ℕ) → node_lines i (nodes ++ node ∷ []) rest ≡ node_lines i nodes (node_line (i + length nodes) node rest)
node_lines-more i [] node rest = ap (λ k. node_line k node rest) (omega arith)
node_lines-more i (first ∷ nodes) node rest =
    let at : (i + 1) + length nodes ≡ i + length (first ∷ nodes) = omega arith in
    ap (node_line i first) (node_lines-more (i + 1) nodes node rest ∙ ap (λ k. node_lines (i + 1) nodes (node_line k node rest)) at)

-- the lines of final outcomes and of one more
pub final_lines-more : (outcomes : List PlainFinal) (outcome : PlainFinal) (rest : List ℕ) → final_lines (outcomes ++ outcome ∷ []) rest ≡ final_lines outcomes (final_line outcome rest)
final_lines-more [] outcome rest = refl
final_lines-more (first ∷ outcomes) outcome rest = ap (final_line first) (final_lines-more outcomes outcome rest)
