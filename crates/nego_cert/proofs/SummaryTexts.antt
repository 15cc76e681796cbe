-- The summary that a text spells, or its first fault, from what its lines say.
use Rattle.std.proofs.Common.{◌≡◌, ℕ, ◌+◌, List, [], ◌∷◌, ◌++◌, map, None, Result, Ok, Err, refl, sym, ap, ap₂, subst, ◌∙◌, arith}
use Rattle.std.specs.Prelude.{IfOk, IfErr}
use Rattle.std.specs.List.{Contains, flat_map}
use Rattle.std.proofs.lemmas.Option.{none-some}
use Rattle.nego_base.specs.declared.fault.ReadFaults.{ReadFaults}
use Rattle.nego_base.specs.declared.fault.ReadFaults.TheVariants as faults
use Rattle.nego_base.specs.declared.line.Line.{Line}
use Rattle.nego_base.specs.LineGrammar.{Say, behind_rows, IsTextOf, missing_end}
use Rattle.nego_base.specs.Scan.{scan_fault, scanned, count_lines}
use Rattle.nego_base.proofs.LineFaults.{named_again}
use Rattle.nego_model.specs.Expression.{PlainNode}
use Rattle.nego_model.specs.Summary.{PlainFinal, PlainSummary}
use Rattle.nego_expr.specs.declared.summary.Summary.{Summary}
use Rattle.nego_expr.specs.SummaryText.{plain_summary}
use Rattle.nego_cert.specs.declared.summary_row.SummaryKind.{SummaryKind}
use Rattle.nego_cert.specs.declared.summary_row.SummaryKind.TheVariants as kinds
use Rattle.nego_cert.specs.SummaryLines.{keyword}
use Rattle.nego_cert.specs.SummaryTable.{SummaryLine, HeaderLine, NodeLine, FinalLine, EndLine, Known, node_of, final_of, lines_of, summary_lines, SpellsSummary, SummaryHasCause, SpellsNoSummary}
use Rattle.nego_cert.specs.SummaryReading.{line_in, walk, known_of, nothing_yet, summary_in, ReadsSummary}
use Rattle.nego_cert.specs.TextLaws.{SpellOneOrHaveAFault}
use Rattle.nego_cert.proofs.SummaryRows.{same_kind}
use Rattle.nego_cert.proofs.SummarySpelling.{reads}
use Rattle.nego_cert.proofs.TextSpelling as text_laws

-- ---- the order of lines

nothing_behind : (nodes : ℕ) (names : List (List ℕ)) (lines : List Line) (said : List SummaryLine) → Say summary_lines (record { may = []; nodes = nodes; names = names }) lines said → said ≡ []
nothing_behind nodes names lines [] h = refl
nothing_behind nodes names [] (row ∷ said) h = absurd h
nothing_behind nodes names (line ∷ lines) (row ∷ said) h = absurd (let there = h.0.1 in omega arith)

abbrev finals_in : List SummaryLine → List PlainFinal
finals_in said = flat_map final_of said

abbrev nodes_in : List SummaryLine → List PlainNode
nodes_in said = flat_map node_of said

-- the lines are these final outcomes and the end, and say no node
record AreFinals (said : List SummaryLine) : Type 0 where
  are : said ≡ map FinalLine (finals_in said) ++ EndLine ∷ []
  no_node : nodes_in said ≡ []

behind_final : (known : Known) (lines : List Line) (said : List SummaryLine) → known.may ≡ kinds.Final ∷ kinds.End ∷ [] → Say summary_lines known lines said → (behind_rows summary_lines known said).may ≡ [] → AreFinals said
behind_final known [] [] may h ends = absurd (let e : ◌≡◌ {A = List SummaryKind} [] (kinds.Final ∷ kinds.End ∷ []) = sym ends ∙ may in cc)
behind_final known [] (row ∷ said) may h ends = absurd h
behind_final known (line ∷ lines) [] may h ends = absurd h
behind_final known (line ∷ lines) (HeaderLine ∷ said) may h ends = absurd (none-some kinds.Header (named_again keyword (keyword kinds.Header) same_kind (kinds.Final ∷ kinds.End ∷ []) kinds.Header (subst (λ (ks : List SummaryKind). Contains ks kinds.Header) may h.0) refl))
behind_final known (line ∷ lines) (NodeLine node ∷ said) may h ends = absurd (none-some kinds.Node (named_again keyword (keyword kinds.Node) same_kind (kinds.Final ∷ kinds.End ∷ []) kinds.Node (subst (λ (ks : List SummaryKind). Contains ks kinds.Node) may h.0) refl))
behind_final known (line ∷ lines) (FinalLine outcome ∷ said) may h ends =
    let later = behind_final (record { may = kinds.Final ∷ kinds.End ∷ []; nodes = known.nodes + 0; names = known.names ++ outcome.name ∷ [] }) lines said refl h.2 ends in
    record { are = ap (λ (rs : List SummaryLine). FinalLine outcome ∷ rs) later.are; no_node = later.no_node }
behind_final known (line ∷ lines) (EndLine ∷ said) may h ends =
    let none = nothing_behind (known.nodes + 0) (known.names ++ []) lines said h.2 in
    record { are = ap (λ (rs : List SummaryLine). EndLine ∷ rs) none ∙ ap (λ (rs : List SummaryLine). map FinalLine (finals_in rs) ++ EndLine ∷ []) (sym none); no_node = ap nodes_in none }

-- the lines are these nodes, these final outcomes and the end
behind_header : (known : Known) (lines : List Line) (said : List SummaryLine) → known.may ≡ kinds.Node ∷ kinds.Final ∷ [] → Say summary_lines known lines said → (behind_rows summary_lines known said).may ≡ [] →
    said ≡ map NodeLine (nodes_in said) ++ (map FinalLine (finals_in said) ++ EndLine ∷ [])
behind_header known [] [] may h ends = absurd (let e : ◌≡◌ {A = List SummaryKind} [] (kinds.Node ∷ kinds.Final ∷ []) = sym ends ∙ may in cc)
behind_header known [] (row ∷ said) may h ends = absurd h
behind_header known (line ∷ lines) [] may h ends = absurd h
behind_header known (line ∷ lines) (HeaderLine ∷ said) may h ends = absurd (none-some kinds.Header (named_again keyword (keyword kinds.Header) same_kind (kinds.Node ∷ kinds.Final ∷ []) kinds.Header (subst (λ (ks : List SummaryKind). Contains ks kinds.Header) may h.0) refl))
behind_header known (line ∷ lines) (NodeLine node ∷ said) may h ends =
    ap (λ (rs : List SummaryLine). NodeLine node ∷ rs) (behind_header (record { may = kinds.Node ∷ kinds.Final ∷ []; nodes = known.nodes + 1; names = known.names ++ [] }) lines said refl h.2 ends)
behind_header known (line ∷ lines) (FinalLine outcome ∷ said) may h ends =
    let later = behind_final (record { may = kinds.Final ∷ kinds.End ∷ []; nodes = known.nodes + 0; names = known.names ++ outcome.name ∷ [] }) lines said refl h.2 ends in
    ap (λ (rs : List SummaryLine). FinalLine outcome ∷ rs) later.are ∙ ap (λ (ns : List PlainNode). map NodeLine ns ++ (FinalLine outcome ∷ (map FinalLine (finals_in said) ++ EndLine ∷ []))) (sym later.no_node)
behind_header known (line ∷ lines) (EndLine ∷ said) may h ends = absurd (none-some kinds.End (named_again keyword (keyword kinds.End) same_kind (kinds.Node ∷ kinds.Final ∷ []) kinds.End (subst (λ (ks : List SummaryKind). Contains ks kinds.End) may h.0) refl))

abbrev at_first : Known
at_first = known_of (kinds.Header ∷ []) nothing_yet

early : (kind : SummaryKind) → Contains (kinds.Header ∷ []) kind → kind ≡ kinds.Header
early kinds.Header h = refl
early kinds.Node h = absurd (none-some kinds.Node (named_again keyword (keyword kinds.Node) same_kind (kinds.Header ∷ []) kinds.Node h refl))
early kinds.Final h = absurd (none-some kinds.Final (named_again keyword (keyword kinds.Final) same_kind (kinds.Header ∷ []) kinds.Final h refl))
early kinds.End h = absurd (none-some kinds.End (named_again keyword (keyword kinds.End) same_kind (kinds.Header ∷ []) kinds.End h refl))

said_lines : (lines : List Line) (said : List SummaryLine) → Say summary_lines at_first lines said → (behind_rows summary_lines at_first said).may ≡ [] → said ≡ lines_of (summary_in said)
said_lines [] [] h ends = absurd cc
said_lines [] (row ∷ said) h ends = absurd h
said_lines (line ∷ lines) [] h ends = absurd h
said_lines (line ∷ lines) (HeaderLine ∷ said) h ends = ap (λ (rs : List SummaryLine). HeaderLine ∷ rs) (behind_header (record { may = kinds.Node ∷ kinds.Final ∷ []; nodes = 0; names = [] }) lines said refl h.2 ends)
said_lines (line ∷ lines) (NodeLine node ∷ said) h ends = absurd (let e = early kinds.Node h.0 in cc)
said_lines (line ∷ lines) (FinalLine outcome ∷ said) h ends = absurd (let e = early kinds.Final h.0 in cc)
said_lines (line ∷ lines) (EndLine ∷ said) h ends = absurd (let e = early kinds.End h.0 in cc)

-- ---- a text that spells a summary

nodes_of_finals : (finals : List PlainFinal) → nodes_in (map FinalLine finals ++ EndLine ∷ []) ≡ []
nodes_of_finals [] = refl
nodes_of_finals (outcome ∷ finals) = nodes_of_finals finals

nodes_of_lines : (nodes : List PlainNode) (finals : List PlainFinal) → nodes_in (map NodeLine nodes ++ (map FinalLine finals ++ EndLine ∷ [])) ≡ nodes
nodes_of_lines [] finals = nodes_of_finals finals
nodes_of_lines (node ∷ nodes) finals = ap (λ (ns : List PlainNode). node ∷ ns) (nodes_of_lines nodes finals)

finals_of_finals : (finals : List PlainFinal) → finals_in (map FinalLine finals ++ EndLine ∷ []) ≡ finals
finals_of_finals [] = refl
finals_of_finals (outcome ∷ finals) = ap (λ (os : List PlainFinal). outcome ∷ os) (finals_of_finals finals)

finals_of_lines : (nodes : List PlainNode) (finals : List PlainFinal) → finals_in (map NodeLine nodes ++ (map FinalLine finals ++ EndLine ∷ [])) ≡ finals
finals_of_lines [] finals = finals_of_finals finals
finals_of_lines (node ∷ nodes) finals = finals_of_lines nodes finals

-- the summary that its lines say
lines_say : (summary : PlainSummary) → summary_in (lines_of summary) ≡ summary
lines_say summary = ap₂ (λ (ns : List PlainNode) (os : List PlainFinal). record { nodes = ns; finals = os }) (nodes_of_lines summary.nodes summary.finals) (finals_of_lines summary.nodes summary.finals)

whole : (bytes : List ℕ) (said : List SummaryLine) → IsTextOf summary_lines bytes said → said ≡ lines_of (summary_in said)
whole bytes said h = said_lines (scanned bytes) said h.say h.ends

pub one_or_fault : SpellOneOrHaveAFault summary_lines lines_of
one_or_fault = text_laws.one_or_fault summary_lines line_in reads lines_of summary_in lines_say whole

-- ---- the answers of the reader

module _ (result : Result Summary ReadFaults) (bytes : List ℕ) (lines lines' : List Line) (count : ℕ) (scans : scan_fault bytes ≡ None) (e : lines' ≡ scanned bytes) (f : count ≡ count_lines bytes) (g : lines ≡ lines') where
  pub walk_caused : ReadsSummary result (walk (missing_end count) at_first lines) → IfErr result (λ e. SummaryHasCause e bytes)
  walk_caused h = by_answer result h
    where
      by_answer : (r : Result Summary ReadFaults) → ReadsSummary r (walk (missing_end count) at_first lines) → IfErr r (λ e. SummaryHasCause e bytes)
      by_answer (Ok s) h = tt
      by_answer (Err faults.Memory) h = tt
      by_answer (Err (faults.Off fault)) h = text_laws.walk_caused summary_lines line_in reads bytes lines lines' count scans e f g fault h

  pub walk_spelled : ReadsSummary result (walk (missing_end count) at_first lines) → IfOk result (λ s. SpellsSummary bytes (plain_summary s))
  walk_spelled h = by_answer result h
    where
      by_answer : (r : Result Summary ReadFaults) → ReadsSummary r (walk (missing_end count) at_first lines) → IfOk r (λ s. SpellsSummary bytes (plain_summary s))
      by_answer (Ok s) h = subst (SpellsSummary bytes) (sym h.2) (text_laws.text_value summary_lines line_in reads lines_of summary_in lines_say whole bytes h.0 (text_laws.walk_spelled summary_lines line_in reads bytes lines lines' count scans e f g h.0 h.1))
      by_answer (Err e) h = tt

pub is_unspelled : (result : Result Summary ReadFaults) (bytes : List ℕ) → IfErr result (λ e. SummaryHasCause e bytes) → IfErr result (λ e. SpellsNoSummary e bytes)
is_unspelled (Ok s) bytes h = tt
is_unspelled (Err faults.Memory) bytes h = tt
is_unspelled (Err (faults.Off fault)) bytes h = λ summary spelled. one_or_fault.apart bytes summary fault spelled h
