-- The printed text of a summary that can be printed spells it, and its lines are short.
use Rattle.std.proofs.Common.{◌≡◌, ◌≢◌, ℕ, ◌+◌, ◌*◌, ◌<◌, ◌≤◌, List, [], ◌∷◌, ◌++◌, length, map, get_or, All, codes, decimal, refl, sym, ap, subst, ◌∙◌, append_assoc, arith}
use Rattle.std.proofs.lemmas.Fmt.{length-decimal-le}
use Rattle.std.proofs.lemmas.List.{length-append}
use Rattle.std.proofs.lemmas.List.Elements.{All-nil, All-cons}
use Rattle.nego_base.specs.declared.line.Line.{Line}
use Rattle.nego_base.specs.LineGrammar.{Say, behind_rows}
use Rattle.nego_base.specs.Printed.{printed_line, printed, IsPrintableWord, IsPrintable, ArePrintable}
use Rattle.nego_base.specs.Scan.{line_at}
use Rattle.nego_base.proofs.LineFaults.{named_is}
use Rattle.nego_base.proofs.NameLaws.{name_is, name_printable}
use Rattle.nego_base.proofs.PrintedLaws.{numbered, scan_fault_printed, scanned_printed}
use Rattle.nego_model.specs.Expression.{PlainNode, Base, Join, Then, Star, children}
use Rattle.nego_model.specs.Summary.{PlainFinal, PlainSummary}
use Rattle.nego_expr.specs.SummaryText.{node_line, node_lines, final_line, final_lines, summary_text}
use Rattle.nego_expr.specs.Use.{most_nodes}
use Rattle.nego_cert.specs.declared.summary_row.SummaryKind.{SummaryKind}
use Rattle.nego_cert.specs.declared.summary_row.SummaryKind.TheVariants as kinds
use Rattle.nego_cert.specs.SummaryLines.{keyword, node_line_words, final_line_words}
use Rattle.nego_cert.specs.SummaryTable.{SummaryLine, NodeLine, FinalLine, EndLine, Known, IsNodeAt, SpellsSummaryLine, lines_of, summary_lines, SpellsSummary}
use Rattle.nego_cert.specs.SummaryReading.{known_of, nothing_yet}
use Rattle.nego_cert.specs.SummaryLaws.{IsPrintableSummary, PrintedSummariesAreSpelled, PrintedSummariesAreShort}
use Rattle.nego_cert.proofs.PrintedLines.{literal, Short, number, digits, two_words, three_words, words_are, end_words, end_printable}
use Rattle.nego_cert.proofs.SummaryParts.{AreNodesFrom, nodes_from, IsFinalBehind, AreFinalsBehind, finals_behind}

-- ---- the lines of a printed summary

abbrev header_words : List (List ℕ)
header_words = codes "summary" ∷ codes "1" ∷ []

-- the lines of nodes from a number on, before others
abbrev nodes_before : ℕ → List PlainNode → List (List (List ℕ)) → List (List (List ℕ))
nodes_before i [] rest = rest
nodes_before i (node ∷ nodes) rest = node_line_words i node ∷ nodes_before (i + 1) nodes rest

abbrev finals_then_end : List PlainFinal → List (List (List ℕ))
finals_then_end finals = map (λ outcome. final_line_words outcome.name outcome.node) finals ++ end_words ∷ []

abbrev all_words : PlainSummary → List (List (List ℕ))
all_words summary = header_words ∷ nodes_before 0 summary.nodes (finals_then_end summary.finals)

node_line_is : (i : ℕ) (node : PlainNode) (rest : List ℕ) → node_line i node rest ≡ (printed_line (node_line_words i node) ++ 10 ∷ []) ++ rest
node_line_is i (Base o) rest = simp append_assoc refl
node_line_is i (Join x y) rest = simp append_assoc refl
node_line_is i (Then x y) rest = simp append_assoc refl
node_line_is i (Star x) rest = simp append_assoc refl

final_line_is : (outcome : PlainFinal) (rest : List ℕ) → final_line outcome rest ≡ (printed_line (final_line_words outcome.name outcome.node) ++ 10 ∷ []) ++ rest
final_line_is outcome rest = simp append_assoc refl

final_lines_are : (finals : List PlainFinal) → final_lines finals (codes "end\n") ≡ printed (finals_then_end finals)
unfolding printed
final_lines_are [] = refl
final_lines_are (outcome ∷ finals) = final_line_is outcome (final_lines finals (codes "end\n")) ∙ ap (λ t. (printed_line (final_line_words outcome.name outcome.node) ++ 10 ∷ []) ++ t) (final_lines_are finals)

node_lines_are : (i : ℕ) (nodes : List PlainNode) (rest : List ℕ) (words : List (List (List ℕ))) → rest ≡ printed words → node_lines i nodes rest ≡ printed (nodes_before i nodes words)
unfolding printed
node_lines_are i [] rest words h = h
node_lines_are i (node ∷ nodes) rest words h = node_line_is i node (node_lines (i + 1) nodes rest) ∙ ap (λ t. (printed_line (node_line_words i node) ++ 10 ∷ []) ++ t) (node_lines_are (i + 1) nodes rest words h)

text_is : (summary : PlainSummary) → summary_text summary ≡ printed (all_words summary)
unfolding printed
text_is summary = ap (λ t. codes "summary 1\n" ++ t) (node_lines_are 0 summary.nodes (final_lines summary.finals (codes "end\n")) (finals_then_end summary.finals) (final_lines_are summary.finals))

-- ---- how long they are

few_digits : (n : ℕ) → n < most_nodes → length (decimal n) ≤ 5
few_digits n h = length-decimal-le 5 n (omega arith) (omega arith) (omega arith)

-- the printed line of a node of one number, or of two
one_short : (i x : ℕ) (word : List ℕ) → i < most_nodes → Short x → length word ≤ 4 → length (printed_line (codes "node" ∷ decimal i ∷ word ∷ decimal x ∷ [])) ≤ 22
one_short i x word few below short =
    let d = few_digits i few in
    let e = digits x below in
    let a = length-append (decimal i) (32 ∷ (word ++ 32 ∷ decimal x)) in
    let b = length-append word (32 ∷ decimal x) in
    omega arith

two_short : (i x y : ℕ) (word : List ℕ) → i < most_nodes → x < i → y < i → length word ≤ 4 → length (printed_line (codes "node" ∷ decimal i ∷ word ∷ decimal x ∷ decimal y ∷ [])) ≤ 27
two_short i x y word few below below' short =
    let d = few_digits i few in
    let e = few_digits x (omega arith) in
    let f = few_digits y (omega arith) in
    let a = length-append (decimal i) (32 ∷ (word ++ 32 ∷ (decimal x ++ 32 ∷ decimal y))) in
    let b = length-append word (32 ∷ (decimal x ++ 32 ∷ decimal y)) in
    let c = length-append (decimal x) (32 ∷ decimal y) in
    omega arith

node_short : (i : ℕ) (node : PlainNode) → IsNodeAt i node → length (printed_line (node_line_words i node)) ≤ 27
node_short i (Base o) is = let s = one_short i o (codes "base") is.0 is.1 (omega arith) in omega arith
node_short i (Join x y) is = two_short i x y (codes "join") is.0 is.1 is.2 (omega arith)
node_short i (Then x y) is = two_short i x y (codes "then") is.0 is.1 is.2 (omega arith)
node_short i (Star x) is = let few = is.0 in let below = is.1 in let s = one_short i x (codes "star") is.0 (omega arith) (omega arith) in omega arith

final_short : (total : ℕ) (few : total ≤ most_nodes) (names : List (List ℕ)) (outcome : PlainFinal) → IsFinalBehind total names outcome → length (printed_line (final_line_words outcome.name outcome.node)) ≤ 36
final_short total few names outcome is =
    let there = is.2 in
    let name = (name_is outcome.name is.0).short in
    let d = few_digits outcome.node (omega arith) in
    let a = length-append outcome.name (32 ∷ decimal outcome.node) in
    omega arith

-- a printed line of so many bytes, before others
line_before : (words : List (List ℕ)) (most : ℕ) (rest : List ℕ) → length (printed_line words) ≤ most → length ((printed_line words ++ 10 ∷ []) ++ rest) ≤ most + 1 + length rest
line_before words most rest short =
    let a = length-append (printed_line words ++ 10 ∷ []) rest in
    let b = length-append (printed_line words) (10 ∷ []) in
    omega arith

nodes_short : (i : ℕ) (nodes : List PlainNode) (rest : List (List (List ℕ))) → AreNodesFrom i nodes → length (printed (nodes_before i nodes rest)) ≤ 28 * length nodes + length (printed rest)
unfolding printed
nodes_short i [] rest h = omega arith
nodes_short i (node ∷ nodes) rest h =
    let one = line_before (node_line_words i node) 27 (printed (nodes_before (i + 1) nodes rest)) (node_short i node h.0) in
    let others = nodes_short (i + 1) nodes rest h.1 in
    omega arith

finals_short : (total : ℕ) (few : total ≤ most_nodes) (names : List (List ℕ)) (finals : List PlainFinal) → AreFinalsBehind total names finals → length (printed (finals_then_end finals)) ≤ 37 * length finals + 4
unfolding printed
finals_short total few names [] h = omega arith
finals_short total few names (outcome ∷ finals) h =
    let one = line_before (final_line_words outcome.name outcome.node) 36 (printed (finals_then_end finals)) (final_short total few names outcome h.0) in
    let others = finals_short total few (names ++ outcome.name ∷ []) finals h.1 in
    omega arith

-- ---- the parts of a summary that can be printed

module _ (summary : PlainSummary) (h : IsPrintableSummary summary) where
  parts_nodes : AreNodesFrom 0 summary.nodes
  parts_nodes = nodes_from 0 summary.nodes (let few = h.few in omega arith) (λ j node at. subst (λ k. All (λ child. child < k) (children node)) (let e : j ≡ 0 + j = omega arith in e) (h.below j node at)) h.bases

  parts_finals : AreFinalsBehind (length summary.nodes) [] summary.finals
  parts_finals = finals_behind (length summary.nodes) [] summary.finals h.names h.differ h.there (λ k d within. All-nil (λ name. name ≢ (get_or summary.finals k d).name))

pub printed_short : PrintedSummariesAreShort
unfolding printed
printed_short summary h =
    let finals = finals_short (length summary.nodes) h.few [] summary.finals (parts_finals summary h) in
    let nodes = nodes_short 0 summary.nodes (finals_then_end summary.finals) (parts_nodes summary h) in
    let one = ap length (text_is summary) in
    omega arith

-- ---- they can be printed

-- the line of a node of one number, or of two
one_printable : (i x : ℕ) (word : List ℕ) → i < most_nodes → Short x → IsPrintableWord word → length word ≤ 4 → IsPrintable (codes "node" ∷ decimal i ∷ word ∷ decimal x ∷ [])
one_printable i x word few below fits short = record {
  filled = omega arith;
  words = All-cons IsPrintableWord (codes "node") (decimal i ∷ word ∷ decimal x ∷ []) (literal (codes "node") refl) (three_words (decimal i) word (decimal x) (number i (omega arith)) fits (number x below));
  no_comment = λ e. omega arith;
  short = (let s = one_short i x word few below short in omega arith);
}

two_printable : (i x y : ℕ) (word : List ℕ) → i < most_nodes → x < i → y < i → IsPrintableWord word → length word ≤ 4 → IsPrintable (codes "node" ∷ decimal i ∷ word ∷ decimal x ∷ decimal y ∷ [])
two_printable i x y word few below below' fits short = record {
  filled = omega arith;
  words = All-cons IsPrintableWord (codes "node") (decimal i ∷ word ∷ decimal x ∷ decimal y ∷ []) (literal (codes "node") refl)
      (All-cons IsPrintableWord (decimal i) (word ∷ decimal x ∷ decimal y ∷ []) (number i (omega arith)) (three_words word (decimal x) (decimal y) fits (number x (omega arith)) (number y (omega arith))));
  no_comment = λ e. omega arith;
  short = (let s = two_short i x y word few below below' short in omega arith);
}

node_printable : (i : ℕ) (node : PlainNode) → IsNodeAt i node → IsPrintable (node_line_words i node)
node_printable i (Base o) is = one_printable i o (codes "base") is.0 is.1 (literal (codes "base") refl) (omega arith)
node_printable i (Join x y) is = two_printable i x y (codes "join") is.0 is.1 is.2 (literal (codes "join") refl) (omega arith)
node_printable i (Then x y) is = two_printable i x y (codes "then") is.0 is.1 is.2 (literal (codes "then") refl) (omega arith)
node_printable i (Star x) is = let few = is.0 in let below = is.1 in one_printable i x (codes "star") is.0 (omega arith) (literal (codes "star") refl) (omega arith)

header_printable : IsPrintable header_words
header_printable = record { filled = omega arith; words = two_words (codes "summary") (codes "1") (literal (codes "summary") refl) (literal (codes "1") refl); no_comment = λ e. omega arith; short = omega arith }

module _ (total : ℕ) (few : total ≤ most_nodes) where
  final_printable : (names : List (List ℕ)) (outcome : PlainFinal) → IsFinalBehind total names outcome → IsPrintable (final_line_words outcome.name outcome.node)
  final_printable names outcome is =
      let there = is.2 in
      record {
        filled = omega arith;
        words = three_words (codes "final") outcome.name (decimal outcome.node) (literal (codes "final") refl) (name_printable outcome.name is.0) (number outcome.node (omega arith));
        no_comment = λ e. omega arith;
        short = (let s = final_short total few names outcome is in omega arith);
      }

  finals_printable : (names : List (List ℕ)) (finals : List PlainFinal) → AreFinalsBehind total names finals → ArePrintable (finals_then_end finals)
  finals_printable names [] h = All-cons IsPrintable end_words [] end_printable (All-nil IsPrintable)
  finals_printable names (outcome ∷ finals) h =
      All-cons IsPrintable (final_line_words outcome.name outcome.node) (finals_then_end finals) (final_printable names outcome h.0) (finals_printable (names ++ outcome.name ∷ []) finals h.1)

nodes_printable : (i : ℕ) (nodes : List PlainNode) (rest : List (List (List ℕ))) → AreNodesFrom i nodes → ArePrintable rest → ArePrintable (nodes_before i nodes rest)
nodes_printable i [] rest h more = more
nodes_printable i (node ∷ nodes) rest h more = All-cons IsPrintable (node_line_words i node) (nodes_before (i + 1) nodes rest) (node_printable i node h.0) (nodes_printable (i + 1) nodes rest h.1 more)

-- ---- what they say

abbrev behind_node : List SummaryKind
behind_node = kinds.Node ∷ kinds.Final ∷ []

abbrev behind_final : List SummaryKind
behind_final = kinds.Final ∷ kinds.End ∷ []

abbrev known : List SummaryKind → ℕ → List (List ℕ) → Known
known may nodes names = record { may = may; nodes = nodes; names = names }

abbrev SayAll : Known → ℕ → List (List (List ℕ)) → List SummaryLine → Type 0
SayAll before n words said = Say summary_lines before (numbered n words) said × ((behind_rows summary_lines before said).may ≡ [])

module _ (total : ℕ) (few : total ≤ most_nodes) where
  final_says : (may : List SummaryKind) (n nodes : ℕ) (names : List (List ℕ)) (outcome : PlainFinal) → nodes ≡ total → IsFinalBehind total names outcome →
      SpellsSummaryLine (known may nodes names) (line_at n (printed_line (final_line_words outcome.name outcome.node))) (FinalLine outcome)
  final_says may n nodes names outcome same is =
      let there = is.2 in (
        words_are n (final_line_words outcome.name outcome.node) (final_printable total few names outcome is),
        is.0,
        is.1,
        omega (arith, same, there, few),
        omega (arith, there, few),
      )

  -- behind a final outcome
  finals_say : (n nodes : ℕ) (names : List (List ℕ)) (finals : List PlainFinal) → nodes ≡ total → AreFinalsBehind total names finals → SayAll (known behind_final nodes names) n (finals_then_end finals) (map FinalLine finals ++ EndLine ∷ [])
  finals_say n nodes names [] same h = (((named_is keyword (keyword kinds.End) behind_final kinds.End refl).0, words_are n end_words end_printable, tt), refl)
  finals_say n nodes names (outcome ∷ finals) same h =
      let later = finals_say (n + 1) (nodes + 0) (names ++ outcome.name ∷ []) finals (let e : nodes + 0 ≡ total = omega (arith, same) in e) h.1 in
      (((named_is keyword (keyword kinds.Final) behind_final kinds.Final refl).0, final_says behind_final n nodes names outcome same h.0, later.0), later.1)

  -- behind the header or a node
  nodes_say : (n i : ℕ) (nodes : List PlainNode) (finals : List PlainFinal) → i + length nodes ≡ total → AreNodesFrom i nodes → 0 < length finals → AreFinalsBehind total [] finals →
      SayAll (known behind_node i []) n (nodes_before i nodes (finals_then_end finals)) (map NodeLine nodes ++ (map FinalLine finals ++ EndLine ∷ []))
  nodes_say n i [] [] same are some h = absurd (omega arith)
  nodes_say n i [] (outcome ∷ finals) same are some h =
      let later = finals_say (n + 1) (i + 0) (outcome.name ∷ []) finals same h.1 in
      (((named_is keyword (keyword kinds.Final) behind_node kinds.Final refl).0, final_says behind_node n i [] outcome (let e : i ≡ total = omega (arith, same) in e) h.0, later.0), later.1)
  nodes_say n i (node ∷ nodes) finals same are some h =
      let later = nodes_say (n + 1) (i + 1) nodes finals (let e : i + 1 + length nodes ≡ total = omega (arith, same) in e) are.1 some h in
      (((named_is keyword (keyword kinds.Node) behind_node kinds.Node refl).0, (words_are n (node_line_words i node) (node_printable i node are.0), are.0), later.0), later.1)

pub printed_spelled : PrintedSummariesAreSpelled
printed_spelled summary h =
    let nodes = parts_nodes summary h in
    let finals = parts_finals summary h in
    let printable : ArePrintable (all_words summary) =
    All-cons IsPrintable header_words (nodes_before 0 summary.nodes (finals_then_end summary.finals)) header_printable
    (nodes_printable 0 summary.nodes (finals_then_end summary.finals) nodes (finals_printable (length summary.nodes) h.few [] summary.finals finals)) in
    let later = nodes_say (length summary.nodes) h.few 2 0 summary.nodes summary.finals (omega arith) nodes h.some finals in
    let says : Say summary_lines (known_of (kinds.Header ∷ []) nothing_yet) (numbered 1 (all_words summary)) (lines_of summary) =
    ((named_is keyword (keyword kinds.Header) (kinds.Header ∷ []) kinds.Header refl).0, words_are 1 header_words header_printable, later.0) in
    let spells : SpellsSummary (printed (all_words summary)) summary =
    record {
      scans = scan_fault_printed (all_words summary) printable;
      say = subst (λ (ls : List Line). Say summary_lines (known_of (kinds.Header ∷ []) nothing_yet) ls (lines_of summary)) (sym (scanned_printed (all_words summary) printable)) says;
      ends = later.1;
    } in
    subst (λ t. SpellsSummary t summary) (sym (text_is summary)) spells
