-- The diagram that a text spells, or its first fault, from what its lines say.
use Rattle.std.proofs.Common.{◌≡◌, ℕ, List, [], ◌∷◌, None, Result, Ok, Err, ◌⊎◌, inl, inr, refl, sym, subst, ◌∙◌}
use Rattle.std.specs.Prelude.{IfOk, IfErr}
use Rattle.nego_base.specs.declared.fault.Fault.{Fault}
use Rattle.nego_base.specs.declared.fault.ScanAnswer.{ScanAnswer}
use Rattle.nego_base.specs.declared.fault.ScanAnswer.TheVariants as scan_answers
use Rattle.nego_base.specs.declared.fault.ReadFaults.{ReadFaults}
use Rattle.nego_base.specs.declared.fault.ReadFaults.TheVariants as faults
use Rattle.nego_base.specs.declared.line.Line.{Line}
use Rattle.nego_base.specs.Scan.{scan_fault, scanned, count_lines, ScanHasCause, read_fault_of}
use Rattle.nego_base.specs.LineGrammar.{IsTextOf, missing_end}
use Rattle.nego_base.proofs.Cases.{same_Ok}
use Rattle.nego_base.proofs.LineFaults.{Reads, fault_read, text_read, text_again, fault_once, fault_or_text, fault_else_text}
use Rattle.nego_reader.specs.declared.parsed.Parsed.{Parsed}
use Rattle.nego_reader.specs.Rows.{Row, Nego, rows_of}
use Rattle.nego_reader.specs.Reading.{row_in, walk}
use Rattle.nego_base.specs.LineAnswers.{Gives}
use Rattle.nego_reader.specs.Answer.{ReadHasCause, SpellsNothing}
use Rattle.nego_reader.specs.Spelling.{Spells}
use Rattle.nego_reader.specs.Table.{diagram_lines, IsFirstFault}
use Rattle.nego_reader.proofs.Built.{same_diagram}
use Rattle.nego_reader.proofs.LineDemands.{row_by}
use Rattle.nego_reader.proofs.LineSpelling.{row_takes, row_kind, row_again, first_again}
use Rattle.nego_reader.proofs.Orders.{same_kind, order_of, say_order, say_each, order_say}
use Rattle.nego_reader.proofs.Stages.{order_diagram}

-- diagrams are read by their grammar
reads : Reads diagram_lines row_in
reads = record {
  apart = same_kind;
  answers = λ kinds kind line. row_by line kind;
  takes = λ kinds kind line first row at keyword h. (row_takes kind line first row at keyword h, row_kind kind line row h);
  again = λ kinds line row h. row_again line row h;
  begins = λ kinds line row h. first_again line row h;
}

-- what a text's lines say, or their first fault
abbrev said : List ℕ → Result (List Row) Fault
said bytes = walk (missing_end (count_lines bytes)) (Nego ∷ []) (scanned bytes)

-- ---- a text that spells a diagram

-- it is one of the grammar, which says the diagram's lines
spelled_text : (bytes : List ℕ) (p : Parsed) → Spells bytes p → IsTextOf diagram_lines bytes (rows_of p)
spelled_text bytes p h =
    let say = order_say (Nego ∷ []) (scanned bytes) (rows_of p) (order_of p) h.lines in
    record { scans = h.scans; say = say.0; ends = say.1 }

text_spelled : (bytes : List ℕ) (p : Parsed) → IsTextOf diagram_lines bytes (rows_of p) → Spells bytes p
text_spelled bytes p h = record { scans = h.scans; lines = say_each (Nego ∷ []) (scanned bytes) (rows_of p) h.say }

-- it spells no other
pub spelled_once : (bytes : List ℕ) (p q : Parsed) → Spells bytes p → Spells bytes q → p ≡ q
spelled_once bytes p q h k =
    same_diagram p q (same_Ok {E = Fault} (rows_of p) (rows_of q) (sym (text_again diagram_lines row_in reads bytes (rows_of p) (spelled_text bytes p h)) ∙ text_again diagram_lines row_in reads bytes (rows_of q) (spelled_text bytes q k)))

-- and has no fault
pub spelled_sound : (bytes : List ℕ) (p : Parsed) (fault : Fault) → Spells bytes p → IsFirstFault bytes fault → ⊥
spelled_sound bytes p fault h k = fault_or_text diagram_lines row_in reads bytes (rows_of p) fault (spelled_text bytes p h) k

-- each other text has one
pub spelled_else_fault : (bytes : List ℕ) → ((p : Parsed) × Spells bytes p) ⊎ ((fault : Fault) × IsFirstFault bytes fault)
spelled_else_fault bytes = elim (fault_else_text diagram_lines row_in reads bytes) [
  | inl text ↦ (
      let p = order_diagram text.0 (say_order (Nego ∷ []) (scanned bytes) text.0 text.1.say text.1.ends) in
      inl (p.0, text_spelled bytes p.0 (subst (IsTextOf diagram_lines bytes) p.1 text.1)))
  | inr fault ↦ inr fault
]

pub first_fault_once : (bytes : List ℕ) (one two : Fault) → IsFirstFault bytes one → IsFirstFault bytes two → one ≡ two
first_fault_once = fault_once diagram_lines row_in reads

-- ---- the answers of the reader

pub scan_caused : (answer : ScanAnswer) (bytes : List ℕ) → ScanHasCause answer bytes → ReadHasCause (read_fault_of answer) bytes
scan_caused (scan_answers.Off fault) bytes h = inl h
scan_caused scan_answers.Memory bytes h = tt

-- what is read of the text's lines is what they say
said_is : (bytes : List ℕ) (lines lines' : List Line) (count : ℕ) → lines' ≡ scanned bytes → count ≡ count_lines bytes → lines ≡ lines' → said bytes ≡ walk (missing_end count) (Nego ∷ []) lines
said_is bytes lines lines' count e f g = rw (← f, ← e, ← g) refl

module _ (result : Result Parsed ReadFaults) (bytes : List ℕ) (lines lines' : List Line) (count : ℕ) (scans : scan_fault bytes ≡ None) (e : lines' ≡ scanned bytes) (f : count ≡ count_lines bytes) (g : lines ≡ lines') where
  pub walk_caused : Gives rows_of result (walk (missing_end count) (Nego ∷ []) lines) → IfErr result (λ e. ReadHasCause e bytes)
  walk_caused h = by_answer result h
    where
      by_answer : (r : Result Parsed ReadFaults) → Gives rows_of r (walk (missing_end count) (Nego ∷ []) lines) → IfErr r (λ e. ReadHasCause e bytes)
      by_answer (Ok p) h = tt
      by_answer (Err faults.Memory) h = tt
      by_answer (Err (faults.Off fault)) h = fault_read diagram_lines row_in reads bytes fault scans (said_is bytes lines lines' count e f g ∙ h)

  pub walk_spelled : Gives rows_of result (walk (missing_end count) (Nego ∷ []) lines) → IfOk result (λ p. Spells bytes p)
  walk_spelled h = by_answer result h
    where
      by_answer : (r : Result Parsed ReadFaults) → Gives rows_of r (walk (missing_end count) (Nego ∷ []) lines) → IfOk r (λ p. Spells bytes p)
      by_answer (Ok p) h = text_spelled bytes p (text_read diagram_lines row_in reads bytes (rows_of p) scans (said_is bytes lines lines' count e f g ∙ h))
      by_answer (Err e) h = tt

pub is_unspelled : (result : Result Parsed ReadFaults) (bytes : List ℕ) → IfErr result (λ e. ReadHasCause e bytes) → IfErr result (λ e. SpellsNothing e bytes)
is_unspelled (Ok p) bytes h = tt
is_unspelled (Err faults.Memory) bytes h = tt
is_unspelled (Err (faults.Off fault)) bytes h = λ p spelled. spelled_sound bytes p fault spelled h
