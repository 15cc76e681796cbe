-- What texts spell by a grammar, and what a reader of them answers, from how their lines are read.
use Rattle.std.proofs.Common.{◌≡◌, ℕ, List, None, Result, Ok, Err, inl, inr, refl, sym, ap, subst, ◌∙◌}
use Rattle.nego_base.specs.declared.fault.Fault.{Fault}
use Rattle.nego_base.specs.declared.line.Line.{Line}
use Rattle.nego_base.specs.LineGrammar.{LineGrammar, IsTextOf, IsFirstFaultOf, missing_end}
use Rattle.nego_base.specs.LineWalk.{walk_lines}
use Rattle.nego_base.specs.Scan.{scan_fault, scanned, count_lines}
use Rattle.nego_base.proofs.Cases.{same_Ok}
use Rattle.nego_base.proofs.LineFaults.{Reads, fault_read, text_read, text_again, fault_once, fault_or_text, fault_else_text}
use Rattle.nego_cert.specs.TextLaws.{SpellOneOrHaveAFault}

module _ {Known Kind Row Own : Type 0} (G : LineGrammar Known Kind Row Own) (row_of : Known → Kind → Line → Result Row Fault) (reads : Reads G row_of) where
  -- ---- the answers of a reader

  module _ (bytes : List ℕ) (lines lines' : List Line) (count : ℕ) (scans : scan_fault bytes ≡ None) (e : lines' ≡ scanned bytes) (f : count ≡ count_lines bytes) (g : lines ≡ lines') where
    -- what is read of the text's lines is what they say
    said_is : walk_lines G row_of (missing_end (count_lines bytes)) G.begin (scanned bytes) ≡ walk_lines G row_of (missing_end count) G.begin lines
    said_is = rw (← f, ← e, ← g) refl

    pub walk_caused : (fault : Fault) → walk_lines G row_of (missing_end count) G.begin lines ≡ Err fault → IsFirstFaultOf G bytes fault
    walk_caused fault h = fault_read G row_of reads bytes fault scans (said_is ∙ h)

    pub walk_spelled : (rows : List Row) → walk_lines G row_of (missing_end count) G.begin lines ≡ Ok rows → IsTextOf G bytes rows
    walk_spelled rows h = text_read G row_of reads bytes rows scans (said_is ∙ h)

  -- ---- texts that spell values: a value is that of its rows, and the rows of a text are those of a value

  module _ {Value : Type 0} (rows_of : Value → List Row) (value_of : List Row → Value) (again : (value : Value) → value_of (rows_of value) ≡ value)
      (whole : (bytes : List ℕ) (rows : List Row) → IsTextOf G bytes rows → rows ≡ rows_of (value_of rows)) where
    pub text_value : (bytes : List ℕ) (rows : List Row) → IsTextOf G bytes rows → IsTextOf G bytes (rows_of (value_of rows))
    text_value bytes rows h = subst (IsTextOf G bytes) (whole bytes rows h) h

    spelled_once : (bytes : List ℕ) (one two : Value) → IsTextOf G bytes (rows_of one) → IsTextOf G bytes (rows_of two) → one ≡ two
    spelled_once bytes one two h k =
        let same : rows_of one ≡ rows_of two =
        same_Ok {E = Fault} (rows_of one) (rows_of two) (sym (text_again G row_of reads bytes (rows_of one) h) ∙ text_again G row_of reads bytes (rows_of two) k) in
        sym (again one) ∙ (ap value_of same ∙ again two)

    pub one_or_fault : SpellOneOrHaveAFault G rows_of
    one_or_fault = record {
      once = spelled_once;
      either = λ bytes. elim (fault_else_text G row_of reads bytes) [
        | inl text ↦ inl (value_of text.0, text_value bytes text.0 text.1)
        | inr fault ↦ inr fault
      ];
      apart = λ bytes value fault h k. fault_or_text G row_of reads bytes (rows_of value) fault h k;
      fault_once = fault_once G row_of reads;
    }
