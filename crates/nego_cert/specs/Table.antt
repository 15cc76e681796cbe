-- The lines of a certificate as a grammar: what each kind of line is asked and what it says; which text spells which
-- certificate, and the first fault of a text.
use Rattle.std.specs.Prelude.{◌≡◌, ℕ, ◌≤◌, List, [], ◌∷◌, ◌++◌, map, All, codes, ⊤}
use Rattle.nego_base.specs.declared.fault.Fault.{Fault}
use Rattle.nego_base.specs.declared.fault.ReadFaults.{ReadFaults}
use Rattle.nego_base.specs.declared.fault.ReadFaults.TheVariants as faults
use Rattle.nego_base.specs.declared.line.Line.{Line}
use Rattle.nego_base.specs.LineGrammar.{LineGrammar, Demand, Words, Version, Number, word_number, IsTextOf, IsFirstFaultOf}
use Rattle.nego_expr.specs.Use.{PlainUse}
use Rattle.nego_expr.specs.UseView.{plain_use}
use Rattle.nego_cert.specs.declared.cert.Cert.{Cert}
use Rattle.nego_cert.specs.declared.row.Kind.{Kind}
use Rattle.nego_cert.specs.declared.row.Kind.TheVariants as kinds
use Rattle.nego_cert.specs.declared.row.Row.{Row}
use Rattle.nego_cert.specs.declared.row.Row.TheVariants as rows
use Rattle.nego_cert.specs.Lines.{keyword, followers, kind_of, rows_of, use_words, numbers_of}

-- the words of a line, without their places
abbrev pub word_texts : Line → List (List ℕ)
word_texts line = map (λ word. word.text) line.words

-- each number that the use names has six digits at most
abbrev pub HasShortNumbers : PlainUse → Type 0
HasShortNumbers what = All (λ n. n ≤ 999999) (numbers_of what)

-- what each kind of line says: a use, on its line
abbrev pub SpellsLine : Line → Row → Type 0
SpellsLine line rows.Header = word_texts line ≡ codes "certificate" ∷ codes "1" ∷ []
SpellsLine line (rows.Use u) = (u.line ≡ line.number) × (word_texts line ≡ use_words (plain_use u.what)) × HasShortNumbers (plain_use u.what)
SpellsLine line rows.End = word_texts line ≡ codes "end" ∷ []

-- a line of so many words: a keyword, and numbers behind it
abbrev pub one_number : Line → List (Demand ⊥)
one_number line = Words 2 ∷ map Number (word_number 1 line)

abbrev pub two_numbers : Line → List (Demand ⊥)
two_numbers line = Words 3 ∷ (map Number (word_number 1 line) ++ map Number (word_number 2 line))

-- what a line of each kind is asked; a certificate asks nothing of its own
abbrev pub demands : Kind → Line → List (Demand ⊥)
demands kinds.Header line = Words 2 ∷ map (Version (codes "1")) (word_number 1 line)
demands kinds.Merge line = two_numbers line
demands kinds.Iterate line = one_number line
demands kinds.Shortcut line = two_numbers line
demands kinds.Close line = Words 1 ∷ []
demands kinds.End line = Words 1 ∷ []

-- The grammar of a certificate. What is known at a line is of which kinds it may be.
abbrev pub certificate_lines : LineGrammar (List Kind) Kind Row ⊥
certificate_lines = record {
  begin = kinds.Header ∷ [];
  may_stand = λ may. may;
  keyword = keyword;
  demands = λ may kind line. demands kind line;
  Is = λ own word. ⊥;
  Says = λ may line row. SpellsLine line row;
  kind_of = kind_of;
  behind = λ may kind row. followers kind;
}

-- the text spells the certificate: its lines say the header, the uses on their lines, and the end
abbrev pub SpellsCertificate : List ℕ → Cert → Type 0
SpellsCertificate bytes cert = IsTextOf certificate_lines bytes (rows_of cert)

-- the fault is the first of the text
abbrev pub IsFirstFault : List ℕ → Fault → Type 0
IsFirstFault bytes fault = IsFirstFaultOf certificate_lines bytes fault

-- where an answer comes that isn't a certificate: the fault is the text's first; want of memory is free
abbrev pub ReadHasCause : ReadFaults → List ℕ → Type 0
ReadHasCause faults.Memory bytes = ⊤
ReadHasCause (faults.Off fault) bytes = IsFirstFault bytes fault

-- a text that is off its grammar spells nothing
abbrev pub SpellsNothing : ReadFaults → List ℕ → Type 0
SpellsNothing faults.Memory bytes = ⊤
SpellsNothing (faults.Off fault) bytes = (cert : Cert) → ¬ (SpellsCertificate bytes cert)
