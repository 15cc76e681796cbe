-- Rows that lines spell can be printed: their words have printable bytes, and the first of them is a keyword.
use Rattle.std.proofs.Common.{◌≡◌, ◌≢◌, ℕ, ◌==◌, ◌<◌, ◌≤◌, Bool, true, ◌&&◌, nat_le, nat_lt, List, [], ◌∷◌, ◌++◌, length, map, All, codes, decimal, slice_index, slice_index_or, refl, arith}
use Rattle.std.specs.List.{list_all}
use Rattle.std.proofs.lemmas.Bool.{and_parts, leb-true, ltb-true, cond_both}
use Rattle.std.proofs.lemmas.List.{length-append}
use Rattle.std.proofs.lemmas.List.Elements.{All-nil, All-cons, All-append, All-map, All-weaker}
use Rattle.nego_base.specs.LineGrammar.{IsNameWord}
use Rattle.nego_base.specs.declared.op.Op.{Op}
use Rattle.nego_base.specs.declared.op.Op.TheVariants.{Eq, Ne, Lt, Le, Gt, Ge}
use Rattle.nego_base.specs.declared.line.Word.{Word}
use Rattle.nego_base.specs.Printed.{IsPrintableWord, IsPrintable, printed_line}
use Rattle.nego_base.proofs.NameLaws.{each_where_all, name_printable, decimal_printable}
use Rattle.nego_reader.specs.declared.parsed.PTest.{PTest}
use Rattle.nego_reader.specs.declared.parsed.PRight.{PRight}
use Rattle.nego_reader.specs.declared.parsed.PRight.TheVariants as rights
use Rattle.nego_reader.specs.declared.parsed.PSet.{PSet}
use Rattle.nego_reader.specs.declared.parsed.PTerm.{PTerm}
use Rattle.nego_reader.specs.declared.parsed.PTerm.TheVariants as terms
use Rattle.nego_reader.specs.Content.{texts}
use Rattle.nego_reader.specs.Rows.{Row, HeaderRow, AgentRow, AtomRow, OutRow, CaseRow, NextRow, FirstRow, LastRow, EndRow}
use Rattle.nego_reader.specs.Spelling.{op_text}
use Rattle.nego_reader.specs.Printing.{right_text, test_text, term_text, set_text, row_words}
use Rattle.nego_reader.specs.Printable.{IsRight, IsTest, IsTerm, IsSet, IsRow}

-- ---- words

abbrev IsPrinted : ℕ → Type 0
IsPrinted b = (33 ≤ b) × (b ≤ 126)

abbrev is_printed : ℕ → Bool
is_printed b = nat_le 33 b && nat_le b 126

-- a text of which a test computes that it can be printed
literal : (bytes : List ℕ) → (nat_lt 0 (length bytes) && list_all is_printed bytes) ≡ true → IsPrintableWord bytes
literal bytes h =
    let parts = and_parts (nat_lt 0 (length bytes)) (list_all is_printed bytes) h in
    record {
      filled = ltb-true 0 (length bytes) parts.0;
      bytes = each_where_all is_printed IsPrinted (λ b t. let both = and_parts (nat_le 33 b) (nat_le b 126) t in (leb-true 33 b both.0, leb-true b 126 both.1)) bytes parts.1;
    }

joined : (a b : List ℕ) → IsPrintableWord a → IsPrintableWord b → IsPrintableWord (a ++ b)
joined a b p q = record { filled = (let f = p.filled in omega (arith, length-append a b)); bytes = All-append IsPrinted a b p.bytes q.bytes }

number : (n : ℕ) → n ≤ 999999 → IsPrintableWord (decimal n)
number n few = decimal_printable n (omega arith)

name : (word : Word) → IsNameWord word → IsPrintableWord word.text
name word h = name_printable word.text h

names : (words : List Word) → All IsNameWord words → All IsPrintableWord (texts words)
names words h = All-map IsPrintableWord (λ (w : Word). w.text) words (All-weaker IsNameWord (λ (w : Word). IsPrintableWord w.text) name words h)

op_printable : (op : Op) → IsPrintableWord (op_text op)
op_printable Eq = literal (codes "=") refl
op_printable Ne = literal (codes "!=") refl
op_printable Lt = literal (codes "<") refl
op_printable Le = literal (codes "<=") refl
op_printable Gt = literal (codes ">") refl
op_printable Ge = literal (codes ">=") refl

right_printable : (right : PRight) → IsRight right → IsPrintableWord (right_text right)
right_printable (rights.Number n) h = number n h
right_printable (rights.Name w) h = name w h

test_printable : (test : PTest) → IsTest test → IsPrintableWord (test_text test)
test_printable test h =
    joined (test.left.text ++ op_text test.op) (right_text test.right) (joined test.left.text (op_text test.op) (name test.left h.left) (op_printable test.op)) (right_printable test.right h.right)

-- a name, a sign and a number
sum_printable : (word : Word) (sign : List ℕ) (n : ℕ) → IsNameWord word → IsPrintableWord sign → n ≤ 999999 → IsPrintableWord (word.text ++ sign ++ decimal n)
sum_printable word sign n h s few = joined (word.text ++ sign) (decimal n) (joined word.text sign (name word h) s) (number n few)

term_printable : (term : PTerm) → IsTerm term → IsPrintableWord (term_text term)
term_printable terms.Any h = literal (codes "*") refl
term_printable (terms.Number n) h = number n h
term_printable (terms.Plus w n) h = cond_both (n == 0) w.text (w.text ++ codes "+" ++ decimal n) IsPrintableWord (λ _. name w h.0) (λ _. sum_printable w (codes "+") n h.0 (literal (codes "+") refl) h.1)
term_printable (terms.Minus w n) h = sum_printable w (codes "-") n h.0 (literal (codes "-") refl) h.1

set_printable : (set : PSet) → IsSet set → IsPrintableWord (set_text set)
set_printable set h =
    joined (set.agent.text ++ codes ":=") (term_text set.term) (joined set.agent.text (codes ":=") (name set.agent h.agent) (literal (codes ":=") refl)) (term_printable set.term h.term)

-- ---- lines

abbrev ArePrintable : List (List ℕ) → Type 0
ArePrintable words = All IsPrintableWord words

and : (w : List ℕ) (ws : List (List ℕ)) → IsPrintableWord w → ArePrintable ws → ArePrintable (w ∷ ws)
and w ws p q = All-cons IsPrintableWord w ws p q

-- a keyword, and names
named : (keyword : List ℕ) (words : List Word) → IsPrintableWord keyword → All IsNameWord words → ArePrintable (keyword ∷ texts words)
named keyword words p h = and keyword (texts words) p (names words h)

one : (word : Word) → IsNameWord word → All IsNameWord (word ∷ [])
one word h = All-cons IsNameWord word [] h (All-nil IsNameWord)

pub row_printable : (row : Row) → IsRow row → All IsPrintableWord (row_words row)
row_printable HeaderRow h = and (codes "nego") (codes "1" ∷ []) (literal (codes "nego") refl) (and (codes "1") [] (literal (codes "1") refl) (All-nil IsPrintableWord))
row_printable (AgentRow a) h =
    and (codes "agent") (a.name.text ∷ decimal a.size ∷ []) (literal (codes "agent") refl)
    (and a.name.text (decimal a.size ∷ []) (name a.name h.0) (and (decimal a.size) [] (number a.size h.1) (All-nil IsPrintableWord)))
row_printable (AtomRow w parties) h = named (codes "atom") (w ∷ parties) (literal (codes "atom") refl) h
row_printable (OutRow w) h = named (codes "out") (w ∷ []) (literal (codes "out") refl) (one w h)
row_printable (CaseRow c) h =
    and (codes "case") (map test_text c.tests ++ codes ":" ∷ map set_text c.sets) (literal (codes "case") refl)
    (All-append IsPrintableWord (map test_text c.tests) (codes ":" ∷ map set_text c.sets)
    (All-map IsPrintableWord test_text c.tests (All-weaker IsTest (λ (t : PTest). IsPrintableWord (test_text t)) test_printable c.tests h.0))
    (and (codes ":") (map set_text c.sets) (literal (codes ":") refl)
    (All-map IsPrintableWord set_text c.sets (All-weaker IsSet (λ (s : PSet). IsPrintableWord (set_text s)) set_printable c.sets h.1))))
row_printable (NextRow n) h = named (codes "next") (n.atom ∷ n.agents) (literal (codes "next") refl) h.0
row_printable (FirstRow w) h = named (codes "first") (w ∷ []) (literal (codes "first") refl) (one w h)
row_printable (LastRow w) h = named (codes "last") (w ∷ []) (literal (codes "last") refl) (one w h)
row_printable EndRow h = and (codes "end") [] (literal (codes "end") refl) (All-nil IsPrintableWord)

-- a line begins with a keyword, which doesn't begin with `#`
row_begins : (row : Row) → (0 < length (row_words row)) × (slice_index (slice_index_or (row_words row) 0 []) 0 ≢ 35)
row_begins HeaderRow = (omega arith, λ e. omega arith)
row_begins (AgentRow a) = (omega arith, λ e. omega arith)
row_begins (AtomRow w parties) = (omega arith, λ e. omega arith)
row_begins (OutRow w) = (omega arith, λ e. omega arith)
row_begins (CaseRow c) = (omega arith, λ e. omega arith)
row_begins (NextRow n) = (omega arith, λ e. omega arith)
row_begins (FirstRow w) = (omega arith, λ e. omega arith)
row_begins (LastRow w) = (omega arith, λ e. omega arith)
row_begins EndRow = (omega arith, λ e. omega arith)

-- a row can be printed where its line is short enough
pub row_fits : (row : Row) → IsRow row → length (printed_line (row_words row)) ≤ 1024 → IsPrintable (row_words row)
row_fits row h short = record {
  filled = (row_begins row).0;
  words = row_printable row h;
  no_comment = (row_begins row).1;
  short = short;
}
