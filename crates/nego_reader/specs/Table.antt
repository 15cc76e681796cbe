-- The lines of a diagram as a grammar: what each kind of line is asked, from left to right, and the first fault of a text.
use Rattle.std.specs.Prelude.{◌≡◌, ℕ, Bool, true, false, List, [], ◌∷◌, ◌++◌, map, drop, codes}
use Rattle.std.specs.List.{list_any, before_first, after_first}
use Rattle.std.specs.Str.{bytes_eq}
use Rattle.nego_base.specs.declared.fault.Fault.{Fault}
use Rattle.nego_base.specs.declared.fault.FaultKind.TheVariants as fault_kinds
use Rattle.nego_base.specs.declared.line.Word.{Word}
use Rattle.nego_base.specs.declared.line.Line.{Line}
use Rattle.nego_base.specs.LineGrammar.{LineGrammar, Demand, Words, LeastWords, Version, Name, Number, Own, word_number, IsFirstFaultOf}
use Rattle.nego_reader.specs.declared.parsed.PTest.{PTest}
use Rattle.nego_reader.specs.declared.parsed.PSet.{PSet}
use Rattle.nego_reader.specs.Rows.{Kind, Nego, Agent, Atom, Out, Case, Next, First, Last, End, Row, keyword, followers, kind_of}
use Rattle.nego_reader.specs.Spelling.{SpellsTest, SpellsSet, SpellsLine}

-- ---- case lines

abbrev pub is_colon : Word → Bool
is_colon word = bytes_eq word.text (codes ":")

-- One of the words is a colon, and no other.
pub record HasOneColon (words : List Word) : Type 0 where
  pub before : List Word
  pub colon : Word
  pub behind : List Word
  pub parts : words ≡ before ++ colon ∷ behind
  pub is : is_colon colon ≡ true
  pub none_before : list_any is_colon before ≡ false
  pub none_behind : list_any is_colon behind ≡ false

-- What case lines alone are asked: that the words behind the first have one colon, that a word is a comparison, and that
-- it is an assignment.
pub data CaseDemand : Type 0 where
  OneColon : List Word → CaseDemand
  Test : CaseDemand
  Set : CaseDemand

abbrev pub IsAsAsked : CaseDemand → Word → Type 0
IsAsAsked (OneColon words) first = HasOneColon words
IsAsAsked Test word = (test : PTest) × SpellsTest word test
IsAsAsked Set word = (set : PSet) × SpellsSet word set

-- the words are asked so, one behind the other
abbrev pub in_case_words : CaseDemand → List Word → List (Demand CaseDemand)
in_case_words asked words = map (Own asked fault_kinds.Case) words

-- ---- lines of all kinds

-- a name, and no more
abbrev pub named : Line → List (Demand CaseDemand)
named line = Words 2 ∷ map Name (word_number 1 line)

-- what a line of each kind is asked
abbrev pub demands : Kind → Line → List (Demand CaseDemand)
demands Nego line = Words 2 ∷ map (Version (codes "1")) (word_number 1 line)
demands Agent line = Words 3 ∷ map Name (word_number 1 line) ++ map Number (word_number 2 line)
demands Atom line = LeastWords 2 ∷ map Name (drop 1 line.words)
demands Out line = named line
demands Case line =
    LeastWords 2 ∷ in_case_words (OneColon (drop 1 line.words)) (word_number 0 line) ++ (in_case_words Test (before_first is_colon (drop 1 line.words)) ++ in_case_words Set (after_first is_colon (drop 1 line.words)))
demands Next line = LeastWords 3 ∷ map Name (drop 1 line.words)
demands First line = named line
demands Last line = named line
demands End line = Words 1 ∷ []

-- The grammar of a diagram. What is known at a line is of which kinds it may be.
abbrev pub diagram_lines : LineGrammar (List Kind) Kind Row CaseDemand
diagram_lines = record {
  begin = Nego ∷ [];
  may_stand = λ kinds. kinds;
  keyword = keyword;
  demands = λ kinds kind line. demands kind line;
  Is = IsAsAsked;
  Says = λ kinds line row. SpellsLine line row;
  kind_of = kind_of;
  behind = λ kinds kind row. followers kind;
}

-- the fault is the first of the text
abbrev pub IsFirstFault : List ℕ → Fault → Type 0
IsFirstFault bytes fault = IsFirstFaultOf diagram_lines bytes fault
