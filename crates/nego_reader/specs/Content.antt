-- What a diagram's text says, without the places of its words.
use Rattle.std.specs.Prelude.{ℕ, List, map}
use Rattle.nego_base.specs.declared.op.Op.{Op}
use Rattle.nego_base.specs.declared.line.Word.{Word}
use Rattle.nego_reader.specs.declared.parsed.Parsed.{Parsed}
use Rattle.nego_reader.specs.declared.parsed.PAgent.{PAgent}
use Rattle.nego_reader.specs.declared.parsed.PAtom.{PAtom}
use Rattle.nego_reader.specs.declared.parsed.POut.{POut}
use Rattle.nego_reader.specs.declared.parsed.PNext.{PNext}
use Rattle.nego_reader.specs.declared.parsed.PCase.{PCase}
use Rattle.nego_reader.specs.declared.parsed.PTest.{PTest}
use Rattle.nego_reader.specs.declared.parsed.PRight.{PRight}
use Rattle.nego_reader.specs.declared.parsed.PRight.TheVariants as rights
use Rattle.nego_reader.specs.declared.parsed.PSet.{PSet}
use Rattle.nego_reader.specs.declared.parsed.PTerm.{PTerm}
use Rattle.nego_reader.specs.declared.parsed.PTerm.TheVariants as terms

-- an agent: its name, and the size of its data
pub record AgentContent : Type 0 where
  pub name : List ℕ
  pub size : ℕ

-- the right side of a comparison: a number, or an agent
pub data RightContent : Type 0 where
  Number : ℕ → RightContent
  Name : List ℕ → RightContent

-- a comparison of an agent's value
pub record TestContent : Type 0 where
  pub left : List ℕ
  pub op : Op
  pub right : RightContent

-- what is assigned: any value, a number, or an agent's value before plus or minus a number
pub data TermContent : Type 0 where
  AnyTerm : TermContent
  NumberTerm : ℕ → TermContent
  PlusTerm : List ℕ → ℕ → TermContent
  MinusTerm : List ℕ → ℕ → TermContent

-- an assignment to an agent
pub record SetContent : Type 0 where
  pub agent : List ℕ
  pub term : TermContent

-- a case: the comparisons that it demands, and what it assigns
pub record CaseContent : Type 0 where
  pub tests : List TestContent
  pub sets : List SetContent

-- an atom to which these agents may go next
pub record NextContent : Type 0 where
  pub atom : List ℕ
  pub agents : List (List ℕ)

-- an outcome: its name, its cases, and where it sends the agents
pub record OutContent : Type 0 where
  pub name : List ℕ
  pub cases : List CaseContent
  pub nexts : List NextContent

-- an atom: its name, its parties and its outcomes
pub record AtomContent : Type 0 where
  pub name : List ℕ
  pub parties : List (List ℕ)
  pub outs : List OutContent

-- a diagram: its agents and its atoms, and the names of the first atom and of the last
pub record Content : Type 0 where
  pub agents : List AgentContent
  pub atoms : List AtomContent
  pub first : List ℕ
  pub last : List ℕ

-- the bytes of each word
abbrev pub texts : List Word → List (List ℕ)
texts words = map (λ w. w.text) words

-- what each piece says, without the places of its words
abbrev pub agent_content : PAgent → AgentContent
agent_content a = record { name = a.name.text; size = a.size }

abbrev pub right_content : PRight → RightContent
right_content (rights.Number n) = Number n
right_content (rights.Name w) = Name w.text

abbrev pub test_content : PTest → TestContent
test_content t = record { left = t.left.text; op = t.op; right = right_content t.right }

abbrev pub term_content : PTerm → TermContent
term_content terms.Any = AnyTerm
term_content (terms.Number n) = NumberTerm n
term_content (terms.Plus w n) = PlusTerm w.text n
term_content (terms.Minus w n) = MinusTerm w.text n

abbrev pub set_content : PSet → SetContent
set_content s = record { agent = s.agent.text; term = term_content s.term }

abbrev pub case_content : PCase → CaseContent
case_content c = record { tests = map test_content c.tests; sets = map set_content c.sets }

abbrev pub next_content : PNext → NextContent
next_content n = record { atom = n.atom.text; agents = texts n.agents }

abbrev pub out_content : POut → OutContent
out_content o = record { name = o.name.text; cases = map case_content o.cases; nexts = map next_content o.nexts }

abbrev pub atom_content : PAtom → AtomContent
atom_content a = record { name = a.name.text; parties = texts a.parties; outs = map out_content a.outs }

abbrev pub content_of : Parsed → Content
content_of p = record { agents = map agent_content p.agents; atoms = map atom_content p.atoms; first = p.first.text; last = p.last.text }
