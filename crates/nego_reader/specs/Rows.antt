-- The lines of a diagram, one after the other: of which kind each is, and what it says.
use Rattle.std.specs.Prelude.{ℕ, List, [], ◌∷◌, ◌++◌, map, codes}
use Rattle.std.specs.List.{flat_map}
use Rattle.nego_base.specs.declared.line.Word.{Word}
use Rattle.nego_reader.specs.declared.parsed.Parsed.{Parsed}
use Rattle.nego_reader.specs.declared.parsed.PAgent.{PAgent}
use Rattle.nego_reader.specs.declared.parsed.PAtom.{PAtom}
use Rattle.nego_reader.specs.declared.parsed.POut.{POut}
use Rattle.nego_reader.specs.declared.parsed.PNext.{PNext}
use Rattle.nego_reader.specs.declared.parsed.PCase.{PCase}

-- the kinds of lines
pub data Kind : Type 0 where
  Nego : Kind
  Agent : Kind
  Atom : Kind
  Out : Kind
  Case : Kind
  Next : Kind
  First : Kind
  Last : Kind
  End : Kind

-- the first word of a line of the kind
abbrev pub keyword : Kind → List ℕ
keyword Nego = codes "nego"
keyword Agent = codes "agent"
keyword Atom = codes "atom"
keyword Out = codes "out"
keyword Case = codes "case"
keyword Next = codes "next"
keyword First = codes "first"
keyword Last = codes "last"
keyword End = codes "end"

-- the kinds of lines that may follow
abbrev pub followers : Kind → List Kind
followers Nego = Agent ∷ Atom ∷ First ∷ []
followers Agent = Agent ∷ Atom ∷ First ∷ []
followers Atom = Out ∷ Atom ∷ First ∷ []
followers Out = Case ∷ Next ∷ Out ∷ Atom ∷ First ∷ []
followers Case = Case ∷ Next ∷ Out ∷ Atom ∷ First ∷ []
followers Next = Next ∷ Out ∷ Atom ∷ First ∷ []
followers First = Last ∷ []
followers Last = End ∷ []
followers End = []

-- what a line says: of an atom its name and its parties, of an outcome its name
pub data Row : Type 0 where
  HeaderRow : Row
  AgentRow : PAgent → Row
  AtomRow : Word → List Word → Row
  OutRow : Word → Row
  CaseRow : PCase → Row
  NextRow : PNext → Row
  FirstRow : Word → Row
  LastRow : Word → Row
  EndRow : Row

abbrev pub kind_of : Row → Kind
kind_of HeaderRow = Nego
kind_of (AgentRow a) = Agent
kind_of (AtomRow name parties) = Atom
kind_of (OutRow name) = Out
kind_of (CaseRow c) = Case
kind_of (NextRow n) = Next
kind_of (FirstRow name) = First
kind_of (LastRow name) = Last
kind_of EndRow = End

-- the lines of an outcome: its own, then its cases, then its next lines
unfoldable pub out_rows : POut → List Row
out_rows o = OutRow o.name ∷ map CaseRow o.cases ++ map NextRow o.nexts

-- the lines of an atom: its own, then those of its outcomes
unfoldable pub atom_rows : PAtom → List Row
atom_rows a = AtomRow a.name a.parties ∷ flat_map out_rows a.outs

-- the lines of a diagram: the header, the agents, the atoms, and the last three
unfoldable pub rows_of : Parsed → List Row
rows_of p = HeaderRow ∷ map AgentRow p.agents ++ flat_map atom_rows p.atoms ++ FirstRow p.first ∷ LastRow p.last ∷ EndRow ∷ []
