-- Which lines spell which diagram, by cases on the value. The words of a value are words of the lines, with their
-- places. A word inside of a bigger one has the place of its own first byte.
use Rattle.std.specs.Prelude.{◌≡◌, ℕ, ◌+◌, ◌<◌, List, [], ◌∷◌, ◌++◌, length, All, codes, None, ◌⊎◌}
use Rattle.nego_base.specs.declared.op.Op.{Op}
use Rattle.nego_base.specs.declared.op.Op.TheVariants.{Eq, Ne, Lt, Le, Gt, Ge}
use Rattle.nego_base.specs.declared.line.Word.{Word}
use Rattle.nego_base.specs.declared.line.Line.{Line}
use Rattle.nego_base.specs.LineGrammar.{IsNameWord, IsNumeral}
use Rattle.nego_base.specs.Scan.{scan_fault, scanned}
use Rattle.nego_reader.specs.declared.parsed.Parsed.{Parsed}
use Rattle.nego_reader.specs.declared.parsed.PTest.{PTest}
use Rattle.nego_reader.specs.declared.parsed.PRight.{PRight}
use Rattle.nego_reader.specs.declared.parsed.PRight.TheVariants as rights
use Rattle.nego_reader.specs.declared.parsed.PSet.{PSet}
use Rattle.nego_reader.specs.declared.parsed.PTerm.{PTerm}
use Rattle.nego_reader.specs.declared.parsed.PTerm.TheVariants as terms
use Rattle.nego_reader.specs.Rows.{Row, HeaderRow, AgentRow, AtomRow, OutRow, CaseRow, NextRow, FirstRow, LastRow, EndRow, rows_of}

-- each of the one in turn stands so to each of the other
abbrev pub Each : {A B : Type 0} → (A → B → Type 0) → List A → List B → Type 0
Each R [] [] = Unit {0}
Each R (x ∷ xs) (y ∷ ys) = R x y × Each R xs ys
Each R _ _ = ⊥

-- The word is the bytes of another from the place i, counted from 0, on.
pub record IsInside (i : ℕ) (bytes : List ℕ) (outer word : Word) : Type 0 where
  pub text : word.text ≡ bytes
  pub line : word.line ≡ outer.line
  pub column : word.column ≡ outer.column + i

abbrev pub op_text : Op → List ℕ
op_text Eq = codes "="
op_text Ne = codes "!="
op_text Lt = codes "<"
op_text Le = codes "<="
op_text Gt = codes ">"
op_text Ge = codes ">="

-- the bytes of the word from place i on are the right side of a comparison
abbrev pub SpellsRight : Word → ℕ → List ℕ → PRight → Type 0
SpellsRight word i bytes (rights.Number n) = IsNumeral bytes n
SpellsRight word i bytes (rights.Name name) = IsInside i bytes word name × IsNameWord name

-- A comparison is a name, the operator and the right side without blanks. No right side begins with a byte of an
-- operator, so the operator is the longest that fits.
pub record SpellsTest (word : Word) (test : PTest) : Type 0 where
  pub right_bytes : List ℕ
  pub parts : word.text ≡ test.left.text ++ op_text test.op ++ right_bytes
  pub left : IsInside 0 test.left.text word test.left
  pub name : IsNameWord test.left
  pub right : SpellsRight word (length test.left.text + length (op_text test.op)) right_bytes test.right

-- the bytes are a name of a word, from place i on, and a number behind the sign
abbrev pub SpellsSum : ℕ → Word → ℕ → List ℕ → Word → ℕ → Type 0
SpellsSum sign word i bytes name n = (digits : List ℕ) × (bytes ≡ name.text ++ sign ∷ digits) × IsInside i name.text word name × IsNameWord name × IsNumeral digits n

-- the bytes of the word from place i on are what is assigned; a name alone is the name plus 0
abbrev pub SpellsTerm : Word → ℕ → List ℕ → PTerm → Type 0
SpellsTerm word i bytes terms.Any = bytes ≡ codes "*"
SpellsTerm word i bytes (terms.Number n) = IsNumeral bytes n
SpellsTerm word i bytes (terms.Plus name n) = (IsInside i bytes word name × IsNameWord name × (n ≡ 0)) ⊎ SpellsSum 43 word i bytes name n
SpellsTerm word i bytes (terms.Minus name n) = SpellsSum 45 word i bytes name n

-- An assignment is a name, `:=` and what is assigned, without blanks.
pub record SpellsSet (word : Word) (set : PSet) : Type 0 where
  pub term_bytes : List ℕ
  pub parts : word.text ≡ set.agent.text ++ codes ":=" ++ term_bytes
  pub agent : IsInside 0 set.agent.text word set.agent
  pub name : IsNameWord set.agent
  pub term : SpellsTerm word (length set.agent.text + 2) term_bytes set.term

-- the line is a word of this text, and then these words
pub record Begins (text : List ℕ) (line : Line) (rest : List Word) : Type 0 where
  pub first : Word
  pub words : line.words ≡ first ∷ rest
  pub keyword : first.text ≡ text

-- what each kind of line says
abbrev pub SpellsLine : Line → Row → Type 0
SpellsLine line HeaderRow = (version : Word) × Begins (codes "nego") line (version ∷ []) × (version.text ≡ codes "1")
SpellsLine line (AgentRow a) = (size : Word) × Begins (codes "agent") line (a.name ∷ size ∷ []) × IsNameWord a.name × IsNumeral size.text a.size
SpellsLine line (AtomRow name parties) = Begins (codes "atom") line (name ∷ parties) × All IsNameWord (name ∷ parties)
SpellsLine line (OutRow name) = Begins (codes "out") line (name ∷ []) × IsNameWord name
SpellsLine line (CaseRow c) =
    (tests : List Word) × (colon : Word) × (sets : List Word) × Begins (codes "case") line (tests ++ colon ∷ sets) ×
    Each SpellsTest tests c.tests × (colon.text ≡ codes ":") × Each SpellsSet sets c.sets
SpellsLine line (NextRow n) = Begins (codes "next") line (n.atom ∷ n.agents) × All IsNameWord (n.atom ∷ n.agents) × (0 < length n.agents)
SpellsLine line (FirstRow name) = Begins (codes "first") line (name ∷ []) × IsNameWord name
SpellsLine line (LastRow name) = Begins (codes "last") line (name ∷ []) × IsNameWord name
SpellsLine line EndRow = Begins (codes "end") line []

-- the lines are those of the diagram, in turn
abbrev pub SpellsDiagram : List Line → Parsed → Type 0
SpellsDiagram lines p = Each SpellsLine lines (rows_of p)

-- The text spells the diagram: its lines and bytes may stand, and those lines that have words and are no comments spell
-- it.
pub record Spells (bytes : List ℕ) (p : Parsed) : Type 0 where
  pub scans : scan_fault bytes ≡ None
  pub lines : SpellsDiagram (scanned bytes) p
