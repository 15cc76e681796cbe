-- The names of a value that a text spells are names.
use Rattle.std.proofs.Common.{List, [], ◌∷◌, ◌++◌, map}
use Rattle.std.proofs.lemmas.List.Elements.{All-nil, All-cons, All-head, All-tail}
use Rattle.std.specs.List.{All, flat_map}
use Rattle.std.specs.Prelude.{ℕ, IsTrue}
use Rattle.nego_base.specs.declared.line.Line.{Line}
use Rattle.nego_base.specs.Name.{is_name}
use Rattle.nego_base.specs.Scan.{scanned}
use Rattle.nego_reader.specs.declared.parsed.Parsed.{Parsed}
use Rattle.nego_reader.specs.declared.parsed.PAgent.{PAgent}
use Rattle.nego_reader.specs.declared.parsed.PAtom.{PAtom}
use Rattle.nego_reader.specs.declared.parsed.POut.{POut}
use Rattle.nego_reader.specs.Rows.{Row, HeaderRow, AgentRow, AtomRow, OutRow, CaseRow, NextRow, FirstRow, LastRow, EndRow, out_rows, atom_rows, rows_of}
use Rattle.nego_base.specs.LineGrammar.{IsNameWord}
use Rattle.nego_base.proofs.ListLaws.{All-front, All-back, All-each}
use Rattle.nego_reader.specs.Spelling.{Each, SpellsLine, Spells}
use Rattle.nego_reader.specs.Content.{AgentContent, AtomContent, OutContent, agent_content, atom_content, out_content, content_of}
use Rattle.nego_shape.specs.Shaped.{HasNameWords}

-- the name that a line gives is a name
abbrev IsNamedRow : Row → Type 0
IsNamedRow HeaderRow = Unit {0}
IsNamedRow (AgentRow a) = IsTrue (is_name a.name.text)
IsNamedRow (AtomRow name parties) = IsTrue (is_name name.text)
IsNamedRow (OutRow name) = IsTrue (is_name name.text)
IsNamedRow (CaseRow c) = Unit {0}
IsNamedRow (NextRow n) = Unit {0}
IsNamedRow (FirstRow name) = Unit {0}
IsNamedRow (LastRow name) = Unit {0}
IsNamedRow EndRow = Unit {0}

named_row : (line : Line) (row : Row) → SpellsLine line row → IsNamedRow row
named_row line HeaderRow h = tt
named_row line (AgentRow a) h = h.2
named_row line (AtomRow name parties) h = All-head IsNameWord name parties h.1
named_row line (OutRow name) h = h.1
named_row line (CaseRow c) h = tt
named_row line (NextRow n) h = tt
named_row line (FirstRow name) h = tt
named_row line (LastRow name) h = tt
named_row line EndRow h = tt

named_rows : (lines : List Line) (rows : List Row) → Each SpellsLine lines rows → All IsNamedRow rows
named_rows [] [] h = All-nil IsNamedRow
named_rows [] (row ∷ rows) h = absurd h
named_rows (line ∷ lines) [] h = absurd h
named_rows (line ∷ lines) (row ∷ rows) h = All-cons IsNamedRow row rows (named_row line row h.0) (named_rows lines rows h.1)

-- what each line says
agents_named : (agents : List PAgent) → All IsNamedRow (map AgentRow agents) → All (λ agent. IsTrue (is_name agent.name)) (map agent_content agents)
agents_named [] h = All-nil (λ (agent : AgentContent). IsTrue (is_name agent.name))
agents_named (a ∷ agents) h =
    All-cons (λ (agent : AgentContent). IsTrue (is_name agent.name)) (agent_content a) (map agent_content agents) (All-head IsNamedRow (AgentRow a) (map AgentRow agents) h)
    (agents_named agents (All-tail IsNamedRow (AgentRow a) (map AgentRow agents) h))

out_named : (o : POut) → All IsNamedRow (out_rows o) → IsTrue (is_name o.name.text)
unfolding out_rows
out_named o h = All-head IsNamedRow (OutRow o.name) _ h

outs_named : (outs : List POut) → All (λ o. All IsNamedRow (out_rows o)) outs → All (λ out. IsTrue (is_name out.name)) (map out_content outs)
outs_named [] h = All-nil (λ (out : OutContent). IsTrue (is_name out.name))
outs_named (o ∷ outs) h =
    All-cons (λ (out : OutContent). IsTrue (is_name out.name)) (out_content o) (map out_content outs) (out_named o (All-head (λ (x : POut). All IsNamedRow (out_rows x)) o outs h))
    (outs_named outs (All-tail (λ (x : POut). All IsNamedRow (out_rows x)) o outs h))

atom_named : (a : PAtom) → All IsNamedRow (atom_rows a) → IsTrue (is_name a.name.text) × All (λ out. IsTrue (is_name out.name)) (map out_content a.outs)
unfolding atom_rows
atom_named a h = (
  All-head IsNamedRow (AtomRow a.name a.parties) (flat_map out_rows a.outs) h,
  outs_named a.outs (All-each IsNamedRow out_rows a.outs (All-tail IsNamedRow (AtomRow a.name a.parties) (flat_map out_rows a.outs) h)),
)

atoms_named : (atoms : List PAtom) → All (λ a. All IsNamedRow (atom_rows a)) atoms → All (λ atom. IsTrue (is_name atom.name)) (map atom_content atoms)
atoms_named [] h = All-nil (λ (atom : AtomContent). IsTrue (is_name atom.name))
atoms_named (a ∷ atoms) h =
    All-cons (λ (atom : AtomContent). IsTrue (is_name atom.name)) (atom_content a) (map atom_content atoms) (atom_named a (All-head (λ (x : PAtom). All IsNamedRow (atom_rows x)) a atoms h)).0
    (atoms_named atoms (All-tail (λ (x : PAtom). All IsNamedRow (atom_rows x)) a atoms h))

all_outs_named : (atoms : List PAtom) → All (λ a. All IsNamedRow (atom_rows a)) atoms → All (λ atom. All (λ out. IsTrue (is_name out.name)) atom.outs) (map atom_content atoms)
all_outs_named [] h = All-nil (λ (atom : AtomContent). All (λ (out : OutContent). IsTrue (is_name out.name)) atom.outs)
all_outs_named (a ∷ atoms) h =
    All-cons (λ (atom : AtomContent). All (λ (out : OutContent). IsTrue (is_name out.name)) atom.outs) (atom_content a) (map atom_content atoms)
    (atom_named a (All-head (λ (x : PAtom). All IsNamedRow (atom_rows x)) a atoms h)).1
    (all_outs_named atoms (All-tail (λ (x : PAtom). All IsNamedRow (atom_rows x)) a atoms h))

-- the names of a value that a text spells are names
pub spelled-names : (bytes : List ℕ) (p : Parsed) → Spells bytes p → HasNameWords (content_of p)
unfolding rows_of
spelled-names bytes p h =
    let rows = named_rows (scanned bytes) (rows_of p) h.lines in
    let last = FirstRow p.first ∷ LastRow p.last ∷ EndRow ∷ [] in
    let agents : List Row = map AgentRow p.agents in
    let others : List Row = flat_map atom_rows p.atoms in
    let body = All-tail IsNamedRow HeaderRow ((agents ++ others) ++ last) rows in
    let front = All-front IsNamedRow (agents ++ others) last body in
    let atoms = All-each IsNamedRow atom_rows p.atoms (All-back IsNamedRow agents others front) in
    record {
      agents = agents_named p.agents (All-front IsNamedRow agents others front);
      atoms = atoms_named p.atoms atoms;
      outcomes = all_outs_named p.atoms atoms;
    }
