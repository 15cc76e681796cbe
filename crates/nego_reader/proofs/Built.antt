-- A diagram from its lines: no two diagrams have the same.
use Rattle.std.proofs.Common.{◌≡◌, List, [], ◌∷◌, ◌++◌, map, refl, sym, ap, ◌∙◌, append_assoc}
use Rattle.std.specs.List.{flat_map}
use Rattle.std.proofs.lemmas.List.{append-nil}
use Rattle.nego_base.specs.declared.line.Word.{Word}
use Rattle.nego_reader.specs.declared.parsed.Parsed.{Parsed}
use Rattle.nego_reader.specs.declared.parsed.PAtom.{PAtom}
use Rattle.nego_reader.specs.declared.parsed.POut.{POut}
use Rattle.nego_reader.specs.declared.parsed.PAgent.{PAgent}
use Rattle.nego_reader.specs.declared.parsed.PNext.{PNext}
use Rattle.nego_reader.specs.declared.parsed.PCase.{PCase}
use Rattle.nego_reader.specs.Rows.{Row, HeaderRow, AgentRow, AtomRow, OutRow, CaseRow, NextRow, FirstRow, LastRow, EndRow, out_rows, atom_rows, rows_of}

-- what lines say, of which the first may stand within an atom: those pieces that belong to what is before them, and the others
pub record Built : Type 0 where
  pub agents : List PAgent
  pub atoms : List PAtom
  pub outs : List POut
  pub cases : List PCase
  pub nexts : List PNext
  pub firsts : List Word
  pub lasts : List Word

-- a line before others
abbrev pub add : Row → Built → Built
add HeaderRow b = b
add (AgentRow agent) b = record b { agents = agent ∷ b.agents }
add (AtomRow name parties) b = record b { atoms = record { name = name; parties = parties; outs = b.outs } ∷ b.atoms; outs = [] }
add (OutRow name) b = record b { outs = record { name = name; cases = b.cases; nexts = b.nexts } ∷ b.outs; cases = []; nexts = [] }
add (CaseRow c) b = record b { cases = c ∷ b.cases }
add (NextRow next) b = record b { nexts = next ∷ b.nexts }
add (FirstRow name) b = record b { firsts = name ∷ b.firsts }
add (LastRow name) b = record b { lasts = name ∷ b.lasts }
add EndRow b = b

abbrev pub nothing : Built
nothing = record { agents = []; atoms = []; outs = []; cases = []; nexts = []; firsts = []; lasts = [] }

unfoldable pub build : List Row → Built
build [] = nothing
build (row ∷ rows) = add row (build rows)

-- pieces of one kind before others
with_nexts : (nexts : List PNext) (rest : List Row) → build (map NextRow nexts ++ rest) ≡ record (build rest) { nexts = nexts ++ (build rest).nexts }
unfolding build
with_nexts [] rest = refl
with_nexts (next ∷ nexts) rest = ap (add (NextRow next)) (with_nexts nexts rest)

with_cases : (cases : List PCase) (rest : List Row) → build (map CaseRow cases ++ rest) ≡ record (build rest) { cases = cases ++ (build rest).cases }
unfolding build
with_cases [] rest = refl
with_cases (c ∷ cases) rest = ap (add (CaseRow c)) (with_cases cases rest)

with_agents : (agents : List PAgent) (rest : List Row) → build (map AgentRow agents ++ rest) ≡ record (build rest) { agents = agents ++ (build rest).agents }
unfolding build
with_agents [] rest = refl
with_agents (agent ∷ agents) rest = ap (add (AgentRow agent)) (with_agents agents rest)

-- ---- outcomes and atoms

with_both : (cases : List PCase) (nexts : List PNext) (rest : List Row) →
    build ((map CaseRow cases ++ map NextRow nexts) ++ rest) ≡ record (build rest) { cases = cases ++ (build rest).cases; nexts = nexts ++ (build rest).nexts }
with_both cases nexts rest =
    ap build (append_assoc (map CaseRow cases) (map NextRow nexts) rest) ∙ (with_cases cases (map NextRow nexts ++ rest) ∙ ap (λ (b : Built). record b { cases = cases ++ b.cases }) (with_nexts nexts rest))

-- nothing of an outcome or an atom is open
record IsClosed (b : Built) : Type 0 where
  cases : b.cases ≡ []
  nexts : b.nexts ≡ []

with_out : (out : POut) (rest : List Row) → IsClosed (build rest) → build (out_rows out ++ rest) ≡ record (build rest) { outs = out ∷ (build rest).outs }
unfolding build out_rows
with_out out rest closed =
    ap (add (OutRow out.name)) (with_both out.cases out.nexts rest) ∙ rw (closed.cases, closed.nexts, append-nil out.cases, append-nil out.nexts) refl

with_outs : (outs : List POut) (rest : List Row) → IsClosed (build rest) → build (flat_map out_rows outs ++ rest) ≡ record (build rest) { outs = outs ++ (build rest).outs }
with_outs [] rest closed = refl
with_outs (out ∷ outs) rest closed =
    let later = with_outs outs rest closed in
    let closed' : IsClosed (build (flat_map out_rows outs ++ rest)) = record { cases = ap (λ (b : Built). b.cases) later ∙ closed.cases; nexts = ap (λ (b : Built). b.nexts) later ∙ closed.nexts } in
    ap build (append_assoc (out_rows out) (flat_map out_rows outs) rest) ∙ (with_out out (flat_map out_rows outs ++ rest) closed' ∙ ap (λ (b : Built). record b { outs = out ∷ b.outs }) later)

with_atom : (atom : PAtom) (rest : List Row) → IsClosed (build rest) → (build rest).outs ≡ [] → build (atom_rows atom ++ rest) ≡ record (build rest) { atoms = atom ∷ (build rest).atoms }
unfolding build atom_rows
with_atom atom rest closed none = ap (add (AtomRow atom.name atom.parties)) (with_outs atom.outs rest closed) ∙ rw (none, append-nil atom.outs) refl

with_atoms : (atoms : List PAtom) (rest : List Row) → IsClosed (build rest) → (build rest).outs ≡ [] → build (flat_map atom_rows atoms ++ rest) ≡ record (build rest) { atoms = atoms ++ (build rest).atoms }
with_atoms [] rest closed none = refl
with_atoms (atom ∷ atoms) rest closed none =
    let later = with_atoms atoms rest closed none in
    let closed' : IsClosed (build (flat_map atom_rows atoms ++ rest)) = record { cases = ap (λ (b : Built). b.cases) later ∙ closed.cases; nexts = ap (λ (b : Built). b.nexts) later ∙ closed.nexts } in
    ap build (append_assoc (atom_rows atom) (flat_map atom_rows atoms) rest) ∙
    (with_atom atom (flat_map atom_rows atoms ++ rest) closed' (ap (λ (b : Built). b.outs) later ∙ none) ∙ ap (λ (b : Built). record b { atoms = atom ∷ b.atoms }) later)

-- ---- a whole diagram

built : (p : Parsed) → build (rows_of p) ≡ record { agents = p.agents; atoms = p.atoms; outs = []; cases = []; nexts = []; firsts = p.first ∷ []; lasts = p.last ∷ [] }
unfolding build rows_of
built p =
    let ends = FirstRow p.first ∷ LastRow p.last ∷ EndRow ∷ [] in
    let tail : Built = record { agents = []; atoms = []; outs = []; cases = []; nexts = []; firsts = p.first ∷ []; lasts = p.last ∷ [] } in
    let ends_built : build ends ≡ tail = refl in
    let closed : IsClosed (build ends) = record { cases = refl; nexts = refl } in
    let atoms_built : build (flat_map atom_rows p.atoms ++ ends) ≡ record tail { atoms = p.atoms } = with_atoms p.atoms ends closed refl ∙ ap (λ (xs : List PAtom). record tail { atoms = xs }) (append-nil p.atoms) in
    ap build (append_assoc (map AgentRow p.agents) (flat_map atom_rows p.atoms) ends) ∙
    (with_agents p.agents (flat_map atom_rows p.atoms ++ ends) ∙ (ap (λ (b : Built). record b { agents = p.agents ++ b.agents }) atoms_built ∙ ap (λ (xs : List PAgent). record tail { agents = xs; atoms = p.atoms }) (append-nil p.agents)))

same_head : (a b : Word) → ◌≡◌ {A = List Word} (a ∷ []) (b ∷ []) → a ≡ b
same_head a b h = cc

pub same_diagram : (p q : Parsed) → rows_of p ≡ rows_of q → p ≡ q
same_diagram p q h =
    let e = sym (built p) ∙ (ap build h ∙ built q) in
    let agents : p.agents ≡ q.agents = ap (λ (b : Built). b.agents) e in
    let atoms : p.atoms ≡ q.atoms = ap (λ (b : Built). b.atoms) e in
    let first : p.first ≡ q.first = same_head p.first q.first (ap (λ (b : Built). b.firsts) e) in
    let last : p.last ≡ q.last = same_head p.last q.last (ap (λ (b : Built). b.lasts) e) in
    rw (← agents, ← atoms, ← first, ← last) refl
