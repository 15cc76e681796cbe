-- Lines that are read say what they spell, and the lines of a diagram are read in their order.
use Rattle.std.proofs.Common.{◌≡◌, ℕ, Bool, true, false, cond, List, [], ◌∷◌, ◌++◌, map, Some, refl, sym, ap, subst, ◌∙◌, append_assoc}
use Rattle.std.specs.Prelude.{find, codes}
use Rattle.std.specs.List.{flat_map}
use Rattle.std.specs.Str.{bytes_eq}
use Rattle.nego_base.specs.declared.line.Line.{Line}
use Rattle.nego_reader.specs.declared.parsed.Parsed.{Parsed}
use Rattle.nego_reader.specs.declared.parsed.PAtom.{PAtom}
use Rattle.nego_reader.specs.declared.parsed.POut.{POut}
use Rattle.nego_reader.specs.declared.parsed.PAgent.{PAgent}
use Rattle.nego_reader.specs.declared.parsed.PNext.{PNext}
use Rattle.nego_reader.specs.declared.parsed.PCase.{PCase}
use Rattle.nego_base.specs.LineGrammar.{Say, behind_rows}
use Rattle.nego_base.proofs.LineFaults.{named_is, named_again}
use Rattle.nego_reader.specs.Table.{diagram_lines}
use Rattle.nego_reader.specs.Rows.{Kind, Nego, Agent, Atom, Out, Case, Next, First, Last, End, Row, AgentRow, CaseRow, NextRow, FirstRow, LastRow, EndRow, keyword, followers, kind_of, out_rows, atom_rows, rows_of}
use Rattle.nego_reader.specs.Spelling.{Each, SpellsLine}
use Rattle.nego_reader.proofs.WordSpelling.{same_bytes}

-- ---- kinds

-- the kind that the text is the keyword of
abbrev kind_named : List ℕ → Kind
kind_named text =
    cond (bytes_eq text (codes "nego")) Nego (cond (bytes_eq text (codes "agent")) Agent (cond (bytes_eq text (codes "atom")) Atom (cond (bytes_eq text (codes "out")) Out (cond (bytes_eq text (codes "case")) Case
    (cond (bytes_eq text (codes "next")) Next (cond (bytes_eq text (codes "first")) First (cond (bytes_eq text (codes "last")) Last End)))))))

keyword_named : (kind : Kind) → kind_named (keyword kind) ≡ kind
keyword_named Nego = refl
keyword_named Agent = refl
keyword_named Atom = refl
keyword_named Out = refl
keyword_named Case = refl
keyword_named Next = refl
keyword_named First = refl
keyword_named Last = refl
keyword_named End = refl

pub same_kind : (k k' : Kind) → keyword k ≡ keyword k' → k ≡ k'
same_kind k k' h = sym (keyword_named k) ∙ (ap kind_named h ∙ keyword_named k')

-- whether a line of the kind may stand where these may
abbrev pub MayStand : Kind → List Kind → Type 0
MayStand kind kinds = find (λ k. bytes_eq (keyword kind) (keyword k)) kinds ≡ Some kind

may_stand_more : (kind k : Kind) (kinds : List Kind) → MayStand kind kinds → MayStand kind (k ∷ kinds)
may_stand_more kind k kinds h = by_test (bytes_eq (keyword kind) (keyword k)) (λ e. same_kind kind k (same_bytes (keyword kind) (keyword k) e))
  where
    by_test : (t : Bool) → (t ≡ true → kind ≡ k) → cond t (Some k) (find (λ k. bytes_eq (keyword kind) (keyword k)) kinds) ≡ Some kind
    by_test true same = ap (λ (x : Kind). Some x) (sym (same refl))
    by_test false same = h

-- ---- the order of lines

-- the rows may stand one behind the other, where the first may be of these kinds
abbrev pub InOrder : List Kind → List Row → Type 0
InOrder kinds [] = kinds ≡ []
InOrder kinds (row ∷ rows) = MayStand (kind_of row) kinds × InOrder (followers (kind_of row)) rows

-- the rows that lines say are in order, and the lines spell them
pub say_order : (kinds : List Kind) (lines : List Line) (rows : List Row) → Say diagram_lines kinds lines rows → behind_rows diagram_lines kinds rows ≡ [] → InOrder kinds rows
say_order kinds [] [] h ends = ends
say_order kinds [] (row ∷ rows) h ends = absurd h
say_order kinds (line ∷ lines) [] h ends = absurd h
say_order kinds (line ∷ lines) (row ∷ rows) h ends = (named_again keyword (keyword (kind_of row)) same_kind kinds (kind_of row) h.0 refl, say_order (followers (kind_of row)) lines rows h.2 ends)

pub say_each : (kinds : List Kind) (lines : List Line) (rows : List Row) → Say diagram_lines kinds lines rows → Each SpellsLine lines rows
say_each kinds [] [] h = tt
say_each kinds [] (row ∷ rows) h = absurd h
say_each kinds (line ∷ lines) [] h = absurd h
say_each kinds (line ∷ lines) (row ∷ rows) h = (h.1, say_each (followers (kind_of row)) lines rows h.2)

-- and lines that spell rows in order say them
pub order_say : (kinds : List Kind) (lines : List Line) (rows : List Row) → InOrder kinds rows → Each SpellsLine lines rows → Say diagram_lines kinds lines rows × (behind_rows diagram_lines kinds rows ≡ [])
order_say kinds [] [] order h = (tt, order)
order_say kinds [] (row ∷ rows) order h = absurd h
order_say kinds (line ∷ lines) [] order h = absurd h
order_say kinds (line ∷ lines) (row ∷ rows) order h =
    let later = order_say (followers (kind_of row)) lines rows order.1 h.1 in
    (((named_is keyword (keyword (kind_of row)) kinds (kind_of row) order.0).0, h.0, later.0), later.1)

-- the rows may also stand where one kind more may
wider : (k k' : Kind) (kinds : List Kind) (rows : List Row) → InOrder (k' ∷ kinds) rows → InOrder (k ∷ k' ∷ kinds) rows
wider k k' kinds [] order = absurd cc
wider k k' kinds (row ∷ rows) order = (may_stand_more (kind_of row) k (k' ∷ kinds) order.0, order.1)

order_nexts : (nexts : List PNext) (rest : List Row) → InOrder (Out ∷ Atom ∷ First ∷ []) rest → InOrder (Next ∷ Out ∷ Atom ∷ First ∷ []) (map NextRow nexts ++ rest)
order_nexts [] rest h = wider Next Out (Atom ∷ First ∷ []) rest h
order_nexts (next ∷ nexts) rest h = (refl, order_nexts nexts rest h)

order_cases : (cases : List PCase) (rest : List Row) → InOrder (Next ∷ Out ∷ Atom ∷ First ∷ []) rest → InOrder (Case ∷ Next ∷ Out ∷ Atom ∷ First ∷ []) (map CaseRow cases ++ rest)
order_cases [] rest h = wider Case Next (Out ∷ Atom ∷ First ∷ []) rest h
order_cases (c ∷ cases) rest h = (refl, order_cases cases rest h)

order_agents : (agents : List PAgent) (rest : List Row) → InOrder (Atom ∷ First ∷ []) rest → InOrder (Agent ∷ Atom ∷ First ∷ []) (map AgentRow agents ++ rest)
order_agents [] rest h = wider Agent Atom (First ∷ []) rest h
order_agents (agent ∷ agents) rest h = (refl, order_agents agents rest h)

order_out : (out : POut) (rest : List Row) → InOrder (Out ∷ Atom ∷ First ∷ []) rest → InOrder (Out ∷ Atom ∷ First ∷ []) (out_rows out ++ rest)
unfolding out_rows
order_out out rest h =
    (refl, subst (InOrder (Case ∷ Next ∷ Out ∷ Atom ∷ First ∷ [])) (sym (append_assoc (map CaseRow out.cases) (map NextRow out.nexts) rest)) (order_cases out.cases (map NextRow out.nexts ++ rest) (order_nexts out.nexts rest h)))

order_outs : (outs : List POut) (rest : List Row) → InOrder (Atom ∷ First ∷ []) rest → InOrder (Out ∷ Atom ∷ First ∷ []) (flat_map out_rows outs ++ rest)
order_outs [] rest h = wider Out Atom (First ∷ []) rest h
order_outs (out ∷ outs) rest h =
    subst (InOrder (Out ∷ Atom ∷ First ∷ [])) (sym (append_assoc (out_rows out) (flat_map out_rows outs) rest)) (order_out out (flat_map out_rows outs ++ rest) (order_outs outs rest h))

order_atom : (atom : PAtom) (rest : List Row) → InOrder (Atom ∷ First ∷ []) rest → InOrder (Atom ∷ First ∷ []) (atom_rows atom ++ rest)
unfolding atom_rows
order_atom atom rest h = (refl, order_outs atom.outs rest h)

order_atoms : (atoms : List PAtom) (rest : List Row) → InOrder (First ∷ []) rest → InOrder (Atom ∷ First ∷ []) (flat_map atom_rows atoms ++ rest)
order_atoms [] rest h = wider Atom First [] rest h
order_atoms (atom ∷ atoms) rest h =
    subst (InOrder (Atom ∷ First ∷ [])) (sym (append_assoc (atom_rows atom) (flat_map atom_rows atoms) rest)) (order_atom atom (flat_map atom_rows atoms ++ rest) (order_atoms atoms rest h))

pub order_of : (p : Parsed) → InOrder (Nego ∷ []) (rows_of p)
unfolding rows_of
order_of p =
    let ends = FirstRow p.first ∷ LastRow p.last ∷ EndRow ∷ [] in
    (refl, subst (InOrder (Agent ∷ Atom ∷ First ∷ [])) (sym (append_assoc (map AgentRow p.agents) (flat_map atom_rows p.atoms) ends)) (order_agents p.agents (flat_map atom_rows p.atoms ++ ends) (order_atoms p.atoms ends (refl, (refl, (refl, refl))))))
