-- A whole diagram from its pieces.
use Rattle.std.proofs.Common.{◌≡◌, List, [], ◌∷◌, ◌++◌, map, Result, Ok, Err, refl, sym, ap, subst, ◌∙◌}
use Rattle.std.specs.List.{flat_map}
use Rattle.nego_base.specs.declared.fault.Fault.{Fault}
use Rattle.nego_base.specs.declared.fault.ReadFaults.{ReadFaults}
use Rattle.nego_base.specs.declared.fault.ReadFaults.TheVariants as faults
use Rattle.nego_base.specs.declared.line.Word.{Word}
use Rattle.nego_base.specs.declared.line.Line.{Line}
use Rattle.nego_reader.specs.declared.parsed.PAgent.{PAgent}
use Rattle.nego_reader.specs.declared.parsed.PAtom.{PAtom}
use Rattle.nego_reader.specs.Rows.{Nego, Agent, Atom, First, Row, HeaderRow, AgentRow, FirstRow, LastRow, EndRow, atom_rows, rows_of}
use Rattle.nego_reader.specs.Reading.{walk, header_at, ends_at}
use Rattle.nego_base.specs.LineAnswers.{onto, Fails}
use Rattle.nego_reader.specs.Answer.{ReadsTo}
use Rattle.nego_base.proofs.LineLoops.{onto_onto, fails_onto}
use Rattle.nego_reader.proofs.Walks.{then, then_fails}
use Rattle.nego_reader.proofs.Ends.{header_is, ends_is}

-- behind the header
after_header : (m : Fault) (lines rest : List Line) → header_at m lines ≡ Ok rest → walk m (Nego ∷ []) lines ≡ onto (HeaderRow ∷ []) (walk m (Agent ∷ Atom ∷ First ∷ []) rest)
after_header m lines rest h = header_is m lines ∙ rw h refl

pub header_fails : (missing m : Fault) (lines : List Line) (fault : Fault) → missing ≡ m → header_at missing lines ≡ Err fault → walk m (Nego ∷ []) lines ≡ Err fault
header_fails missing m lines fault same h =
    let h' : header_at m lines ≡ Err fault = subst (λ (f : Fault). header_at f lines ≡ Err fault) same h in
    header_is m lines ∙ rw h' refl

pub agents_fail : (e : ReadFaults) (missing m : Fault) (lines rest : List Line) → missing ≡ m → header_at missing lines ≡ Ok rest →
    ((f : Fault) → Fails e (walk f (Agent ∷ Atom ∷ First ∷ []) rest)) → Fails e (walk m (Nego ∷ []) lines)
agents_fail e missing m lines rest same h fails =
    let h' : header_at m lines ≡ Ok rest = subst (λ (f : Fault). header_at f lines ≡ Ok rest) same h in
    subst (λ (r : Result (List Row) Fault). Fails e r) (sym (after_header m lines rest h')) (fails_onto e (HeaderRow ∷ []) (walk m (Agent ∷ Atom ∷ First ∷ []) rest) (fails m))

pub atoms_fail : (e : ReadFaults) (missing m : Fault) (lines rest rest' : List Line) (agents : List PAgent) → missing ≡ m → header_at missing lines ≡ Ok rest →
    ReadsTo (Agent ∷ Atom ∷ First ∷ []) rest (map AgentRow agents) (Atom ∷ First ∷ []) rest' → ((f : Fault) → Fails e (walk f (Atom ∷ First ∷ []) rest')) → Fails e (walk m (Nego ∷ []) lines)
atoms_fail e missing m lines rest rest' agents same h p fails =
    agents_fail e missing m lines rest same h (then_fails e (Agent ∷ Atom ∷ First ∷ []) rest (map AgentRow agents) (Atom ∷ First ∷ []) rest' p fails)

-- the lines of the agents and the atoms
abbrev front_rows : List PAgent → List PAtom → List Row
front_rows agents atoms = map AgentRow agents ++ flat_map atom_rows atoms

front : (rest rest' rest'' : List Line) (agents : List PAgent) (atoms : List PAtom) → ReadsTo (Agent ∷ Atom ∷ First ∷ []) rest (map AgentRow agents) (Atom ∷ First ∷ []) rest' →
    ReadsTo (Atom ∷ First ∷ []) rest' (flat_map atom_rows atoms) (First ∷ []) rest'' → ReadsTo (Agent ∷ Atom ∷ First ∷ []) rest (front_rows agents atoms) (First ∷ []) rest''
front rest rest' rest'' agents atoms p q = then (Agent ∷ Atom ∷ First ∷ []) rest (map AgentRow agents) (Atom ∷ First ∷ []) rest' (flat_map atom_rows atoms) (First ∷ []) rest'' p q

before_ends : (m : Fault) (lines rest rest' rest'' : List Line) (agents : List PAgent) (atoms : List PAtom) → header_at m lines ≡ Ok rest →
    ReadsTo (Agent ∷ Atom ∷ First ∷ []) rest (map AgentRow agents) (Atom ∷ First ∷ []) rest' → ReadsTo (Atom ∷ First ∷ []) rest' (flat_map atom_rows atoms) (First ∷ []) rest'' →
    walk m (Nego ∷ []) lines ≡ onto (HeaderRow ∷ front_rows agents atoms) (walk m (First ∷ []) rest'')
before_ends m lines rest rest' rest'' agents atoms h p q =
    after_header m lines rest h ∙ (ap (onto (HeaderRow ∷ [])) ((front rest rest' rest'' agents atoms p q).says m) ∙ onto_onto (HeaderRow ∷ []) (front_rows agents atoms) (walk m (First ∷ []) rest''))

ends_fail_at : (e : ReadFaults) (m : Fault) (lines : List Line) → Fails e (ends_at m lines) → Fails e (walk m (First ∷ []) lines)
ends_fail_at faults.Memory m lines h = tt
ends_fail_at (faults.Off fault) m lines h = ends_is m lines ∙ rw h refl

pub ends_fail : (e : ReadFaults) (missing m : Fault) (lines rest rest' rest'' : List Line) (agents : List PAgent) (atoms : List PAtom) → missing ≡ m → header_at missing lines ≡ Ok rest →
    ReadsTo (Agent ∷ Atom ∷ First ∷ []) rest (map AgentRow agents) (Atom ∷ First ∷ []) rest' → ReadsTo (Atom ∷ First ∷ []) rest' (flat_map atom_rows atoms) (First ∷ []) rest'' →
    Fails e (ends_at missing rest'') → Fails e (walk m (Nego ∷ []) lines)
ends_fail e missing m lines rest rest' rest'' agents atoms same h p q fails =
    let h' : header_at m lines ≡ Ok rest = subst (λ (f : Fault). header_at f lines ≡ Ok rest) same h in
    let fails' : Fails e (ends_at m rest'') = subst (λ (f : Fault). Fails e (ends_at f rest'')) same fails in
    subst (λ (r : Result (List Row) Fault). Fails e r) (sym (before_ends m lines rest rest' rest'' agents atoms h' p q))
    (fails_onto e (HeaderRow ∷ front_rows agents atoms) (walk m (First ∷ []) rest'') (ends_fail_at e m rest'' fails'))

pub whole : (missing m : Fault) (lines rest rest' rest'' : List Line) (agents : List PAgent) (atoms : List PAtom) (first last : Word) → missing ≡ m → header_at missing lines ≡ Ok rest →
    ReadsTo (Agent ∷ Atom ∷ First ∷ []) rest (map AgentRow agents) (Atom ∷ First ∷ []) rest' → ReadsTo (Atom ∷ First ∷ []) rest' (flat_map atom_rows atoms) (First ∷ []) rest'' →
    ends_at missing rest'' ≡ Ok (first, last) → walk m (Nego ∷ []) lines ≡ Ok (rows_of (record { agents = agents; atoms = atoms; first = first; last = last }))
unfolding rows_of
whole missing m lines rest rest' rest'' agents atoms first last same h p q ends =
    let h' : header_at m lines ≡ Ok rest = subst (λ (f : Fault). header_at f lines ≡ Ok rest) same h in
    let ends' : ends_at m rest'' ≡ Ok (first, last) = subst (λ (f : Fault). ends_at f rest'' ≡ Ok (first, last)) same ends in
    let tail : walk m (First ∷ []) rest'' ≡ Ok (FirstRow first ∷ LastRow last ∷ EndRow ∷ []) = ends_is m rest'' ∙ rw ends' refl in
    before_ends m lines rest rest' rest'' agents atoms h' p q ∙
    ap (onto (HeaderRow ∷ front_rows agents atoms)) tail
