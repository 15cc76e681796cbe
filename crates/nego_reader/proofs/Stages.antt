-- Lines in their order are those of a diagram.
use Rattle.std.proofs.Common.{◌≡◌, List, [], ◌∷◌, ◌++◌, map, Option, Some, None, refl, sym, ap, ◌∙◌, append_assoc}
use Rattle.std.specs.List.{flat_map}
use Rattle.nego_base.specs.declared.line.Word.{Word}
use Rattle.nego_reader.specs.declared.parsed.Parsed.{Parsed}
use Rattle.nego_reader.specs.declared.parsed.PAtom.{PAtom}
use Rattle.nego_reader.specs.declared.parsed.POut.{POut}
use Rattle.nego_reader.specs.declared.parsed.PAgent.{PAgent}
use Rattle.nego_reader.specs.declared.parsed.PNext.{PNext}
use Rattle.nego_reader.specs.declared.parsed.PCase.{PCase}
use Rattle.nego_reader.specs.Rows.{Kind, Nego, Agent, Atom, Out, Case, Next, First, Last, End, Row, HeaderRow, AgentRow, AtomRow, OutRow, CaseRow, NextRow, FirstRow, LastRow, EndRow, out_rows, atom_rows, rows_of}
use Rattle.nego_reader.proofs.Orders.{InOrder}

-- ---- the pieces of lines in their order

abbrev ends : Word → Word → List Row
ends first last = FirstRow first ∷ LastRow last ∷ EndRow ∷ []

abbrev AtomsOf : List Row → Type 0
AtomsOf rows = (atoms : List PAtom) × (first : Word) × (last : Word) × (rows ≡ flat_map atom_rows atoms ++ ends first last)

abbrev OutsOf : List Row → Type 0
OutsOf rows = (outs : List POut) × (rest : List Row) × (rows ≡ flat_map out_rows outs ++ rest) × AtomsOf rest

abbrev NextsOf : List Row → Type 0
NextsOf rows = (nexts : List PNext) × (rest : List Row) × (rows ≡ map NextRow nexts ++ rest) × OutsOf rest

abbrev CasesOf : List Row → Type 0
CasesOf rows = (cases : List PCase) × (rest : List Row) × (rows ≡ map CaseRow cases ++ rest) × NextsOf rest

abbrev AgentsOf : List Row → Type 0
AgentsOf rows = (agents : List PAgent) × (rest : List Row) × (rows ≡ map AgentRow agents ++ rest) × AtomsOf rest

no : {kind : Kind} {A : Type 0} → ◌≡◌ {A = Option Kind} None (Some kind) → A
no h = absurd cc

no_end : {kind : Kind} {kinds : List Kind} {A : Type 0} → ◌≡◌ {A = List Kind} (kind ∷ kinds) [] → A
no_end h = absurd cc

end_of : (rows : List Row) → InOrder (End ∷ []) rows → rows ≡ EndRow ∷ []
end_of [] h = no_end h
end_of (HeaderRow ∷ rows) h = no h.0
end_of (AgentRow a ∷ rows) h = no h.0
end_of (AtomRow name parties ∷ rows) h = no h.0
end_of (OutRow name ∷ rows) h = no h.0
end_of (CaseRow c ∷ rows) h = no h.0
end_of (NextRow n ∷ rows) h = no h.0
end_of (FirstRow name ∷ rows) h = no h.0
end_of (LastRow name ∷ rows) h = no h.0
end_of (EndRow ∷ []) h = refl
end_of (EndRow ∷ row ∷ rows) h = no h.1.0

last_of : (rows : List Row) → InOrder (Last ∷ []) rows → (last : Word) × (rows ≡ LastRow last ∷ EndRow ∷ [])
last_of [] h = no_end h
last_of (HeaderRow ∷ rows) h = no h.0
last_of (AgentRow a ∷ rows) h = no h.0
last_of (AtomRow name parties ∷ rows) h = no h.0
last_of (OutRow name ∷ rows) h = no h.0
last_of (CaseRow c ∷ rows) h = no h.0
last_of (NextRow n ∷ rows) h = no h.0
last_of (FirstRow name ∷ rows) h = no h.0
last_of (LastRow name ∷ rows) h = (name, ap (λ (rs : List Row). LastRow name ∷ rs) (end_of rows h.1))
last_of (EndRow ∷ rows) h = no h.0

first_of : (name : Word) (rows : List Row) → InOrder (Last ∷ []) rows → AtomsOf (FirstRow name ∷ rows)
first_of name rows h = let last = last_of rows h in ([], name, last.0, ap (λ (rs : List Row). FirstRow name ∷ rs) last.1)

atom_of : (name : Word) (parties : List Word) (rows : List Row) → OutsOf rows → AtomsOf (AtomRow name parties ∷ rows)
unfolding atom_rows
atom_of name parties rows (outs, rest, are, (atoms, first, last, rest_are)) = (
  record { name = name; parties = parties; outs = outs } ∷ atoms,
  first,
  last,
  ap (λ (rs : List Row). AtomRow name parties ∷ rs) (are ∙ (ap (λ (rs : List Row). flat_map out_rows outs ++ rs) rest_are ∙ sym (append_assoc (flat_map out_rows outs) (flat_map atom_rows atoms) (ends first last)))),
)

out_of : (name : Word) (rows : List Row) → CasesOf rows → OutsOf (OutRow name ∷ rows)
unfolding out_rows
out_of name rows (cases, rest, are, (nexts, rest', are', (outs, rest'', are'', atoms))) = (
  record { name = name; cases = cases; nexts = nexts } ∷ outs,
  rest'',
  ap (λ (rs : List Row). OutRow name ∷ rs) (are ∙ (ap (λ (rs : List Row). map CaseRow cases ++ rs) (are' ∙ ap (λ (rs : List Row). map NextRow nexts ++ rs) are'') ∙ regroup (map CaseRow cases) (map NextRow nexts) (flat_map out_rows outs) rest'')),
  atoms,
)
  where
    regroup : (a b c d : List Row) → a ++ (b ++ (c ++ d)) ≡ ((a ++ b) ++ c) ++ d
    regroup a b c d = simp append_assoc refl

-- what lines in order are, by where the first may stand
record Stages (rows : List Row) : Type 0 where
  agents : InOrder (Agent ∷ Atom ∷ First ∷ []) rows → AgentsOf rows
  outs : InOrder (Out ∷ Atom ∷ First ∷ []) rows → OutsOf rows
  cases : InOrder (Case ∷ Next ∷ Out ∷ Atom ∷ First ∷ []) rows → CasesOf rows
  nexts : InOrder (Next ∷ Out ∷ Atom ∷ First ∷ []) rows → NextsOf rows

no_outs : (rows : List Row) → AtomsOf rows → OutsOf rows
no_outs rows h = ([], rows, refl, h)

no_nexts : (rows : List Row) → OutsOf rows → NextsOf rows
no_nexts rows h = ([], rows, refl, h)

no_cases : (rows : List Row) → NextsOf rows → CasesOf rows
no_cases rows h = ([], rows, refl, h)

no_agents : (rows : List Row) → AtomsOf rows → AgentsOf rows
no_agents rows h = ([], rows, refl, h)

stages : (rows : List Row) → Stages rows
stages [] = record { agents = λ h. no_end h; outs = λ h. no_end h; cases = λ h. no_end h; nexts = λ h. no_end h }
stages (HeaderRow ∷ rows) = record { agents = λ h. no h.0; outs = λ h. no h.0; cases = λ h. no h.0; nexts = λ h. no h.0 }
stages (AgentRow a ∷ rows) =
    let later = stages rows in
    record {
      agents = λ h. let x = later.agents h.1 in (a ∷ x.0, x.1, ap (λ (rs : List Row). AgentRow a ∷ rs) x.2, x.3);
      outs = λ h. no h.0;
      cases = λ h. no h.0;
      nexts = λ h. no h.0;
    }
stages (AtomRow name parties ∷ rows) =
    let later = stages rows in
    let all = AtomRow name parties ∷ rows in
    record {
      agents = λ h. no_agents all (atom_of name parties rows (later.outs h.1));
      outs = λ h. no_outs all (atom_of name parties rows (later.outs h.1));
      cases = λ h. no_cases all (no_nexts all (no_outs all (atom_of name parties rows (later.outs h.1))));
      nexts = λ h. no_nexts all (no_outs all (atom_of name parties rows (later.outs h.1)));
    }
stages (OutRow name ∷ rows) =
    let later = stages rows in
    let all = OutRow name ∷ rows in
    record {
      agents = λ h. no h.0;
      outs = λ h. out_of name rows (later.cases h.1);
      cases = λ h. no_cases all (no_nexts all (out_of name rows (later.cases h.1)));
      nexts = λ h. no_nexts all (out_of name rows (later.cases h.1));
    }
stages (CaseRow c ∷ rows) =
    let later = stages rows in
    record {
      agents = λ h. no h.0;
      outs = λ h. no h.0;
      cases = λ h. let x = later.cases h.1 in (c ∷ x.0, x.1, ap (λ (rs : List Row). CaseRow c ∷ rs) x.2, x.3);
      nexts = λ h. no h.0;
    }
stages (NextRow n ∷ rows) =
    let later = stages rows in
    let more : NextsOf rows → NextsOf (NextRow n ∷ rows) = λ x. (n ∷ x.0, x.1, ap (λ (rs : List Row). NextRow n ∷ rs) x.2, x.3) in
    record {
      agents = λ h. no h.0;
      outs = λ h. no h.0;
      cases = λ h. no_cases (NextRow n ∷ rows) (more (later.nexts h.1));
      nexts = λ h. more (later.nexts h.1);
    }
stages (FirstRow name ∷ rows) =
    let all = FirstRow name ∷ rows in
    record {
      agents = λ h. no_agents all (first_of name rows h.1);
      outs = λ h. no_outs all (first_of name rows h.1);
      cases = λ h. no_cases all (no_nexts all (no_outs all (first_of name rows h.1)));
      nexts = λ h. no_nexts all (no_outs all (first_of name rows h.1));
    }
stages (LastRow name ∷ rows) = record { agents = λ h. no h.0; outs = λ h. no h.0; cases = λ h. no h.0; nexts = λ h. no h.0 }
stages (EndRow ∷ rows) = record { agents = λ h. no h.0; outs = λ h. no h.0; cases = λ h. no h.0; nexts = λ h. no h.0 }

diagram_of : (rows : List Row) → AgentsOf rows → (p : Parsed) × (HeaderRow ∷ rows ≡ rows_of p)
unfolding rows_of
diagram_of rows (agents, rest, are, (atoms, first, last, rest_are)) = (
  record { agents = agents; atoms = atoms; first = first; last = last },
  ap (λ (rs : List Row). HeaderRow ∷ rs) (are ∙ (ap (λ (rs : List Row). map AgentRow agents ++ rs) rest_are ∙ sym (append_assoc (map AgentRow agents) (flat_map atom_rows atoms) (ends first last)))),
)

pub order_diagram : (rows : List Row) → InOrder (Nego ∷ []) rows → (p : Parsed) × (rows ≡ rows_of p)
order_diagram [] h = no_end h
order_diagram (HeaderRow ∷ rows) h = diagram_of rows ((stages rows).agents h.1)
order_diagram (AgentRow a ∷ rows) h = no h.0
order_diagram (AtomRow name parties ∷ rows) h = no h.0
order_diagram (OutRow name ∷ rows) h = no h.0
order_diagram (CaseRow c ∷ rows) h = no h.0
order_diagram (NextRow n ∷ rows) h = no h.0
order_diagram (FirstRow name ∷ rows) h = no h.0
order_diagram (LastRow name ∷ rows) h = no h.0
order_diagram (EndRow ∷ rows) h = no h.0
