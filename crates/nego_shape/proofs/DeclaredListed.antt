-- The list of the words that aren't declared is empty where all names are declared, and only there, and it rises.
use Rattle.std.proofs.Common.{◌≡◌, inl, inr, ℕ, ◌+◌, ◌<◌, List, [], ◌∷◌, ◌++◌, map, get_or, refl, sym, subst, ap, ap₂, ◌∙◌}
use Rattle.std.proofs.lemmas.Simd.{map-map}
use Rattle.std.proofs.lemmas.List.{map-append}
use Rattle.std.proofs.lemmas.List.Elements.{All-nil, All-cons, All-head, All-tail, All-append, All-map, All-filter, All-weaker}
use Rattle.std.proofs.lemmas.List.Kept.{AllPairs-filter}
use Rattle.std.specs.List.{All, AllPairs, flat_map}
use Rattle.nego_base.specs.declared.line.Word.{Word}
use Rattle.nego_base.proofs.ListLaws.{All-flat, All-each, All-unmap}
use Rattle.nego_base.proofs.PairLaws.{AllPairs-nil, AllPairs-append, AllPairs-front, AllPairs-head, AllPairs-tail, AllPairs-map}
use Rattle.nego_reader.specs.declared.parsed.Parsed.{Parsed}
use Rattle.nego_reader.specs.declared.parsed.PAtom.{PAtom}
use Rattle.nego_reader.specs.declared.parsed.POut.{POut}
use Rattle.nego_reader.specs.declared.parsed.PNext.{PNext}
use Rattle.nego_reader.specs.declared.parsed.PCase.{PCase}
use Rattle.nego_reader.specs.declared.parsed.PRight.{PRight}
use Rattle.nego_reader.specs.declared.parsed.PRight.TheVariants as rights
use Rattle.nego_reader.specs.declared.parsed.PTerm.{PTerm}
use Rattle.nego_reader.specs.declared.parsed.PTerm.TheVariants as terms
use Rattle.nego_reader.specs.Content.{Content, AtomContent, OutContent, NextContent, CaseContent, content_of, atom_content, out_content, next_content, case_content, test_content, set_content, right_content, term_content, texts}
use Rattle.nego_reader.specs.Rising.{right_words, test_words, term_words, set_words, case_words, words_in, IsAbove, HasRisingWords}
use Rattle.nego_reader.specs.Rows.{Row, HeaderRow, AgentRow, AtomRow, OutRow, CaseRow, NextRow, FirstRow, LastRow, EndRow, rows_of}
use Rattle.nego_shape.specs.declared.fault.ShapeKind.TheVariants as kinds
use Rattle.nego_shape.specs.Faults.{Spot, spot, of_words, others, undeclared_in, undeclared_words, IsAhead}
use Rattle.nego_shape.specs.Conditions.{AllDeclared}
use Rattle.nego_shape.specs.Made.{placed_at}
use Rattle.nego_shape.specs.Naming.{PlacedOut, agent_names, atom_names, outs_from, all_outs}
use Rattle.nego_shape.specs.Shaped.{IsDeclared, AreAllDeclared, right_names, test_names, term_names, set_names, case_names}
use Rattle.nego_shape.specs.Undeclared.{undeclared_in_out, undeclared_in_atom}
use Rattle.nego_shape.proofs.DeclaredParts.{is_other, one_declared, all_declared, none_other, of_ends, text_is, none_of_text}
use Rattle.nego_shape.proofs.FlatPairs.{AllBetween, pairs_of_all}
use Rattle.nego_shape.proofs.Numbered.{empty_parts, empty_both, empty_map, clear-flat, empty-flat}
use Rattle.nego_shape.proofs.Search.{IsListed}
use Rattle.nego_shape.proofs.TextWords.{IsBefore}

-- ---- the names of a case are those of its words

flat_texts : {X Y : Type 0} (f : X → List Word) (g : Y → List (List ℕ)) (h : X → Y) → ((x : X) → texts (f x) ≡ g (h x)) → (xs : List X) → texts (flat_map f xs) ≡ flat_map g (map h xs)
flat_texts f g h same [] = refl
flat_texts f g h same (x ∷ xs) = map-append (λ (w : Word). w.text) (f x) (flat_map f xs) ∙ ap₂ (λ ys zs. ys ++ zs) (same x) (flat_texts f g h same xs)

right_texts : (right : PRight) → texts (right_words right) ≡ right_names (right_content right)
right_texts (rights.Number n) = refl
right_texts (rights.Name name) = refl

term_texts : (term : PTerm) → texts (term_words term) ≡ term_names (term_content term)
term_texts terms.Any = refl
term_texts (terms.Number n) = refl
term_texts (terms.Plus name n) = refl
term_texts (terms.Minus name n) = refl

pub case_texts : (case : PCase) → texts (case_words case) ≡ case_names (case_content case)
case_texts case =
    map-append (λ (w : Word). w.text) (flat_map test_words case.tests) (flat_map set_words case.sets)
    ∙ ap₂ (λ ys zs. ys ++ zs) (flat_texts test_words test_names test_content (λ test. ap (λ ns. test.left.text ∷ ns) (right_texts test.right)) case.tests)
    (flat_texts set_words set_names set_content (λ set. ap (λ ns. set.agent.text ∷ ns) (term_texts set.term)) case.sets)

-- ---- the outcomes of a content are those of the text

abbrev pub outs : List PAtom → List POut
outs atoms = flat_map (λ (atom : PAtom). atom.outs) atoms

outs_same : (n : ℕ) (atoms : List PAtom) → map (λ (placed : PlacedOut). placed.out) (outs_from n (map atom_content atoms)) ≡ map out_content (outs atoms)
outs_same n [] = refl
outs_same n (atom ∷ atoms) =
    map-append (λ (placed : PlacedOut). placed.out) (map (placed_at n) (map out_content atom.outs)) (outs_from (n + 1) (map atom_content atoms))
    ∙ ap₂ (λ xs ys. xs ++ ys) (map-map (λ (placed : PlacedOut). placed.out) (placed_at n) (map out_content atom.outs) ∙ map-map (λ out. out) out_content atom.outs) (outs_same (n + 1) atoms)
    ∙ sym (map-append out_content atom.outs (outs atoms))

module _ (P : OutContent → Type 0) (p : Parsed) where
  pub all_placed : All (λ out. P (out_content out)) (outs p.atoms) → All (λ placed. P placed.out) (all_outs (content_of p))
  all_placed h = All-unmap P (λ (placed : PlacedOut). placed.out) (all_outs (content_of p)) (subst (All P) (sym (outs_same 0 p.atoms)) (All-map P out_content (outs p.atoms) h))

  pub all_read : All (λ placed. P placed.out) (all_outs (content_of p)) → All (λ out. P (out_content out)) (outs p.atoms)
  all_read h = All-unmap P out_content (outs p.atoms) (subst (All P) (outs_same 0 p.atoms) (All-map P (λ (placed : PlacedOut). placed.out) (all_outs (content_of p)) h))

-- ---- the words of a line stand in their order

module _ (p : Parsed) where
  abbrev c : Content
  c = content_of p

  in_row : (P : Word → Type 0) (row : Row) → All P (words_in row) → All P (undeclared_in c row)
  in_row P HeaderRow h = All-nil P
  in_row P (AgentRow a) h = All-nil P
  in_row P (AtomRow name parties) h = All-filter (is_other (agent_names c)) P parties (All-tail P name parties h)
  in_row P (OutRow name) h = All-nil P
  in_row P (CaseRow case) h = All-filter (is_other (agent_names c)) P (case_words case) h
  in_row P (NextRow next) h =
      All-append P (others (atom_names c) (next.atom ∷ [])) (others (agent_names c) next.agents)
      (All-filter (is_other (atom_names c)) P (next.atom ∷ []) (All-cons P next.atom [] (All-head P next.atom next.agents h) (All-nil P)))
      (All-filter (is_other (agent_names c)) P next.agents (All-tail P next.atom next.agents h))
  in_row P (FirstRow name) h = All-filter (is_other (atom_names c)) P (name ∷ []) h
  in_row P (LastRow name) h = All-filter (is_other (atom_names c)) P (name ∷ []) h
  in_row P EndRow h = All-nil P

  row_rises : (row : Row) → AllPairs IsBefore (words_in row) → AllPairs IsBefore (undeclared_in c row)
  row_rises HeaderRow h = AllPairs-nil IsBefore
  row_rises (AgentRow a) h = AllPairs-nil IsBefore
  row_rises (AtomRow name parties) h = AllPairs-filter IsBefore (is_other (agent_names c)) parties (AllPairs-tail IsBefore name parties h)
  row_rises (OutRow name) h = AllPairs-nil IsBefore
  row_rises (CaseRow case) h = AllPairs-filter IsBefore (is_other (agent_names c)) (case_words case) h
  row_rises (NextRow next) h =
      let agents = others (agent_names c) next.agents in
      let behind = All-filter (is_other (agent_names c)) (IsBefore next.atom) next.agents (AllPairs-head IsBefore next.atom next.agents h) in
      AllPairs-append IsBefore (others (atom_names c) (next.atom ∷ [])) agents
      (AllPairs-filter IsBefore (is_other (atom_names c)) (next.atom ∷ []) (AllPairs-front IsBefore (next.atom ∷ []) next.agents h))
      (AllPairs-filter IsBefore (is_other (agent_names c)) next.agents (AllPairs-tail IsBefore next.atom next.agents h))
      (All-filter (is_other (atom_names c)) (λ word. All (IsBefore word) agents) (next.atom ∷ []) (All-cons (λ word. All (IsBefore word) agents) next.atom [] behind (All-nil (λ word. All (IsBefore word) agents))))
  row_rises (FirstRow name) h = AllPairs-filter IsBefore (is_other (atom_names c)) (name ∷ []) h
  row_rises (LastRow name) h = AllPairs-filter IsBefore (is_other (atom_names c)) (name ∷ []) h
  row_rises EndRow h = AllPairs-nil IsBefore

  rows_between : (row below : Row) → IsAbove row below → AllBetween IsBefore (undeclared_in c row) (undeclared_in c below)
  rows_between row below h =
      in_row (λ word. All (IsBefore word) (undeclared_in c below)) row
      (All-weaker (λ word. All (λ other. word.line < other.line) (words_in below)) (λ word. All (IsBefore word) (undeclared_in c below))
      (λ word k. in_row (IsBefore word) below (All-weaker (λ other. word.line < other.line) (IsBefore word) (λ other less. inl less) (words_in below) k)) (words_in row) h)

  words_rise : HasRisingWords p → AllPairs IsBefore (undeclared_words p)
  words_rise rises =
      pairs_of_all IsBefore (undeclared_in c) (rows_of p) (λ i j d l m. rows_between (get_or (rows_of p) i d) (get_or (rows_of p) j d) (rises.lines i j d l m))
      (λ k d l. row_rises (get_or (rows_of p) k d) (λ i j e m n. inr (rises.columns k d l i j e m n)))

  -- ---- there are none where all names are declared, and only there

  abbrev Agent : List ℕ → Type 0
  Agent = IsDeclared (agent_names c)

  abbrev Atom : List ℕ → Type 0
  Atom = IsDeclared (atom_names c)

  record IsOutDeclared (out : OutContent) : Type 0 where
    pub cases : All (λ case. All Agent (case_names case)) out.cases
    pub next_atoms : All (λ next. Atom next.atom) out.nexts
    pub next_agents : All (λ next. All Agent next.agents) out.nexts

  out_declared : (out : POut) → undeclared_in_out c out ≡ [] → IsOutDeclared (out_content out)
  out_declared out h =
      let two = empty_parts (flat_map (λ case. undeclared_in c (CaseRow case)) out.cases) (flat_map (λ next. undeclared_in c (NextRow next)) out.nexts) h in
      let next : All (λ (n : PNext). (others (atom_names c) (n.atom ∷ []) ≡ []) × (others (agent_names c) n.agents ≡ [])) out.nexts =
      λ k d l. empty_parts (others (atom_names c) ((get_or out.nexts k d).atom ∷ [])) (others (agent_names c) (get_or out.nexts k d).agents) (clear-flat (λ n. undeclared_in c (NextRow n)) out.nexts two.1 k d l) in
      record {
        cases = All-map (λ (case : CaseContent). All Agent (case_names case)) case_content out.cases
            (λ k d l. let case = get_or out.cases k d in subst (All Agent) (case_texts case) (all_declared (agent_names c) (case_words case) (clear-flat (λ x. undeclared_in c (CaseRow x)) out.cases two.0 k d l)));
        next_atoms = All-map (λ (n : NextContent). Atom n.atom) next_content out.nexts (λ k d l. one_declared (atom_names c) (get_or out.nexts k d).atom (next k d l).0);
        next_agents = All-map (λ (n : NextContent). All Agent n.agents) next_content out.nexts (λ k d l. all_declared (agent_names c) (get_or out.nexts k d).agents (next k d l).1);
      }

  none_in_out : (out : POut) → IsOutDeclared (out_content out) → undeclared_in_out c out ≡ []
  none_in_out out h =
      empty_both (flat_map (λ case. undeclared_in c (CaseRow case)) out.cases) (flat_map (λ next. undeclared_in c (NextRow next)) out.nexts)
      (empty-flat (λ case. undeclared_in c (CaseRow case)) out.cases
      (λ k d l. let case = get_or out.cases k d in none_other (agent_names c) (case_words case) (subst (All Agent) (sym (case_texts case)) (All-unmap (λ (x : CaseContent). All Agent (case_names x)) case_content out.cases h.cases k d l))))
      (empty-flat (λ next. undeclared_in c (NextRow next)) out.nexts
      (λ k d l.
      let next = get_or out.nexts k d in
      empty_both (others (atom_names c) (next.atom ∷ [])) (others (agent_names c) next.agents)
      (none_other (atom_names c) (next.atom ∷ []) (All-cons Atom next.atom.text [] (All-unmap (λ (n : NextContent). Atom n.atom) next_content out.nexts h.next_atoms k d l) (All-nil Atom)))
      (none_other (agent_names c) next.agents (All-unmap (λ (n : NextContent). All Agent n.agents) next_content out.nexts h.next_agents k d l))))

  all_are_declared : undeclared_words p ≡ [] → AreAllDeclared c
  all_are_declared h =
      let ends = empty_parts (flat_map (undeclared_in_atom c) p.atoms) (of_ends p) (sym (text_is p) ∙ h) in
      let first = empty_parts (others (atom_names c) (p.first ∷ [])) (others (atom_names c) (p.last ∷ []) ++ []) ends.1 in
      let last = empty_parts (others (atom_names c) (p.last ∷ [])) [] first.1 in
      let atom : All (λ (a : PAtom). (others (agent_names c) a.parties ≡ []) × (flat_map (undeclared_in_out c) a.outs ≡ [])) p.atoms =
      λ k d l. empty_parts (others (agent_names c) (get_or p.atoms k d).parties) (flat_map (undeclared_in_out c) (get_or p.atoms k d).outs) (clear-flat (undeclared_in_atom c) p.atoms ends.0 k d l) in
      let each : All (λ out. IsOutDeclared (out_content out)) (outs p.atoms) =
      All-flat (λ out. IsOutDeclared (out_content out)) (λ (a : PAtom). a.outs) p.atoms
      (λ k d l i o m. out_declared (get_or (get_or p.atoms k d).outs i o) (clear-flat (undeclared_in_out c) (get_or p.atoms k d).outs (atom k d l).1 i o m)) in
      let placed = all_placed IsOutDeclared p each in
      record {
        parties = All-map (λ (a : AtomContent). All Agent a.parties) atom_content p.atoms (λ k d l. all_declared (agent_names c) (get_or p.atoms k d).parties (atom k d l).0);
        cases = λ k d l. (placed k d l).cases;
        next_atoms = λ k d l. (placed k d l).next_atoms;
        next_agents = λ k d l. (placed k d l).next_agents;
        first = one_declared (atom_names c) p.first first.0;
        last = one_declared (atom_names c) p.last last.0;
      }

  none_undeclared : AreAllDeclared c → undeclared_words p ≡ []
  none_undeclared h =
      let each : All (λ (a : PAtom). All (λ out. IsOutDeclared (out_content out)) a.outs) p.atoms =
      All-each (λ out. IsOutDeclared (out_content out)) (λ (a : PAtom). a.outs) p.atoms (all_read IsOutDeclared p (λ k d l. record { cases = h.cases k d l; next_atoms = h.next_atoms k d l; next_agents = h.next_agents k d l })) in
      none_of_text p
      (empty-flat (undeclared_in_atom c) p.atoms
      (λ k d l.
      let atom = get_or p.atoms k d in
      empty_both (others (agent_names c) atom.parties) (flat_map (undeclared_in_out c) atom.outs)
      (none_other (agent_names c) atom.parties (All-unmap (λ (a : AtomContent). All Agent a.parties) atom_content p.atoms h.parties k d l))
      (empty-flat (undeclared_in_out c) atom.outs (λ i o m. none_in_out (get_or atom.outs i o) (each k d l i o m)))))
      (none_other (atom_names c) (p.first ∷ []) (All-cons Atom p.first.text [] h.first (All-nil Atom)))
      (none_other (atom_names c) (p.last ∷ []) (All-cons Atom p.last.text [] h.last (All-nil Atom)))

  abbrev spot_of : Word → Spot
  spot_of word = spot word.line word.column (kinds.Unknown word.text)

  pub declared_listed : IsListed p AllDeclared
  declared_listed = record {
    clear = λ met none. all_are_declared (empty_map spot_of (undeclared_words p) none);
    empty = λ met declared. ap (of_words kinds.Unknown) (none_undeclared declared);
    rises = λ rises. AllPairs-map IsAhead spot_of (undeclared_words p) (words_rise rises);
  }
