-- The parts that are made are those of the content's diagram.
use Rattle.std.proofs.Common.{◌≡◌, ℕ, ◌+◌, ◌<◌, ◌≤◌, List, [], ◌∷◌, ◌++◌, length, map, take, drop, get_or, Some, slice_get, zero, suc, refl, sym, ap, subst, ◌∙◌, arith, append_assoc}
use Rattle.std.proofs.lemmas.Simd.{map-map}
use Rattle.std.proofs.lemmas.Option.{none-some, same_Some, slice_get-get_or}
use Rattle.std.proofs.lemmas.List.{length-map, length-append, length-take-le, map-append, get_or-map, get_or-take, take_more}
use Rattle.std.proofs.lemmas.List.FromFn.{fill_by_all}
use Rattle.std.proofs.lemmas.List.Elements.{Contains-append_left, Contains-append_right, Contains-get_or}
use Rattle.std.specs.List.{All, Contains, range_with_len}
use Rattle.nego_model.specs.declared.parts.AtomPart.{AtomPart}
use Rattle.nego_model.specs.declared.parts.OutcomePart.{OutcomePart}
use Rattle.nego_model.specs.Diagram.{PlainAtom, PlainOutcome, PlainDiagram}
use Rattle.nego_model.specs.Parts.{plain_atom, plain_outcome, plain_of}
use Rattle.nego_reader.specs.declared.parsed.Parsed.{Parsed}
use Rattle.nego_reader.specs.declared.parsed.PAgent.{PAgent}
use Rattle.nego_reader.specs.declared.parsed.PAtom.{PAtom}
use Rattle.nego_reader.specs.declared.parsed.PCase.{PCase}
use Rattle.nego_reader.specs.declared.parsed.POut.{POut}
use Rattle.nego_reader.specs.Content.{Content, AgentContent, AtomContent, OutContent, agent_content, atom_content, out_content, case_content, content_of}
use Rattle.nego_base.proofs.LineLoops.{cut_at}
use Rattle.nego_base.proofs.ListLaws.{mapped_at}
use Rattle.nego_shape.specs.Naming.{place_of, agent_names, atom_names, sizes_in, outs_from, all_outs, case_in, atom_in, outcome_in, diagram_in}
use Rattle.nego_shape.specs.Made.{placed_at, part_in, parts_from}

-- parts without the numbers of their outcomes
plain-parts_from : (c : Content) (k : ℕ) (atoms : List AtomContent) → map plain_atom (parts_from c k atoms) ≡ map (atom_in c) atoms
plain-parts_from c k [] = refl
plain-parts_from c k (atom ∷ atoms) = ap (λ xs. atom_in c atom ∷ xs) (plain-parts_from c (k + length atom.outs) atoms)

-- the names and the sizes, as they are read off
pub names_read : (agents : List PAgent) → map (λ agent. agent.name.text) agents ≡ map (λ agent. agent.name) (map agent_content agents)
names_read agents = sym (map-map (λ (agent : AgentContent). agent.name) agent_content agents)

pub atoms_read : (atoms : List PAtom) → map (λ atom. atom.name.text) atoms ≡ map (λ atom. atom.name) (map atom_content atoms)
atoms_read atoms = sym (map-map (λ (atom : AtomContent). atom.name) atom_content atoms)

pub sizes_read : (agents : List PAgent) → map (λ agent. agent.size) agents ≡ map (λ agent. agent.size) (map agent_content agents)
sizes_read agents = sym (map-map (λ (agent : AgentContent). agent.size) agent_content agents)

abbrev Made : List (List ℕ) → List ℕ → List PlainAtom → List PlainOutcome → ℕ → ℕ → PlainDiagram
Made a s t o f l = record { agents = a; sizes = s; atoms = t; outcomes = o; first = f; last = l }

-- parts with these names, sizes, atoms and outcomes are those of the diagram
pub diagram_made : (p : Parsed) (a : List (List ℕ)) (s : List ℕ) (t : List AtomPart) (o : List OutcomePart) (f l : ℕ) → a ≡ map (λ agent. agent.name.text) p.agents → s ≡ sizes_in (content_of p) →
    t ≡ parts_from (content_of p) 0 (map atom_content p.atoms) → map (plain_outcome (length p.agents)) o ≡ map (outcome_in (content_of p)) (all_outs (content_of p)) →
    f ≡ place_of p.first.text (atom_names (content_of p)) → l ≡ place_of p.last.text (atom_names (content_of p)) →
    plain_of (record { agents = a; sizes = s; atoms = t; outcomes = o; first = record { 0 = f }; last = record { 0 = l } }) ≡ diagram_in (content_of p)
diagram_made p a s t o f l e1 e2 e3 e4 e5 e6 =
    let c = content_of p in
    let count : length a ≡ length p.agents = ap length e1 ∙ length-map p.agents (λ (agent : PAgent). agent.name.text) in
    let outcomes : map (plain_outcome (length a)) o ≡ map (outcome_in c) (all_outs c) = ap (λ n. map (plain_outcome n) o) count ∙ e4 in
    let atoms : map plain_atom t ≡ map (atom_in c) c.atoms = ap (map plain_atom) e3 ∙ plain-parts_from c 0 c.atoms in
    ap (λ (x : List (List ℕ)). Made x s (map plain_atom t) (map (plain_outcome (length a)) o) f l) (e1 ∙ names_read p.agents)
    ∙ (ap (λ (x : List ℕ). Made (agent_names c) x (map plain_atom t) (map (plain_outcome (length a)) o) f l) e2
    ∙ (ap (λ (x : List PlainAtom). Made (agent_names c) (sizes_in c) x (map (plain_outcome (length a)) o) f l) atoms
    ∙ (ap (λ (x : List PlainOutcome). Made (agent_names c) (sizes_in c) (map (atom_in c) c.atoms) x f l) outcomes
    ∙ (ap (λ (x : ℕ). Made (agent_names c) (sizes_in c) (map (atom_in c) c.atoms) (map (outcome_in c) (all_outs c)) x l) e5
    ∙ ap (λ (x : ℕ). Made (agent_names c) (sizes_in c) (map (atom_in c) c.atoms) (map (outcome_in c) (all_outs c)) (place_of p.first.text (atom_names c)) x) e6))))

-- the outcomes of an atom are among all
outs-contain : (n i : ℕ) (atoms : List AtomContent) (atom : AtomContent) (k : ℕ) (d : OutContent) → slice_get atoms i ≡ Some atom → k < length atom.outs → Contains (outs_from n atoms) (placed_at (n + i) (get_or atom.outs k d))
outs-contain n i [] atom k d at h = absurd (none-some atom at)
outs-contain n zero (x ∷ xs) atom k d at h =
    let same : x ≡ atom = same_Some x atom at in
    let here : n ≡ n + 0 = omega arith in
    let below : k < length x.outs = subst (λ (y : AtomContent). k < length y.outs) (sym same) h in
    let long : length (map (placed_at n) x.outs) ≡ length x.outs = length-map x.outs (placed_at n) in
    subst (λ (y : AtomContent). Contains (outs_from n (x ∷ xs)) (placed_at (n + 0) (get_or y.outs k d))) same
    (subst (λ m. Contains (outs_from n (x ∷ xs)) (placed_at m (get_or x.outs k d))) here
    (Contains-append_left (map (placed_at n) x.outs) (outs_from (n + 1) xs) (placed_at n (get_or x.outs k d))
    (subst (Contains (map (placed_at n) x.outs)) (get_or-map (placed_at n) x.outs k d (placed_at n d) below) (Contains-get_or (map (placed_at n) x.outs) k (placed_at n d) (omega (arith, long, below))))))
outs-contain n (suc i) (x ∷ xs) atom k d at h =
    let there : n + 1 + i ≡ n + suc i = omega arith in
    Contains-append_right (map (placed_at n) x.outs) (outs_from (n + 1) xs) (placed_at (n + suc i) (get_or atom.outs k d))
    (subst (λ m. Contains (outs_from (n + 1) xs) (placed_at m (get_or atom.outs k d))) there (outs-contain (n + 1) i xs atom k d at h))

-- the outcomes of the atom at a place are among all
pub outs_are_placed : (p : Parsed) (n : ℕ) (atom : PAtom) → n < length p.atoms → atom ≡ get_or p.atoms n atom → All (λ out. Contains (all_outs (content_of p)) (placed_at n (out_content out))) atom.outs
outs_are_placed p n atom below is k d inside =
    let out = get_or atom.outs k d in
    let there : slice_get p.atoms n ≡ Some atom = slice_get-get_or p.atoms n atom below ∙ ap (λ (x : PAtom). Some x) (sym is) in
    let at : slice_get (map atom_content p.atoms) n ≡ Some (atom_content atom) = mapped_at atom_content p.atoms n atom there in
    let long : length (map out_content atom.outs) ≡ length atom.outs = length-map atom.outs out_content in
    let zero_n : 0 + n ≡ n = omega arith in
    let item : get_or (map out_content atom.outs) k (out_content out) ≡ out_content out = get_or-map out_content atom.outs k d (out_content out) inside in
    subst (λ m. Contains (all_outs (content_of p)) (placed_at m (out_content out))) zero_n
    (subst (λ (x : OutContent). Contains (all_outs (content_of p)) (placed_at (0 + n) x)) item
    (outs-contain 0 n (map atom_content p.atoms) (atom_content atom) k (out_content out) at (omega (arith, long, inside))))

-- the outcomes of the atoms from n on: those of atom n, and then the others
pub outs_cut : (p : Parsed) (n : ℕ) (atom : PAtom) (front made total : List PlainOutcome) → n < length p.atoms → atom ≡ get_or p.atoms n atom →
    made ≡ front ++ map (λ out. outcome_in (content_of p) (placed_at n (out_content out))) atom.outs →
    front ++ map (outcome_in (content_of p)) (outs_from n (map atom_content (drop n p.atoms))) ≡ total →
    made ++ map (outcome_in (content_of p)) (outs_from (n + 1) (map atom_content (drop (n + 1) p.atoms))) ≡ total
outs_cut p n atom front made total below is put so_far =
    let c = content_of p in
    let rest = map (outcome_in c) (outs_from (n + 1) (map atom_content (drop (n + 1) p.atoms))) in
    let own = map (outcome_in c) (map (placed_at n) (map out_content atom.outs)) in
    let cut : map (outcome_in c) (outs_from n (map atom_content (drop n p.atoms))) ≡ own ++ rest =
    ap (λ (xs : List PAtom). map (outcome_in c) (outs_from n (map atom_content xs))) (cut_at p.atoms n atom below is)
    ∙ map-append (outcome_in c) (map (placed_at n) (map out_content atom.outs)) (outs_from (n + 1) (map atom_content (drop (n + 1) p.atoms))) in
    let same : map (λ out. outcome_in c (placed_at n (out_content out))) atom.outs ≡ own = sym (ap (map (outcome_in c)) (map-map (placed_at n) out_content atom.outs) ∙ map-map (outcome_in c) (λ (out : POut). placed_at n (out_content out)) atom.outs) in
    ap (λ (xs : List PlainOutcome). xs ++ rest) (put ∙ ap (λ (xs : List PlainOutcome). front ++ xs) same)
    ∙ (append_assoc front own rest ∙ (ap (λ (xs : List PlainOutcome). front ++ xs) (sym cut) ∙ so_far))

-- one more atom: its part is put behind, and the others begin behind its outcomes
pub parts_more : (c : Content) (atoms : List PAtom) (i : ℕ) (atom : PAtom) (parts new : List AtomPart) (part : AtomPart) (start count : ℕ) (total : List AtomPart) → i < length atoms → atom ≡ get_or atoms i atom →
    part ≡ part_in c start (atom_content atom) → new ≡ parts ++ part ∷ [] → count ≡ length atom.outs →
    parts ++ parts_from c start (map atom_content (drop i atoms)) ≡ total → new ++ parts_from c (start + count) (map atom_content (drop (i + 1) atoms)) ≡ total
parts_more c atoms i atom parts new part start count total below is made put counted so_far =
    let rest = parts_from c (start + count) (map atom_content (drop (i + 1) atoms)) in
    let long : length (map out_content atom.outs) ≡ count = length-map atom.outs out_content ∙ sym counted in
    let cut : parts_from c start (map atom_content (drop i atoms)) ≡ part ∷ rest =
    ap (λ (xs : List PAtom). parts_from c start (map atom_content xs)) (cut_at atoms i atom below is)
    ∙ (ap (λ (x : AtomPart). x ∷ parts_from c (start + length (map out_content atom.outs)) (map atom_content (drop (i + 1) atoms))) (sym made)
    ∙ ap (λ n. part ∷ parts_from c (start + n) (map atom_content (drop (i + 1) atoms))) long) in
    ap (λ (xs : List AtomPart). xs ++ rest) put ∙ (append_assoc parts (part ∷ []) rest ∙ (ap (λ (xs : List AtomPart). parts ++ xs) (sym cut) ∙ so_far))

-- and as many outcomes fewer are left
pub outs_left : (atoms : List PAtom) (i : ℕ) (atom : PAtom) (start count limit : ℕ) → i < length atoms → atom ≡ get_or atoms i atom → count ≡ length atom.outs →
    start + length (outs_from i (map atom_content (drop i atoms))) ≤ limit → start + count + length (outs_from (i + 1) (map atom_content (drop (i + 1) atoms))) ≤ limit
outs_left atoms i atom start count limit below is counted few =
    let rest = outs_from (i + 1) (map atom_content (drop (i + 1) atoms)) in
    let own = map (placed_at i) (map out_content atom.outs) in
    let cut : length (outs_from i (map atom_content (drop i atoms))) ≡ length own + length rest =
    ap (λ (xs : List PAtom). length (outs_from i (map atom_content xs))) (cut_at atoms i atom below is) ∙ length-append own rest in
    let long : length own ≡ length atom.outs = length-map (map out_content atom.outs) (placed_at i) ∙ length-map atom.outs out_content in
    omega (arith, cut, long, counted, few)

-- those made so far and an atom's outcomes are not too many
pub few_made : (p : Parsed) (n count : ℕ) (atom : PAtom) (made : List OutcomePart) → n < length p.atoms → atom ≡ get_or p.atoms n atom → length (all_outs (content_of p)) ≤ 256 →
    map (plain_outcome count) made ++ map (outcome_in (content_of p)) (outs_from n (map atom_content (drop n p.atoms))) ≡ map (outcome_in (content_of p)) (all_outs (content_of p)) → length made + length atom.outs ≤ 256
few_made p n count atom made below is few so_far =
    let c = content_of p in
    let rest = outs_from n (map atom_content (drop n p.atoms)) in
    let sum = length-append (map (plain_outcome count) made) (map (outcome_in c) rest) in
    let front = length-map made (plain_outcome count) in
    let behind = length-map rest (outcome_in c) in
    let all = length-map (all_outs c) (outcome_in c) in
    let long = ap length so_far in
    let within : length made + length rest ≤ 256 = omega (arith, sum, front, behind, all, long, few) in
    let left = outs_left p.atoms n atom (length made) (length atom.outs) 256 below is refl within in
    omega (arith, left)

-- as many more are made
pub more_made : {A B C : Type 0} (f : A → B) (g : C → B) (old new : List A) (items : List C) → map f new ≡ map f old ++ map g items → length new ≡ length old + length items
more_made f g old new items h =
    let long = ap length h in
    let sum = length-append (map f old) (map g items) in
    let one = length-map new f in
    let two = length-map old f in
    let three = length-map items g in
    omega (arith, long, sum, one, two, three)

-- one more is made, of the next item
pub one_more_made : {A B C : Type 0} (f : A → B) (g : C → B) (front old new : List A) (items : List C) (i : ℕ) (x : A) (item : C) → i < length items → item ≡ get_or items i item → f x ≡ g item →
    new ≡ old ++ x ∷ [] → map f old ≡ map f front ++ map g (take i items) → map f new ≡ map f front ++ map g (take (i + 1) items)
one_more_made {A} {B} {C} f g front old new items i x item below is made put so_far =
    let more : map g (take (i + 1) items) ≡ map g (take i items) ++ g item ∷ [] =
    ap (map g) (take_more items i item below) ∙ (map-append g (take i items) (get_or items i item ∷ []) ∙ ap (λ (y : C). map g (take i items) ++ g y ∷ []) (sym is)) in
    ap (map f) put
    ∙ (map-append f old (x ∷ []) ∙ (ap (λ (y : B). map f old ++ y ∷ []) made ∙ (ap (λ (ys : List B). ys ++ g item ∷ []) so_far
    ∙ (append_assoc (map f front) (map g (take i items)) (g item ∷ []) ∙ ap (λ (ys : List B). map f front ++ ys) (sym more)))))

-- the cases, as they are read off
pub cases_read : (c : Content) (cases : List PCase) → map (λ case. case_in c (case_content case)) cases ≡ map (case_in c) (map case_content cases)
cases_read c cases = sym (map-map (case_in c) case_content cases)

-- entries that are what they should be, up to a count
pub entries_filled : (f : ℕ → List ℕ) (entries : List (List ℕ)) (n : ℕ) → n ≤ length entries → ((k : ℕ) → k < n → get_or entries k [] ≡ f k) → take n entries ≡ map f (range_with_len 0 n)
entries_filled f entries n few h = fill_by_all f (take n entries) n [] (length-take-le n entries few) (λ k below. get_or-take n entries k [] below ∙ h k below)
