-- Looking for what breaks a rule outcome after outcome, as loops do.
use Rattle.std.proofs.Common.{◌≡◌, ◌⊎◌, inl, inr, ℕ, ◌+◌, ◌<◌, ◌≤◌, List, [], ◌∷◌, ◌++◌, length, drop, get_or, Option, Some, None, refl, sym, ap, ◌∙◌, arith}
use Rattle.std.specs.List.{All, flat_map, Contains}
use Rattle.std.specs.Option.{option_or}
use Rattle.std.proofs.lemmas.List.{drop_all}
use Rattle.std.proofs.lemmas.List.Elements.{All-contains}
use Rattle.nego_base.specs.Firsts.{first_among, first_numbered}
use Rattle.nego_base.proofs.ListLaws.{cut_at}
use Rattle.nego_reader.specs.declared.parsed.Parsed.{Parsed}
use Rattle.nego_reader.specs.declared.parsed.PAtom.{PAtom}
use Rattle.nego_reader.specs.declared.parsed.POut.{POut}
use Rattle.nego_reader.specs.declared.parsed.PNext.{PNext}
use Rattle.nego_reader.specs.declared.parsed.PCase.{PCase}
use Rattle.nego_reader.specs.Content.{Content, NextContent, CaseContent, content_of, out_content, next_content, case_content}
use Rattle.nego_shape.specs.declared.fault.ShapeFault.{ShapeFault}
use Rattle.nego_shape.specs.declared.checks.outcomes.Rule.{Rule}
use Rattle.nego_shape.specs.declared.checks.outcomes.Rule.TheVariants as rules
use Rattle.nego_shape.specs.Naming.{PlacedOut, agent_names, atom_names, all_outs}
use Rattle.nego_shape.specs.Made.{placed_at}
use Rattle.nego_shape.specs.Shaped.{AreAllDeclared, IsDeclared, case_names}
use Rattle.nego_shape.specs.Faults.{Spot, numbered, each_out, first_of}
use Rattle.nego_shape.specs.Rules.{next_faults, case_faults, out_faults}
use Rattle.nego_shape.proofs.Gathering.{at_item}

or_found : {B : Type 0} (o rest : Option B) (y : B) → o ≡ Some y → option_or o rest ≡ Some y
or_found o rest y h = rw h refl

or_missed : {B : Type 0} (o rest : Option B) → o ≡ None → option_or o rest ≡ rest
or_missed o rest h = rw h refl

-- ---- the first of what items give

pub first-append : (xs ys : List Spot) → first_of (xs ++ ys) ≡ option_or (first_of xs) (first_of ys)
first-append [] ys = refl
first-append (x ∷ xs) ys = refl

pub first-flat : {A : Type 0} (f : A → List Spot) (xs : List A) → first_of (flat_map f xs) ≡ first_among (λ x. first_of (f x)) xs
unfolding first_among
first-flat f [] = refl
first-flat f (x ∷ xs) = first-append (f x) (flat_map f xs) ∙ ap (option_or (first_of (f x))) (first-flat f xs)

-- items that are numbered from k on
pub first-numbered : {A : Type 0} (f : ℕ → A → List Spot) (k n : ℕ) (xs : List A) → first_of (numbered f (k + n) xs) ≡ first_numbered (λ i x. first_of (f (k + i) x)) n xs
unfolding numbered first_numbered
first-numbered f k n [] = refl
first-numbered f k n (x ∷ xs) =
    let same : k + n + 1 ≡ k + (n + 1) = omega arith in
    first-append (f (k + n) x) (numbered f (k + n + 1) xs) ∙ ap (option_or (first_of (f (k + n) x))) (ap (λ m. first_of (numbered f m xs)) same ∙ first-numbered f k (n + 1) xs)

-- ---- the names of an outcome

module _ (p : Parsed) (n : ℕ) (out : POut) (declared : AreAllDeclared (content_of p)) (placed : Contains (all_outs (content_of p)) (placed_at n (out_content out))) where
  pub next_declared : (nexts : List PNext) (i : ℕ) (next : PNext) → nexts ≡ out.nexts → i < length nexts → next ≡ get_or nexts i next → IsDeclared (atom_names (content_of p)) next.atom.text
  next_declared nexts i next same below is =
      at_item (λ (x : NextContent). IsDeclared (atom_names (content_of p)) x.atom) next_content nexts i next
      (rw same (All-contains (λ (x : PlacedOut). All (λ (y : NextContent). IsDeclared (atom_names (content_of p)) y.atom) x.out.nexts) (all_outs (content_of p)) (placed_at n (out_content out)) declared.next_atoms placed)) below is

  pub case_declared : (cases : List PCase) (i : ℕ) (case : PCase) → cases ≡ out.cases → i < length cases → case ≡ get_or cases i case → All (IsDeclared (agent_names (content_of p))) (case_names (case_content case))
  case_declared cases i case same below is =
      at_item (λ (x : CaseContent). All (IsDeclared (agent_names (content_of p))) (case_names x)) case_content cases i case
      (rw same (All-contains (λ (x : PlacedOut). All (λ (y : CaseContent). All (IsDeclared (agent_names (content_of p))) (case_names y)) x.out.cases) (all_outs (content_of p)) (placed_at n (out_content out)) declared.cases placed)) below is

-- ---- what an outcome gives

module _ (rule : Rule) (c : Content) (n o : ℕ) (out : POut) where
  pub first_next : (rule ≡ rules.NoStranger) ⊎ (rule ≡ rules.LastEnds) → first_among (λ next. first_of (next_faults rule c n o next)) out.nexts ≡ first_of (out_faults rule c n o out)
  first_next (inl is) = rw is (sym (first-flat (next_faults rules.NoStranger c n o) out.nexts))
  first_next (inr is) = rw is (sym (first-flat (next_faults rules.LastEnds c n o) out.nexts))

  pub first_case : (rule ≡ rules.PartiesAlone) ⊎ (rule ≡ rules.NoLargeValue) → first_among (λ case. first_of (case_faults rule c n o case)) out.cases ≡ first_of (out_faults rule c n o out)
  first_case (inl is) = rw is (sym (first-flat (case_faults rules.PartiesAlone c n o) out.cases))
  first_case (inr is) = rw is (sym (first-flat (case_faults rules.NoLargeValue c n o) out.cases))

-- ---- atom after atom

module _ (f : ℕ → ℕ → POut → List Spot) (atoms : List PAtom) (n start : ℕ) (total : Option ShapeFault) (so_far : first_of (each_out f n start (drop n atoms)) ≡ total) where
  module _ (atom : PAtom) (below : n < length atoms) (is : atom ≡ get_or atoms n atom) where
    abbrev own : Option ShapeFault
    own = first_numbered (λ i out. first_of (f n (start + i) out)) 0 atom.outs

    abbrev rest : Option ShapeFault
    rest = first_of (each_out f (n + 1) (start + length atom.outs) (drop (n + 1) atoms))

    own_first : option_or own rest ≡ total
    unfolding each_out
    own_first =
        let same : start ≡ start + 0 = omega arith in
        sym (ap (λ xs. first_of (each_out f n start xs)) (cut_at atoms n atom below is)
        ∙ (first-append (numbered (f n) start atom.outs) (each_out f (n + 1) (start + length atom.outs) (drop (n + 1) atoms)) ∙ ap (λ r. option_or r rest) (ap (λ m. first_of (numbered (f n) m atom.outs)) same ∙ first-numbered (f n) start 0 atom.outs)))
        ∙ so_far

    pub found_at : (fault : ShapeFault) → own ≡ Some fault → Some fault ≡ total
    found_at fault h = sym (or_found own rest fault h) ∙ own_first

    pub missed_at : own ≡ None → rest ≡ total
    missed_at h = sym (or_missed own rest h) ∙ own_first

  pub missed_all : length atoms ≤ n → None ≡ total
  unfolding each_out
  missed_all past = sym (ap (λ xs. first_of (each_out f n start xs)) (drop_all n atoms past)) ∙ so_far
