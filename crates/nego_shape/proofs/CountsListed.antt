-- The faults of counts: those of agents and atoms, and the first of all.
use Rattle.std.proofs.Common.{◌≡◌, ℕ, ◌<◌, ◌==◌, Bool, true, false, cond, List, [], ◌∷◌, length, get_or, Option, Some, None, slice_get, refl, ap, ap₂, ◌∙◌, arith}
use Rattle.std.proofs.lemmas.Bool.{eqb-false, ne_eqb}
use Rattle.std.proofs.lemmas.List.{length-map}
use Rattle.std.proofs.lemmas.Option.{slice_get-get_or}
use Rattle.std.specs.List.{AllPairs, flat_map}
use Rattle.std.specs.Option.{option_map, option_or}
use Rattle.nego_base.specs.Firsts.{first_among}
use Rattle.nego_reader.specs.declared.parsed.Parsed.{Parsed}
use Rattle.nego_reader.specs.declared.parsed.PAgent.{PAgent}
use Rattle.nego_reader.specs.declared.parsed.PAtom.{PAtom}
use Rattle.nego_reader.specs.declared.parsed.POut.{POut}
use Rattle.nego_reader.specs.Content.{content_of, agent_content, atom_content}
use Rattle.nego_reader.specs.Rising.{HasRisingWords}
use Rattle.nego_shape.specs.declared.fault.Many.{Many}
use Rattle.nego_shape.specs.declared.fault.Many.TheVariants as many
use Rattle.nego_shape.specs.declared.fault.ShapeFault.{ShapeFault}
use Rattle.nego_shape.specs.declared.fault.ShapeKind.TheVariants as kinds
use Rattle.nego_shape.specs.Conditions.{SomeAgent, FewAgents, FewAtoms, FewOutcomes}
use Rattle.nego_shape.specs.Faults.{Spot, spot_if, first_of, first_fault, faults}
use Rattle.nego_shape.proofs.SpotLists.{no_spot, fails, alone, head-past, few-past, past-few, each_out-flat, rises-passing}
use Rattle.nego_shape.proofs.RisingText.{agents_rise, atoms_rise}
use Rattle.nego_shape.proofs.Search.{IsListed}

-- ---- the first

abbrev too_many : Many → ℕ → ShapeFault
too_many many line = record { line = line; kind = kinds.TooMany many }

-- no agent, or what is one too many
abbrev pub first_count : Bool → Option PAgent → Option PAtom → Option ℕ → Option ShapeFault
first_count none agent atom line =
    option_or (cond none (Some (record { line = 1; kind = kinds.NoAgent })) None)
    (option_or (option_map (λ (x : PAgent). too_many many.Agents x.name.line) agent)
    (option_or (option_map (λ (x : PAtom). too_many many.Atoms x.name.line) atom) (option_map (too_many many.Outcomes) line)))

-- the line of the outcome that is one too many
abbrev pub line_past : List PAtom → Option ℕ
line_past atoms = option_map (λ (out : POut). out.name.line) (slice_get (flat_map (λ (atom : PAtom). atom.outs) atoms) 256)

abbrev fault_in : Option Spot → Option ShapeFault
fault_in found = option_map (λ (s : Spot). s.fault) found

no_agent : (test : Bool) → first_of (spot_if test 1 kinds.NoAgent) ≡ cond test (Some (record { line = 1; kind = kinds.NoAgent })) None
no_agent true = refl
no_agent false = refl

mapped : {A : Type 0} (line : A → ℕ) (which : Many) (x : Option A) → fault_in (option_map (λ a. record { fault = too_many which (line a); number = 0 }) x) ≡ option_map (λ a. too_many which (line a)) x
mapped line which None = refl
mapped line which (Some a) = refl

of_line : (o : Option POut) → option_or (option_map (λ (out : POut). too_many many.Outcomes out.name.line) o) None ≡ option_map (too_many many.Outcomes) (option_map (λ (out : POut). out.name.line) o)
of_line None = refl
of_line (Some out) = refl

pub counts_first : (p : Parsed) → first_fault (SomeAgent ∷ FewAgents ∷ FewAtoms ∷ FewOutcomes ∷ []) p ≡ first_count (length p.agents == 0) (slice_get p.agents 16) (slice_get p.atoms 64) (line_past p.atoms)
unfolding first_among
counts_first p =
    ap₂ option_or (no_agent (length p.agents == 0))
    (ap₂ option_or (ap fault_in (head-past (λ (x : PAgent). x.name.line) (kinds.TooMany many.Agents) 16 p.agents) ∙ mapped (λ (x : PAgent). x.name.line) many.Agents (slice_get p.agents 16))
    (ap₂ option_or (ap fault_in (head-past (λ (x : PAtom). x.name.line) (kinds.TooMany many.Atoms) 64 p.atoms) ∙ mapped (λ (x : PAtom). x.name.line) many.Atoms (slice_get p.atoms 64))
    (ap (λ o. option_or o None) outs ∙ of_line (slice_get (flat_map (λ (atom : PAtom). atom.outs) p.atoms) 256))))
  where
    outs : first_of (faults FewOutcomes p) ≡ option_map (λ (out : POut). too_many many.Outcomes out.name.line) (slice_get (flat_map (λ (atom : PAtom). atom.outs) p.atoms) 256)
    outs =
        ap first_of (each_out-flat (λ o (out : POut). spot_if (o == 256) out.name.line (kinds.TooMany many.Outcomes)) 0 0 p.atoms)
        ∙ (ap fault_in (head-past (λ (out : POut). out.name.line) (kinds.TooMany many.Outcomes) 256 (flat_map (λ (atom : PAtom). atom.outs) p.atoms))
        ∙ mapped (λ (out : POut). out.name.line) many.Outcomes (slice_get (flat_map (λ (atom : PAtom). atom.outs) p.atoms) 256))

-- ---- each condition

module _ (p : Parsed) where
  agents_long : length (content_of p).agents ≡ length p.agents
  agents_long = length-map p.agents agent_content

  atoms_long : length (content_of p).atoms ≡ length p.atoms
  atoms_long = length-map p.atoms atom_content

  pub agents_lines : HasRisingWords p → AllPairs (λ x y. x.name.line < y.name.line) p.agents
  agents_lines rises i j d l m = agents_rise p rises i j (get_or p.agents i d) (get_or p.agents j d) l (slice_get-get_or p.agents i d (omega (arith, l, m))) (slice_get-get_or p.agents j d m)

  pub atoms_lines : HasRisingWords p → AllPairs (λ x y. x.name.line < y.name.line) p.atoms
  atoms_lines rises i j d l m = atoms_rise p rises i j (get_or p.atoms i d) (get_or p.atoms j d) l (slice_get-get_or p.atoms i d (omega (arith, l, m))) (slice_get-get_or p.atoms j d m)

  pub some_agent : IsListed p SomeAgent
  some_agent = record {
    clear = λ met h. let some = eqb-false (length p.agents) 0 (fails (length p.agents == 0) 1 kinds.NoAgent h) in omega (arith, some, agents_long);
    empty = λ met h. no_spot (length p.agents == 0) 1 kinds.NoAgent (ne_eqb (length p.agents) 0 (λ e. omega (arith, e, h, agents_long)));
    rises = λ rises. alone (λ n (x : Parsed). length x.agents == 0) (λ (x : Parsed). 1) (λ n. kinds.NoAgent) (length p.agents == 0) 0 p;
  }

  pub few_agents : IsListed p FewAgents
  few_agents = record {
    clear = λ met h. let few = few-past (λ (x : PAgent). x.name.line) (kinds.TooMany many.Agents) 16 p.agents h in omega (arith, few, agents_long);
    empty = λ met h. past-few (λ (x : PAgent). x.name.line) (kinds.TooMany many.Agents) 16 p.agents (omega (arith, h, agents_long));
    rises = λ rises. rises-passing (λ i (x : PAgent). i == 16) (λ (x : PAgent). x.name.line) (λ i. kinds.TooMany many.Agents) p.agents (agents_lines rises);
  }

  pub few_atoms : IsListed p FewAtoms
  few_atoms = record {
    clear = λ met h. let few = few-past (λ (x : PAtom). x.name.line) (kinds.TooMany many.Atoms) 64 p.atoms h in omega (arith, few, atoms_long);
    empty = λ met h. past-few (λ (x : PAtom). x.name.line) (kinds.TooMany many.Atoms) 64 p.atoms (omega (arith, h, atoms_long));
    rises = λ rises. rises-passing (λ i (x : PAtom). i == 64) (λ (x : PAtom). x.name.line) (λ i. kinds.TooMany many.Atoms) p.atoms (atoms_lines rises);
  }
