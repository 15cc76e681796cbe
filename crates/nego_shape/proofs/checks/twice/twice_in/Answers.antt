use Rattle.std.proofs.Common.{List, slice_get, take, sym, ap, ◌∙◌}
use Rattle.std.specs.Option.{option_copied}
use Rattle.nego_base.specs.Firsts.{first_numbered}
use Rattle.nego_base.specs.declared.line.Word.{Word}
use Rattle.nego_reader.specs.declared.parsed.PAgent.{PAgent}
use Rattle.nego_reader.specs.declared.parsed.PAtom.{PAtom}
use Rattle.nego_shape.specs.Faults.{numbered, repeated, twice_in_atom}
use Rattle.nego_shape.proofs.Numbered.{head-numbered, head_front, head_back}
use Rattle.nego_shape.proofs.checks.twice.twice_in.Goals as goal

abbrev names : List PAgent → List Word
names agents = repeated (λ (agent : PAgent). agent.name) agents

abbrev in_atoms : List PAtom → List Word
in_atoms atoms = numbered (λ n atom. twice_in_atom (take n atoms) atom) 0 atoms

pub returns-in-Some : goal.returns-in-Some
returns-in-Some c =
    let p = c.args.p.now in
    sym (head_front (names p.agents) (in_atoms p.atoms) c.in-Some.word.now (ap (λ agents. slice_get (names agents) 0) (sym c.as_slice.ensures) ∙ (sym c.repeated.ensures ∙ ap option_copied c.in-Some.is)))

pub returns : goal.returns
returns c =
    let p = c.args.p.now in
    let found : List PAtom → _ = λ atoms. first_numbered (λ n atom. slice_get (twice_in_atom (take n atoms) atom) 0) 0 atoms in
    c.twice_in_atoms.ensures ∙ (ap found c.as_slice-2.ensures ∙ sym (head_back (names p.agents) (in_atoms p.atoms) (ap (λ agents. slice_get (names agents) 0) (sym c.as_slice.ensures) ∙ (sym c.repeated.ensures ∙ ap option_copied c.in_default.is))
    ∙ head-numbered (λ n atom. twice_in_atom (take n p.atoms) atom) 0 p.atoms))
