use Rattle.std.proofs.Common.{List, map, sym, ap, subst, ◌∙◌}
use Rattle.nego_reader.specs.declared.parsed.PAgent.{PAgent}
use Rattle.nego_reader.specs.declared.parsed.PAtom.{PAtom}
use Rattle.nego_shape.specs.Shaped.{AreDifferent}
use Rattle.nego_shape.proofs.PartsMade.{names_read, atoms_read}
use Rattle.nego_shape.proofs.numbering.Numbered.new.Goals as goal

pub agent_numbers-requires : goal.agent_numbers-requires
agent_numbers-requires c =
    subst AreDifferent (sym (ap (λ (xs : List PAgent). map (λ agent. agent.name.text) xs) c.as_slice.ensures ∙ names_read c.args.text.now.agents)) c.requires.named_once.agents

pub atom_numbers-requires : goal.atom_numbers-requires
atom_numbers-requires c =
    subst AreDifferent (sym (ap (λ (xs : List PAtom). map (λ atom. atom.name.text) xs) c.as_slice-2.ensures ∙ atoms_read c.args.text.now.atoms)) c.requires.named_once.atoms

pub invariant_of-result : goal.invariant_of-result
invariant_of-result c = (
  c.in_ok-agents.ensures ∙ (ap (λ (xs : List PAgent). map (λ agent. agent.name.text) xs) c.as_slice.ensures ∙ names_read c.args.text.now.agents),
  c.in_ok-atoms.ensures ∙ (ap (λ (xs : List PAtom). map (λ atom. atom.name.text) xs) c.as_slice-2.ensures ∙ atoms_read c.args.text.now.atoms),
  c.requires.agents,
  c.requires.atoms,
)
