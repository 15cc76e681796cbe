use Rattle.std.proofs.Common.{map, sym, ap, subst, ◌∙◌}
use Rattle.nego_data.specs.Sizes.{AreSizes}
use Rattle.nego_reader.specs.declared.parsed.Parsed.{Parsed}
use Rattle.nego_reader.specs.Content.{content_of}
use Rattle.nego_shape.specs.Naming.{place_of, atom_names, sizes_in}
use Rattle.nego_shape.proofs.FormLaws.{form_shape}
use Rattle.nego_shape.proofs.ShapedDiagrams.{shaped-parts}
use Rattle.nego_shape.proofs.PartsMade.{diagram_made}
use Rattle.nego_shape.proofs.RuleLists.{clear_all_covered}
use Rattle.nego_shape.proofs.making.diagram.Goals as goal

pub sizes_of-requires : goal.sizes_of-requires
sizes_of-requires c = subst (λ (p : Parsed). AreSizes (sizes_in (content_of p))) (sym c.text-text.ensures) c.requires.shaped.sizes

pub outcomes_of-requires-clause-sizes : goal.outcomes_of-requires-clause-sizes
outcomes_of-requires-clause-sizes c = c.in_ok-sizes.ensures ∙ ap (λ (p : Parsed). sizes_in (content_of p)) c.text-text.ensures

pub from_parts-requires : goal.from_parts-requires
from_parts-requires c =
    let p = c.args.p.now in
    let same = c.text-text.ensures in
    shaped-parts (content_of p) (form_shape (content_of p) c.requires.shaped (clear_all_covered p c.in_ok-outcomes.ensures.total)) c.requires.named _
    (diagram_made p c.in_ok-agents.agents c.in_ok-sizes.sizes c.in_ok-atoms.atoms c.in_ok-outcomes.outcomes c.atom.result.0 c.atom-2.result.0
    (c.in_ok-agents.ensures ∙ ap (λ (q : Parsed). map (λ agent. agent.name.text) q.agents) same) (c.in_ok-sizes.ensures ∙ ap (λ (q : Parsed). sizes_in (content_of q)) same) c.in_ok-atoms.ensures c.in_ok-outcomes.ensures.parts
    (c.atom.ensures ∙ ap (λ (q : Parsed). place_of q.first.text (atom_names (content_of p))) same) (c.atom-2.ensures ∙ ap (λ (q : Parsed). place_of q.last.text (atom_names (content_of p))) same)) c.in_ok-atoms.ensures

pub returns-clause-content : goal.returns-clause-content
returns-clause-content c =
    let p = c.args.p.now in
    let same = c.text-text.ensures in
    c.from_parts.ensures ∙ diagram_made p c.in_ok-agents.agents c.in_ok-sizes.sizes c.in_ok-atoms.atoms c.in_ok-outcomes.outcomes c.atom.result.0 c.atom-2.result.0
    (c.in_ok-agents.ensures ∙ ap (λ (q : Parsed). map (λ agent. agent.name.text) q.agents) same) (c.in_ok-sizes.ensures ∙ ap (λ (q : Parsed). sizes_in (content_of q)) same) c.in_ok-atoms.ensures c.in_ok-outcomes.ensures.parts
    (c.atom.ensures ∙ ap (λ (q : Parsed). place_of q.first.text (atom_names (content_of p))) same) (c.atom-2.ensures ∙ ap (λ (q : Parsed). place_of q.last.text (atom_names (content_of p))) same)
