use Rattle.std.proofs.Common.{◌≡◌, ℕ, ◌<◌, List, [], length, get_or, Some, slice_get, ap, ap₂, sym, subst, ◌∙◌}
use Rattle.std.proofs.lemmas.List.{length-map}
use Rattle.std.specs.List.{range_with_len}
use Rattle.std.specs.Option.{MatchOption}
use Rattle.nego_base.specs.Members.{difference}
use Rattle.nego_base.specs.declared.ids.AgentId.{AgentId}
use Rattle.nego_reader.specs.declared.parsed.Parsed.{Parsed}
use Rattle.nego_reader.specs.Content.{content_of, agent_content}
use Rattle.nego_shape.specs.Naming.{place_of, atom_names, parties_at}
use Rattle.nego_shape.proofs.PartiesListed.{first_agent, parties_of, atom_inside}
use Rattle.nego_shape.proofs.checks.parties.lacking.Goals as goal

pub returns : goal.returns
returns c kind =
    let text = content_of c.args.p.now in
    let n = place_of c.args.name.now.text (atom_names text) in
    let count : c.len-count.result ≡ length text.agents = c.len-count.ensures ∙ (ap (λ (p : Parsed). length p.agents) c.text.ensures ∙ sym (length-map c.args.p.now.agents agent_content)) in
    let parties : (get_or c.args.numbers.now c.atom.result.0 c.index-numbers-atom.result).parties ≡ parties_at text n =
    parties_of c.args.p.now c.args.numbers.now c.requires.numbers c.atom.result.0 c.index-numbers-atom.result (subst (λ m. m < length c.args.p.now.atoms) (sym c.atom.ensures) (atom_inside c.args.p.now c.args.name.now.text c.requires.declared))
    ∙ ap (parties_at text) c.atom.ensures in
    let are : c.difference.result ≡ difference (range_with_len 0 (length text.agents)) (parties_at text n) =
    c.difference.ensures.value ∙ ap₂ difference (c.below.ensures.value ∙ ap (range_with_len 0) count) parties in
    first_agent c.args.name.now.line kind (difference (range_with_len 0 (length text.agents)) (parties_at text n)) c.least.result
    (subst (λ (xs : List ℕ). MatchOption c.least.result (xs ≡ []) (λ (a : AgentId). slice_get xs 0 ≡ Some a.0)) are c.least.ensures.value)
