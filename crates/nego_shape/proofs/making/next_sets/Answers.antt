use Rattle.std.proofs.Common.{◌≡◌, ◌<◌, ◌≤◌, [], inl, inr, length, map, sym, ap, subst, ◌∙◌, arith}
use Rattle.std.proofs.lemmas.Bool.{cases_lt}
use Rattle.std.proofs.lemmas.Grind.{get_or-set_at}
use Rattle.std.proofs.lemmas.List.Elements.{All-contains, All-map, All-weaker}
use Rattle.std.specs.List.{All, list_any}
use Rattle.nego_base.proofs.ListLaws.{All-unmap}
use Rattle.nego_reader.specs.declared.parsed.PNext.{PNext}
use Rattle.nego_shape.specs.declared.numbers.NextNumbers.{NextNumbers}
use Rattle.nego_shape.specs.Shaped.{IsDeclared}
use Rattle.nego_shape.specs.Made.{placed_at, next_numbers}
use Rattle.nego_shape.proofs.Gathering.{leads_on, lines_lead, set_is_next}
use Rattle.nego_shape.proofs.ShapedDiagrams.{atoms-count}
use Rattle.nego_reader.specs.declared.parsed.Parsed.{Parsed}
use Rattle.nego_reader.specs.Content.{NextContent, content_of, agent_content, out_content, next_content}
use Rattle.nego_shape.specs.Naming.{PlacedOut, atom_names, all_outs, next_atoms}
use Rattle.nego_shape.proofs.PartsMade.{entries_filled}
use Rattle.nego_shape.proofs.making.next_sets.Goals as goal
use Rattle.std.proofs.lemmas.List.{length-map, length-set, get_or-set_other}

pub returns : goal.returns
returns c =
    let c0 = content_of c.args.p.now in
    let few : length (map agent_content c.args.p.now.agents) ≤ 16 = c.requires.shaped.few_agents in
    let count : length (map agent_content c.args.p.now.agents) ≡ length c.args.p.now.agents = length-map c.args.p.now.agents agent_content in
    let sixteen = c.loop-a.invariant.0 in
    let past = c.loop-a-test.false in
    let end = c.len-a-end.ensures ∙ ap (λ (p : Parsed). length p.agents) c.text.ensures in
    entries_filled (next_atoms c0 (out_content c.args.out.now)) c.loop-a.sets (length c.args.p.now.agents) (omega (arith, few, count, sixteen)) (λ k below. c.loop-a.invariant.1 k (omega (arith, below, past, end)))

pub next_set-requires-clause-atoms : goal.next_set-requires-clause-atoms
next_set-requires-clause-atoms c =
    let c0 = content_of c.args.p.now in
    let nexts = c.args.out.now.nexts in
    let declared : All (λ (next : NextContent). IsDeclared (atom_names c0) next.atom) (map next_content nexts) =
    All-contains (λ (placed : PlacedOut). All (λ (next : NextContent). IsDeclared (atom_names c0) next.atom) placed.out.nexts) (all_outs c0) (placed_at c.args.n (out_content c.args.out.now)) c.requires.shaped.declared.next_atoms c.requires.out in
    let few = c.requires.shaped.few_atoms in
    let count = atoms-count c0 in
    subst (All (λ (next : NextNumbers). next.atom.0 < 64)) (sym c.requires.nexts)
    (All-map (λ (next : NextNumbers). next.atom.0 < 64) (next_numbers c0) nexts
    (All-weaker (λ (next : PNext). IsDeclared (atom_names c0) next.atom.text) (λ (next : PNext). (next_numbers c0 next).atom.0 < 64) (λ next h. omega (arith, h, few, count)) nexts
    (All-unmap (λ (next : NextContent). IsDeclared (atom_names c0) next.atom) next_content nexts declared)))

pub loop-a-preserved : goal.loop-a-preserved
loop-a-preserved c =
    let c0 = content_of c.args.p.now in
    let nexts = c.args.out.now.nexts in
    let declared : All (λ (next : NextContent). IsDeclared (atom_names c0) next.atom) (map next_content nexts) =
    All-contains (λ (placed : PlacedOut). All (λ (next : NextContent). IsDeclared (atom_names c0) next.atom) placed.out.nexts) (all_outs c0) (placed_at c.args.n (out_content c.args.out.now)) c.requires.shaped.declared.next_atoms c.requires.out in
    let a = c.loop-a.a in
    let sets = c.loop-a.sets in
    let sixteen = c.loop-a.invariant.0 in
    let few : length (map agent_content c.args.p.now.agents) ≤ 16 = c.requires.shaped.few_agents in
    let count : length (map agent_content c.args.p.now.agents) ≡ length c.args.p.now.agents = length-map c.args.p.now.agents agent_content in
    let end = c.len-a-end.ensures ∙ ap (λ (p : Parsed). length p.agents) c.text.ensures in
    let on = c.loop-a-test.true in
    let below : a < length c0.agents = omega (arith, on, end, count) in
    let inside : a < length sets = omega (arith, below, few, sixteen) in
    let value : c.next_set.result ≡ next_atoms c0 (out_content c.args.out.now) a =
    set_is_next c0 64 a (out_content c.args.out.now) c.next_set.result c.next_set.ensures.rising c.requires.shaped.few_atoms (atoms-count c0) declared
    (λ m. c.next_set.ensures.members m ∙ (ap (list_any (leads_on a m)) c.requires.nexts ∙ lines_lead c0 a m nexts below)) in (
      length-set sets a c.next_set.result ∙ sixteen,
      λ k l. elim (cases_lt k a) [
        | inl less ↦ get_or-set_other sets a k c.next_set.result [] (λ e. let no : ⊥ = omega (arith, less, e) in no) ∙ c.loop-a.invariant.1 k less
        | inr more ↦
            let here : k ≡ a = omega (arith, more, l) in
            get_or-set_at sets a k c.next_set.result [] here inside ∙ (value ∙ ap (next_atoms c0 (out_content c.args.out.now)) (sym here))
      ],
    )
