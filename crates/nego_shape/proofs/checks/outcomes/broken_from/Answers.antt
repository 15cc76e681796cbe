use Rattle.std.proofs.Common.{map, sym, ap, subst, ◌∙◌}
use Rattle.std.specs.List.{All, Contains}
use Rattle.std.proofs.lemmas.Option.{slice_get_within, get_or_from_slice_get}
use Rattle.nego_reader.specs.declared.parsed.POut.{POut}
use Rattle.nego_reader.specs.Content.{content_of, out_content}
use Rattle.nego_shape.specs.declared.numbers.AtomNumbers.{AtomNumbers}
use Rattle.nego_shape.specs.Naming.{all_outs}
use Rattle.nego_shape.specs.Made.{placed_at, out_numbers, atom_numbers}
use Rattle.nego_shape.proofs.Gathering.{made_at}
use Rattle.nego_shape.proofs.PartsMade.{outs_are_placed}
use Rattle.nego_shape.proofs.checks.outcomes.broken_from.Goals as goal

pub broken_at-requires-clause-out : goal.broken_at-requires-clause-out
broken_at-requires-clause-out c =
    let p = c.args.p.now in
    let atom = c.args.atom.now in
    let below = slice_get_within p.atoms c.args.n atom c.requires.atom in
    let is = sym (get_or_from_slice_get p.atoms c.args.n atom atom c.requires.atom) in
    let placed = subst (All (λ (out : POut). Contains (all_outs (content_of p)) (placed_at c.args.n (out_content out)))) (sym c.as_slice-out-items.ensures) (outs_are_placed p c.args.n atom below is) in
    subst (λ out. Contains (all_outs (content_of p)) (placed_at c.args.n (out_content out))) (sym c.out-item.is) (placed c.loop-i.i c.out-item.result c.loop-i-test.true)

pub broken_at-requires-clause-own : goal.broken_at-requires-clause-own
broken_at-requires-clause-own c =
    let p = c.args.p.now in
    let c0 = content_of p in
    let atom = c.args.atom.now in
    let own = c.index-numbers-n.result in
    let below = slice_get_within p.atoms c.args.n atom c.requires.atom in
    let is = sym (get_or_from_slice_get p.atoms c.args.n atom atom c.requires.atom) in
    let outs = ap (λ (x : AtomNumbers). x.outs) (made_at (atom_numbers c0) p.atoms c.args.numbers.now c.args.n atom own c.requires.numbers below is c.index-numbers-n.is) ∙ ap (map (out_numbers c0)) (sym c.as_slice-out-items.ensures) in
    made_at (out_numbers c0) c.as_slice-out-items.result.now own.outs c.loop-i.i c.out-item.result c.index.result.now outs c.loop-i-test.true c.out-item.is (sym (get_or_from_slice_get own.outs c.loop-i.i c.index.result.now c.index.result.now c.index.ensures))
