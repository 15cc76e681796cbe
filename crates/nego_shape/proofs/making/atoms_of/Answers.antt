use Rattle.std.proofs.Common.{◌≡◌, ◌<◌, ℕ, List, length, map, get_or, sym, ap, subst, ◌∙◌}
use Rattle.std.proofs.lemmas.List.{length-map}
use Rattle.nego_reader.specs.declared.parsed.Parsed.{Parsed}
use Rattle.nego_reader.specs.declared.parsed.PAtom.{PAtom}
use Rattle.nego_reader.specs.Content.{content_of, atom_content, out_content, texts}
use Rattle.nego_shape.specs.declared.numbers.AtomNumbers.{AtomNumbers}
use Rattle.nego_shape.specs.Naming.{parties_in}
use Rattle.nego_shape.specs.Made.{part_in, parts_from, atom_numbers}
use Rattle.nego_shape.proofs.Gathering.{made_at}
use Rattle.nego_shape.proofs.PartsMade.{parts_more, outs_left}
use Rattle.nego_shape.proofs.making.atoms_of.Goals as goal

pub loop-n-preserved : goal.loop-n-preserved
loop-n-preserved c =
    let p = c.args.p.now in
    let c0 = content_of p in
    let atom = c.index-atoms-n.result in
    let start = c.loop-n.start in
    let items = c.as_slice-atoms.result.now in
    let same = c.as_slice-atoms.ensures ∙ ap (λ (q : Parsed). q.atoms) c.text.ensures in
    let below : c.loop-n.n < length p.atoms = subst (λ (atoms : List PAtom). c.loop-n.n < length atoms) same c.loop-n-test.true in
    let is : atom ≡ get_or p.atoms c.loop-n.n atom = subst (λ (atoms : List PAtom). atom ≡ get_or atoms c.loop-n.n atom) same c.index-atoms-n.is in
    let numbers = made_at (atom_numbers c0) p.atoms c.args.numbers.now c.loop-n.n atom c.index-numbers-n.result c.requires.numbers below is c.index-numbers-n.is in
    let part : c.in_ok-atom_part.field-0 ≡ part_in c0 start (atom_content atom) =
    c.in_ok-atom_part.ensures
    ∙ (ap (λ (x : List ℕ). record { name = atom.name.text; parties = x; start = start; count = length atom.outs }) (ap (λ (x : AtomNumbers). x.parties) (sym c.index-numbers-n.is ∙ numbers))
    ∙ ap (λ (k : ℕ). record { name = atom.name.text; parties = parties_in c0 (texts atom.parties); start = start; count = k }) (sym (length-map atom.outs out_content))) in (
      parts_more c0 items c.loop-n.n atom c.loop-n.parts c.push.new.self c.in_ok-atom_part.field-0 start c.len.result (parts_from c0 0 (map atom_content p.atoms)) c.loop-n-test.true c.index-atoms-n.is part c.in_ok-push.ensures.ok c.len.ensures c.loop-n.invariant.0,
      outs_left items c.loop-n.n atom start c.len.result 256 c.loop-n-test.true c.index-atoms-n.is c.len.ensures c.loop-n.invariant.1,
    )
