use Rattle.std.proofs.Common.{◌≡◌, ◌+◌, List, ◌++◌, drop, slice_get, ap, sym, ◌∙◌}
use Rattle.std.proofs.lemmas.List.{drop_all}
use Rattle.std.specs.List.{flat_map}
use Rattle.std.specs.Option.{option_map, option_copied}
use Rattle.nego_base.proofs.ListLaws.{cut_at, at_front, at_back}
use Rattle.nego_reader.specs.declared.parsed.PAtom.{PAtom}
use Rattle.nego_reader.specs.declared.parsed.POut.{POut}
use Rattle.nego_shape.proofs.checks.counts.out_line.Goals as goal

abbrev outs_in : List PAtom → List POut
outs_in atoms = flat_map (λ (atom : PAtom). atom.outs) atoms

pub returns-in-Some : goal.returns-in-Some
returns-in-Some c =
    let rest = drop c.loop-atom.atom-index c.args.atoms.now in
    let cut : outs_in rest ≡ c.atom-item.result.outs ++ outs_in (drop (c.loop-atom.atom-index + 1) c.args.atoms.now) =
    ap outs_in (cut_at c.args.atoms.now c.loop-atom.atom-index c.atom-item.result c.loop-atom-test.true c.atom-item.is) in
    ap (option_map (λ (out : POut). out.name.line))
    (sym (at_front c.atom-item.result.outs (outs_in (drop (c.loop-atom.atom-index + 1) c.args.atoms.now)) c.loop-atom.left c.in-Some.out.now (sym c.get.ensures ∙ ap option_copied c.in-Some.is))
    ∙ sym (ap (λ outs. slice_get outs c.loop-atom.left) cut) ∙ c.loop-atom.invariant)

pub loop-atom-preserved : goal.loop-atom-preserved
loop-atom-preserved c =
    let rest = drop c.loop-atom.atom-index c.args.atoms.now in
    let cut : outs_in rest ≡ c.atom-item.result.outs ++ outs_in (drop (c.loop-atom.atom-index + 1) c.args.atoms.now) =
    ap outs_in (cut_at c.args.atoms.now c.loop-atom.atom-index c.atom-item.result c.loop-atom-test.true c.atom-item.is) in
    rw c.len-left.ensures
    (sym (at_back c.atom-item.result.outs (outs_in (drop (c.loop-atom.atom-index + 1) c.args.atoms.now)) c.loop-atom.left (sym c.get.ensures ∙ ap option_copied c.in_default.is))
    ∙ sym (ap (λ outs. slice_get outs c.loop-atom.left) cut) ∙ c.loop-atom.invariant)

pub returns : goal.returns
returns c =
    ap (option_map (λ (out : POut). out.name.line))
    (sym (ap (λ (rest : List PAtom). slice_get (outs_in rest) c.loop-atom.left) (drop_all c.loop-atom.atom-index c.args.atoms.now c.loop-atom-test.false)) ∙ c.loop-atom.invariant)
