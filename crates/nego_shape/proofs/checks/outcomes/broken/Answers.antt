use Rattle.std.proofs.Common.{◌≡◌, length, Some, slice_get, List, refl, sym, ap, subst, ◌∙◌, arith}
use Rattle.std.proofs.lemmas.Option.{slice_get-get_or}
use Rattle.nego_reader.specs.declared.parsed.Parsed.{Parsed}
use Rattle.nego_reader.specs.declared.parsed.PAtom.{PAtom}
use Rattle.nego_reader.specs.Content.{content_of}
use Rattle.nego_shape.specs.Rules.{out_faults}
use Rattle.nego_shape.proofs.FirstOuts.{found_at, missed_at, missed_all}
use Rattle.nego_shape.proofs.PartsMade.{outs_left}
use Rattle.nego_shape.proofs.checks.outcomes.broken.Goals as goal

pub broken_from-requires-clause-atom : goal.broken_from-requires-clause-atom
broken_from-requires-clause-atom c =
    let atom = c.index-atoms-n.result in
    subst (λ (atoms : List PAtom). slice_get atoms c.loop-n.n ≡ Some atom) (c.as_slice-atoms.ensures ∙ ap (λ (q : Parsed). q.atoms) c.text.ensures)
    (slice_get-get_or c.as_slice-atoms.result.now c.loop-n.n atom c.loop-n-test.true ∙ ap (λ (x : PAtom). Some x) (sym c.index-atoms-n.is))

pub broken_from-requires-clause-few : goal.broken_from-requires-clause-few
broken_from-requires-clause-few c =
    let atom = c.index-atoms-n.result in
    let left = outs_left c.as_slice-atoms.result.now c.loop-n.n atom c.loop-n.start (length atom.outs) 256 c.loop-n-test.true c.index-atoms-n.is refl c.loop-n.invariant.few in
    omega (arith, left)

pub returns-in-Some : goal.returns-in-Some
returns-in-Some c =
    found_at (out_faults c.args.rule (content_of c.args.p.now)) c.as_slice-atoms.result.now c.loop-n.n c.loop-n.start _ c.loop-n.invariant.first c.index-atoms-n.result c.loop-n-test.true c.index-atoms-n.is c.in-Some.fault (sym c.broken_from.ensures ∙ c.in-Some.is)

pub loop-n-preserved : goal.loop-n-preserved
loop-n-preserved c =
    let atom = c.index-atoms-n.result in
    let atoms = c.as_slice-atoms.result.now in
    let f = out_faults c.args.rule (content_of c.args.p.now) in
    rw c.len-start.ensures (record {
      first = missed_at f atoms c.loop-n.n c.loop-n.start _ c.loop-n.invariant.first atom c.loop-n-test.true c.index-atoms-n.is (sym c.broken_from.ensures ∙ c.in_default.is);
      few = outs_left atoms c.loop-n.n atom c.loop-n.start (length atom.outs) 256 c.loop-n-test.true c.index-atoms-n.is refl c.loop-n.invariant.few;
    })

pub returns : goal.returns
returns c = missed_all (out_faults c.args.rule (content_of c.args.p.now)) c.as_slice-atoms.result.now c.loop-n.n c.loop-n.start _ c.loop-n.invariant.first c.loop-n-test.false
