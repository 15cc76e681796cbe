use Rattle.std.proofs.Common.{◌≡◌, ◌∙◌, ◌∷◌, [], ◌+◌, ◌++◌, ◌≤◌, map, length, slice_get, refl, sym, subst, ap, arith}
use Rattle.std.specs.List.{range_with_len}
use Rattle.std.specs.Prelude.{slice_index}
use Rattle.std.proofs.lemmas.List.FromFn.{length-map-range_with_len}
use Rattle.std.proofs.lemmas.Simd.{map-map}
use Rattle.nego_model.specs.Diagram.{atom_of}
use Rattle.nego_expr.specs.Fresh.{fresh_at}
use Rattle.nego_expr.specs.Counts.{AreCountsOf}
use Rattle.nego_expr.proofs.Counting.{counts-add, equals, length-equals}
use Rattle.nego_expr.proofs.FreshSteps.{pushed, fresh-from}
use Rattle.nego_expr.proofs.fresh.counts_of.Goals as goal

pub add-requires-clause-atom : goal.add-requires-clause-atom
add-requires-clause-atom c = omega (arith, c.atom_of.ensures.in_range, c.outcomes-o-end.ensures.limits.few_atoms)

pub add-requires-clause-few : goal.add-requires-clause-few
add-requires-clause-few c =
    let o = c.loop-o.o in
    let so_far = map (atom_of c.args.d.now) (range_with_len 0 o) in
    let n = c.atom_of.result.0 in
    let counted : slice_index c.loop-o.counts n ≡ length (equals n so_far) = c.loop-o.invariant n in
    let few : length (equals n so_far) ≤ length so_far = length-equals n so_far in
    let all : length so_far ≡ o = length-map-range_with_len (atom_of c.args.d.now) 0 o in
    omega (arith, counted, few, all, c.loop-o-test.true, c.outcomes-o-end.ensures.value, c.outcomes-o-end.ensures.limits.few_outcomes)

pub loop-o-preserved : goal.loop-o-preserved
loop-o-preserved c =
    let d = c.args.d.now in
    let o = c.loop-o.o in
    let so_far = map (atom_of d) (range_with_len 0 o) in
    let n = c.atom_of.result.0 in
    subst (λ ns. AreCountsOf ns c.add.new.self)
    (pushed (atom_of d) 0 o so_far (so_far ++ n ∷ []) n refl refl (c.atom_of.ensures.value ∙ ap (atom_of d) (let e : o ≡ 0 + o = omega arith in e)))
    (counts-add so_far c.loop-o.counts c.add.new.self n c.loop-o.invariant c.add.ensures)

pub returns : goal.returns
returns c =
    let d = c.args.d.now in
    let all : c.loop-o.o ≡ length d.outcomes = omega (arith, c.loop-o.auto, c.loop-o-test.false, c.outcomes-o-end.ensures.value) in
    subst (λ ns. AreCountsOf ns c.loop-o.counts)
    (ap (λ k. map (atom_of d) (range_with_len 0 k)) all
    ∙ sym (map-map (λ x. x.atom) (fresh_at d) (range_with_len 0 (length d.outcomes)))
    ∙ ap (map (λ x. x.atom)) (fresh-from d 0 d.outcomes (λ k x at. ap (slice_get d.outcomes) (let e : 0 + k ≡ k = omega arith in e) ∙ at)))
    c.loop-o.invariant
