use Rattle.std.proofs.Common.{◌≡◌, ◌+◌, ◌<◌, ◌∙◌, ◌++◌, [], ◌∷◌, sym, ap, ap₂, List, ℕ, arith}
use Rattle.std.proofs.lemmas.List.FromFn.{map-range_with_len_more}
use Rattle.nego_data.specs.Data.{data_count}
use Rattle.nego_data.specs.Sizes.{tuple_of}
use Rattle.nego_data.proofs.CountingUp.{first-tuple}
use Rattle.nego_data.proofs.Tuples.{tuple_of-joint}
use Rattle.nego_data.proofs.counting.all_values.Goals as goal

pub loop-init : goal.loop-init
loop-init c =
    let first = first-tuple c.args.sizes.now c.all-end.ensures.sizes in
    record { values = c.new-values.ensures; tuple = first.0; next = λ h. first.1 }

pub loop-preserved : goal.loop-preserved
loop-preserved c =
    let sizes = c.args.sizes.now in
    let below : c.loop.counter < data_count sizes = omega (arith, c.loop-test.true, c.all-end.ensures.value) in
    let here = c.loop.invariant.next below in
    let is : tuple_of sizes c.loop.counter ≡ c.loop.tuple = ap (tuple_of sizes) (sym here) ∙ tuple_of-joint sizes c.loop.tuple c.all-end.ensures.sizes c.loop.invariant.tuple in
    record {
      values = c.in_ok-push.ensures.ok
          ∙ ap₂ (λ (front : List (List ℕ)) (one : List ℕ). front ++ one ∷ []) c.loop.invariant.values (sym is)
          ∙ sym (map-range_with_len_more (tuple_of sizes) 0 c.loop.counter c.loop.counter (omega arith));
      tuple = c.count_up.ensures.tuple;
      next = λ h. c.count_up.ensures.next (omega (arith, h, here)) ∙ ap (λ n. n + 1) here;
    }
