use Rattle.std.proofs.Common.{◌≡◌, ◌+◌, ◌-◌, ◌<◌, ◌≤◌, length, drop, slice_index, subst, arith}
use Rattle.nego_data.specs.Data.{data_count, joint}
use Rattle.nego_data.proofs.CountingUp.{counted_one, counted_over}
use Rattle.nego_data.proofs.counting.count_up.Goals as goal

pub returns-then-more-size-clause-next : goal.returns-then-more-size-clause-next
returns-then-more-size-clause-next c below =
    let sizes = c.args.sizes.now in
    let tuple = c.loop-a.tuple in
    let a = c.loop-a.a - 1 in
    let agent : a < length sizes = omega (arith, c.loop-a-test.true, c.loop-a.auto.a, c.count-a.ensures.value) in
    let back : c.loop-a.a ≡ a + 1 = omega (arith, c.loop-a-test.true) in
    let left : joint sizes tuple + data_count (drop (a + 1) sizes) ≡ joint sizes c.args.tuple.now + 1 = subst (λ n. joint sizes tuple + data_count (drop n sizes) ≡ joint sizes c.args.tuple.now + 1) back c.loop-a.invariant.left in
    let less : slice_index tuple a + 1 < slice_index sizes a = subst (λ n. slice_index tuple a + 1 < n) c.size.ensures.value (subst (λ n. slice_index tuple n + 1 < c.size.result) c.place_of-place.ensures c.if-more-size.true) in
    rw c.place_of-place.ensures ((counted_one sizes c.size.ensures.sizes tuple a c.loop-a.invariant.tuple agent (joint sizes c.args.tuple.now) left less).1)

pub loop-a-preserved : goal.loop-a-preserved
loop-a-preserved c =
    let sizes = c.args.sizes.now in
    let tuple = c.loop-a.tuple in
    let a = c.loop-a.a - 1 in
    let agent : a < length sizes = omega (arith, c.loop-a-test.true, c.loop-a.auto.a, c.count-a.ensures.value) in
    let back : c.loop-a.a ≡ a + 1 = omega (arith, c.loop-a-test.true) in
    let left : joint sizes tuple + data_count (drop (a + 1) sizes) ≡ joint sizes c.args.tuple.now + 1 = subst (λ n. joint sizes tuple + data_count (drop n sizes) ≡ joint sizes c.args.tuple.now + 1) back c.loop-a.invariant.left in
    let full : slice_index sizes a ≤ slice_index tuple a + 1 = subst (λ n. n ≤ slice_index tuple a + 1) c.size.ensures.value (subst (λ n. c.size.result ≤ slice_index tuple n + 1) c.place_of-place.ensures c.if-more-size.false) in
    let over = counted_over sizes c.size.ensures.sizes tuple a c.loop-a.invariant.tuple agent (joint sizes c.args.tuple.now) left full in
    record {
      tuple = rw c.place_of-place.ensures (over.0);
      left = rw c.place_of-place.ensures (over.1);
    }
