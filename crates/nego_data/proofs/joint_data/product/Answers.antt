use Rattle.std.proofs.Common.{◌*◌, ◌<◌, slice_index, All, sym, ap, ◌∙◌, arith}
use Rattle.std.specs.Option.{option_map}
use Rattle.std.proofs.lemmas.List.{take_all}
use Rattle.nego_data.specs.declared.joint_data.SizeFault.TheVariants.{JointTooLarge}
use Rattle.nego_data.specs.Data.{data_count}
use Rattle.nego_data.proofs.Counts.{data_count_more}
use Rattle.nego_data.proofs.SizeFaults.{place_past, none_past}
use Rattle.nego_data.proofs.joint_data.product.Goals as goal

pub returns-then-all-gt-MAX_JOINT-clause-err : goal.returns-then-all-gt-MAX_JOINT-clause-err
returns-then-all-gt-MAX_JOINT-clause-err c =
    let sizes = c.args.sizes.now in
    let before = c.loop-a.invariant.product in
    let more = ap (λ n. n * slice_index sizes c.loop-a.a) before ∙ sym (data_count_more sizes c.loop-a.a c.loop-a-test.true) in
    let some : All (λ size. 0 < size) sizes = λ k d l. (c.requires.each k d l).0 in
    sym (ap (option_map (λ k. JointTooLarge (record { 0 = k }))) (place_past sizes c.loop-a.a some c.loop-a-test.true (omega (arith, before)) (omega (arith, more))))

pub returns-clause-err : goal.returns-clause-err
returns-clause-err c =
    let sizes = c.args.sizes.now in
    let some : All (λ size. 0 < size) sizes = λ k d l. (c.requires.each k d l).0 in
    let all = c.loop-a.invariant.product ∙ ap data_count (take_all c.loop-a.a sizes c.loop-a-test.false) in
    sym (ap (option_map (λ k. JointTooLarge (record { 0 = k }))) (none_past sizes some (omega (arith, all))))

pub loop-a-preserved : goal.loop-a-preserved
loop-a-preserved c =
    let sizes = c.args.sizes.now in record {
      product = ap (λ n. n * slice_index sizes c.loop-a.a) c.loop-a.invariant.product ∙ sym (data_count_more sizes c.loop-a.a c.loop-a-test.true);
      small = omega arith;
    }
