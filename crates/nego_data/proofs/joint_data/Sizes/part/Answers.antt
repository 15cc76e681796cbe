use Rattle.std.proofs.Common.{◌≡◌, ◌∙◌, take, slice_index, subst, ap, arith}
use Rattle.std.specs.Prelude.{if◌then◌else◌}
use Rattle.std.specs.Result.{IfOk}
use Rattle.std.proofs.lemmas.List.{length-set}
use Rattle.std.proofs.lemmas.List.Edits.{fill_by_more}
use Rattle.nego_base.specs.Members.{is_in}
use Rattle.nego_data.specs.Sizes.{fault_of_sizes}
use Rattle.nego_data.specs.Parts.{part_sizes}
use Rattle.nego_data.proofs.PartLaws.{part_filled, part-sizes, ok_from_none}
use Rattle.nego_data.proofs.SizeFaults.{no_fault}
use Rattle.nego_data.proofs.joint_data.Sizes.part.Goals as goal

pub loop-k-preserved : goal.loop-k-preserved
loop-k-preserved c = record {
  long = length-set c.loop-k.part c.loop-k.k c.part_size.result ∙ c.loop-k.invariant.long;
  filled = rw c.part_size.ensures (fill_by_more (λ j. if is_in j c.args.parties then slice_index c.args.self.now j else 1) c.loop-k.part c.loop-k.k 0
      (let few = c.count-count.ensures.sizes.few_agents in omega (arith, few, c.loop-k.invariant.long, c.loop-k-test.true, c.count-count.ensures.value)) c.loop-k.invariant.filled);
}

pub unwrap-requires : goal.unwrap-requires
unwrap-requires c =
    let sizes = c.args.self.now in
    let ok = c.count-count.ensures.sizes in
    let made : take c.count-count.result c.loop-k.part ≡ part_sizes c.args.parties sizes =
    ap (λ n. take n c.loop-k.part) c.count-count.ensures.value
    ∙ part_filled c.args.parties sizes c.loop-k.part (omega (arith, c.loop-k.invariant.long, ok.few_agents)) (λ a h. c.loop-k.invariant.filled a (omega (arith, h, c.loop-k-test.false, c.count-count.ensures.value))) in
    ok_from_none c.new.result (c.new.ensures.fault ∙ ap fault_of_sizes made ∙ no_fault (part_sizes c.args.parties sizes) (part-sizes c.args.parties sizes ok))

pub returns-clause-value : goal.returns-clause-value
returns-clause-value c =
    let sizes = c.args.self.now in
    let ok = c.count-count.ensures.sizes in
    subst (λ r. IfOk r (λ s. s ≡ take c.count-count.result c.loop-k.part)) c.unwrap.ensures c.new.ensures.ok
    ∙ ap (λ n. take n c.loop-k.part) c.count-count.ensures.value
    ∙ part_filled c.args.parties sizes c.loop-k.part (omega (arith, c.loop-k.invariant.long, ok.few_agents)) (λ a h. c.loop-k.invariant.filled a (omega (arith, h, c.loop-k-test.false, c.count-count.ensures.value)))
