use Rattle.std.proofs.Common.{◌∙◌, ◌++◌, [], ◌∷◌, sym, ap, ap₂, List, ℕ, arith}
use Rattle.std.proofs.lemmas.List.FromFn.{map-range_with_len_more}
use Rattle.nego_data.specs.Data.{joint}
use Rattle.nego_data.specs.Sizes.{tuple_of}
use Rattle.nego_data.proofs.Lending.{narrower-below}
use Rattle.nego_data.proofs.lender.spread_of.Goals as goal

pub joint-requires : goal.joint-requires
joint-requires c = narrower-below c.args.part.now c.args.sizes.now c.requires c.split.result c.split.ensures.in_range

pub loop-n-preserved : goal.loop-n-preserved
loop-n-preserved c =
    c.in_ok-push.ensures.ok
    ∙ ap₂ (λ (front : List ℕ) (one : ℕ). front ++ one ∷ []) c.loop-n.invariant (c.joint.ensures.value ∙ ap (joint c.args.sizes.now) c.split.ensures.value)
    ∙ sym (map-range_with_len_more (λ n. joint c.args.sizes.now (tuple_of c.args.part.now n)) 0 c.loop-n.n c.loop-n.n (omega arith))
