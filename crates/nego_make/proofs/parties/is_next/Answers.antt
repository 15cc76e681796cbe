use Rattle.std.proofs.Common.{◌≡◌, ◌∙◌, ◌+◌, ◌-◌, Bool, true, not, ◌&&◌, ap, sym, arith}
use Rattle.std.specs.List.{list_any, range_with_len}
use Rattle.nego_base.specs.Members.{is_in}
use Rattle.nego_base.proofs.Members.{any_from}
use Rattle.nego_make.specs.Generated.{parties}
use Rattle.nego_make.proofs.Steps.{none_more}
use Rattle.nego_make.proofs.Moves.{in_between}
use Rattle.nego_make.proofs.parties.is_next.Goals as goal

pub returns-then-is_party : goal.returns-then-is_party
returns-then-is_party c =
    let found : list_any (λ k. is_in c.args.a (parties c.args.n k)) (range_with_len (c.args.i + 1) (c.args.j - (c.args.i + 1))) ≡ true =
    any_from (λ k. is_in c.args.a (parties c.args.n k)) (range_with_len (c.args.i + 1) (c.args.j - (c.args.i + 1))) c.loop-k.k
    (in_between c.args.i c.args.j c.loop-k.k (omega (arith, c.loop-k.invariant.1)) c.loop-k-test.true) (sym c.is_party.ensures ∙ c.if-is_party.true) in
    sym (ap (λ (b : Bool). not b && is_in c.args.a (parties c.args.n c.args.j)) found)

pub loop-k-preserved : goal.loop-k-preserved
loop-k-preserved c = (
  none_more (λ k. is_in c.args.a (parties c.args.n k)) c.args.i c.loop-k.k c.loop-k.invariant.1 c.loop-k.invariant.0 (sym c.is_party.ensures ∙ c.if-is_party.false),
  omega (arith, c.loop-k.invariant.1),
  omega (arith, c.loop-k-test.true),
)
