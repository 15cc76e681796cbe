use Rattle.std.proofs.Common.{◌≡◌, ℕ, ◌+◌, List, take, sym, ap, subst, ◌∙◌}
use Rattle.std.specs.List.{list_any}
use Rattle.nego_base.specs.Members.{is_in, IsRisingBelow}
use Rattle.nego_shape.proofs.Gathering.{leads_on, one_more_line, no_more_line}
use Rattle.nego_shape.proofs.making.next_set.Goals as goal
use Rattle.nego_shape.proofs.making.next_set.Goals.{then-has, else-has}

pub loop-next-preserved : goal.loop-next-preserved
loop-next-preserved c =
    let items = c.args.nexts.now in
    let i = c.loop-next.next-index in
    let P : List ℕ → Type 0 = λ set. IsRisingBelow 64 set × ((m : ℕ) → is_in m set ≡ list_any (leads_on c.args.a.0 m) (take (i + 1) items)) in
    elim c.if-has.branch [
      | then-has w ↦
          subst P (sym w.set-is) (
            w.with-set.ensures.rising,
            λ m. ap (is_in m) w.with-set.ensures.value
                ∙ one_more_line c.args.a.0 items i c.next-item.result c.loop-next.set c.loop-next-test.true c.next-item.is (sym c.has.ensures.value ∙ w.if-has.true) c.loop-next.invariant.1 m,
          )
      | else-has w ↦
          subst P (sym w.set-is)
          (c.loop-next.invariant.0, no_more_line c.args.a.0 items i c.next-item.result c.loop-next.set c.loop-next-test.true c.next-item.is (sym c.has.ensures.value ∙ w.if-has.false) c.loop-next.invariant.1)
    ]
