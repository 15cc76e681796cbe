use Rattle.std.proofs.Common.{◌≡◌, ◌+◌, ◌-◌, ℕ, Some, map, length, subst, arith}
use Rattle.nego_expr.specs.Sorted.{plain_slot}
use Rattle.nego_expr.specs.WorkView.{plain_outcome}
use Rattle.nego_reduce.specs.Twins.{NoneStandAt}
use Rattle.nego_reduce.proofs.Twins.{slot_there, twin_before, what_stands, found_merge, found_no_merge}
use Rattle.nego_reduce.proofs.merges.least_of.Goals as goal
use Rattle.nego_reduce.proofs.merges.least_of.Goals.{After-twins_at-2, then-i-gt0+in_default, else-i-gt0}

pub place_of_slot-i-requires-clause-there : goal.place_of_slot-i-requires-clause-there
place_of_slot-i-requires-clause-there c =
    slot_there c.args.w.now.plain c.requires.work (map plain_slot c.sorted-slots.result.now) c.sorted-slots.ensures (plain_outcome c.args.x.now) c.requires.alive

pub returns-in-Some-clause-some : goal.returns-in-Some-clause-some
returns-in-Some-clause-some c =
    let work = c.args.w.now.plain in
    let slots = map plain_slot c.sorted-slots.result.now in
    let i = c.place_of_slot-i.result in
    found_merge work c.requires.work slots c.sorted-slots.ensures (length slots) (Some c.in-Some.pair) (omega arith)
    (twin_before work c.requires.work slots c.sorted-slots.ensures (plain_outcome c.args.x.now) c.requires.alive c.requires.others i c.place_of_slot-i.ensures (i - 1) (omega (arith, c.if-i-gt0.true)) c.in-Some.pair c.in-Some.ensures.some)

-- no twins stand before the slot
before : (c : After-twins_at-2) → (j : ℕ) → j + 1 ≡ c.place_of_slot-i.result → NoneStandAt c.args.w.now.plain.last (map plain_slot c.sorted-slots.result.now) j
before c j next = elim c.if-i-gt0.branch [
  | then-i-gt0+in_default w ↦
      let same : c.place_of_slot-i.result - 1 ≡ j = omega (arith, next) in
      subst (NoneStandAt c.args.w.now.plain.last (map plain_slot c.sorted-slots.result.now)) same w.in_default.ensures.none
  | else-i-gt0 w ↦ absurd (let no_more : ⊥ = omega (arith, next, w.if-i-gt0.false) in no_more)
]

pub returns-clause-some : goal.returns-clause-some
returns-clause-some c =
    let work = c.args.w.now.plain in
    let slots = map plain_slot c.sorted-slots.result.now in
    let b = (goal.at.returns-clause-some c).After-twins_at-2 in
    found_merge work c.requires.work slots c.sorted-slots.ensures (length slots) c.twins_at-2.result (omega arith)
    (what_stands work c.requires.work slots c.sorted-slots.ensures (plain_outcome c.args.x.now) c.requires.alive c.requires.others c.place_of_slot-i.result c.place_of_slot-i.ensures (before b) c.twins_at-2.result c.twins_at-2.ensures.some c.twins_at-2.ensures.none)

pub returns-clause-none : goal.returns-clause-none
returns-clause-none c =
    let work = c.args.w.now.plain in
    let slots = map plain_slot c.sorted-slots.result.now in
    let b = (goal.at.returns-clause-none c).After-twins_at-2 in
    found_no_merge work c.requires.work slots c.sorted-slots.ensures (length slots) c.twins_at-2.result (omega arith)
    (what_stands work c.requires.work slots c.sorted-slots.ensures (plain_outcome c.args.x.now) c.requires.alive c.requires.others c.place_of_slot-i.result c.place_of_slot-i.ensures (before b) c.twins_at-2.result c.twins_at-2.ensures.some c.twins_at-2.ensures.none)
