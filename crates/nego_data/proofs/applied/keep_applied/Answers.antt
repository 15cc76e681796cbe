use Rattle.std.proofs.Common.{◌≡◌, ◌∙◌, get_or, length, sym, subst, ap, arith}
use Rattle.std.specs.List.{All}
use Rattle.std.proofs.lemmas.Option.{get_or_from_slice_get}
use Rattle.nego_data.specs.Assignments.{IsApplied, IsAppliedTo}
use Rattle.nego_data.proofs.Assignments.{same_sets, applied_more, All-set, All-pushed}
use Rattle.nego_data.proofs.applied.keep_applied.Goals as goal

pub returns-then-eq : goal.returns-then-eq
returns-then-eq c sizes table all few these =
    let items = c.loop-i.applied in
    let i = c.loop-i.i in
    let one = c.index.result.now in
    let two = c.index_mut.result.now in
    let kept : All (IsApplied sizes table) items = subst (All (IsApplied sizes table)) (sym c.loop-i.invariant) all in
    let is_one : one ≡ get_or items i one = sym (get_or_from_slice_get items i one one c.index.ensures) in
    let is_two : two ≡ get_or items i two = sym (get_or_from_slice_get items i two two c.index_mut.ensures.value) in
    let alike : get_or items i two ≡ one = get_or_from_slice_get items i one two c.index.ensures in
    let here : IsApplied sizes table two = subst (IsApplied sizes table) (sym is_two) (kept i two (omega (arith, c.loop-i-test.true, c.len-i-end.ensures, ap length c.loop-i.invariant))) in
    let sets : c.args.case.now.sets ≡ two.case.now.sets =
    sym (same_sets one.case.now.sets c.args.case.now.sets (sym c.eq.ensures ∙ c.if-eq.true)) ∙ ap (λ x. x.case.now.sets) (sym alike ∙ sym is_two) in
    All-set (IsApplied sizes table) items i (record { case = two.case; those = c.add.new.self }) kept
    (applied_more sizes table two.case.now.sets two.those.words c.args.those.now.words c.add.new.self.words few c.add.ensures here (subst (λ xs. IsAppliedTo sizes table xs c.args.those.now.words) sets these))

pub returns-then-len-lt-MOST_APPLIED : goal.returns-then-len-lt-MOST_APPLIED
returns-then-len-lt-MOST_APPLIED c sizes table all few these =
    All-pushed (IsApplied sizes table) c.push.result c.loop-i.applied c.push.new.self (record { case = c.args.case; those = c.args.those.now }) c.push.ensures.ok c.push.ensures.err
    (subst (All (IsApplied sizes table)) (sym c.loop-i.invariant) all) these
