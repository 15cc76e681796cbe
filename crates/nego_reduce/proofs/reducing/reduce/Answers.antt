use Rattle.std.proofs.Common.{◌≡◌, ◌∙◌, ◌<◌, ◌≤◌, ◌+◌, ◌-◌, ◌*◌, [], ◌∷◌, ◌++◌, length, map, ap, sym, subst, arith}
use Rattle.std.proofs.lemmas.List.{length-append, length-map, map-append}
use Rattle.nego_base.proofs.Members.{length-without}
use Rattle.nego_expr.specs.Use.{after_use, most_nodes}
use Rattle.nego_expr.specs.UseView.{plain_use}
use Rattle.nego_expr.specs.Lead.{Lead}
use Rattle.nego_reduce.specs.Changed.{MayOffer, entering}
use Rattle.nego_reduce.specs.Order.{IsNextUse}
use Rattle.nego_expr.proofs.Leading.{Lead_then}
use Rattle.nego_reduce.proofs.AfterShortcut.{may_offer}
use Rattle.nego_reduce.proofs.Growing.{next_grows}
use Rattle.nego_reduce.proofs.MadeNext.{made_fits, refused_full}
use Rattle.nego_reduce.proofs.Rounds.{one_round_more, round_few, rounds_few}
use Rattle.nego_reduce.proofs.bound.FewUses.{uses_are_few}
use Rattle.nego_reduce.proofs.bound.FewNodes.{acyclic_is_never_full}
use Rattle.nego_reduce.proofs.complete.AcyclicDecided.{acyclic_is_decided}
use Rattle.nego_reduce.proofs.reducing.reduce.Goals as goal

pub loop-u-smaller : goal.loop-u-smaller
loop-u-smaller g c =
    let work = c.loop-u.work.plain in
    let next = plain_use c.in-Some.u in
    let fits = made_fits next work c.make_use.new.w.plain c.in-Some.ensures.some c.in-Ok.ensures in
    let grows = next_grows work c.loop-u.invariant.is_work next c.in-Some.ensures.some in
    let less : most_nodes + 1 - length (after_use work next).nodes < most_nodes + 1 - length work.nodes = omega (arith, fits, grows) in
    subst (λ w. most_nodes + 1 - length w.nodes < most_nodes + 1 - length work.nodes) (sym c.in-Ok.ensures.made) less

pub loop-u-preserved : goal.loop-u-preserved
loop-u-preserved g c =
    let start = c.args.work.plain in
    let work = c.loop-u.work.plain in
    let next = plain_use c.in-Some.u in
    let is = c.in-Ok.ensures.made in
    let uses : map plain_use c.push.new.self ≡ map plain_use c.loop-u.uses ++ next ∷ [] = ap (map plain_use) c.in_ok-push-in-Ok.ensures.ok ∙ map-append plain_use c.loop-u.uses (c.in-Some.u ∷ []) in
    let count : length c.push.new.self ≡ length c.loop-u.uses + 1 = ap length c.in_ok-push-in-Ok.ensures.ok ∙ length-append c.loop-u.uses (c.in-Some.u ∷ []) in
    let fits = made_fits next work c.make_use.new.w.plain c.in-Some.ensures.some c.in-Ok.ensures in
    let leads : Lead IsNextUse start (map plain_use c.loop-u.uses ++ next ∷ []) (after_use work next) = Lead_then IsNextUse start work (map plain_use c.loop-u.uses) next c.loop-u.invariant.leads c.in-Some.ensures.some fits in
    let one = c.tick.ensures in
    let later = c.in-Some.ensures.later in
    let round = c.in-Some.ensures.tests in
    let counted = c.loop-u.invariant.counted in
    record {
      is_work = c.in-Ok.ensures.work;
      offers = subst (MayOffer c.make_use.new.w.plain) (sym c.entering-changed.ensures) (subst (λ w. MayOffer w (entering next)) (sym is) (may_offer work next c.loop-u.invariant.is_work c.in-Some.ensures.some));
      leads = subst (λ us. Lead IsNextUse start us c.make_use.new.w.plain) (sym uses) (subst (Lead IsNextUse start (map plain_use c.loop-u.uses ++ next ∷ [])) (sym is) leads);
      counted = omega (arith, one, later, counted, count);
      tests = λ d fresh.
          let each = 17 * length d.outcomes + 3 in
          let before = c.loop-u.invariant.tests d fresh in
          let few = round_few d start work c.loop-u.uses fresh c.loop-u.invariant.leads c.loop-u.steps c.tick.new.self (omega (arith, one, round)) in
          let more = one_round_more (length c.loop-u.uses) each in
          subst (λ n. c.tick.new.self ≤ c.args.steps.now + n * each) (sym count) (omega (arith, before, few, more));
    }

pub returns-in_err-push-in-Ok-clause-tests : goal.returns-in_err-push-in-Ok-clause-tests
returns-in_err-push-in-Ok-clause-tests g c d fresh acyclic =
    let one = c.tick.ensures in
    let round = c.in-Some.ensures.tests in
    rounds_few d c.args.work.plain c.loop-u.work.plain c.loop-u.uses fresh c.loop-u.invariant.leads c.args.steps.now c.loop-u.steps c.tick.new.self (c.loop-u.invariant.tests d fresh) (omega (arith, one, round))

pub returns-in-Err-Nodes-clause-few : goal.returns-in-Err-Nodes-clause-few
returns-in-Err-Nodes-clause-few g c d fresh =
    uses_are_few d c.args.work.plain c.loop-u.work.plain (map plain_use c.loop-u.uses) fresh c.loop-u.invariant.leads

pub returns-in-Err-Nodes-clause-decided : goal.returns-in-Err-Nodes-clause-decided
returns-in-Err-Nodes-clause-decided g c d fresh acyclic =
    let work = c.loop-u.work.plain in
    let full = refused_full (plain_use c.in-Some.u) work c.make_use.new.w.plain c.in-Some.ensures.some c.in-Err-Nodes.field-0 c.in-Err-Nodes.field-0-is c.in-Err-Nodes.ensures in
    absurd (acyclic_is_never_full d c.args.work.plain work (map plain_use c.loop-u.uses) fresh acyclic c.loop-u.invariant.leads full)

pub returns-in-Err-Nodes-clause-tests : goal.returns-in-Err-Nodes-clause-tests
returns-in-Err-Nodes-clause-tests g c d fresh acyclic =
    let one = c.tick.ensures in
    let round = c.in-Some.ensures.tests in
    rounds_few d c.args.work.plain c.loop-u.work.plain c.loop-u.uses fresh c.loop-u.invariant.leads c.args.steps.now c.loop-u.steps c.tick.new.self (c.loop-u.invariant.tests d fresh) (omega (arith, one, round))

pub returns-in-Err-Memory-clause-tests : goal.returns-in-Err-Memory-clause-tests
returns-in-Err-Memory-clause-tests g c d fresh acyclic =
    let one = c.tick.ensures in
    let round = c.in-Some.ensures.tests in
    rounds_few d c.args.work.plain c.loop-u.work.plain c.loop-u.uses fresh c.loop-u.invariant.leads c.args.steps.now c.loop-u.steps c.tick.new.self (c.loop-u.invariant.tests d fresh) (omega (arith, one, round))

pub returns-then-count-gt1-clause-few : goal.returns-then-count-gt1-clause-few
returns-then-count-gt1-clause-few g c d fresh =
    uses_are_few d c.args.work.plain c.loop-u.work.plain (map plain_use c.loop-u.uses) fresh c.loop-u.invariant.leads

pub returns-then-count-gt1-clause-decided : goal.returns-then-count-gt1-clause-decided
returns-then-count-gt1-clause-decided g c d fresh acyclic =
    let decided = acyclic_is_decided d c.args.work.plain c.loop-u.work.plain (map plain_use c.loop-u.uses) fresh acyclic c.loop-u.invariant.leads c.in_default.ensures.none in
    let count = c.count.ensures.value in
    let left = ap length c.left.ensures in
    let all = length-map c.loop-u.work.plain.atoms (λ atom. atom.number) in
    let more = c.if-count-gt1.true in
    ((λ h. absurd h, λ sound. let one = decided.1 sound in let no_more : ⊥ = omega (arith, count, left, all, more, one) in no_more), λ h. h)

pub returns-then-count-gt1-clause-tests : goal.returns-then-count-gt1-clause-tests
returns-then-count-gt1-clause-tests g c d fresh acyclic =
    let round = c.in_default.ensures.tests in
    rounds_few d c.args.work.plain c.loop-u.work.plain c.loop-u.uses fresh c.loop-u.invariant.leads c.args.steps.now c.loop-u.steps c.next_use.new.steps (c.loop-u.invariant.tests d fresh) (omega (arith, round))

pub returns-in_err-summary-clause-tests : goal.returns-in_err-summary-clause-tests
returns-in_err-summary-clause-tests g c d fresh acyclic =
    let round = c.in_default.ensures.tests in
    rounds_few d c.args.work.plain c.loop-u.work.plain c.loop-u.uses fresh c.loop-u.invariant.leads c.args.steps.now c.loop-u.steps c.next_use.new.steps (c.loop-u.invariant.tests d fresh) (omega (arith, round))

pub returns-clause-few : goal.returns-clause-few
returns-clause-few g c d fresh =
    uses_are_few d c.args.work.plain c.loop-u.work.plain (map plain_use c.loop-u.uses) fresh c.loop-u.invariant.leads

pub returns-clause-decided : goal.returns-clause-decided
returns-clause-decided g c d fresh acyclic =
    let decided = acyclic_is_decided d c.args.work.plain c.loop-u.work.plain (map plain_use c.loop-u.uses) fresh acyclic c.loop-u.invariant.leads c.in_default.ensures.none in
    let work = c.loop-u.work.plain in
    let form = c.loop-u.invariant.is_work.form in
    let count = c.count.ensures.value in
    let left = ap length c.left.ensures in
    let all = length-map work.atoms (λ atom. atom.number) in
    let some = length-without 0 work.first (map (λ atom. atom.number) work.atoms) form.atoms_rise form.first_there in
    let few = c.if-count-gt1.false in
    let one : length work.atoms ≡ 1 = omega (arith, count, left, all, some, few) in
    ((λ h. decided.0 one, λ sound. tt), λ h. h)

pub returns-clause-tests : goal.returns-clause-tests
returns-clause-tests g c d fresh acyclic =
    let round = c.in_default.ensures.tests in
    rounds_few d c.args.work.plain c.loop-u.work.plain c.loop-u.uses fresh c.loop-u.invariant.leads c.args.steps.now c.loop-u.steps c.next_use.new.steps (c.loop-u.invariant.tests d fresh) (omega (arith, round))
