use Rattle.std.proofs.Common.{◌≡◌, ◌+◌, ◌<◌, Bool, cond, true, false, Some, None, take, sym, subst, ap, ◌∙◌}
use Rattle.std.proofs.lemmas.Option.{same_Some}
use Rattle.nego_model.specs.Occurring.{opening_marking, final_marking, leaves}
use Rattle.nego_model.specs.Diagram.{negotiation_of}
use Rattle.nego_model.specs.Followed.{marking_in, occurrences}
use Rattle.nego_model.proofs.occurrence.Followed.{follows_on, length-occurrences, entry_at, all_occurred, IsRun_from_leaves, no_run, not_complete}
use Rattle.nego_model.proofs.following.follow.Goals as goal

pub loop-i-preserved : goal.loop-i-preserved
loop-i-preserved c =
    follows_on (negotiation_of c.args.d.now) (occurrences c.args.run.now) c.loop-i.i _ (marking_in c.args.d.now c.loop-i.marking) (Some (marking_in c.args.d.now c.fire.new.self))
    (entry_at c.as_slice-step-items.result.now c.args.run.now c.loop-i.i _ c.as_slice-step-items.ensures c.loop-i-test.true) c.loop-i.invariant
    (c.fire.ensures.value ∙ ap (λ (b : Bool). cond b (Some (marking_in c.args.d.now c.fire.new.self)) None) c.if-not-fire.false)

-- the entry at the place leaves no marking
stopped : (c : goal.Then-not-fire) → leaves (negotiation_of c.args.d.now) (opening_marking (negotiation_of c.args.d.now)) (take (c.loop-i.i + 1) (occurrences c.args.run.now)) ≡ None
stopped c =
    follows_on (negotiation_of c.args.d.now) (occurrences c.args.run.now) c.loop-i.i _ (marking_in c.args.d.now c.loop-i.marking) None
    (entry_at c.as_slice-step-items.result.now c.args.run.now c.loop-i.i _ c.as_slice-step-items.ensures c.loop-i-test.true) c.loop-i.invariant
    (c.fire.ensures.value ∙ ap (λ (b : Bool). cond b (Some (marking_in c.args.d.now c.fire.new.self)) None) c.if-not-fire.true)

pub returns-then-not-fire-clause-far : goal.returns-then-not-fire-clause-far
returns-then-not-fire-clause-far c = (
  subst (λ n. c.loop-i.i < n) (sym (length-occurrences c.as_slice-step-items.result.now c.args.run.now c.as_slice-step-items.ensures)) c.loop-i-test.true,
  IsRun_from_leaves (negotiation_of c.args.d.now) (take c.loop-i.i (occurrences c.args.run.now)) (marking_in c.args.d.now c.loop-i.marking) c.loop-i.invariant,
  no_run (negotiation_of c.args.d.now) (take (c.loop-i.i + 1) (occurrences c.args.run.now)) (stopped c),
)

pub returns-then-not-fire-clause-complete : goal.returns-then-not-fire-clause-complete
returns-then-not-fire-clause-complete c = (λ e. cc, λ h. absurd (not_complete (negotiation_of c.args.d.now) (occurrences c.args.run.now) (c.loop-i.i + 1) (stopped c) h))

pub returns-clause-far : goal.returns-clause-far
returns-clause-far c =
    let left = all_occurred (negotiation_of c.args.d.now) c.as_slice-step-items.result.now c.args.run.now c.loop-i.i (marking_in c.args.d.now c.loop-i.marking) c.as_slice-step-items.ensures c.loop-i-test.false c.loop-i.invariant in (
      left,
      λ h. let final : c.is_final.result ≡ true = c.is_final.ensures.1 (same_Some (marking_in c.args.d.now c.loop-i.marking) (final_marking (negotiation_of c.args.d.now)) (sym left ∙ h)) in
          let clash : true ≡ false = sym final ∙ c.if-is_final.false in cc,
    )

pub returns-clause-complete : goal.returns-clause-complete
returns-clause-complete c = (λ e. cc, λ h. absurd ((returns-clause-far c).1 h))
