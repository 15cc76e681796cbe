use Rattle.std.proofs.Common.{◌∙◌, ap, sym, subst, get_or, slice_index, length, arith}
use Rattle.std.specs.List.{All}
use Rattle.std.proofs.lemmas.List.{length-set, take_all}
use Rattle.nego_data.specs.declared.cases.Set.{Set}
use Rattle.nego_data.specs.declared.cases.Term.TheVariants as terms
use Rattle.nego_data.specs.Cases.{term_for}
use Rattle.nego_data.specs.CaseForm.{SetBelow}
use Rattle.nego_data.specs.Given.{least_given, least_after}
use Rattle.nego_data.proofs.Assigned.{of_sets, of_sets-once, next_least, least_kept_below}
use Rattle.nego_data.proofs.giving.least_values.Goals as goal

pub loop-set-preserved : goal.loop-set-preserved
loop-set-preserved c =
    let items = c.deref-set-items.result.now in
    let once = of_sets-once items c.args.case.now c.deref-set-items.ensures c.requires.once in
    let few = c.size.ensures.sizes.few_agents in
    let i = c.loop-set.set-index in
    let nobody : Set = record { agent = record { 0 = 0 }; term = terms.Any } in
    let item : Set = get_or items i nobody in
    let below = subst (All (SetBelow (length c.args.sizes.now))) (sym c.deref-set-items.ensures) c.requires.agents i nobody c.loop-set-test.true in
    let value = c.least_given.ensures ∙ ap (λ n. least_given item.term n c.args.old.now) c.size.ensures.value in
    record {
      sixteen = length-set c.loop-set.new c.place_of.result c.least_given.result ∙ c.loop-set.invariant.sixteen;
      least = rw c.place_of.ensures (next_least (of_sets items) i nobody once c.loop-set-test.true c.args.sizes.now c.args.old.now c.loop-set.new c.least_given.result
          (omega (arith, few, c.loop-set.invariant.sixteen)) below.0 value c.loop-set.invariant.least);
    }

pub returns-clause-in_range : goal.returns-clause-in_range
returns-clause-in_range c =
    let items = c.deref-set-items.result.now in
    let whole = take_all c.loop-set.set-index items c.loop-set-test.false in
    least_kept_below c.args.sizes.now c.args.case.now items c.args.old.now c.loop-set.new c.deref-set-items.ensures c.requires.fits c.requires.values
    (λ a h. c.loop-set.invariant.least a h ∙ ap (λ sets. least_after (term_for sets a) (slice_index c.args.sizes.now a) c.args.old.now (slice_index c.args.old.now a)) whole)
