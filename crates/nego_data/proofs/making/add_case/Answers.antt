use Rattle.std.proofs.Common.{◌≡◌, ◌<◌, ◌+◌, ◌∙◌, ◌&&◌, ◌||◌, ◌==◌, ℕ, [], ◌∷◌, length, refl, sym, subst, ap, arith}
use Rattle.std.specs.List.{list_any}
use Rattle.nego_data.specs.Data.{data_count, split, joint}
use Rattle.nego_data.specs.Tables.{IsTable, is_related}
use Rattle.nego_data.specs.Cases.{covers, relates}
use Rattle.nego_data.specs.Sizes.{tuple_of}
use Rattle.nego_data.specs.Given.{offsets_of, least_values}
use Rattle.nego_data.proofs.Assigned.{at-least_values}
use Rattle.nego_data.proofs.Offsets.{relates_by_offsets}
use Rattle.nego_data.proofs.Additions.{value-at, length-values, length-least_values, named_below_more, tuple_covers, related_data, when_covered, not_covered, no_more}
use Rattle.nego_data.proofs.making.add_case.Goals as goal
use Rattle.nego_data.proofs.making.add_case.Goals.{then-has, else-has}

pub free_agents-requires-clause-agents : goal.free_agents-requires-clause-agents
free_agents-requires-clause-agents c =
    (named_below_more (length c.args.sizes.now) 16 c.args.case.now c.all-all.ensures.sizes.few_agents c.requires.named).sets

pub loop-d-preserved : goal.loop-d-preserved
loop-d-preserved c =
    let sizes = c.args.sizes.now in
    let case = c.args.case.now in
    let first = c.args.rows.now in
    let d = c.loop-d.d in
    let free = c.free_agents.result in
    let ok = c.all-all.ensures.sizes in
    let few = ok.few_agents in
    let below : d < data_count sizes = omega (arith, c.loop-d-test.true, c.all-all.ensures.value) in
    let covered : covers case (split sizes d) ≡ c.has.result = sym (c.has.ensures ∙ c.requires.those d below ∙ tuple_covers sizes case d (tuple_of sizes d) refl) in
    elim c.if-has.branch [
      | then-has w ↦
          let related = λ (e : ℕ) (k : e < data_count sizes).
          when_covered (covers case (split sizes d)) (relates sizes (case ∷ []) d e) (list_any (λ o. joint sizes (least_values sizes case.sets (split sizes d)) + o == e) (offsets_of sizes free))
          (covered ∙ w.if-has.true)
          (relates_by_offsets sizes case free ok c.requires.fits c.free_agents.ensures d (least_values sizes case.sets (split sizes d)) below (omega (arith, length-least_values sizes case d below))
          (λ a l. at-least_values sizes case.sets (split sizes d) a l) e k)
          ∙ ap (λ n. list_any (λ o. n + o == e) (offsets_of sizes free)) (sym w.least_number-least.ensures.value)
          ∙ sym (c.offsets_above-above.ensures.above w.least_number-least.result e) in
          record {
            table = subst (IsTable (data_count sizes)) (sym w.rows-is) (subst (λ n. IsTable n w.relate.new.rows) c.loop-d.invariant.table.rows w.relate.ensures.table);
            related = related_data first c.loop-d.rows c.if-has.rows (data_count sizes) d (relates sizes (case ∷ [])) c.loop-d.invariant.related (λ a e h k.
                ap (λ table. is_related table a e) w.rows-is
                ∙ w.relate.ensures.related a e (omega (arith, h, c.loop-d.invariant.table.rows)) (omega (arith, k, c.loop-d.invariant.table.rows))
                ∙ ap (λ b. is_related c.loop-d.rows a e || (a == d && b)) (sym (related e k)));
          }
      | else-has w ↦ record {
        table = subst (IsTable (data_count sizes)) (sym w.rows-is) c.loop-d.invariant.table;
        related = related_data first c.loop-d.rows c.if-has.rows (data_count sizes) d (relates sizes (case ∷ [])) c.loop-d.invariant.related (λ a e h k.
            ap (λ table. is_related table a e) w.rows-is ∙ no_more (is_related c.loop-d.rows a e) a d
            ∙ ap (λ b. is_related c.loop-d.rows a e || (a == d && b)) (sym (not_covered sizes case d e (covered ∙ w.if-has.false))));
      }
    ]

pub bounds-values-d : goal.bounds-values-d
bounds-values-d c = omega (arith, c.loop-d-test.true, c.all-all.ensures.value, length-values c.args.sizes.now c.args.values.now c.requires.values)

pub least_number-least-requires-clause-values : goal.least_number-least-requires-clause-values
least_number-least-requires-clause-values c = value-at c.args.sizes.now c.args.values.now c.loop-d.d c.requires.values (omega (arith, c.loop-d-test.true, c.all-all.ensures.value))
