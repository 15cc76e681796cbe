use Rattle.std.proofs.Common.{◌∙◌, ◌||◌, [], ◌∷◌, length, ap, sym, subst, lt-ltb}
use Rattle.std.specs.List.{list_any, range_with_len}
use Rattle.std.proofs.lemmas.List.{take_all}
use Rattle.nego_base.proofs.Members.{all_at, is_in-range_zero}
use Rattle.nego_data.specs.Data.{data_count}
use Rattle.nego_data.specs.BitRows.{is_set}
use Rattle.nego_data.specs.Sizes.{tuple_of}
use Rattle.nego_data.specs.Cases.{covers, relates}
use Rattle.nego_data.specs.CaseForm.{IsNamedBelow}
use Rattle.nego_data.proofs.Additions.{table_of_cases, named_below_more, relates_more, covers_more}
use Rattle.nego_data.proofs.Uncovered.{tuple_covered}
use Rattle.nego_data.proofs.making.rows_of_cases.Goals as goal

pub add_new-requires-clause-named : goal.add_new-requires-clause-named
add_new-requires-clause-named c = subst (IsNamedBelow (length c.args.sizes.now)) (sym c.case-item.is) (c.requires.named c.loop-case.case-index c.case-item.result c.loop-case-test.true)

pub add_new-requires-clause-tests : goal.add_new-requires-clause-tests
add_new-requires-clause-tests c =
    (named_below_more (length c.args.sizes.now) 16 c.case-item.result c.all.ensures.sizes.few_agents
    (subst (IsNamedBelow (length c.args.sizes.now)) (sym c.case-item.is) (c.requires.named c.loop-case.case-index c.case-item.result c.loop-case-test.true))).tests

pub loop-case-preserved : goal.loop-case-preserved
loop-case-preserved c =
    let sizes = c.args.sizes.now in
    let cases = c.args.cases.now in
    let case = c.case-item.result in
    let i = c.loop-case.case-index in
    let before = c.loop-case.invariant in
    record {
      table = c.add_new.ensures.table;
      related = λ d e h k.
          c.add_new.ensures.related d e h k
          ∙ ap (λ b. b || relates sizes (case ∷ []) d e) (before.related d e h k)
          ∙ sym (relates_more sizes cases i d e case c.loop-case-test.true c.case-item.is);
      covered = λ d h.
          c.add_new.ensures.covered d h
          ∙ ap (λ b. b || covers case (tuple_of sizes d)) (before.covered d h)
          ∙ sym (covers_more (tuple_of sizes d) cases i case c.loop-case-test.true c.case-item.is);
      known = c.add_new.ensures.known;
      applied = c.add_new.ensures.applied;
      offsets = c.add_new.ensures.offsets;
    }

pub returns-clause-rows : goal.returns-clause-rows
returns-clause-rows c =
    let whole = take_all c.loop-case.case-index c.args.cases.now c.loop-case-test.false in
    table_of_cases c.args.sizes.now c.args.cases.now c.loop-case.rows c.loop-case.invariant.table
    (λ d e h k. c.loop-case.invariant.related d e h k ∙ ap (λ cases. relates c.args.sizes.now cases d e) whole)

pub returns-clause-covered : goal.returns-clause-covered
returns-clause-covered c d h =
    let sizes = c.args.sizes.now in
    let count = data_count sizes in
    let whole = take_all c.loop-case.case-index c.args.cases.now c.loop-case-test.false in
    sym (tuple_covered sizes c.args.cases.now d)
    ∙ ap (list_any (λ case. covers case (tuple_of sizes d))) (sym whole)
    ∙ sym (c.loop-case.invariant.covered d h)
    ∙ all_at (is_set c.loop-case.covered.words) (range_with_len 0 count) d (sym c.has_all.ensures ∙ c.if-not-has_all.false) (is_in-range_zero d count ∙ lt-ltb d count h)

pub returns-then-not-has_all-clause-err : goal.returns-then-not-has_all-clause-err
returns-then-not-has_all-clause-err c d h =
    c.loop-case.invariant.covered d h ∙ ap (list_any (λ case. covers case (tuple_of c.args.sizes.now d))) (take_all c.loop-case.case-index c.args.cases.now c.loop-case-test.false)
