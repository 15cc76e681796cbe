use Rattle.std.proofs.Common.{◌∙◌, ◌||◌, ap, sym, subst, arith}
use Rattle.std.proofs.lemmas.Bool.{and_parts}
use Rattle.std.specs.List.{All}
use Rattle.nego_data.specs.Assignments.{IsApplied}
use Rattle.nego_data.specs.BitRows.{is_set}
use Rattle.nego_data.proofs.Assignments.{nothing_new, nothing_more, still_applied, now_applied}
use Rattle.nego_data.proofs.making.add_new.Goals as goal

pub returns-in_default-clause-related : goal.returns-in_default-clause-related
returns-in_default-clause-related c =
    let sizes = c.args.sizes.now in
    let table = c.args.rows.now in
    let done = c.applied_to-done.ensures sizes table (subst (All (IsApplied sizes table)) (sym c.as_slice.ensures) c.requires.applied) in
    nothing_new sizes c.args.case.now c.keep.new.self.words c.in_default.ensures.covered table (λ d e h k m follows.
    done d e h k (and_parts (is_set c.applied_to-done.result.words d) (is_set c.args.covered.now.words d) (sym (c.keep.ensures d (omega (arith, h, c.requires.few))) ∙ m)).0 follows)

pub returns-in_default-clause-covered : goal.returns-in_default-clause-covered
returns-in_default-clause-covered c d h =
    nothing_more c.args.sizes.now c.args.case.now c.keep.new.self.words c.in_default.ensures.covered c.args.covered.now.words d h (λ m.
    (and_parts (is_set c.applied_to-done.result.words d) (is_set c.args.covered.now.words d) (sym (c.keep.ensures d (omega (arith, h, c.requires.few))) ∙ m)).1)

pub returns-clause-covered : goal.returns-clause-covered
returns-clause-covered c d h = c.add.ensures d (omega (arith, h, c.requires.few)) ∙ ap (λ b. is_set c.args.covered.now.words d || b) (c.in-Some.ensures.covered d h)

pub returns-clause-applied : goal.returns-clause-applied
returns-clause-applied c =
    let sizes = c.args.sizes.now in
    let case = c.args.case.now in
    let those = c.in-Some.those.words in
    let old = c.args.rows.now in
    let new = c.add_case.new.rows in
    c.keep_applied.ensures sizes new (still_applied sizes case those c.in-Some.ensures.covered old new c.add_case.ensures.related c.args.applied.now c.requires.applied) c.requires.few
    (now_applied sizes case those c.in-Some.ensures.covered old new c.add_case.ensures.related)
