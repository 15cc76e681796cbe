use Rattle.std.proofs.Common.{List, map, sym, ap, ap₂, subst, ◌∙◌}
use Rattle.std.proofs.lemmas.Result.{err_from_is_err_and}
use Rattle.std.proofs.lemmas.Simd.{map-map}
use Rattle.std.specs.List.{flat_map}
use Rattle.nego_base.specs.declared.line.Word.{Word}
use Rattle.nego_data.specs.declared.cases.Case.{Case}
use Rattle.nego_data.specs.declared.cases.Test.{Test}
use Rattle.nego_data.specs.declared.cases.Set.{Set}
use Rattle.nego_reader.specs.declared.parsed.PTest.{PTest}
use Rattle.nego_reader.specs.declared.parsed.PSet.{PSet}
use Rattle.nego_reader.specs.Content.{content_of, test_content, set_content}
use Rattle.nego_reader.specs.Rising.{test_words, set_words}
use Rattle.nego_shape.specs.Faults.{others}
use Rattle.nego_shape.specs.Answer.{Tells}
use Rattle.nego_shape.specs.Naming.{agent_names, test_in, set_in}
use Rattle.nego_shape.specs.Undeclared.{first_unknown}
use Rattle.nego_shape.proofs.DeclaredParts.{told_front, told_behind, others_case}
use Rattle.nego_shape.proofs.Numbered.{empty_both}
use Rattle.nego_shape.proofs.numbers.case_of.Goals as goal

pub returns-clause-numbers : goal.returns-clause-numbers
returns-clause-numbers c =
    let c0 = content_of c.args.p.now in
    let case = c.args.case.now in
    let made : List Test → List Set → Case = λ tests sets. record { tests = tests; sets = sets } in
    let tests = c.in_ok-tests_of.ensures.numbers ∙ ap (map (λ test. test_in c0 (test_content test))) c.as_slice.ensures ∙ sym (map-map (test_in c0) test_content case.tests) in
    let sets = c.in_ok-sets_of.ensures.numbers ∙ ap (map (λ set. set_in c0 (set_content set))) c.as_slice-2.ensures ∙ sym (map-map (set_in c0) set_content case.sets) in
    ap₂ made tests sets

pub returns-clause-declared : goal.returns-clause-declared
returns-clause-declared c =
    let names = agent_names (content_of c.args.p.now) in
    let case = c.args.case.now in
    let tests : List PTest → List Word = flat_map (λ test. others names (test_words test)) in
    let sets : List PSet → List Word = flat_map (λ set. others names (set_words set)) in
    others_case names case ∙ empty_both (tests case.tests) (sets case.sets) (ap tests (sym c.as_slice.ensures) ∙ c.in_ok-tests_of.ensures.declared) (ap sets (sym c.as_slice-2.ensures) ∙ c.in_ok-sets_of.ensures.declared)

pub returns-in_err-tests_of-clause-declared : goal.returns-in_err-tests_of-clause-declared
returns-in_err-tests_of-clause-declared c =
    let names = agent_names (content_of c.args.p.now) in
    let case = c.args.case.now in
    let e = c.in_err-tests_of.field-0.0 in
    let tests : List PTest → List Word = flat_map (λ test. others names (test_words test)) in
    let sets : List PSet → List Word = flat_map (λ set. others names (set_words set)) in
    let told = err_from_is_err_and c.from_residual.result c.from_residual.ensures.1 in
    rw (told.1, told.2)
    (subst (λ ws. Tells e (first_unknown ws)) (sym (others_case names case))
    (told_front e (tests case.tests) (sets case.sets) (subst (λ xs. Tells e (first_unknown (tests xs))) c.as_slice.ensures c.in_err-tests_of.ensures.declared)))

pub returns-in_err-sets_of-clause-declared : goal.returns-in_err-sets_of-clause-declared
returns-in_err-sets_of-clause-declared c =
    let names = agent_names (content_of c.args.p.now) in
    let case = c.args.case.now in
    let e = c.in_err-sets_of.field-0.0 in
    let tests : List PTest → List Word = flat_map (λ test. others names (test_words test)) in
    let sets : List PSet → List Word = flat_map (λ set. others names (set_words set)) in
    let told = err_from_is_err_and c.from_residual-in_err-sets_of.result c.from_residual-in_err-sets_of.ensures.1 in
    rw (told.1, told.2)
    (subst (λ ws. Tells e (first_unknown ws)) (sym (others_case names case))
    (told_behind e (tests case.tests) (sets case.sets) (ap tests (sym c.as_slice.ensures) ∙ c.in_ok-tests_of.ensures.declared) (subst (λ xs. Tells e (first_unknown (sets xs))) c.as_slice-2.ensures c.in_err-sets_of.ensures.declared)))
