use Rattle.std.proofs.Common.{◌≡◌, ◌∙◌, ◌&&◌, [], ◌∷◌, Bool, true, false, refl, get_or, take, drop, List, ℕ, ap, ap₂, sym, arith}
use Rattle.std.specs.List.{list_all}
use Rattle.std.proofs.lemmas.Bool.{and_parts}
use Rattle.std.proofs.lemmas.List.{take_more, take-append-drop}
use Rattle.std.proofs.lemmas.List.Folds.{list_all-append}
use Rattle.nego_base.specs.declared.op.Op.TheVariants.{Eq}
use Rattle.nego_data.specs.declared.cases.Operand.TheVariants.{Number}
use Rattle.nego_data.specs.declared.cases.Test.{Test}
use Rattle.nego_data.specs.Sizes.{tuple_of}
use Rattle.nego_data.specs.Cases.{test_holds}
use Rattle.nego_data.proofs.covered.newly_covered.Goals as goal

-- where all pass, all of the first ones do
all_taken : (passes : Test → Bool) (i : ℕ) (tests : List Test) → list_all passes tests ≡ true → list_all passes (take i tests) ≡ true
all_taken passes i tests all = (and_parts (list_all passes (take i tests)) (list_all passes (drop i tests)) (sym (list_all-append passes (take i tests) (drop i tests)) ∙ ap (list_all passes) (take-append-drop i tests) ∙ all)).0

pub loop-test-init : goal.loop-test-init
loop-test-init c = record {
  covered = λ d h. c.all-covered.ensures d (omega (arith, h, c.requires.few));
  known = c.requires.known;
}

pub loop-test-preserved : goal.loop-test-preserved
loop-test-preserved c =
    let items = c.deref-test-items.result.now in
    let i = c.loop-test.test-index in
    let none : Test = record { agent = record { 0 = 0 }; op = Eq; right = Number 0 } in
    let test = get_or items i none in
    record {
      covered = λ d h.
          let values = tuple_of c.args.sizes.now d in
          c.keep.ensures d (omega (arith, h, c.requires.few))
          ∙ ap₂ ◌&&◌ (c.loop-test.invariant.covered d h) (c.those_of.ensures.those d h)
          ∙ ap (λ b. list_all (λ x. test_holds x values) (take i items) && b) (and_all (test_holds test values))
          ∙ sym (list_all-append (λ x. test_holds x values) (take i items) (test ∷ []))
          ∙ ap (list_all (λ x. test_holds x values)) (sym (take_more items i none c.loop-test-test.true));
      known = c.those_of.ensures.known;
    }
  where
    and_all : (b : Bool) → b ≡ (b && true)
    and_all true = refl
    and_all false = refl

pub returns-then-is_within-clause-covered : goal.returns-then-is_within-clause-covered
returns-then-is_within-clause-covered c d h passes =
    let holds : Test → Bool = λ test. test_holds test (tuple_of c.args.sizes.now d) in
    let all : list_all holds c.deref-test-items.result.now ≡ true = ap (list_all holds) c.deref-test-items.ensures ∙ passes in
    c.is_within.ensures c.if-is_within.true d (omega (arith, h, c.requires.few)) (c.loop-test.invariant.covered d h ∙ all_taken holds c.loop-test.test-index c.deref-test-items.result.now all)
