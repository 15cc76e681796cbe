use Rattle.std.proofs.Common.{◌∙◌, ℕ, List, ◌++◌, take, ap, sym, subst, slice_index_or}
use Rattle.std.specs.Prelude.{codes, decimal}
use Rattle.std.proofs.lemmas.List.{take_more}
use Rattle.nego_base.specs.Appending.{Appends}
use Rattle.nego_expr.proofs.Printing.{appends_then}
use Rattle.nego_cli.specs.Refusals.{value_words}
use Rattle.nego_cli.proofs.NamedPlaces.{value_words-more}
use Rattle.nego_cli.proofs.joint_text.add_numbers.Goals as goal

pub loop-n-preserved : goal.loop-n-preserved
loop-n-preserved c =
    let old = c.args.text.now in
    let new = c.add_number.new.text in
    let ns = c.args.numbers.now in
    let i = c.loop-n.n-index in
    let n = slice_index_or ns i 0 in
    let word : List ℕ → List ℕ = λ rest. codes " " ++ (decimal n ++ rest) in
    let lines : Appends old new (λ rest. value_words (take i ns) (word rest)) = appends_then old c.loop-n.text new (value_words (take i ns)) word c.loop-n.invariant c.in_ok-add_number.ensures in
    subst (λ items. Appends old new (value_words items)) (sym (take_more ns i 0 c.loop-n-test.true))
    (λ rest. lines rest ∙ ap (λ words. old ++ words) (sym (value_words-more (take i ns) n rest)))
