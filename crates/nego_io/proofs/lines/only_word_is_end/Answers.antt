use Rattle.std.proofs.Common.{Some, sym, ◌∙◌}
use Rattle.std.specs.Prelude.{codes}
use Rattle.std.proofs.lemmas.Bool.Decides.{Decides-eqb}
use Rattle.std.proofs.lemmas.Slice.Eq.{strip_prefix_is}
use Rattle.nego_io.proofs.EndLaws.{is_end_text}
use Rattle.nego_io.proofs.lines.only_word_is_end.Goals as goal

pub returns-in-Some : goal.returns-in-Some
returns-in-Some c =
    let text = c.from_word.result.now in
    let begins = strip_prefix_is Decides-eqb text (codes "end") (Some c.in-Some.rest) c.in-Some.ensures.cases in
    c.all_blank.ensures ∙ sym (is_end_text c.args.bytes.now text c.in-Some.rest.now c.from_word.ensures.same begins)
