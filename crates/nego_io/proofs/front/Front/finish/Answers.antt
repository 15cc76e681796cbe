use Rattle.std.proofs.Common.{◌≡◌, ◌+◌, refl, sym, ◌∙◌, ap, arith}
use Rattle.std.proofs.lemmas.Bool.{cond-true, cond-false}
use Rattle.nego_io.specs.Part.{is_end_line, newlines}
use Rattle.nego_io.proofs.FrontLaws.{part_here}
use Rattle.nego_io.proofs.front.Front.finish.Goals as goal

pub returns-then-ends_part-clause-ok : goal.returns-then-ends_part-clause-ok
returns-then-ends_part-clause-ok c =
    let self = c.args.self in
    let ends = ap is_end_line (sym c.line.ensures) ∙ (sym c.ends_part.ensures ∙ c.if-ends_part.true) in
    (refl, part_here self.bytes self.line_start self.lines c.requires.unended ∙ cond-true _ _ _ ends)

pub returns-else-ends_part-clause-err : goal.returns-else-ends_part-clause-err
returns-else-ends_part-clause-err c =
    let self = c.args.self in
    let goes_on = ap is_end_line (sym c.line.ensures) ∙ (sym c.ends_part.ensures ∙ c.if-ends_part.false) in
    let line : self.lines + 1 ≡ 1 + newlines self.bytes = omega (arith, c.requires.unended.counted) in
    (part_here self.bytes self.line_start self.lines c.requires.unended ∙ cond-false _ _ _ goes_on, cc)
