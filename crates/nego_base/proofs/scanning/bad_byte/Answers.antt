use Rattle.std.proofs.Common.{◌≡◌, min, not, length, take, sym, ◌∙◌, ap, arith}
use Rattle.std.specs.List.{position}
use Rattle.std.proofs.lemmas.Bool.{cond-false}
use Rattle.std.proofs.lemmas.List.{take_min}
use Rattle.nego_base.specs.Scan.{may_stand}
use Rattle.nego_base.proofs.scanning.bad_byte.Goals as goal

pub returns-clause-place : goal.returns-clause-place
returns-clause-place c =
    let line = c.args.line.now in
    let turned : min (length line) 1024 ≡ min 1024 (length line) = omega arith in
    c.bad_place.ensures.place ∙ (ap (λ n. position (λ b. not (may_stand b)) (take n line)) (c.min.ensures ∙ turned)
    ∙ (ap (position (λ b. not (may_stand b))) (take_min 1024 line) ∙ sym (cond-false _ _ _ (sym c.is_comment.ensures ∙ c.if-is_comment.false))))
