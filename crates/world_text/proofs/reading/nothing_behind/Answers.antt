use Rattle.std.proofs.Common.{Err, sym, ap, ◌∙◌}
use Rattle.std.proofs.lemmas.Result.{err_from_is_err_and}
use Rattle.nego_base.specs.declared.fault.Fault.{Fault}
use Rattle.world_text.proofs.Walking.{over_none, over_some_word, over_some_fault}
use Rattle.world_text.proofs.reading.nothing_behind.Goals as goal

pub returns-in_err-word-in-Some : goal.returns-in_err-word-in-Some
returns-in_err-word-in-Some c = λ missing.
    let p = err_from_is_err_and c.from_residual.result c.from_residual.ensures.1 in
    rw (p.1, p.2) (over_some_fault c.args.d.now missing c.args.lines.now c.args.i c.in-Some.line.now c.in_err-word-in-Some.field-0.0 c.in-Some.ensures.lookup.3.0 c.in-Some.ensures.lookup.1 c.in_err-word-in-Some.ensures)

pub returns-in_ok-word-in-Some : goal.returns-in_ok-word-in-Some
returns-in_ok-word-in-Some c = λ missing.
    over_some_word c.args.d.now missing c.args.lines.now c.args.i c.in-Some.line.now c.in_ok-word-in-Some.field-0.now c.in-Some.ensures.lookup.3.0 c.in-Some.ensures.lookup.1 c.in_ok-word-in-Some.ensures
    ∙ ap (λ (fault : Fault). Err fault) (sym c.fault.ensures)

pub returns-in-None : goal.returns-in-None
returns-in-None c = λ missing. over_none c.args.d.now missing c.args.lines.now c.args.i c.in-None.ensures.lookup.3
