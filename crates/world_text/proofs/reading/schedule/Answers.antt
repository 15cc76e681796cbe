use Rattle.std.proofs.Common.{◌≡◌, List, All, take, drop, length, ◌-◌, Err, Ok, [], ◌∷◌, ◌++◌, map, Result, refl, sym, ap, subst, ◌∙◌}
use Rattle.std.proofs.lemmas.List.{take_rest}
use Rattle.std.proofs.lemmas.List.Elements.{All-drop}
use Rattle.std.proofs.lemmas.Result.{err_from_is_err_and}
use Rattle.nego_base.specs.LineAnswers.{FitsLine, Fails, onto}
use Rattle.nego_base.specs.LineGrammar.{missing_end}
use Rattle.nego_base.specs.declared.fault.Fault.{Fault}
use Rattle.nego_base.specs.declared.line.Line.{Line}
use Rattle.nego_base.proofs.LineLoops.{fails_onto}
use Rattle.world_text.specs.ScheduleReading.{walk, plain_items}
use Rattle.world_text.specs.ScheduleTable.{Begin, Behind}
use Rattle.world_text.specs.ScheduleText.{Row, HeaderRow, EventRow, EndRow}
use Rattle.world_text.proofs.Walking.{header_on, header_fault, header_missing}
use Rattle.world_text.proofs.reading.schedule.Goals as goal

pub returns-in_err-header-in-Some : goal.returns-in_err-header-in-Some
returns-in_err-header-in-Some c =
    let p = err_from_is_err_and c.from_residual.result c.from_residual.ensures.1 in
    let missing = missing_end c.args.count in
    rw (p.1, p.2) (header_fault c.args.d.now missing (walk c.args.d.now missing Begin c.args.lines.now) c.args.lines.now c.in-Some.first.now c.in_err-header-in-Some.field-0.0
    c.in-Some.ensures.lookup.3.0 c.in-Some.ensures.lookup.1 c.in_err-header-in-Some.ensures refl)

pub events-requires-clause-lines : goal.events-requires-clause-lines
events-requires-clause-lines c = subst (λ (ls : List Line). All FitsLine ls) (sym (take_rest c.args.lines.now 1)) (All-drop FitsLine 1 c.args.lines.now c.requires.lines)

pub returns-in_err-events-in-Some : goal.returns-in_err-events-in-Some
returns-in_err-events-in-Some c =
    let p = err_from_is_err_and c.from_residual-in_err-events-in-Some.result c.from_residual-in_err-events-in-Some.ensures.1 in
    let missing = missing_end c.args.count in
    let rest = walk c.args.d.now missing (Behind 0) (drop 1 c.args.lines.now) in
    let fails : Fails c.in_err-events-in-Some.field-0.0 rest =
    subst (λ (ls : List Line). Fails c.in_err-events-in-Some.field-0.0 (walk c.args.d.now missing (Behind 0) ls)) (take_rest c.args.lines.now 1) c.in_err-events-in-Some.ensures in
    rw (p.1, p.2) (subst (λ (r : Result (List Row) Fault). Fails c.in_err-events-in-Some.field-0.0 r)
    (header_on c.args.d.now missing (walk c.args.d.now missing Begin c.args.lines.now) c.args.lines.now c.in-Some.first.now c.in-Some.ensures.lookup.3.0 c.in-Some.ensures.lookup.1 c.in_ok-header-in-Some.ensures refl)
    (fails_onto c.in_err-events-in-Some.field-0.0 (HeaderRow ∷ []) rest fails))

pub returns-in_ok-events-in-Some : goal.returns-in_ok-events-in-Some
returns-in_ok-events-in-Some c =
    let missing = missing_end c.args.count in
    let events = map EventRow (plain_items c.in_ok-events-in-Some.events) ++ EndRow ∷ [] in
    let rest : walk c.args.d.now missing (Behind 0) (drop 1 c.args.lines.now) ≡ Ok events =
    subst (λ (ls : List Line). walk c.args.d.now missing (Behind 0) ls ≡ Ok events) (take_rest c.args.lines.now 1) c.in_ok-events-in-Some.ensures in
    sym (header_on c.args.d.now missing (walk c.args.d.now missing Begin c.args.lines.now) c.args.lines.now c.in-Some.first.now c.in-Some.ensures.lookup.3.0 c.in-Some.ensures.lookup.1 c.in_ok-header-in-Some.ensures refl)
    ∙ ap (onto (HeaderRow ∷ [])) rest

pub returns-in-None : goal.returns-in-None
returns-in-None c = header_missing c.args.d.now (missing_end c.args.count) c.args.lines.now c.in-None.ensures.lookup.3 ∙ ap (λ (fault : Fault). Err fault) (sym c.missing_end.ensures)
