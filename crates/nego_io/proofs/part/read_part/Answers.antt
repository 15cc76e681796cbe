use Rattle.std.proofs.Common.{◌≡◌, ◌↔◌, ◌+◌, ◌≤◌, [], ◌++◌, length, take, sym, ◌∙◌, ap, arith, rules}
use Rattle.std.proofs.lemmas.List.{append-nil, length-append, length-take-le, take-append-le}
use Rattle.std.proofs.lemmas.Result.{err_from_is_err_and}
use Rattle.nego_io.specs.Part.{reading}
use Rattle.nego_io.specs.Front.{IsClosed}
use Rattle.nego_io.proofs.BehindLaws.{next_fits}
use Rattle.nego_io.proofs.OutsideLaws.{takes_then, told_so}
use Rattle.nego_io.proofs.ReadingLaws.{reading_closed}
use Rattle.nego_io.proofs.ReadLaws.{answer_of, answers_all, whole_all, taken_all, taken_part, taken_then_failed, taken_then_starved, taken_past}
use Rattle.nego_io.proofs.part.read_part.Given.{Over}
use Rattle.nego_io.proofs.part.read_part.Goals as goal

pub returns-in_err-count-clause-answers : goal.returns-in_err-count-clause-answers
returns-in_err-count-clause-answers g c =
    let left = g.S.Source.left in
    let front = c.loop-front.front in
    let before = c.loop-front.invariant in
    let p = err_from_is_err_and c.from_residual.result c.from_residual.ensures.1 in
    rw (p.1, p.2) (taken_then_failed c.args.limit front.bytes front.line_start front.lines (left c.args.source.now) (left c.loop-front.source) (left c.take.new.self)
    before.unended before.fits before.told c.in_err-count.ensures.err)

pub returns-then-count-eq0-clause-answers : goal.returns-then-count-eq0-clause-answers
returns-then-count-eq0-clause-answers g c =
    let left = g.S.Source.left in
    let bytes = c.loop-front.front.bytes in
    let before = c.loop-front.invariant in
    answers_all c.args.limit bytes c.finish.result _ _ (answer_of bytes c.finish.result c.finish.ensures.ok c.finish.ensures.err) before.fits
    (taken_all bytes (left c.args.source.now) (left c.loop-front.source) (left c.take.new.self) before.told (rw c.if-count-eq0.true at c.in_ok-count.ensures.taken)
    (told_so (λ at _. (c.in_ok-count.count ≡ 0) ↔ (at ≡ [])) (λ at _. at ≡ []) (left c.loop-front.source) (left c.take.new.self) (λ at _ e. e.0 c.if-count-eq0.true) (c.in_ok-count.ensures.end (search rules))))

pub returns-then-count-eq0-clause-whole : goal.returns-then-count-eq0-clause-whole
returns-then-count-eq0-clause-whole g c =
    let bytes = c.loop-front.front.bytes in
    whole_all c.args.limit bytes c.finish.result (answer_of bytes c.finish.result c.finish.ensures.ok c.finish.ensures.err) c.loop-front.invariant.fits

pub returns-then-count-room-clause-answers : goal.returns-then-count-room-clause-answers
returns-then-count-room-clause-answers g c =
    let left = g.S.Source.left in
    let front = c.loop-front.front in
    let before = c.loop-front.invariant in
    let next = take c.in_ok-count.count c.take.new.buf in
    let fits = next_fits front.bytes front.line_start front.lines next c.reach.result before.unended c.reach.ensures.within (search rules) in
    taken_past c.args.limit front.bytes next (left c.args.source.now) (left c.loop-front.source) (left c.take.new.self) fits (search rules) before.told c.in_ok-count.ensures.taken

pub returns-in_err-put-clause-answers : goal.returns-in_err-put-clause-answers
returns-in_err-put-clause-answers g c =
    let left = g.S.Source.left in
    let front = c.loop-front.front in
    let before = c.loop-front.invariant in
    let next = take c.in_ok-count.count c.take.new.buf in
    let fits = next_fits front.bytes front.line_start front.lines next c.reach.result before.unended c.reach.ensures.within (search rules) in
    let p = err_from_is_err_and c.from_residual-in_err-put.result c.from_residual-in_err-put.ensures.1 in
    rw (p.1, p.2) (taken_then_starved c.args.limit front.bytes next (left c.args.source.now) (left c.loop-front.source) (left c.take.new.self) fits (search rules) before.told c.in_ok-count.ensures.taken)

put_is : (g : Over) (c : goal.Then-branch g) → c.put.new.self.bytes ≡ c.loop-front.front.bytes ++ take c.in_ok-count.count c.take.new.buf
put_is g c = c.in_ok-put.ensures.bytes ∙ ap (λ t. c.loop-front.front.bytes ++ t) (take-append-le c.in_ok-count.count c.take.new.buf _ c.in_ok-count.ensures.count)

put_fits : (g : Over) (c : goal.Then-branch g) → length c.put.new.self.bytes ≤ c.args.limit
put_fits g c =
    let bytes = c.loop-front.front.bytes in
    let next = take c.in_ok-count.count c.take.new.buf in
    let within : length bytes + length next ≤ c.args.limit + 1 = search rules in
    let size : length next ≡ c.in_ok-count.count = length-take-le c.in_ok-count.count c.take.new.buf c.in_ok-count.ensures.count in
    omega (arith, ap length (put_is g c), length-append bytes next, within, size, c.if-count-room.false, c.len.ensures, c.loop-front.invariant.fits)

pub returns-then-branch-clause-answers : goal.returns-then-branch-clause-answers
returns-then-branch-clause-answers g c =
    let left = g.S.Source.left in
    let bytes = c.loop-front.front.bytes in
    let before = c.loop-front.invariant in
    let next = take c.in_ok-count.count c.take.new.buf in
    let told = takes_then bytes next (left c.args.source.now) (left c.loop-front.source) (left c.take.new.self) before.told c.in_ok-count.ensures.taken in
    let closed : IsClosed c.put.new.self.bytes = rw c.if-branch.true at c.in_ok-put.ensures.ends in
    taken_part c.args.limit (record { bytes = c.put.new.self.bytes }) _ _ closed (put_fits g c) (rw (sym (put_is g c)) at told)

pub returns-then-branch-clause-whole : goal.returns-then-branch-clause-whole
returns-then-branch-clause-whole g c =
    let bytes = c.put.new.self.bytes in
    let closed : IsClosed bytes = rw c.if-branch.true at c.in_ok-put.ensures.ends in
    ap (reading c.args.limit) (sym (append-nil bytes)) ∙ reading_closed c.args.limit bytes [] closed (put_fits g c)
