use Rattle.std.proofs.Common.{◌+◌, ◌<◌, ◌≤◌, All, length, sym, ◌∙◌, arith}
use Rattle.std.proofs.lemmas.List.Elements.{All-weaker}
use Rattle.nego_base.specs.Scan.{scanned, count_lines}
use Rattle.nego_base.proofs.ScanLaws.{IsInBounds, lines_in_bounds, few_lines}
use Rattle.nego_base.proofs.scanning.scan.Goals as goal

pub returns-clause-filled : goal.returns-clause-filled
returns-clause-filled c =
    let bytes = c.args.bytes.now in
    rw c.in_ok-all_lines.ensures.lines (All-weaker IsInBounds (λ line. 0 < length line.words) (λ line at. at.filled) (scanned bytes) (lines_in_bounds bytes (sym c.first_fault.ensures ∙ c.in_default.is)))

pub returns-clause-short : goal.returns-clause-short
returns-clause-short c =
    let bytes = c.args.bytes.now in
    rw c.in_ok-all_lines.ensures.lines (All-weaker IsInBounds (λ line. line.length ≤ 1024) (λ line at. at.short) (scanned bytes) (lines_in_bounds bytes (sym c.first_fault.ensures ∙ c.in_default.is)))

pub returns-clause-within : goal.returns-clause-within
returns-clause-within c =
    let bytes = c.args.bytes.now in
    rw c.in_ok-all_lines.ensures.lines (All-weaker IsInBounds (λ line. All (λ word. word.column + length word.text ≤ 1025) line.words) (λ line at. at.within) (scanned bytes) (lines_in_bounds bytes (sym c.first_fault.ensures ∙ c.in_default.is)))

pub returns-clause-few : goal.returns-clause-few
unfolding count_lines
returns-clause-few c = omega (arith, c.in_ok-all_lines.ensures.count, few_lines c.args.bytes.now)
