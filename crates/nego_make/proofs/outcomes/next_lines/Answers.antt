use Rattle.std.proofs.Common.{◌≡◌, ◌∙◌, ◌+◌, ◌-◌, ◌==◌, ℕ, List, Bool, not, length, map, ap, sym, arith}
use Rattle.std.specs.List.{filter, range_with_len}
use Rattle.std.proofs.lemmas.List.{length-map}
use Rattle.nego_reader.specs.Content.{NextContent, next_content}
use Rattle.nego_make.specs.Generated.{agent_name, movers, next_line}
use Rattle.nego_make.proofs.Steps.{range-up_to, pushed_in, left_out}
use Rattle.nego_make.proofs.outcomes.next_lines.Goals as goal
use Rattle.nego_make.proofs.outcomes.next_lines.Goals.{then-not-is_empty+in_ok-push, else-not-is_empty}

pub loop-j-preserved : goal.loop-j-preserved
loop-j-preserved c =
    let n = c.args.n in
    let i = c.args.i in
    let j = c.loop-j.j in
    let f = next_line n i in
    let test : ℕ → Bool = λ k. not (length (movers n i k) == 0) in
    let so_far = range_with_len (i + 1) (j - (i + 1)) in
    let line = c.in_ok-line.line in
    let count : length line.agents ≡ length (movers n i j) =
    sym (length-map line.agents (λ w. w.text)) ∙ (ap (λ (next : NextContent). length next.agents) c.in_ok-line.ensures ∙ length-map (movers n i j) agent_name) in
    let grown = ap (λ (xs : List ℕ). map f (filter test xs)) (sym (range-up_to i j c.loop-j.invariant.1)) in
    let tested = ap (λ (m : ℕ). not (m == 0)) (sym count) in
    elim c.if-not-is_empty.branch [
      | then-not-is_empty+in_ok-push w ↦ (
        pushed_in next_content f test so_far j c.loop-j.nexts c.if-not-is_empty.nexts line (w.nexts-is ∙ w.in_ok-push.ensures.ok) c.loop-j.invariant.0 c.in_ok-line.ensures
            (tested ∙ ap not (sym c.is_empty.ensures ∙ w.if-not-is_empty.true)) ∙ grown,
        omega (arith, c.loop-j.invariant.1),
        omega (arith, c.loop-j-test.true),
      )
      | else-not-is_empty w ↦ (
        ap (map next_content) w.nexts-is ∙ (left_out next_content f test so_far j c.loop-j.nexts c.loop-j.invariant.0 (tested ∙ ap not (sym c.is_empty.ensures ∙ w.if-not-is_empty.false)) ∙ grown),
        omega (arith, c.loop-j.invariant.1),
        omega (arith, c.loop-j-test.true),
      )
    ]
