use Rattle.std.proofs.Common.{◌≡◌, ◌++◌, ◌∷◌, [], ℕ, map, sym, ap, ◌∙◌, arith}
use Rattle.std.specs.List.{filter, range_with_len}
use Rattle.nego_base.specs.Members.{is_in}
use Rattle.nego_eval.proofs.Answering.{one_more, one_less}
use Rattle.nego_eval.proofs.answers.add_row.Goals as goal
use Rattle.nego_eval.proofs.answers.add_row.Goals.{then-has+in_ok-push, else-has}

pub loop-e-preserved : goal.loop-e-preserved
loop-e-preserved c = elim c.if-has.branch [
  | then-has+in_ok-push w ↦
      w.answers-is ∙ w.in_ok-push.ensures.ok ∙ ap (λ xs. xs ++ (c.args.place, c.loop-e.e) ∷ []) c.loop-e.invariant
      ∙ one_more c.args.answers.now c.args.place (λ e. is_in e c.args.row.now) c.loop-e.e (sym c.has.ensures ∙ w.if-has.true)
  | else-has w ↦ w.answers-is ∙ c.loop-e.invariant ∙ one_less c.args.answers.now c.args.place (λ e. is_in e c.args.row.now) c.loop-e.e (sym c.has.ensures ∙ w.if-has.false)
]

pub returns : goal.returns
returns c =
    let end : c.loop-e.e ≡ c.args.joint = omega arith in
    c.loop-e.invariant ∙ ap (λ n. c.args.answers.now ++ map {A = ℕ} {B = ℕ × ℕ} (λ e. (c.args.place, e)) (filter (λ e. is_in e c.args.row.now) (range_with_len 0 n))) end
