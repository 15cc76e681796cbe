use Rattle.std.proofs.Common.{◌≡◌, ◌∙◌, ◌++◌, codes, decimal, List, ℕ, ap, ap₂, subst, sym, append_assoc}
use Rattle.nego_model.specs.Summary.{PlainSummary}
use Rattle.nego_expr.specs.SummaryText.{plain_summary, summary_text}
use Rattle.nego_cert.specs.Replay.{Accepted, plain_verdict}
use Rattle.nego_cli.specs.Replay.{replay_text}
use Rattle.nego_cli.proofs.replay.print_verdict.Goals as goal

-- the text of a summary behind its line, piece by piece
accepted : (count : ℕ) (summary : PlainSummary) (head counted line words whole : List ℕ) → head ≡ codes "accepted uses " → counted ≡ head ++ decimal count → line ≡ counted ++ codes "\n" → words ≡ summary_text summary →
    whole ≡ line ++ words → whole ≡ replay_text count (Accepted summary)
accepted count summary head counted line words whole head_is counted_is line_is words_are whole_is =
    whole_is ∙ (ap₂ (λ t w. t ++ w) (line_is ∙ ap (λ t. t ++ codes "\n") (counted_is ∙ ap (λ t. t ++ decimal count) head_is)) words_are
    ∙ (append_assoc (codes "accepted uses " ++ decimal count) (codes "\n") (summary_text summary) ∙ append_assoc (codes "accepted uses ") (decimal count) (codes "\n" ++ summary_text summary)))

pub returns-in_ok-extend_from_slice-in-Accepted-2 : goal.returns-in_ok-extend_from_slice-in-Accepted-2
returns-in_ok-extend_from_slice-in-Accepted-2 c =
    let whole = c.extend_from_slice-in-Accepted.new.self in
    subst (λ v. whole ≡ replay_text c.args.uses (plain_verdict v)) (sym c.in-Accepted.is)
    (accepted c.args.uses (plain_summary c.in-Accepted.summary) c.in_ok-text-in-Accepted.text c.push_decimal.new.self c.extend_from_slice.new.self c.as_slice.result.now whole
    c.in_ok-text-in-Accepted.ensures c.in_ok-push_decimal-in-Accepted.ensures.ok c.in_ok-extend_from_slice-in-Accepted.ensures.ok
    (c.as_slice.ensures ∙ c.in_ok-summary-in-Accepted.ensures) c.in_ok-extend_from_slice-in-Accepted-2.ensures.ok)
