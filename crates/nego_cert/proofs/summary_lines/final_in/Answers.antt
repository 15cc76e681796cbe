use Rattle.std.proofs.Common.{rules, ◌≡◌, ◌∙◌, Bool, List, ℕ, map}
use Rattle.std.specs.List.{list_any}
use Rattle.std.specs.Str.{bytes_eq}
use Rattle.nego_model.specs.Summary.{PlainFinal}
use Rattle.nego_expr.specs.declared.summary.Final.{Final}
use Rattle.nego_expr.specs.SummaryText.{plain_final}
use Rattle.nego_expr.proofs.Seen.{any-map}
use Rattle.nego_cert.specs.SummaryReading.{final_in, new_word}
use Rattle.nego_cert.proofs.summary_lines.final_in.Goals as goal

-- what is found among the final outcomes is found among their names
any_name : (finals : List Final) (text : List ℕ) (found : Bool) → found ≡ list_any (λ (outcome : Final). bytes_eq outcome.name text) finals →
    found ≡ list_any (λ name. bytes_eq name text) (map (λ outcome. outcome.name) (map plain_final finals))
any_name finals text found h =
    h ∙ (any-map plain_final (λ (outcome : PlainFinal). bytes_eq outcome.name text) finals ∙ any-map (λ (outcome : PlainFinal). outcome.name) (λ name. bytes_eq name text) (map plain_final finals))

pub returns-then-is_name_of : goal.returns-then-is_name_of
unfolding final_in new_word
returns-then-is_name_of c = let named = any_name c.args.finals.now c.in_ok-word.word.now.text c.is_name_of.result c.is_name_of.ensures in search rules

pub returns-in_err-node : goal.returns-in_err-node
unfolding final_in new_word
returns-in_err-node c = let named = any_name c.args.finals.now c.in_ok-word.word.now.text c.is_name_of.result c.is_name_of.ensures in search rules

pub returns : goal.returns
unfolding final_in new_word
returns c = let named = any_name c.args.finals.now c.in_ok-word.word.now.text c.is_name_of.result c.is_name_of.ensures in search rules
