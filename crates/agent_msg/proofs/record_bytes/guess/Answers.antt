use Rattle.std.proofs.Common.{ℕ, List, ◌∷◌, ◌∙◌, ap, slice_index}
use Rattle.std.proofs.lemmas.List.{take_rest}
use Rattle.agent_msg.specs.Shares.{shares_of}
use Rattle.agent_msg.proofs.ReadingLaws.{decision-is}
use Rattle.agent_msg.proofs.record_bytes.guess.Goals as goal

pub returns-clause-entry : goal.returns-clause-entry
returns-clause-entry c =
    decision-is c.args.bytes.now c.from.result c.from-2.result (shares_of c.in_ok-parties.field-0) c.if-kind-eq1.false
    (c.from.ensures ∙ c.number.ensures) (c.from-2.ensures ∙ c.number-2.ensures)
    (λ shares fit e. c.in_ok-parties.ensures.found shares fit (ap (λ (l : List ℕ). slice_index c.args.bytes.now 5 ∷ l) (take_rest c.args.bytes.now 6) ∙ e))
