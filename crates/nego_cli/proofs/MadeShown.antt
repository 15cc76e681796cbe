-- How `make` ends, whatever the source is.
use Rattle.std.proofs.Common.{◌≡◌, ◌∙◌, ℕ, ◌<◌, List, [], Some, Result, Ok, Err, sym, ap, subst, arith}
use Rattle.std.proofs.lemmas.Option.{same_Some}
use Rattle.nego_cli.specs.declared.answer.Answer.{Answer}
use Rattle.nego_cli.specs.declared.command.Command.TheVariants as commands
use Rattle.nego_cli.specs.declared.failure.Failure.{Failure}
use Rattle.nego_cli.specs.declared.failure.Failure.TheVariants as failures
use Rattle.nego_cli.specs.declared.status.Status.{Status}
use Rattle.nego_cli.specs.Effect.{Effect}
use Rattle.nego_cli.specs.Turn.{TellsText, Refuses}
use Rattle.nego_cli.specs.Commands.{TurnOf, TextOf, asked, Asks, most_parts}
use Rattle.nego_cli.specs.Delivery.{IsDelivered}
use Rattle.nego_cli.specs.Answer.{IsFound, ShowsText}
use Rattle.nego_cli.proofs.Ends.{asks_not_none, memory_for_text, text_put}

pub made_shown : (words : List (List ℕ)) (source out err : Effect) (r : Result Answer Failure) (status : Status) (n : ℕ) → IsFound words source r → IsDelivered r out err status → Asks words (commands.Make n) →
    ShowsText (commands.Make n) [] out err status
made_shown words source out err (Ok answer) status n told put asks =
    let same : told.command ≡ commands.Make n = same_Some told.command (commands.Make n) (sym told.asks ∙ asks) in
    let turn : TurnOf (commands.Make n) told.reads TellsText = subst (λ c. TurnOf c told.reads TellsText) same told.turn in
    text_put (commands.Make n) [] answer out err status (subst (λ reads. TextOf (commands.Make n) reads answer.status answer.text) turn.1 (subst (λ c. TextOf c told.reads answer.status answer.text) same told.told)) put
made_shown words source out err (Err failures.Words) status n cause put asks = absurd (asks_not_none words (commands.Make n) asks cause.0)
made_shown words source out err (Err (failures.Refused why)) status n cause put asks =
    let same : cause.command ≡ commands.Make n = same_Some cause.command (commands.Make n) (sym cause.asks ∙ asks) in
    let turn : TurnOf (commands.Make n) cause.reads (Refuses why) = subst (λ c. TurnOf c cause.reads (Refuses why)) same cause.turn in
    absurd (let never : Refuses why ≡ TellsText = turn.0 in cc)
made_shown words source out err (Err failures.ReadFault) status n cause put asks =
    let reads : 0 < most_parts (asked words) = cause.0 in
    let none : most_parts (asked words) ≡ 0 = ap most_parts asks in
    absurd (let never : ⊥ = omega (arith, reads, none) in never)
made_shown words source out err (Err failures.Memory) status n cause (nothing, put) asks = memory_for_text (commands.Make n) [] out err status put
