use Rattle.std.proofs.Common.{◌≡◌, ◌∙◌, ◌||◌, Some, false, nat_lt, sym, ap}
use Rattle.std.specs.List.{list_any}
use Rattle.std.specs.Option.{option_map, option_map_or}
use Rattle.agent_msg.specs.Messages.{ready_message}
use Rattle.agent_msg.specs.Records.{entry}
use Rattle.agent_core.specs.Agents.{held_from}
use Rattle.agent_core.specs.Acts.{has_visit}
use Rattle.agent_core.proofs.Shares.{any-map}
use Rattle.agent_core.proofs.agent.Agent.is_passed.Goals as goal

pub returns-then-some_passes : goal.returns-then-some_passes
returns-then-some_passes c =
    let test = has_visit c.args.ready.now.from.0 (nat_lt c.args.ready.now.visit) in
    let decided = ap (list_any test) (sym c.records.ensures) ∙ (any-map entry test c.records.result.now ∙ (sym c.some_passes.ensures ∙ c.if-some_passes.true)) in
    sym (ap (λ b. b || option_map_or (λ held. nat_lt c.args.ready.now.visit held.visit) (held_from c.args.self.now.plain c.args.ready.now.from.0) false) decided)

pub returns-in-Some : goal.returns-in-Some
returns-in-Some c =
    let test = has_visit c.args.ready.now.from.0 (nat_lt c.args.ready.now.visit) in
    let decided = ap (list_any test) (sym c.records.ensures) ∙ (any-map entry test c.records.result.now ∙ (sym c.some_passes.ensures ∙ c.if-some_passes.false)) in
    let held : Some (ready_message c.in-Some.held) ≡ held_from c.args.self.now.plain c.args.ready.now.from.0 = ap (option_map ready_message) (sym c.in-Some.is) ∙ c.held.ensures in
    ap (λ o. option_map_or (λ held. nat_lt c.args.ready.now.visit held.visit) o false) held ∙ sym (ap (λ b. b || option_map_or (λ held. nat_lt c.args.ready.now.visit held.visit) (held_from c.args.self.now.plain c.args.ready.now.from.0) false) decided)

pub returns-in-None : goal.returns-in-None
returns-in-None c =
    let test = has_visit c.args.ready.now.from.0 (nat_lt c.args.ready.now.visit) in
    let decided = ap (list_any test) (sym c.records.ensures) ∙ (any-map entry test c.records.result.now ∙ (sym c.some_passes.ensures ∙ c.if-some_passes.false)) in
    let held = ap (option_map ready_message) (sym c.in-None.is) ∙ c.held.ensures in
    ap (λ o. option_map_or (λ held. nat_lt c.args.ready.now.visit held.visit) o false) held ∙ sym (ap (λ b. b || option_map_or (λ held. nat_lt c.args.ready.now.visit held.visit) (held_from c.args.self.now.plain c.args.ready.now.from.0) false) decided)
