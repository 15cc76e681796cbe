-- Deeds that record nothing are allowed.
use Rattle.std.proofs.Common.{◌≡◌, ⊎_elim, ℕ, zero, suc, ◌<◌, ◌≤◌, cond, [], length, map, take, Option, Some, None, refl, sym, ap, subst, ◌∙◌, arith}
use Rattle.std.proofs.lemmas.Option.{none-some, same_Some}
use Rattle.nego_base.proofs.Cases.{bind_some, chosen}
use Rattle.agent_core.proofs.Valid.{left_by-same, none-held}
use Rattle.std.proofs.lemmas.List.{take_all}
use Rattle.std.specs.List.{Contains}
use Rattle.std.specs.Option.{option_to_list}
use Rattle.nego_model.specs.Diagram.{PlainDiagram}
use Rattle.agent_msg.specs.Messages.{ReadyMessage, DecideMessage, Message, ReadyOf, DecideOf}
use Rattle.agent_core.specs.Agents.{PlainAgent, nothing_held, beginning, left_by}
use Rattle.agent_core.specs.Acts.{is_leader, own_ready, ready_of, telling}
use Rattle.agent_core.specs.Worlds.{PlainWorld, GoesOn, start_of, agent_of, deed_by, stopping}
use Rattle.agent_core.specs.Consistency.{agent_at, WasTold, WasDecided, IsConsistent}
use Rattle.nego_world.proofs.Keeping.{IsAllowed, quiet}

-- nobody is in an empty list of messages
pub none-sent : {A : Type 0} (m : Message) → Contains [] m → A
none-sent m c = absurd (omega (arith, c.1))

-- stopping is allowed
pub stopping-allowed : (diagram : PlainDiagram) (world : PlainWorld) (a : ℕ) → IsConsistent diagram world → a < length diagram.agents → IsAllowed diagram world (deed_by a GoesOn stopping)
stopping-allowed diagram world a was known =
    quiet diagram world a nothing_held [] was known refl (λ p ready h. absurd (none-held p ready h)) (λ ready c. none-sent (ReadyOf ready) c) (λ decide c. none-sent (DecideOf decide) c)

-- what an agent tells is its own, with as many visits as it has records
pub own-ready : (diagram : PlainDiagram) (agent : PlainAgent) (ready : ReadyMessage) → ready_of diagram agent ≡ Some ready → (ready.from ≡ agent.id) × (ready.visit ≡ length agent.records)
own-ready diagram agent ready h =
    let b = bind_some agent.at (λ n. cond (is_leader diagram agent.id n) None (Some (own_ready diagram agent n))) ready h in
    ⊎_elim (λ k. absurd (none-some ready k.1)) (λ k. let same : own_ready diagram agent b.0 ≡ ready = same_Some (own_ready diagram agent b.0) ready k.1 in (sym (ap (λ r. r.from) same), sym (ap (λ r. r.visit) same)))
    (chosen (is_leader diagram agent.id b.0) None (Some (own_ready diagram agent b.0)) (Some ready) b.2)

-- a Ready that an agent tells was told
pub tells-told : (diagram : PlainDiagram) (world : PlainWorld) (a : ℕ) (ready : ReadyMessage) → IsConsistent diagram world → a < length diagram.agents → ready_of diagram (agent_of diagram world a) ≡ Some ready → WasTold diagram world ready
tells-told diagram world a ready was known h =
    let agent = agent_of diagram world a in
    let left = left_by diagram a (start_of diagram world a) agent.records in
    let place = (was.agents a known).left in
    let own = own-ready diagram agent ready h in
    let id : agent.id ≡ a = ap (λ g. g.id) place ∙ (left_by-same diagram (beginning diagram a (start_of diagram world a)) agent.records).0 in
    let front : take ready.visit agent.records ≡ agent.records = take_all ready.visit agent.records (omega (arith, own.1)) in
    let told : ready_of diagram (left_by diagram a (start_of diagram world a) (take ready.visit agent.records)) ≡ Some ready =
    ap (λ rs. ready_of diagram (left_by diagram a (start_of diagram world a) rs)) front ∙ (sym (ap (ready_of diagram) place) ∙ h) in
    let visit : ready.visit ≤ length agent.records = omega (arith, own.1) in
    let P : ℕ → Type 0 = λ b. (b < length diagram.agents) × (ready.visit ≤ length (agent_of diagram world b).records) × (ready_of diagram (agent_at diagram world b ready.visit) ≡ Some ready) in
    let all = subst P (sym (own.0 ∙ id)) (known, visit, told) in
    record { sender = all.0; visit = all.1; told = all.2 }

-- telling is allowed
pub telling-allowed : (diagram : PlainDiagram) (world : PlainWorld) (a : ℕ) → IsConsistent diagram world → a < length diagram.agents → IsAllowed diagram world (deed_by a GoesOn (telling diagram (agent_of diagram world a)))
telling-allowed diagram world a was known =
    quiet diagram world a (agent_of diagram world a).held (map ReadyOf (option_to_list (ready_of diagram (agent_of diagram world a)))) was known (was.agents a known).room (λ p ready h. was.held a p ready known h)
    (λ ready c. one (ready_of diagram (agent_of diagram world a)) refl ready c) (λ decide c. no_decide (ready_of diagram (agent_of diagram world a)) decide c)
  where
    same_ready : (r s : ReadyMessage) → ReadyOf r ≡ ReadyOf s → r ≡ s
    same_ready r s e = cc

    apart : (r : ReadyMessage) (s : DecideMessage) → ReadyOf r ≡ DecideOf s → ⊥
    apart r s e = cc

    one : (o : Option ReadyMessage) → ready_of diagram (agent_of diagram world a) ≡ o → (ready : ReadyMessage) → Contains (map ReadyOf (option_to_list o)) (ReadyOf ready) → WasTold diagram world ready
    one None e ready c = none-sent (ReadyOf ready) c
    one (Some told) e ready (zero, lt, same) = tells-told diagram world a ready was known (e ∙ ap (λ r. Some r) (same_ready told ready same))
    one (Some told) e ready (suc k, lt, same) = absurd (omega (arith, lt))

    no_decide : (o : Option ReadyMessage) (decide : DecideMessage) → Contains (map ReadyOf (option_to_list o)) (DecideOf decide) → WasDecided diagram world decide
    no_decide None decide c = none-sent (DecideOf decide) c
    no_decide (Some told) decide (zero, lt, same) = absurd (apart told decide same)
    no_decide (Some told) decide (suc k, lt, same) = absurd (omega (arith, lt))
