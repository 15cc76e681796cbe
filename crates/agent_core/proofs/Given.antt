-- What the tests on messages say.
use Rattle.std.proofs.Common.{◌≡◌, ℕ, ◌==◌, ◌&&◌, Bool, true, false, not, nat_lt, length, Option, Some, None, sym, ap, ◌∙◌, refl, eqb-true, eq-eqb, ltb-true}
use Rattle.std.proofs.lemmas.Bool.{false≢true}
use Rattle.std.specs.Option.{option_map_or}
use Rattle.nego_base.specs.Members.{is_in}
use Rattle.nego_base.proofs.BoolLaws.{not_so}
use Rattle.nego_model.specs.Diagram.{PlainDiagram, parties_of, outcomes_from}
use Rattle.nego_model.proofs.diagrams.Negotiations.{atom_from_below}
use Rattle.agent_msg.specs.Messages.{ReadyMessage, DecideMessage}
use Rattle.agent_core.specs.Agents.{PlainAgent, size_of, IsForAgent, IsMoveOf, IsValid}
use Rattle.agent_core.specs.Acts.{is_leader, is_for, is_awaited}

-- both, from the two together
pub both : (s t : Bool) → (s && t) ≡ true → (s ≡ true) × (t ≡ true)
both true t h = (refl, h)
both false t h = (h, absurd (false≢true h))

-- unequal numbers don't pass the test
pub unequal : (m n : ℕ) → (m == n) ≡ false → m ≡ n → ⊥
unequal m n h e = false≢true (sym h ∙ eq-eqb m n e)

-- a Ready that passes the test is one for the agent
pub for_agent : (diagram : PlainDiagram) (agent : PlainAgent) (ready : ReadyMessage) → ready.to ≡ agent.id → is_for diagram agent ready ≡ true → IsForAgent diagram agent.id ready
for_agent diagram agent ready to h =
    let one = both (is_leader diagram agent.id ready.atom && is_in ready.from (parties_of diagram ready.atom) && not (ready.from == agent.id)) (nat_lt ready.value (size_of diagram ready.from)) h in
    let two = both (is_leader diagram agent.id ready.atom && is_in ready.from (parties_of diagram ready.atom)) (not (ready.from == agent.id)) one.0 in
    let three = both (is_leader diagram agent.id ready.atom) (is_in ready.from (parties_of diagram ready.atom)) two.0 in
    record {
      to = to;
      leads = eqb-true _ _ three.0;
      party = three.1;
      another = unequal ready.from agent.id (not_so (ready.from == agent.id) two.1);
      below = ltb-true _ _ one.1;
    }

-- where an agent is, by the test
pub is_at : (at : Option ℕ) (m : ℕ) → option_map_or (λ n. n == m) at false ≡ true → at ≡ Some m
is_at (Some n) m h = ap (λ k. Some k) (eqb-true n m h)
is_at None m h = absurd (false≢true h)

-- the move by a Decide that an agent waits for is a step of the agent
pub awaited_step : (diagram : PlainDiagram) (agent : PlainAgent) (decide : DecideMessage) → IsValid diagram agent → is_awaited diagram agent decide ≡ true → IsMoveOf diagram agent decide.atom decide.outcome decide.after
awaited_step diagram agent decide ok h =
    let visit = decide.visit == length agent.records in
    let at = option_map_or (λ n. n == decide.atom) agent.at false in
    let led = not (is_leader diagram agent.id decide.atom) in
    let from = is_leader diagram decide.from decide.atom in
    let own = is_in decide.outcome (outcomes_from 0 diagram.outcomes decide.atom) in
    let one = both (visit && at && led && from && own) (nat_lt decide.after (size_of diagram agent.id)) h in
    let two = both (visit && at && led && from) own one.0 in
    let three = both (visit && at && led) from two.0 in
    let four = both (visit && at) led three.0 in
    let here = is_at agent.at decide.atom (both visit at four.0).1 in
    record {
      at = here;
      outcome = (atom_from_below diagram decide.atom (ok.place decide.atom here), two.1);
      led = unequal _ _ (not_so (is_leader diagram agent.id decide.atom) four.1);
      below = ltb-true _ _ one.1;
    }
