-- The world at the beginning is consistent.
use Rattle.std.proofs.Common.{◌≡◌, ℕ, ◌<◌, [], length, inl, refl, sym, ap, subst, ◌∙◌, arith}
use Rattle.std.proofs.lemmas.Option.{none-some}
use Rattle.std.proofs.lemmas.List.{get_or-map}
use Rattle.std.proofs.lemmas.List.FromFn.{get_or-map-range_with_len, length-map-range_with_len}
use Rattle.nego_data.specs.Data.{data_count}
use Rattle.nego_model.specs.Joining.{By}
use Rattle.nego_model.specs.Diagram.{PlainDiagram, negotiation_of, relation_of}
use Rattle.nego_model.proofs.occurrence.Histories.{History-empty}
use Rattle.agent_msg.specs.Messages.{ReadyOf, DecideOf}
use Rattle.agent_core.specs.Agents.{PlainAgent, held_from, beginning, left_by}
use Rattle.agent_core.specs.Deciding.{value_in}
use Rattle.agent_core.specs.Worlds.{agent_of, first_world}
use Rattle.agent_core.specs.Consistency.{IsConsistent}
use Rattle.agent_core.proofs.Valid.{none-held}
use Rattle.nego_world.proofs.Deeds.{none-sent}

module _ (diagram : PlainDiagram) (start : ℕ) (inside : start < data_count diagram.sizes) where
  begins : ℕ → PlainAgent
  begins a = beginning diagram a (value_in diagram start a)

  first-agent : (a : ℕ) → a < length diagram.agents → agent_of diagram (first_world diagram start) a ≡ beginning diagram a (value_in diagram start a)
  first-agent a known = get_or-map-range_with_len (λ b. beginning diagram b (value_in diagram start b)) 0 (length diagram.agents) a a (beginning diagram a (value_in diagram start a)) known (omega arith)

  count : length (first_world diagram start).agents ≡ length diagram.agents
  count = length-map-range_with_len (λ b. beginning diagram b (value_in diagram start b)) 0 (length diagram.agents)

  -- the world at the beginning is consistent
  pub first-consistent : IsConsistent diagram (first_world diagram start)
  first-consistent = record {
    start = inside;
    count = count;
    agents = λ a known. record {
      left = subst (λ (g : PlainAgent). g ≡ record (left_by diagram a (value_in diagram start a) g.records) { held = g.held }) (sym (first-agent a known)) refl;
      room = ap (λ g. length g.held) (first-agent a known);
    };
    journals = record {
      run = History-empty (negotiation_of diagram) (By (relation_of diagram)) start;
      each = λ a known.
          let there : a < length (first_world diagram start).agents = omega (arith, known, count) in
          inl (get_or-map (λ (g : PlainAgent). g.records) (first_world diagram start).agents a (beginning diagram a (value_in diagram start a)) [] there ∙ ap (λ g. g.records) (first-agent a known));
    };
    once = λ i j m h k. absurd (none-some m h);
    readies = λ ready c. none-sent (ReadyOf ready) c;
    decides = λ decide c. none-sent (DecideOf decide) c;
    held = λ a p ready known h. absurd (none-held p ready (sym (ap (λ g. held_from g p) (first-agent a known)) ∙ h));
  }
